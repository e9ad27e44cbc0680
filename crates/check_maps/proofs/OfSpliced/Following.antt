-- What is told of is what is spliced into maps.
use Rattle.std.proofs.Common.{◌≡◌, ◌↔◌, ℕ, zero, suc, ◌+◌, ◌*◌, ◌<◌, Bool, true, List, [], ◌∷◌, length, Option, Some, None, refl, sym, ap, subst, ◌∙◌, slice_get, arith}
use Rattle.std.specs.Prelude.{Contains}
use Rattle.lists.proofs.Lemmas.{contains_at}
use Rattle.cddl_token.specs.declared.Token.{Token}
use Rattle.tree_nodes.specs.Syntax.Syntax as S
use Rattle.cddl_language.specs.Environment.{definitions_of}
use Rattle.cddl_language.specs.Faults.{Specification, definitions, rules}
use Rattle.cddl_language.specs.MapFaults as M
use Rattle.cddl_language.specs.MapFaults.{IsSpliced, closed_entry, entry_at, point_in}
use Rattle.cddl_language.specs.Reach.{Point, Reaches, at_name, at_unwrapping, body_points, entry_points, group_points, ref_at}
use Rattle.cddl_language.specs.Reading.{body_of, definition_of, group_of, name_in, parameters_in}
use Rattle.cddl_language.specs.Sites.{IsInstance, IsReached, a_map as map_site}
use Rattle.cddl_language.specs.Substitution.{fill_body, fill_group}
use Rattle.cddl_language.specs.Terms.{Entry, Ref, Term, Text, arguments_of, name_of}
use Rattle.graphs.specs.declared.implications.Implication.{Implication}
use Rattle.graphs.specs.Implications.Implications.{AreFollowing, Follows, concludes}
use Rattle.check_terms.specs.Table.{Table}
use Rattle.check_terms.specs.Trees.{IsEntry, IsRef}
use Rattle.check_instances.specs.declared.closed.closed.Closed.{Closed}
use Rattle.check_instances.specs.Closed.Closed.{AreReached, IsClosed}
use Rattle.check_instances.specs.Openings.Endings.{LeadsOn}
use Rattle.check_sites.specs.declared.entries.entry.Holder.{Holder}
use Rattle.check_sites.specs.declared.entries.entry.Holder.TheVariants as HolderV
use Rattle.check_sites.specs.Entries.Entries.{group_inside, opened_in, rule_inside, some_inside}
use Rattle.check_sites.specs.Entries.Spliced.{AreSplicedIn, IsAmongSpliced, of_a_map, of_a_name, of_an_opening}
use Rattle.check_reached.specs.declared.asked.Asked.{Asked}
use Rattle.check_reading.specs.declared.parts.part.Question.TheVariants as QuestionV
use Rattle.check_reached.specs.Asked.{AreEntriesAsked, IsEntryAsked, held_inside, of_map_entry, of_rule_entry}
use Rattle.check_maps.specs.declared.spliced.listing.Spliced.{Spliced}
use Rattle.check_maps.specs.declared.spliced.owners.Owner.{Owner}
use Rattle.check_maps.specs.declared.spliced.owners.Owner.TheVariants as OwnerV
use Rattle.check_maps.specs.declared.spliced.owners.Way.{Way}
use Rattle.check_maps.specs.Spliced.Spliced.{AreSpliced, AreWays, IsOwner, IsSplicedEntry, IsSplicedOwner, IsTarget, IsWay, WasSpliced, a_map, a_name, an_opening, of_map, of_point, somewhere}
use Rattle.check_maps.specs.Spliced.Steps.{asked_by, edges_of, fact_of, flagged, is_flagged, named as named_owner, opened_owner, owner_of, place_of, most_facts}
use Rattle.check_maps.proofs.OfSpliced.Telling.{edge_in, edge_made, edge_parts, fact_same, flag_true, flagged_from, flagged_in, flagged_made, flagged_parts, in_edges, one_place}
use Rattle.check_maps.proofs.OfSpliced.Inside.{none_in, place_in, points_bare, points_group, points_rule}
use Rattle.check_maps.proofs.OfSpliced.Leading.{placed}
use Rattle.check_maps.proofs.OfSpliced.Standing.{Bare, leads_stand, stand_leads}
use Rattle.check_maps.proofs.OfSpliced.Walking.{alike_at, alike_from}

pub record Laws (s : Specification) (root : Text) : Type 0 where
  pub each : (r : S.Rule) (xs : List Term) (q : Option Point) (es : List S.GrpEnt) (e : S.GrpEnt) → AreSplicedIn (rules s) root r xs q es → Contains es e → IsSpliced (rules s) root r xs q e
  pub every : (r : S.Rule) (xs : List Term) (q : Option Point) (e : S.GrpEnt) → IsSpliced (rules s) root r xs q e → IsAmongSpliced (rules s) root r xs q e
  pub bare : Bare
  pub map : (r : S.Rule) (xs : List Term) (u : Token) (g : S.Group) (p : Point) → IsReached (rules s) root r xs (map_site u g) → Contains (group_points (fill_group (parameters_in r) xs (group_of g))) p → Reaches (definitions s) root (ref_at p)
  pub body : (r : S.Rule) (i : Ref) (p : Point) → IsInstance (rules s) root r i → Contains (body_points (fill_body (parameters_in r) (arguments_of i) (body_of r))) p → Reaches (definitions s) root (ref_at p)
  pub defined : (r : S.Rule) → Contains (rules s) r → Contains (definitions_of (definitions s) (name_in r)) (definition_of r)

same_owner : (w u : Owner) → Some w ≡ Some u → w ≡ u
same_owner w u e = cc

no_fact : {C : Type 0} (n : ℕ) → None ≡ Some n → C
no_fact n e = cc

module _ (s : Specification) (root : Text) (laws : Laws s root) (t : Table) (one_ref : (n m : ℕ) (a b : Ref) → IsRef t n a → IsRef t m b → (n ≡ m) ↔ (a ≡ b)) (one_entry : (n m : ℕ) (a b : Entry) → IsEntry t n a → IsEntry t m b → (n ≡ m) ↔ (a ≡ b)) (refs : List Ref) (c : Closed) (is : IsClosed (definitions s) root refs t c) (asked : List Asked) (are : AreEntriesAsked (rules s) root t asked) where
  abbrev places : List (Option ℕ)
  places = c.places.items

  -- an entry of which it was asked: where it stands, and that it is spliced into a map by each of its owners that is
  record Held (a : Asked) (w : Owner) : Type 0 where
    rule : S.Rule
    arguments : List Term
    entry : S.GrpEnt
    row : IsEntry t a.row (closed_entry rule arguments entry)
    offset : a.at ≡ entry_at entry
    reached : AreReached (definitions s) root (entry_points (closed_entry rule arguments entry))
    each : (q : Option Point) → IsOwner (definitions s) refs w q → IsSplicedOwner (rules s) root t refs q → IsSpliced (rules s) root rule arguments q entry

  same_instance : (k : ℕ) (i f : Ref) → slice_get refs k ≡ Some i → slice_get refs k ≡ Some f → i ≡ f
  same_instance k i f e h = cc

  each_of_map : (r : S.Rule) (xs : List Term) (u : Token) (g : S.Group) (d : S.GrpEnt) → IsReached (rules s) root r xs (map_site u g) → Contains (group_inside g) d → (q : Option Point) → IsOwner (definitions s) refs OwnerV.Map q → IsSpliced (rules s) root r xs q d
  each_of_map r xs u g d h m q a_map = laws.each r xs None (group_inside g) d (of_a_map {t = u} {g = g} h) m

  each_of_rule : (r : S.Rule) (i : Ref) (d : S.GrpEnt) (k : ℕ) → IsInstance (rules s) root r i → Contains (rule_inside r) d → slice_get refs k ≡ Some i → (q : Option Point) → IsOwner (definitions s) refs (OwnerV.Named k) q → IsSplicedOwner (rules s) root t refs q → IsSpliced (rules s) root r (arguments_of i) q d
  each_of_rule r i d k inst m at q (a_name {f = f} h) (of_point sp) =
      let same = same_instance k f i h at in
      subst (λ z. IsSpliced (rules s) root r (arguments_of z) (Some (at_name f)) d) same (laws.each r (arguments_of f) (Some (at_name f)) (rule_inside r) d (of_a_name {s = r} {f = f} sp inst.present (sym inst.named ∙ ap name_of (sym same))) m)

  each_of_opened : (r : S.Rule) (i : Ref) (d : S.GrpEnt) (k : ℕ) (g : S.Group) → IsInstance (rules s) root r i → opened_in r ≡ Some g → Contains (group_inside g) d → slice_get refs k ≡ Some i → (q : Option Point) → IsOwner (definitions s) refs (OwnerV.Opened k) q → IsSplicedOwner (rules s) root t refs q → IsSpliced (rules s) root r (arguments_of i) q d
  each_of_opened r i d k g inst o m at q (an_opening {f = f} {e = e} h lead end free) (of_point sp) =
      let same = same_instance k e i h at in
      laws.each r (arguments_of i) (Some (at_unwrapping f)) (group_inside g) d (of_an_opening {f = f} {g = g} sp (leads_stand laws.bare (rules s) r g f i (subst (LeadsOn (definitions s) f) same lead) inst.present (sym inst.named) o)) m

  opened_points : (r : S.Rule) (i : Ref) (d : S.GrpEnt) (g : S.Group) → IsInstance (rules s) root r i → opened_in r ≡ Some g → Contains (group_inside g) d → AreReached (definitions s) root (entry_points (closed_entry r (arguments_of i) d))
  opened_points (S.type_rule n a u) i d g inst o m p k = laws.body (S.type_rule n a u) i p inst (points_bare (parameters_in (S.type_rule n a u)) (arguments_of i) p g u o (points_group (parameters_in (S.type_rule n a u)) (arguments_of i) d p k g m))
  opened_points (S.group_rule n a e) i d g inst o m p k = cc

  held_in_rule : (a : Asked) (w : Owner) (r : S.Rule) (i : Ref) (h : Holder) (d : S.GrpEnt) → owner_of places a ≡ Some w → IsInstance (rules s) root r i → Contains (held_inside h r) d → IsRef t a.call i → IsEntry t a.row (closed_entry r (arguments_of i) d) → a.at ≡ entry_at d → a.question ≡ QuestionV.Entry h → Held a w
  held_in_rule a w r i HolderV.Map d e inst m call row at q = none_in m
  held_in_rule a w r i HolderV.Rule d e inst m call row at q =
      let k = placed t one_ref (definitions s) root refs c is a.call i call (is.instances.all i inst.reached) in
      let own = same_owner w (OwnerV.Named k.0) (sym e ∙ ap (λ z. asked_by z (place_of places a.call)) q ∙ ap named_owner k.1) in
      subst (Held a) (sym own) (record { rule = r; arguments = arguments_of i; entry = d; row = row; offset = at; reached = λ p z. laws.body r i p inst (points_rule (parameters_in r) (arguments_of i) d p z r m); each = each_of_rule r i d k.0 inst m k.2 })
  held_in_rule a w r i HolderV.Opened d e inst m call row at q = by (opened_in r) refl m
    where
      by : (o : Option S.Group) → opened_in r ≡ o → Contains (some_inside o) d → Held a w
      by None o n = none_in n
      by (Some g) o n =
          let k = placed t one_ref (definitions s) root refs c is a.call i call (is.instances.all i inst.reached) in
          let own = same_owner w (OwnerV.Opened k.0) (sym e ∙ ap (λ z. asked_by z (place_of places a.call)) q ∙ ap opened_owner k.1) in
          subst (Held a) (sym own) (record { rule = r; arguments = arguments_of i; entry = d; row = row; offset = at; reached = opened_points r i d g inst o n; each = each_of_opened r i d k.0 g inst o n k.2 })

  held : (a : Asked) (w : Owner) → owner_of places a ≡ Some w → IsEntryAsked (rules s) root t a → Held a w
  held a w e (of_map_entry {r = r} {xs = xs} {u = u} {g = g} {e = d} h m row at q) =
      let own = same_owner w OwnerV.Map (sym e ∙ ap (λ z. asked_by z (place_of places a.call)) q) in
      subst (Held a) (sym own) (record { rule = r; arguments = xs; entry = d; row = row; offset = at; reached = λ p k. laws.map r xs u g p h (points_group (parameters_in r) xs d p k g m); each = λ k o sp. each_of_map r xs u g d h m k o })
  held a w e (of_rule_entry {r = r} {i = i} {h = h} {e = d} inst m call row at q) = held_in_rule a w r i h d e inst m call row at q

  module _ (ways : List Way) (are_ways : AreWays (definitions s) root t refs places asked ways) where
    abbrev SplicedBy : Owner → Type 0
    SplicedBy w = (q : Option Point) × (IsOwner (definitions s) refs w q × IsSplicedOwner (rules s) root t refs q)

    premise : (w : Owner) → ((n : ℕ) → fact_of w ≡ Some n → SplicedBy w) → SplicedBy w
    premise OwnerV.Map so = (None, (a_map, of_map))
    premise (OwnerV.Named k) so = so (2 * k) refl
    premise (OwnerV.Opened k) so = so (2 * k + 1) refl

    from_target : (x : Option Point) (u : Owner) → IsTarget (definitions s) refs x (Some u) → (p : Point) × (x ≡ Some p) × IsOwner (definitions s) refs u (Some p)
    from_target x u (somewhere {p = p} o) = (p, refl, o)

    follows_spliced : (n : ℕ) → Follows most_facts (edges_of ways) n → (w : Owner) → fact_of w ≡ Some n → SplicedBy w
    follows_spliced n (concludes place i at lt first second) w e =
        let v = in_edges ways place i at in
        let parts = edge_parts v.1.owner v.1.target i v.3 in
        let a = alike_from (IsWay (definitions s) root t refs places) asked ways are_ways v.0 v.1 v.2 in
        let h = held a.0 parts.from (sym a.2.owner ∙ parts.owner) (are.sound a.0 (contains_at asked v.0 a.0 a.1)) in
        let x = closed_entry h.rule h.arguments h.entry in
        let o = from_target (point_in (definitions s) x) parts.to (subst (IsTarget (definitions s) refs (point_in (definitions s) x)) parts.target (a.2.target x h.row h.reached)) in
        let q = premise parts.from (λ m k. follows_spliced m (first m (parts.first ∙ k)) parts.from k) in
        let same = fact_same parts.to w i.then parts.fact e in
        (Some o.0, (subst (λ z. IsOwner (definitions s) refs z (Some o.0)) same o.2, of_point (record { rule = h.rule; arguments = h.arguments; owner = q.0; entry = h.entry; spliced = h.each q.0 q.1.0 q.1.1; point = o.1 })))

    abbrev FollowsOwner : Owner → Type 0
    FollowsOwner w = (n : ℕ) → fact_of w ≡ Some n → Follows most_facts (edges_of ways) n

    abbrev IsFlagged : Option Point → Type 0
    IsFlagged q = (w : Owner) × (IsOwner (definitions s) refs w q × FollowsOwner w)

    map_follows : FollowsOwner OwnerV.Map
    map_follows n e = no_fact n e

    map_flagged : IsFlagged None
    map_flagged = (OwnerV.Map, (a_map, map_follows))

    record WasHeld (r : S.Rule) (xs : List Term) (q : Option Point) (e : S.GrpEnt) : Type 0 where
      one : Asked
      contained : Contains asked one
      owner : Owner
      owns : owner_of places one ≡ Some owner
      stands : IsOwner (definitions s) refs owner q
      follows : FollowsOwner owner
      row : IsEntry t one.row (closed_entry r xs e)
      offset : one.at ≡ entry_at e

    listed_in_rule : (r : S.Rule) (f : Ref) (h : Holder) (e : S.GrpEnt) (k : ℕ) (w : Owner) (q : Option Point) → IsInstance (rules s) root r f → Contains (held_inside h r) e → slice_get refs k ≡ Some f → asked_by (QuestionV.Entry h) (Some k) ≡ Some w → IsOwner (definitions s) refs w q → FollowsOwner w → WasHeld r (arguments_of f) q e
    listed_in_rule r f h e k w q inst m at is_owner stands follows =
        let was = are.rules r f h e inst m in
        let j = placed t one_ref (definitions s) root refs c is was.was.asked.call f was.call (is.instances.all f inst.reached) in
        let same = one_place refs is.instances.once j.0 k f j.2 at in
        record {
          one = was.was.asked;
          contained = was.was.contained;
          owner = w;
          owns = ap (λ z. asked_by z (place_of places was.was.asked.call)) was.was.same_question ∙ ap (asked_by (QuestionV.Entry h)) (j.1 ∙ ap Some same) ∙ is_owner;
          stands = stands;
          follows = follows;
          row = was.was.holds;
          offset = was.was.same_at;
        }

    listed : (r : S.Rule) (xs : List Term) (q : Option Point) (e : S.GrpEnt) (es : List S.GrpEnt) → AreSplicedIn (rules s) root r xs q es → Contains es e → IsFlagged q → WasHeld r xs q e
    listed r xs q e es (of_a_map {t = u} {g = g} h) m fl =
        let was = are.maps r xs u g e h m in
        record { one = was.asked; contained = was.contained; owner = OwnerV.Map; owns = ap (λ z. asked_by z (place_of places was.asked.call)) was.same_question; stands = a_map; follows = map_follows; row = was.holds; offset = was.same_at }
    listed r xs q e es (of_a_name {f = f} sp present name) m (w, (a_name {k = k} h, fw)) = listed_in_rule r f HolderV.Rule e k (OwnerV.Named k) q (record { reached = is.instances.only f (contains_at refs k f h); named = sym name; present = present }) m h refl (a_name h) fw
    listed r xs q e es (of_an_opening {f = f} {g = g} sp stands) m (w, (an_opening {k = k} {e = d} {x = x} h lead end free, fw)) =
        let o = stand_leads laws.bare (rules s) laws.defined r xs g f d x end free stands lead in
        subst (λ ys. WasHeld r ys q e) (sym o.arguments) (listed_in_rule r d HolderV.Opened e k (OwnerV.Opened k) q (record { reached = is.instances.only d (contains_at refs k d h); named = sym o.named_so; present = o.present }) (subst (λ z. Contains (some_inside z) e) (sym o.opened) m) h refl (an_opening h lead end free) fw)

    to_target : (p : Point) (o : Option Owner) → IsTarget (definitions s) refs (Some p) o → (u : Owner) × (o ≡ Some u) × IsOwner (definitions s) refs u (Some p)
    to_target p o (somewhere {w = u} h) = (u, refl, h)

    within : {A : Type 0} (xs : List A) (k : ℕ) (x : A) → slice_get xs k ≡ Some x → k < length xs
    within [] k x e = cc
    within (y ∷ ys) zero x e = omega arith
    within (y ∷ ys) (suc k) x e = let h = within ys k x e in omega (arith, h)

    named_bound : (k : ℕ) → k < length refs → 2 * k < most_facts
    named_bound k h = let few = is.few in omega (arith, h, few)

    opened_bound : (k : ℕ) → k < length refs → 2 * k + 1 < most_facts
    opened_bound k h = let few = is.few in omega (arith, h, few)

    owner_fact : (u : Owner) (p : Point) → IsOwner (definitions s) refs u (Some p) → (n : ℕ) × (fact_of u ≡ Some n) × (n < most_facts)
    owner_fact u p (a_name {k = k} {f = f} h) = (2 * k, refl, named_bound k (within refs k f h))
    owner_fact u p (an_opening {k = k} {e = e} h lead end free) = (2 * k + 1, refl, opened_bound k (within refs k e h))

    edge_flag : (r : S.Rule) (xs : List Term) (q : Option Point) (d : S.GrpEnt) (p : Point) → IsSpliced (rules s) root r xs q d → IsFlagged q → point_in (definitions s) (closed_entry r xs d) ≡ Some p → IsFlagged (Some p)
    edge_flag r xs q d p sp fl point =
        let among = laws.every r xs q d sp in
        let h = listed r xs q d among.entries among.are among.contained fl in
        let k = place_in asked h.one h.contained in
        let v = alike_at (IsWay (definitions s) root t refs places) asked ways are_ways k.0 h.one k.1 in
        let own = held h.one h.owner h.owns (are.sound h.one h.contained) in
        let same : closed_entry own.rule own.arguments own.entry ≡ closed_entry r xs d = (one_entry h.one.row h.one.row (closed_entry own.rule own.arguments own.entry) (closed_entry r xs d) own.row h.row).0 refl in
        let reached = subst (λ x. AreReached (definitions s) root (entry_points x)) same own.reached in
        let u = to_target p v.0.target (subst (λ x. IsTarget (definitions s) refs x v.0.target) point (v.2.target (closed_entry r xs d) h.row reached)) in
        let n = owner_fact u.0 p u.2 in
        let i : Implication = record { then = n.0; first = fact_of h.owner; second = None } in
        let made = edge_made v.0.owner v.0.target h.owner u.0 n.0 (v.2.owner ∙ h.owns) u.1 n.1 in
        let j = edge_in ways k.0 v.0 i v.1 made in
        let so : Follows most_facts (edges_of ways) n.0 = concludes j.0 i j.1 n.2 (λ m e. h.follows m e) (λ m e. no_fact m e) in
        (u.0, (u.2, λ m e. subst (Follows most_facts (edges_of ways)) (same_number n.0 m (sym n.1 ∙ e)) so))
      where
        same_number : (a b : ℕ) → Some a ≡ Some b → a ≡ b
        same_number a b e = cc

    flagged_owner : (r : S.Rule) (xs : List Term) (q : Option Point) (e : S.GrpEnt) → IsSpliced (rules s) root r xs q e → IsFlagged q
    flagged_owner r xs q e (M.of_map h m) = map_flagged
    flagged_owner r xs q e (M.of_parens {o = o} {p = p} {c = z} {g = g} h m) = flagged_owner r xs q (S.grouped o p g z) h
    flagged_owner r xs q e (M.of_name {r = v} {xs = ys} {q = u} {d = d} {f = f} h point k n m) = edge_flag v ys u d (at_name f) h (flagged_owner v ys u d h) point
    flagged_owner r xs q e (M.of_opened {r = v} {xs = ys} {q = u} {d = d} {f = f} h point k m) = edge_flag v ys u d (at_unwrapping f) h (flagged_owner v ys u d h) point

    module _ (flags : List Bool) (following : AreFollowing most_facts (edges_of ways) flags) where
      by_flag : (w : Owner) → is_flagged flags w ≡ true → SplicedBy w
      by_flag w e = premise w (λ n h. follows_spliced n ((following.each n).0 (flag_true flags w n h e)) w h)

      sound : (x : Spliced) → Contains (flagged places flags asked) x → IsSplicedEntry (rules s) root t refs x
      sound x m =
          let a = flagged_from places flags asked x m in
          let parts = flagged_parts flags (owner_of places a.0) a.0 x a.2 in
          let h = held a.0 parts.owner parts.is (are.sound a.0 a.1) in
          let q = by_flag parts.owner parts.flag in
          record {
            rule = h.rule;
            arguments = h.arguments;
            entry = h.entry;
            row = subst (λ n. IsEntry t n (closed_entry h.rule h.arguments h.entry)) (sym parts.row) h.row;
            offset = parts.at ∙ h.offset;
            reached = h.reached;
            each = λ k o sp. h.each k (subst (λ w. IsOwner (definitions s) refs w k) parts.same o) sp;
            owner = q.0;
            owns = subst (λ w. IsOwner (definitions s) refs w q.0) (sym parts.same) q.1.0;
            spliced = q.1.1;
          }

      complete : (r : S.Rule) (ys : List Term) (q : Option Point) (e : S.GrpEnt) → IsSpliced (rules s) root r ys q e → WasSpliced (rules s) root t refs (flagged places flags asked) r ys q e
      complete r ys q e sp =
          let among = laws.every r ys q e sp in
          let h = listed r ys q e among.entries among.are among.contained (flagged_owner r ys q e sp) in
          let x : Spliced = record { owner = h.owner; row = h.one.row; at = h.one.at } in
          let own = held h.one h.owner h.owns (are.sound h.one h.contained) in
          let same : closed_entry own.rule own.arguments own.entry ≡ closed_entry r ys e = (one_entry h.one.row h.one.row (closed_entry own.rule own.arguments own.entry) (closed_entry r ys e) own.row h.row).0 refl in
          record { found = x; contained = flagged_in places flags asked h.one x h.contained (flagged_made flags (owner_of places h.one) h.owner h.one h.owns (λ n k. (following.each n).1 (h.follows n k))); row = h.row; offset = h.offset; reached = subst (λ z. AreReached (definitions s) root (entry_points z)) same own.reached; owns = h.stands }

      pub are_spliced : AreSpliced (rules s) root t refs (flagged places flags asked)
      are_spliced = record { sound = sound; complete = complete }
