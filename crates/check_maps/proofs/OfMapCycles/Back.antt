-- The node of an entry leads back to itself just where the entry leads back to a reference in whose group it stands.
use Rattle.std.proofs.Common.{◌≡◌, ◌⊎◌, inl, inr, ℕ, suc, ◌+◌, ◌*◌, ◌<◌, ◌≤◌, List, [], ◌∷◌, ◌++◌, length, Bool, Option, Some, refl, sym, ap, subst, ◌∙◌, arith, slice_get}
use Rattle.std.specs.Prelude.{Contains}
use Rattle.lists.proofs.Lemmas.{same_some, within}
use Rattle.graphs.specs.Cycles.Graph.{LeadsOn}
use Rattle.cddl_language.specs.Terms.{Text, Ref, Group, sole, orelse, Entries, no_entries, entries, Entry, Definition, alternatives, lone}
use Rattle.cddl_language.specs.Kinds.{Opened, opened_in}
use Rattle.cddl_language.specs.MapFaults.{all_entries, group_in, point_in, IsSplicedInto, its_own, IsLedToBy, by_itself, by_group}
use Rattle.cddl_language.specs.Reach.{Point, group_points, entries_points, entry_points}
use Rattle.check_terms.specs.Table.{Table, Tree, Holds}
use Rattle.check_terms.specs.Trees.{IsGroup, IsEntries, IsEntry, group_tree, entries_tree, entry_tree}
use Rattle.check_instances.specs.Closed.Closed.{AreReached}
use Rattle.alternatives.specs.declared.Bounds.{Bounds}
use Rattle.alternatives.specs.declared.Part as P
use Rattle.alternatives.specs.declared.Part.TheVariants as PartV
use Rattle.alternatives.specs.Splices.{Has, has_same, has_first, has_second, has_one, has_other, has_group}
use Rattle.check_groups.specs.Splices.Parts.{IsOf, no_choices, choices_of, IsPartOfGroup, of_sole, of_orelse, IsPartOfEntries, of_none, of_more, AreParts}
use Rattle.check_maps.specs.declared.spliced.listing.Spliced.{Spliced}
use Rattle.check_maps.specs.declared.spliced.owners.Owner.{Owner}
use Rattle.check_maps.specs.Spliced.Spliced.{IsOwner, IsTarget, a_name, an_opening, somewhere}
use Rattle.check_maps.specs.declared.map_cycles.layout.Layout.{Layout}
use Rattle.check_maps.specs.MapCycles.Coming.{AreComingBack, AreMarked, AreTargets, LeadsBack}
use Rattle.check_maps.specs.MapCycles.Edges.{nodes, entry_node, owner_node}
use Rattle.check_maps.proofs.OfMapCycles.Owners.{AreOnce, HasGroup, one_owner, point_group}
use Rattle.check_maps.proofs.OfMapCycles.Rows.{IsGroupAt, refused_at, keyed_at, group_at, deeper, group_there, group_told, left, node_within, of_within, right, row_inside, spliced_row, wider}
use Rattle.check_maps.proofs.Entries.{in_choices, in_earlier, in_last, in_last_choice, in_lone}
use Rattle.check_maps.proofs.OfMapCycles.Ways.{Link, Step, to_part, to_owner, to_entry, to_row, Way, arrived, onward, edges, join, leads_on, one_owner_node, owner_behind, way_of}

abbrev pub More : List Definition → Type 0
More ds = (k : ℕ) (r : Ref) (o : Opened) → opened_in k ds r ≡ Some o → opened_in (suc k) ds r ≡ Some o

module _ (xs : List Definition) (root : Text) (t : Table) (refs : List Ref) (more : More xs) where
  -- the entry of the row stands in the group of each reference that has this owner
  pub record StandsInside (x : Spliced) : Type 0 where
    pub entry : Entry
    pub row : IsEntry t x.row entry
    pub inside : (p : Point) (fss : List Entries) → IsOwner xs refs x.owner (Some p) → HasGroup xs more p fss → IsSplicedInto xs entry fss

  module _ (once : AreOnce refs) (parts : List P.Part) (are : AreParts xs root t parts) (l : Layout) (all : l.parts ≡ length parts) (targets : List (Option Owner)) (told : AreTargets xs root refs t l.parts targets) (spliced : List Spliced) (entries_all : l.entries ≡ length spliced) (places_all : l.places ≡ length refs) (stand : (i : ℕ) (x : Spliced) → slice_get spliced i ≡ Some x → StandsInside x) where
    abbrev On : ℕ → ℕ → Type 0
    On = Way l parts targets spliced

    abbrev To : ℕ → ℕ → Type 0
    To = Step l parts targets spliced

    -- an entry that is spliced into these choices leads to the owner
    record Inside (w : Owner) (ess : List Entries) : Type 0 where
      reference : Point
      entry : Entry
      owns : IsOwner xs refs w (Some reference)
      into : IsSplicedInto xs entry ess
      point : point_in xs entry ≡ Some reference

    wider_inside : (w : Owner) (ess fss : List Entries) → ((e : Entry) → Contains (all_entries ess) e → Contains (all_entries fss) e) → Inside w ess → Inside w fss
    wider_inside w ess fss f i = record { reference = i.reference; entry = i.entry; owns = i.owns; into = wider xs ess fss f i.entry i.into; point = i.point }

    back_inside : (w : Owner) (e : Entry) (fss : List Entries) → group_in xs e ≡ Some fss → Inside w fss → LeadsBack xs refs w e
    back_inside w e fss g i = record { reference = i.reference; owns = i.owns; back = by_group g i.into i.point }

    inside_back : (w : Owner) (e : Entry) (ess : List Entries) → IsSplicedInto xs e ess → LeadsBack xs refs w e → Inside w ess
    inside_back w e ess s b = by b.reference b.owns b.back
      where
        by : (p : Point) → IsOwner xs refs w (Some p) → IsLedToBy xs p e → Inside w ess
        by p o (by_itself i) = record { reference = p; entry = e; owns = o; into = s; point = i }
        by p o (by_group {d = d} g u i) = record { reference = p; entry = d; owns = o; into = deeper xs s g u; point = i }

    -- What is told at a node from which a way leads to an entry with this owner.
    record Told (w : Owner) (a : ℕ) : Type 0 where
      nothing : a ≡ length t.rows → ⊥
      group : (g : Group) → IsGroup t a g → AreReached xs root (group_points g) → Inside w (alternatives g)
      entries : (es : Entries) → IsEntries t a es → AreReached xs root (entries_points es) → Inside w (es ∷ [])
      entry : (e : Entry) → IsEntry t a e → AreReached xs root (entry_points e) → LeadsBack xs refs w e
      owner : (u : Owner) → owner_node l u ≡ Some a → (p : Point) (fss : List Entries) (n : ℕ) → IsOwner xs refs u (Some p) → HasGroup xs more p fss → IsOf xs root t fss n → (u ≡ w) ⊎ Inside w fss
      node : (j : ℕ) (x : Spliced) → a ≡ entry_node l j → slice_get spliced j ≡ Some x → (x.owner ≡ w) ⊎ ((e : Entry) → IsEntry t x.row e → AreReached xs root (entry_points e) → LeadsBack xs refs w e)

    no_row : {C : Type 0} (a : ℕ) (x : Tree) → l.parts ≤ a → Holds t (Some a) x → C
    no_row a x h k = absurd (let i = row_inside xs root t parts are a x k in omega (arith, h, i, all))

    no_end : (a : ℕ) → l.parts ≤ a → a ≡ length t.rows → ⊥
    no_end a h e = let k = are.all in omega (arith, h, e, k, all)

    no_owner : {C : Type 0} (a : ℕ) (u : Owner) → a < l.parts + l.entries → owner_node l u ≡ Some a → C
    no_owner a u h e = absurd (let k = owner_behind l u a e in omega (arith, h, k))

    no_entry : {C : Type 0} (a j : ℕ) → a < l.parts → a ≡ entry_node l j → C
    no_entry a j h e = absurd (omega (arith, h, e))

    entry_within : (j : ℕ) (x : Spliced) → slice_get spliced j ≡ Some x → entry_node l j < l.parts + l.entries
    entry_within j x e = let h = within spliced j x e in omega (arith, h, entries_all)

    same_at : (j k : ℕ) (x y : Spliced) → entry_node l j ≡ entry_node l k → slice_get spliced j ≡ Some x → slice_get spliced k ≡ Some y → x ≡ y
    same_at j k x y e f g = let i : j ≡ k = omega (arith, e) in same_some (sym f ∙ ap (slice_get spliced) i ∙ g)

    at_end : (i : ℕ) (x : Spliced) → slice_get spliced i ≡ Some x → Told x.owner (entry_node l i)
    at_end i x there = record {
      nothing = λ e. no_end (entry_node l i) (omega arith) e;
      group = λ g h r. no_row (entry_node l i) (group_tree g) (omega arith) h;
      entries = λ es h r. no_row (entry_node l i) (entries_tree es) (omega arith) h;
      entry = λ e h r. no_row (entry_node l i) (entry_tree e) (omega arith) h;
      owner = λ u e p fss n o g s. no_owner (entry_node l i) u (entry_within i x there) e;
      node = λ j y e g. inl (ap (λ (z : Spliced). z.owner) (sym (same_at i j x y e there g)));
    }

    module _ (w : Owner) where
      -- a step to a part

      has_nothing : (p : P.Part) (m : ℕ) → p ≡ PartV.Nothing → Has p m → ⊥
      has_nothing _ _ i has_same = cc
      has_nothing _ _ i has_first = cc
      has_nothing _ _ i has_second = cc
      has_nothing _ _ i has_one = cc
      has_nothing _ _ i has_other = cc
      has_nothing _ _ i has_group = cc

      at_nothing : (n : ℕ) (p : P.Part) → slice_get parts n ≡ Some p → n ≡ length t.rows → p ≡ PartV.Nothing
      at_nothing n p e i = same_some (sym e ∙ ap (slice_get parts) i ∙ are.nothing)

      group_further : (g : Group) (p : P.Part) (m : ℕ) → IsPartOfGroup t g p → Has p m → Told w m → AreReached xs root (group_points g) → Inside w (alternatives g)
      group_further (sole es) _ m (of_sole k) has_same f r = f.entries es k r
      group_further (orelse g es) _ m (of_orelse k h) has_one f r = wider_inside w (alternatives g) (alternatives g ++ es ∷ []) (in_choices (alternatives g) es) (f.group g k (left xs root t parts are (group_points g) (entries_points es) r))
      group_further (orelse g es) _ m (of_orelse k h) has_other f r = wider_inside w (es ∷ []) (alternatives g ++ es ∷ []) (in_last_choice (alternatives g) es) (f.entries es h (right xs root t parts are (group_points g) (entries_points es) r))

      entries_further : (es : Entries) (p : P.Part) (m : ℕ) → IsPartOfEntries t es p → Has p m → Told w m → AreReached xs root (entries_points es) → Inside w (es ∷ [])
      entries_further no_entries _ m of_none h f r = elim h [ ]
      entries_further (entries es x c) _ m (of_more k h) has_first f r = wider_inside w (es ∷ []) (entries es x c ∷ []) (in_earlier es x c) (f.entries es k (left xs root t parts are (entries_points es) (entry_points x) r))
      entries_further (entries es x c) _ m (of_more k h) has_second f r = wider_inside w (lone x ∷ []) (entries es x c ∷ []) (in_last es x c) (inside_back w x (lone x ∷ []) (its_own (in_lone x)) (f.entry x h (right xs root t parts are (entries_points es) (entry_points x) r)))

      choices_further : (ess : List Entries) (m : ℕ) → IsOf xs root t ess m → Told w m → Inside w ess
      choices_further _ m no_choices f = absurd (f.nothing refl)
      choices_further _ m (choices_of g k r) f = f.group g k r

      entry_further : (e : Entry) (p : P.Part) (m : ℕ) → IsGroupAt xs root t parts are e p → Has p m → Told w m → LeadsBack xs refs w e
      entry_further e _ m (refused_at k) h f = elim h [ ]
      entry_further e _ m (keyed_at k) h f = elim h [ ]
      entry_further e _ m (group_at {fss = fss} k i) has_group f = back_inside w e fss k (choices_further fss m i f)

      by_part : (n m : ℕ) (p : P.Part) → n < l.parts → slice_get parts n ≡ Some p → Has p m → Told w m → Told w n
      by_part n m p h i k f = record {
        nothing = λ e. has_nothing p m (at_nothing n p i e) k;
        group = λ g c r. group_further g p m ((are.each n p i).group g c) k f r;
        entries = λ es c r. entries_further es p m ((are.each n p i).entries es c) k f r;
        entry = λ e c r. entry_further e p m (group_told xs root t parts are e p ((are.each n p i).entry e c r) r) k f;
        owner = λ u e q fss j o g s. no_owner n u (omega (arith, h)) e;
        node = λ j y e g. no_entry n j h e;
      }

      -- a step to the owner to which an entry leads

      group_no_occurs : (g : Group) (b : Bounds) (a : ℕ) → IsPartOfGroup t g (PartV.Occurs b a) → ⊥
      group_no_occurs g b a h = elim h [ ]

      entries_no_occurs : (es : Entries) (b : Bounds) (a : ℕ) → IsPartOfEntries t es (PartV.Occurs b a) → ⊥
      entries_no_occurs es b a h = elim h [ ]

      occurs_nothing : (b : Bounds) (a : ℕ) → PartV.Occurs b a ≡ PartV.Nothing → ⊥
      occurs_nothing b a e = cc

      from_target : (q : Option Point) (u : Owner) → IsTarget xs refs q (Some u) → (p : Point) × (q ≡ Some p) × IsOwner xs refs u (Some p)
      from_target q u (somewhere {p = p} o) = (p, refl, o)

      entry_to_owner : (n o a : ℕ) (b : Bounds) (u : Owner) → n < l.parts → slice_get targets n ≡ Some (Some u) → owner_node l u ≡ Some o → Told w o → (e : Entry) → IsEntry t n e → AreReached xs root (entry_points e) → IsGroupAt xs root t parts are e (PartV.Occurs b a) → LeadsBack xs refs w e
      entry_to_owner n o a b u h i k f e c r (group_at {fss = fss} g s) =
          let x = told n e h c r in
          let at = from_target (point_in xs e) u (subst (IsTarget xs refs (point_in xs e)) (same_some (sym x.1 ∙ i)) x.2) in
          let j = point_group xs more e at.0 at.1 in
          by at.0 at.1 at.2 (f.owner u k at.0 fss a at.2 (subst (HasGroup xs more at.0) (same_some (sym j.1 ∙ g)) j.2) s)
        where
          by : (p : Point) → point_in xs e ≡ Some p → IsOwner xs refs u (Some p) → (u ≡ w) ⊎ Inside w fss → LeadsBack xs refs w e
          by p d own (inl same) = record { reference = p; owns = subst (λ z. IsOwner xs refs z (Some p)) same own; back = by_itself d }
          by p d own (inr z) = back_inside w e fss g z

      by_target : (n o a : ℕ) (b : Bounds) (u : Owner) → n < l.parts → slice_get parts n ≡ Some (PartV.Occurs b a) → slice_get targets n ≡ Some (Some u) → owner_node l u ≡ Some o → Told w o → Told w n
      by_target n o a b u h i j k f = record {
        nothing = λ e. occurs_nothing b a (at_nothing n (PartV.Occurs b a) i e);
        group = λ g c r. absurd (group_no_occurs g b a ((are.each n (PartV.Occurs b a) i).group g c));
        entries = λ es c r. absurd (entries_no_occurs es b a ((are.each n (PartV.Occurs b a) i).entries es c));
        entry = λ e c r. entry_to_owner n o a b u h j k f e c r (group_told xs root t parts are e (PartV.Occurs b a) ((are.each n (PartV.Occurs b a) i).entry e c r) r);
        owner = λ v e q fss m p g s. no_owner n v (omega (arith, h)) e;
        node = λ m y e g. no_entry n m h e;
      }

      -- a step to an entry in the group of the owner

      owner_to_entry : (j : ℕ) (x : Spliced) → slice_get spliced j ≡ Some x → Told w (entry_node l j) → (p : Point) (fss : List Entries) (n : ℕ) → IsOwner xs refs x.owner (Some p) → HasGroup xs more p fss → IsOf xs root t fss n → (x.owner ≡ w) ⊎ Inside w fss
      owner_to_entry j x i f p fss n o g s = by (f.node j x refl i)
        where
          by : (x.owner ≡ w) ⊎ ((e : Entry) → IsEntry t x.row e → AreReached xs root (entry_points e) → LeadsBack xs refs w e) → (x.owner ≡ w) ⊎ Inside w fss
          by (inl same) = inl same
          by (inr b) =
              let y = stand j x i in
              let into = y.inside p fss o g in
              let below = spliced_row xs root t parts are l all targets spliced y.entry n fss s into in
              inr (inside_back w y.entry fss into (b y.entry y.row below.reached))

      by_owner : (j o : ℕ) (x : Spliced) → slice_get spliced j ≡ Some x → owner_node l x.owner ≡ Some o → Told w (entry_node l j) → Told w o
      by_owner j o x i k f =
          let behind = owner_behind l x.owner o k in
          let far : l.parts ≤ o = omega (arith, behind) in
          record {
            nothing = λ e. no_end o far e;
            group = λ g c r. no_row o (group_tree g) far c;
            entries = λ es c r. no_row o (entries_tree es) far c;
            entry = λ e c r. no_row o (entry_tree e) far c;
            owner = λ u e p fss n own g s. (let same = one_owner_node l x.owner u o k e in subst (λ z. (z ≡ w) ⊎ Inside w fss) same (owner_to_entry j x i f p fss n (subst (λ z. IsOwner xs refs z (Some p)) (sym same) own) g s));
            node = λ m y e g. absurd (let h = entry_within m y g in omega (arith, behind, h, e));
          }

      -- a step to an entry's row

      by_row : (j : ℕ) (x : Spliced) → slice_get spliced j ≡ Some x → Told w x.row → Told w (entry_node l j)
      by_row j x i f = record {
        nothing = λ e. no_end (entry_node l j) (omega arith) e;
        group = λ g h r. no_row (entry_node l j) (group_tree g) (omega arith) h;
        entries = λ es h r. no_row (entry_node l j) (entries_tree es) (omega arith) h;
        entry = λ e h r. no_row (entry_node l j) (entry_tree e) (omega arith) h;
        owner = λ u e p fss n o g s. no_owner (entry_node l j) u (entry_within j x i) e;
        node = λ k y e g. inr (λ d h r. f.entry d (subst (λ (z : Spliced). IsEntry t z.row d) (sym (same_at j k x y e i g)) h) r);
      }

      by_step : {a b : ℕ} → To a b → Told w b → Told w a
      by_step (to_part {n = n} {m = m} {p = p} h i k) f = by_part n m p h i k f
      by_step (to_owner {n = n} {a = a} {o = o} {b = b} {w = u} h i j k) f = by_target n o a b u h i j k f
      by_step (to_entry {i = j} {o = o} {x = x} h i k) f = by_owner j o x i k f
      by_step (to_row {i = j} {x = x} h i k) f = by_row j x i f

      by_way : {a c : ℕ} → On a c → Told w c → Told w a
      by_way arrived f = f
      by_way (onward k v) f = by_step k.step (by_way v f)

    -- the first step from an entry's node goes to its row
    first_row : {a b : ℕ} → To a b → (i : ℕ) (x : Spliced) → a ≡ entry_node l i → slice_get spliced i ≡ Some x → b ≡ x.row
    first_row (to_part {n = n} h k m) i x e g = no_entry n i h e
    first_row (to_owner {n = n} h k j m) i x e g = no_entry n i h e
    first_row (to_entry {o = o} {x = y} h k m) i x e g = absurd (let b = owner_behind l y.owner o m in let c = entry_within i x g in omega (arith, b, c, e))
    first_row (to_row {i = j} {x = y} h k m) i x e g = ap (λ (z : Spliced). z.row) (same_at j i y x e k g)

    pub leads_back : (i : ℕ) (x : Spliced) → slice_get spliced i ≡ Some x → LeadsOn (nodes l) (edges l parts targets spliced) (entry_node l i) (entry_node l i) → (e : Entry) → IsEntry t x.row e → AreReached xs root (entry_points e) → LeadsBack xs refs x.owner e
    leads_back i x there cycle e h r =
        let v = way_of l parts targets spliced cycle in
        let f = by_way x.owner v.2 (at_end i x there) in
        f.entry e (subst (λ n. IsEntry t n e) (sym (first_row (v.1).step i x refl there)) h) r

    -- An entry that leads back has a way.

    owner_there : (w : Owner) (p : Point) → IsOwner xs refs w (Some p) → (o : ℕ) × (owner_node l w ≡ Some o) × (o < nodes l)
    owner_there _ _ (a_name {k = k} {f = f} h) = (l.parts + l.entries + 2 * k, refl, let i = within refs k f h in omega (arith, i, places_all))
    owner_there _ _ (an_opening {k = k} {e = e} h way one free) = (l.parts + l.entries + 2 * k + 1, refl, let i = within refs k e h in omega (arith, i, places_all))

    to_target : (p : Point) (o : Option Owner) → IsTarget xs refs (Some p) o → (u : Owner) × (o ≡ Some u) × IsOwner xs refs u (Some p)
    to_target p o (somewhere {w = u} h) = (u, refl, h)

    target_at : (o : Option (Option Owner)) (x : Option Owner) (u w : Owner) → o ≡ Some x → x ≡ Some u → u ≡ w → o ≡ Some (Some w)
    target_at o x u w e f g = e ∙ ap Some (f ∙ ap Some g)

    -- the row of an entry that leads to a reference leads to the owner
    point_link : (w : Owner) (p : Point) (o n : ℕ) (d : Entry) → IsOwner xs refs w (Some p) → owner_node l w ≡ Some o → o < nodes l → IsEntry t n d → AreReached xs root (entry_points d) → point_in xs d ≡ Some p → Link l parts targets spliced n o
    point_link w p o n d own k small h r e =
        let g = point_group xs more d p e in
        let c = group_there xs root t parts are n d h r g.0 g.1 in
        let low = within parts n (PartV.Occurs c.0 c.1) c.2 in
        let there : n < l.parts = omega (arith, low, all) in
        let x = told n d there h r in
        let u = to_target p x.0 (subst (λ q. IsTarget xs refs q x.0) e x.2) in
        let same = one_owner xs refs once u.0 w p u.2 own in
        record { step = to_owner there c.2 (target_at (slice_get targets n) x.0 u.0 w x.1 u.1 same) k; begins = node_within xs root t parts are l all targets spliced n low; ends = small }

    back_way : (w : Owner) (p : Point) (o n : ℕ) (e : Entry) → IsOwner xs refs w (Some p) → owner_node l w ≡ Some o → o < nodes l → IsEntry t n e → AreReached xs root (entry_points e) → IsLedToBy xs p e → On n o
    back_way w p o n e own k small h r (by_itself i) = onward (point_link w p o n e own k small h r i) arrived
    back_way w p o n e own k small h r (by_group {d = d} {fss = fss} g s i) =
        let c = group_there xs root t parts are n e h r fss g in
        let b = spliced_row xs root t parts are l all targets spliced d c.1 fss c.3 s in
        let low = within parts n (PartV.Occurs c.0 c.1) c.2 in
        let high = of_within xs root t parts are fss c.1 c.3 in
        let down : Link l parts targets spliced n c.1 = record { step = to_part (omega (arith, low, all)) c.2 has_group; begins = node_within xs root t parts are l all targets spliced n low; ends = node_within xs root t parts are l all targets spliced c.1 high } in
        onward down (b.way o (onward (point_link w p o b.row d own k small b.at b.reached i) arrived))

    pub has_way_back : (i : ℕ) (x : Spliced) → slice_get spliced i ≡ Some x → (e : Entry) → IsEntry t x.row e → AreReached xs root (entry_points e) → LeadsBack xs refs x.owner e → LeadsOn (nodes l) (edges l parts targets spliced) (entry_node l i) (entry_node l i)
    has_way_back i x there e h r b =
        let o = owner_there x.owner b.reference b.owns in
        let i_low = within spliced i x there in
        let is_entry : i < l.entries = omega (arith, i_low, entries_all) in
        let is_node : entry_node l i < nodes l = omega (arith, is_entry) in
        let row_low = row_inside xs root t parts are x.row (entry_tree e) h in
        let way = back_way x.owner b.reference o.0 x.row e b.owns o.1 o.2 h r b.back in
        leads_on l parts targets spliced
        (record { step = to_row is_entry there o.1; begins = is_node; ends = node_within xs root t parts are l all targets spliced x.row row_low })
        (join l parts targets spliced way (onward (record { step = to_entry is_entry there o.1; begins = o.2; ends = is_node }) arrived))

    pub are_coming_back : (flags : List Bool) → AreMarked l (edges l parts targets spliced) flags → AreComingBack xs root t refs spliced flags
    are_coming_back flags marked = record {
      all = marked.all ∙ entries_all;
      each = λ i x e there h r. (
        (λ f. leads_back i x there ((marked.each i (low i x there)).0 f) e h r),
        (λ b. (marked.each i (low i x there)).1 (has_way_back i x there e h r b)),
      );
    }
      where
        low : (i : ℕ) (x : Spliced) → slice_get spliced i ≡ Some x → i < l.entries
        low i x e = let h = within spliced i x e in omega (arith, h, entries_all)
