-- What a search has found when it ends.
use Rattle.std.proofs.Common.{◌≡◌, ◌↔◌, ℕ, suc, ◌<◌, ◌≤◌, ◌⊎◌, inl, inr, Bool, true, false, List, [], ◌∷◌, ◌++◌, map, length, Option, Some, None, IfSome, slice_get, refl, sym, ap, ◌∙◌, subst}
use Rattle.std.specs.Prelude.{if◌then◌else◌}
use Rattle.std.proofs.lemmas.List.{map-append}
use Rattle.lists.proofs.Lemmas.{none_more}
use Rattle.cddl_language.specs.Terms as L
use Rattle.cddl_language.specs.Terms.{Text, Ref, Definition, call, no_terms}
use Rattle.cddl_language.specs.Substitution.{bodies}
use Rattle.cddl_language.specs.Reach.{Point, ref_at, body_points, points_in, Reaches, at_root, onward, most_instances}
use Rattle.check_terms.specs.declared.definition.Body.{Body}
use Rattle.check_terms.specs.Definitions.{IsBody}
use Rattle.check_terms.specs.Table.{Table, Tree, node, Holds, no_part, part}
use Rattle.check_terms.specs.Trees.{IsRef, ref_tree}
use Rattle.check_instances.specs.declared.found.Instance.{Instance}
use Rattle.check_instances.specs.Bodies.{AreBodies, no_bodies, further_body}
use Rattle.check_instances.specs.Calls.{body_tree, calls, is_call, point_tree}
use Rattle.check_instances.specs.Found.{AreFound, none_found, further_found, HasFound, HasTooMany, IsInstance}
use Rattle.check_instances.specs.Lists.{AreApart, IsIn}
use Rattle.check_instances.specs.Marks.{is_marked}
use Rattle.check_instances.specs.Search.{IsFollowed, IsInstanceRow, IsReached, IsSearch, IsSeen, IsSound}
use Rattle.check_instances.specs.Steps.{row_of, rows_of}
use Rattle.check_instances.proofs.Lists.{from_contains, from_flat, from_get, from_map, in_cases, in_left, in_right, none_after, pairs, to_contains, to_flat, to_map}
use Rattle.check_instances.proofs.Meaning.{bodies_kept, body_holds}
use Rattle.check_instances.proofs.Standing.{body_stands}
use Rattle.check_instances.proofs.Walking.{kept_part}

-- What stands in the bodies of an instance is reached.

body_sound : (xs : List Definition) (root : Text) (t : Table) (b : Body) (c : L.Body) → IsBody t b c → ((p : Point) → IsIn p (body_points c) → Reaches xs root (ref_at p)) → IsSound xs root t (row_of b)
body_sound xs root t b c h reach = record { tree = body_tree c; holds = body_holds t b c h; reached = reached }
  where
    reached : (x : Tree) → IsIn x (calls (body_tree c)) → IsReached xs root x
    reached x g =
        let p = from_map point_tree (body_points c) x (subst (IsIn x) (body_stands c) g) in
        record { ref = ref_at p.0; tree = p.2; reaches = reach p.0 p.1 }

all_sound : (xs : List Definition) (root : Text) (t : Table) (bs : List Body) (cs : List L.Body) → AreBodies t bs cs → ((c : L.Body) → IsIn c cs → (p : Point) → IsIn p (body_points c) → Reaches xs root (ref_at p)) → (n : ℕ) → IsIn n (rows_of bs) → IsSound xs root t n
all_sound xs root t bs cs no_bodies reach n g = absurd g
all_sound xs root t bs cs (further_body {b = b} {x = c} {bs = ds} {xs = es} h hs) reach n (inl e) = subst (IsSound xs root t) (sym e) (body_sound xs root t b c h (reach c (inl refl)))
all_sound xs root t bs cs (further_body {b = b} {x = c} {bs = ds} {xs = es} h hs) reach n (inr g) = all_sound xs root t ds es hs (λ d i. reach d (inr i)) n g

pub bodies_sound : (xs : List Definition) (root : Text) (t : Table) (bs : List Body) (r : Ref) → Reaches xs root r → AreBodies t bs (bodies xs r) → (n : ℕ) → IsIn n (rows_of bs) → IsSound xs root t n
bodies_sound xs root t bs r h are = all_sound xs root t bs (bodies xs r) are (λ c i p j. onward h (to_contains (points_in xs r) p (to_flat body_points (bodies xs r) c p i j)) refl)

-- Instances with their references, whose bodies' rows are among some.
pub data AreFilled (xs : List Definition) (root : Text) (t : Table) (from : List ℕ) : List Instance → List Ref → Type 0 where
  none_filled : AreFilled xs root t from [] []
  one_filled : {i : Instance} {r : Ref} {is : List Instance} {rs : List Ref} → IsInstance xs t i r → Reaches xs root r → ((n : ℕ) → IsIn n (rows_of i.bodies.items) → IsIn n from) → AreFilled xs root t from is rs → AreFilled xs root t from (i ∷ is) (r ∷ rs)

abbrev pub calls_of : List Instance → List ℕ
calls_of is = map (λ (i : Instance). i.call) is

module _ (xs : List Definition) (root : Text) where
  filled_on : (old new : Table) (from all : List ℕ) → ((n : Option ℕ) (x : Tree) → Holds old n x → Holds new n x) → ((b : Body) (x : L.Body) → IsBody old b x → IsBody new b x) → ((n : ℕ) → IsIn n from → IsIn n all) → (is : List Instance) (rs : List Ref) → AreFilled xs root old from is rs → AreFilled xs root new all is rs
  filled_on old new from all tree body more is rs none_filled = none_filled
  filled_on old new from all tree body more is rs (one_filled {i = i} {r = r} {is = js} {rs = qs} h k f hs) = one_filled (record { ref = tree (Some i.call) (ref_tree r) h.ref; means = bodies_kept old new body i.bodies.items (bodies xs r) h.means }) k (λ n g. more n (f n g)) (filled_on old new from all tree body more js qs hs)

  filled_push : (t : Table) (from : List ℕ) (is : List Instance) (rs : List Ref) (i : Instance) (r : Ref) → AreFilled xs root t from is rs → IsInstance xs t i r → Reaches xs root r → ((n : ℕ) → IsIn n (rows_of i.bodies.items) → IsIn n from) → AreFilled xs root t from (is ++ i ∷ []) (rs ++ r ∷ [])
  filled_push t from is rs i r none_filled h k f = one_filled h k f none_filled
  filled_push t from is rs i r (one_filled {is = js} {rs = qs} g j e gs) h k f = one_filled g j e (filled_push t from js qs i r gs h k f)

  filled_found : (t : Table) (from : List ℕ) (is : List Instance) (rs : List Ref) → AreFilled xs root t from is rs → AreFound xs t is rs
  filled_found t from is rs none_filled = none_found
  filled_found t from is rs (one_filled {is = js} {rs = qs} h k f hs) = further_found h (filled_found t from js qs hs)

  filled_reached : (t : Table) (from : List ℕ) (is : List Instance) (rs : List Ref) → AreFilled xs root t from is rs → (r : Ref) → IsIn r rs → Reaches xs root r
  filled_reached t from is rs none_filled r g = absurd g
  filled_reached t from is rs (one_filled {is = js} {rs = qs} h k f hs) r (inl e) = subst (Reaches xs root) (sym e) k
  filled_reached t from is rs (one_filled {is = js} {rs = qs} h k f hs) r (inr g) = filled_reached t from js qs hs r g

  filled_call : (t : Table) (from : List ℕ) (is : List Instance) (rs : List Ref) → AreFilled xs root t from is rs → (r : Ref) → IsIn r rs → (n : ℕ) × IsIn n (calls_of is) × IsRef t n r
  filled_call t from is rs none_filled r g = absurd g
  filled_call t from is rs (one_filled {i = i} {is = js} {rs = qs} h k f hs) r (inl e) = (i.call, inl refl, subst (IsRef t i.call) (sym e) h.ref)
  filled_call t from is rs (one_filled {i = i} {is = js} {rs = qs} h k f hs) r (inr g) = let n = filled_call t from js qs hs r g in (n.0, inr n.1, n.2)

  module _ (t : Table) (same : (n m : ℕ) (a b : Ref) → IsRef t n a → IsRef t m b → (n ≡ m) ↔ (a ≡ b)) where
    filled_apart : (from : List ℕ) (is : List Instance) (rs : List Ref) → AreApart (calls_of is) → AreFilled xs root t from is rs → AreApart rs
    filled_apart from is rs apart none_filled = tt
    filled_apart from is rs apart (one_filled {i = i} {r = r} {is = js} {rs = qs} h k f hs) = (λ g. let n = filled_call t from js qs hs r g in apart.0 (subst (λ m. IsIn m (calls_of js)) (sym ((same i.call n.0 r r h.ref n.2).1 refl)) n.1), filled_apart from js qs apart.1 hs)

    -- the instance of a row
    filled_there : (from : List ℕ) (is : List Instance) (rs : List Ref) → AreFilled xs root t from is rs → (n : ℕ) (r : Ref) → IsIn n (calls_of is) → IsRef t n r → (i : Instance) × IsInstance xs t i r × IsIn r rs × ((m : ℕ) → IsIn m (rows_of i.bodies.items) → IsIn m from)
    filled_there from is rs none_filled n r g h = absurd g
    filled_there from is rs (one_filled {i = i} {r = q} {is = js} {rs = qs} k j f ks) n r (inl e) h =
        let one : q ≡ r = (same i.call n q r k.ref h).0 (sym e) in
        (i, subst (IsInstance xs t i) one k, inl (sym one), f)
    filled_there from is rs (one_filled {is = js} {rs = qs} k j f ks) n r (inr g) h = let i = filled_there from js qs ks n r g h in (i.0, i.1, inr i.2, i.3)

    -- references of rows that are apart
    rows_refs : (ns : List ℕ) → ((n : ℕ) → IsIn n ns → IsInstanceRow xs root t n) → List Ref
    rows_refs [] h = []
    rows_refs (n ∷ ns) h = (h n (inl refl)).ref ∷ rows_refs ns (λ m g. h m (inr g))

    as_many : (ns : List ℕ) (h : (n : ℕ) → IsIn n ns → IsInstanceRow xs root t n) → length (rows_refs ns h) ≡ length ns
    unfolding rows_refs
    as_many [] h = refl
    as_many (n ∷ ns) h = ap suc (as_many ns (λ m g. h m (inr g)))

    ref_row : (ns : List ℕ) (h : (n : ℕ) → IsIn n ns → IsInstanceRow xs root t n) (r : Ref) → IsIn r (rows_refs ns h) → (n : ℕ) × IsIn n ns × IsRef t n r × Reaches xs root r
    unfolding rows_refs
    ref_row [] h r g = absurd g
    ref_row (n ∷ ns) h r (inl e) = let k = h n (inl refl) in (n, inl refl, subst (IsRef t n) (sym e) k.holds, subst (Reaches xs root) (sym e) k.reaches)
    ref_row (n ∷ ns) h r (inr g) = let k = ref_row ns (λ m i. h m (inr i)) r g in (k.0, inr k.1, k.2, k.3)

    refs_apart : (ns : List ℕ) (h : (n : ℕ) → IsIn n ns → IsInstanceRow xs root t n) → AreApart ns → AreApart (rows_refs ns h)
    unfolding rows_refs
    refs_apart [] h apart = tt
    refs_apart (n ∷ ns) h apart = (λ g. let q = (h n (inl refl)).ref in let k = ref_row ns (λ m i. h m (inr i)) q g in apart.0 (subst (λ m. IsIn m ns) (sym ((same n k.0 q q (h n (inl refl)).holds k.2).1 refl)) k.1), refs_apart ns (λ m i. h m (inr i)) apart.1)

    pub too_many : (from first : List ℕ) (marks : List Bool) (waiting refs : List ℕ) → IsSearch xs root t from first marks waiting refs → most_instances < length refs → HasTooMany xs root
    too_many from first marks waiting refs so many = record {
      refs = rows_refs refs so.reached;
      reached = λ r g. (ref_row refs so.reached r (from_contains (rows_refs refs so.reached) r g)).3;
      distinct = pairs (rows_refs refs so.reached) (refs_apart refs so.reached so.apart);
      many = subst (λ n. most_instances < n) (sym (as_many refs so.reached)) many;
    }

    -- Where nothing waits, all references that stand in what a marked row stands for were come upon.
    module _ (marks : List Bool) (refs : List ℕ) (followed : (n : ℕ) → is_marked marks n ≡ true → IsFollowed t (IsSeen marks []) refs n) where
      seen_marked : (n : ℕ) → IsSeen marks [] n → is_marked marks n ≡ true
      seen_marked n (inl h) = h
      seen_marked n (inr g) = absurd g

      come_upon : (o : Option ℕ) (x : Tree) → Holds t o x → IfSome o (λ n. is_marked marks n ≡ true) → (y : Tree) → IsIn y (calls x) → (n : ℕ) × IsIn n refs × Holds t (Some n) y
      come_upon o x no_part h y g = absurd g
      come_upon o x (part {n = n} {f = f} {m = m} {i = i} {j = j} {x = w} {a = a} {b = b} e d u v) h y g = by (is_call f) refl g (come_upon i a u) (come_upon j b v)
        where
          by : (c : Bool) → is_call f ≡ c → IsIn y (if c then node f w a b ∷ [] else calls a ++ calls b) → (IfSome i (λ k. is_marked marks k ≡ true) → (z : Tree) → IsIn z (calls a) → (k : ℕ) × IsIn k refs × Holds t (Some k) z) → (IfSome j (λ k. is_marked marks k ≡ true) → (z : Tree) → IsIn z (calls b) → (k : ℕ) × IsIn k refs × Holds t (Some k) z) → (k : ℕ) × IsIn k refs × Holds t (Some k) y
          by true c (inl q) first second = (n, (followed n h _ e).0 c, subst (Holds t (Some n)) (sym q) (part e d u v))
          by true c (inr q) first second = absurd q
          by false c q first second = either (in_cases (calls a) (calls b) y q)
            where
              either : IsIn y (calls a) ⊎ IsIn y (calls b) → (k : ℕ) × IsIn k refs × Holds t (Some k) y
              either (inl p) = first (kept_part (IsSeen marks []) (λ k. is_marked marks k ≡ true) seen_marked i ((followed n h _ e).1 c).0) y p
              either (inr p) = second (kept_part (IsSeen marks []) (λ k. is_marked marks k ≡ true) seen_marked j ((followed n h _ e).1 c).1) y p

  body_there : (t : Table) (bs : List Body) (cs : List L.Body) → AreBodies t bs cs → (c : L.Body) → IsIn c cs → (b : Body) × IsIn (row_of b) (rows_of bs) × IsBody t b c
  body_there t bs cs no_bodies c g = absurd g
  body_there t bs cs (further_body {b = b} {x = d} {bs = ds} {xs = es} h hs) c (inl e) = (b, inl refl, subst (IsBody t b) (sym e) h)
  body_there t bs cs (further_body {b = b} {x = d} {bs = ds} {xs = es} h hs) c (inr g) = let q = body_there t ds es hs c g in (q.0, inr q.1, q.2)

-- Where a search is after some references were filled.
pub record IsGoing (xs : List Definition) (root : Text) (t : Table) (start : ℕ) (marks : List Bool) (waiting refs : List ℕ) (found : List Instance) : Type 0 where
  pub from : List ℕ
  pub own : List Ref
  pub search : IsSearch xs root t from (calls_of found) marks waiting refs
  pub are_filled : AreFilled xs root t from found own
  pub starts : IsIn start from
  pub holds : IsRef t start (call root no_terms)

pub going_begun : (xs : List Definition) (root : Text) (t : Table) (start : ℕ) (marks : List Bool) (waiting refs : List ℕ) → IsRef t start (call root no_terms) → IsSearch xs root t (start ∷ []) [] marks waiting refs → IsGoing xs root t start marks waiting refs []
going_begun xs root t start marks waiting refs h so = record { from = start ∷ []; own = []; search = so; are_filled = none_filled; starts = inl refl; holds = h }

pub as_many_calls : (is : List Instance) → length (calls_of is) ≡ length is
as_many_calls [] = refl
as_many_calls (i ∷ is) = ap suc (as_many_calls is)

module _ (xs : List Definition) (root : Text) (old new : Table) (start : ℕ) (marks : List Bool) (waiting refs : List ℕ) (found : List Instance) where
  -- one more is filled
  pub going_on : ((n : Option ℕ) (x : Tree) → Holds old n x → Holds new n x) → ((b : Body) (x : L.Body) → IsBody old b x → IsBody new b x) → (k : ℕ) → slice_get refs (length found) ≡ Some k → (i : Instance) → i.call ≡ k → ((r : Ref) → IsRef old k r → IsInstance xs new i r) → (now : List Bool) (left all : List ℕ) → waiting ≡ [] → ((from first : List ℕ) → slice_get refs (length first) ≡ Some k → IsSearch xs root old from first marks waiting refs → IsSearch xs root new (rows_of i.bodies.items ++ from) (first ++ k ∷ []) now left all) → IsGoing xs root old start marks waiting refs found → IsGoing xs root new start now left all (found ++ i ∷ [])
  going_on tree body k next i same means now left all none follows so = record {
    from = rows_of i.bodies.items ++ so.from;
    own = so.own ++ it.ref ∷ [];
    search = subst (λ ns. IsSearch xs root new (rows_of i.bodies.items ++ so.from) ns now left all) calls_now (follows so.from (calls_of found) here so.search);
    are_filled = filled_push xs root new (rows_of i.bodies.items ++ so.from) found so.own i it.ref (filled_on xs root old new so.from (rows_of i.bodies.items ++ so.from) tree body (λ n g. in_right (rows_of i.bodies.items) so.from n g) found so.own so.are_filled) (means it.ref it.holds) it.reaches (λ n g. in_left (rows_of i.bodies.items) so.from n g);
    starts = in_right (rows_of i.bodies.items) so.from start so.starts;
    holds = tree (Some start) (ref_tree (call root no_terms)) so.holds;
  }
    where
      it : IsInstanceRow xs root old k
      it = so.search.reached k (from_get refs (length found) k next)

      here : slice_get refs (length (calls_of found)) ≡ Some k
      here = ap (slice_get refs) (as_many_calls found) ∙ next

      calls_now : calls_of found ++ k ∷ [] ≡ calls_of (found ++ i ∷ [])
      calls_now = ap (λ j. calls_of found ++ j ∷ []) (sym same) ∙ sym (map-append (λ (j : Instance). j.call) found (i ∷ []))

module _ (xs : List Definition) (root : Text) (t : Table) (same : (n m : ℕ) (a b : Ref) → IsRef t n a → IsRef t m b → (n ≡ m) ↔ (a ≡ b)) (start : ℕ) (marks : List Bool) (refs : List ℕ) (found : List Instance) (last : slice_get refs (length found) ≡ None) (so : IsGoing xs root t start marks [] refs found) where
  all_refs : refs ≡ calls_of found
  all_refs = so.search.begins ∙ ap (λ (ns : List ℕ). calls_of found ++ ns) (none_after (calls_of found) so.search.later (ap (slice_get (calls_of found ++ so.search.later)) (as_many_calls found) ∙ subst (λ ns. slice_get ns (length found) ≡ None) so.search.begins last)) ∙ none_more (calls_of found)

  marked_from : (n : ℕ) → IsIn n so.from → is_marked marks n ≡ true
  marked_from n g = seen_marked xs root t same marks refs so.search.followed n (so.search.seen n g)

  reached_row : (r : Ref) → Reaches xs root r → (n : ℕ) × IsIn n refs × IsRef t n r
  reached_row r at_root = come_upon xs root t same marks refs so.search.followed (Some start) (ref_tree (call root no_terms)) so.holds (marked_from start so.starts) (ref_tree (call root no_terms)) (inl refl)
  reached_row s (onward {r = r} {p = p} h c e) = next (reached_row r h)
    where
      next : (n : ℕ) × IsIn n refs × IsRef t n r → (n : ℕ) × IsIn n refs × IsRef t n s
      next q =
          let i = filled_there xs root t same so.from found so.own so.are_filled q.0 r (subst (IsIn q.0) all_refs q.1) q.2 in
          let b = from_flat body_points (bodies xs r) p (from_contains (points_in xs r) p c) in
          let row = body_there xs root t i.0.bodies.items (bodies xs r) i.1.means b.0 b.1 in
          let there = subst (IsIn (point_tree p)) (sym (body_stands b.0)) (to_map point_tree (body_points b.0) p b.2) in
          let m = come_upon xs root t same marks refs so.search.followed (Some (row_of row.0)) (body_tree b.0) (body_holds t row.0 b.0 row.2) (marked_from (row_of row.0) (i.3 (row_of row.0) row.1)) (point_tree p) there in
          (m.0, m.1, subst (IsRef t m.0) (sym e) m.2)

  pub going_ended : length found ≤ most_instances → HasFound xs root t found
  going_ended few = record {
    refs = so.own;
    are_instances = record {
      all = λ r h. let q = reached_row r h in to_contains so.own r (filled_there xs root t same so.from found so.own so.are_filled q.0 r (subst (IsIn q.0) all_refs q.1) q.2).2;
      only = λ r g. filled_reached xs root t so.from found so.own so.are_filled r (from_contains so.own r g);
      once = pairs so.own (filled_apart xs root t same so.from found so.own (subst AreApart all_refs so.search.apart) so.are_filled);
    };
    are_found = filled_found xs root t so.from found so.own so.are_filled;
    few = few;
  }
