-- What flags tell of the names of instances is where a name comes back to itself.
use Rattle.std.proofs.Common.{◌≡◌, ℕ, zero, suc, ◌+◌, ◌<◌, ◌≤◌, Bool, true, false, if◌then◌else◌, List, [], ◌∷◌, length, map, Option, Some, None, slice_get, refl, sym, ap, subst, ◌∙◌, arith}
use Rattle.std.specs.List.{Contains}
use Rattle.std.specs.Option.{option_map, unwrap_or}
use Rattle.std.proofs.lemmas.Option.{same_Some, slice_get-map, slice_get_read, slice_get_within}
use Rattle.tree_nodes.specs.Syntax.Syntax as S
use Rattle.cddl_language.specs.Terms.{Ref, Text, call, name_of}
use Rattle.cddl_language.specs.Environment.{is_same}
use Rattle.cddl_language.specs.Faults.{HasRecursion, IsRuleOnCycle, Specification, at_rule, definitions, first_rule, rules, without_rule}
use Rattle.cddl_language.specs.Free.{LeadsBack}
use Rattle.cddl_language.specs.Reach.{Point, Reaches, ref_at}
use Rattle.cddl_language.specs.Reading.{definitions_in, name_at, name_in}
use Rattle.check_terms.specs.declared.row.Row.{Row}
use Rattle.check_terms.specs.Table.{Table, part, some_text}
use Rattle.check_terms.specs.Trees.{IsRef}
use Rattle.check_names.specs.declared.environment.environment.Name.{Name}
use Rattle.check_names.specs.Environment.Environment.{IsStanding, named_from}
use Rattle.check_names.specs.Environment.Names.{standing}
use Rattle.check_names.specs.Environment.Places.{first_of}
use Rattle.check_instances.specs.declared.closed.closed.Closed.{Closed}
use Rattle.check_instances.specs.declared.closed.closed.Meaning.{Meaning}
use Rattle.check_instances.specs.Closed.Closed.{IsMeaning}
use Rattle.check_recursion.specs.Order.{AreCycles}
use Rattle.lists.specs.Least.{IsLeast}
use Rattle.check_root.specs.RootFaults.Starts.{least_start, meaning_start, name_start, number_start, or_first_byte, place_start, row_start, start_at, start_if}
use Rattle.lists.proofs.Lemmas.{at_head, none_in}
use Rattle.all_offsets.specs.Offsets.{AreOffsets, IsAtPlace, IsSaid}
use Rattle.all_offsets.proofs.Lemmas.{all_at_places, one_alone, same_offsets}
use Rattle.check_root.proofs.Least.{least_at_places}

there_is : {A : Type 0} (xs : List A) (i : ℕ) → i < length xs → (x : A) × (slice_get xs i ≡ Some x)
there_is [] i h = absurd (omega arith)
there_is (x ∷ xs) zero h = (x, refl)
there_is (x ∷ xs) (suc i) h = there_is xs i (omega arith)

-- where a rule begins, if there is one
abbrev begins : Option S.Rule → Option ℕ
begins None = None
begins (Some r) = Some (name_at r)

begun : (o : Option S.Rule) → option_map name_at o ≡ begins o
begun None = refl
begun (Some r) = refl

-- The first rule of a name is at the first place of its definitions.

abbrev at_place : List S.Rule → Option ℕ → Option S.Rule
at_place all None = None
at_place all (Some p) = slice_get all p

first_there : (n : Text) (all : List S.Rule) (i : ℕ) (rs : List S.Rule) → ((j : ℕ) → slice_get all (i + j) ≡ slice_get rs j) → first_rule rs n ≡ at_place all (first_of (named_from i n (definitions_in rs)))
first_there n all i [] h = refl
first_there n all i (r ∷ rs) h = by (is_same (name_in r) n) (first_there n all (i + 1) rs (λ j. ap (slice_get all) (further i j) ∙ h (suc j)))
  where
    further : (i j : ℕ) → i + 1 + j ≡ i + suc j
    further i j = omega arith

    here : (i : ℕ) → i ≡ i + 0
    here i = omega arith

    by : (b : Bool) → first_rule rs n ≡ at_place all (first_of (named_from (i + 1) n (definitions_in rs))) → (if b then Some r else first_rule rs n) ≡ at_place all (first_of (if b then i ∷ named_from (i + 1) n (definitions_in rs) else named_from (i + 1) n (definitions_in rs)))
    by true k = sym (ap (slice_get all) (here i) ∙ h 0)
    by false k = k

place_begins : (starts : List ℕ) (all : List S.Rule) → starts ≡ map name_at all → (o : Option ℕ) → place_start starts o ≡ begins (at_place all o)
place_begins starts all e None = refl
place_begins starts all e (Some p) = ap (λ xs. slice_get xs p) e ∙ slice_get-map name_at all p ∙ begun (slice_get all p)

-- the row of a reference has the number of its name
row_there : (t : Table) (n : ℕ) (r : Ref) → IsRef t n r → (i : ℕ) × (row : Row) × (slice_get t.rows n ≡ Some row) × (row.text ≡ Some i) × (slice_get t.texts i ≡ Some (name_of r))
row_there t n (call x ts) (part {m = Some i} e (some_text h) a b) = (i, _, e, refl, h)
row_there t n (call x ts) (part {m = None} e h a b) = elim h [ ]

module _ (t : Table) (starts : List ℕ) (names : List Name) (closed : Closed) (s : Specification) (root : Text) (refs : List Ref) (of : starts ≡ map name_at (rules s)) (all : length names ≡ length t.texts) (stand : (k : ℕ) (n : Text) (v : Name) → slice_get t.texts k ≡ Some n → slice_get names k ≡ Some v → IsStanding (definitions s) n (standing v)) (meaning : (k : ℕ) (r : Ref) → slice_get refs k ≡ Some r → (m : Meaning) × (slice_get closed.meanings.items k ≡ Some m) × IsMeaning (definitions s) t r m) where
  name_begins : (n : Text) (v : Name) → IsStanding (definitions s) n (standing v) → name_start starts (Some v) ≡ begins (first_rule (rules s) n)
  name_begins n v h = ap (place_start starts) h.first ∙ place_begins starts (rules s) of (first_of (named_from 0 n (definitions s))) ∙ ap begins (sym (first_there n (rules s) 0 (rules s) (λ j. ap (slice_get (rules s)) (from_first j))))
    where
      from_first : (j : ℕ) → 0 + j ≡ j
      from_first j = omega arith

  -- where the first rule of the name of the instance at a place begins
  start_there : (k : ℕ) (r : Ref) → slice_get refs k ≡ Some r → start_at t starts names closed k ≡ begins (first_rule (rules s) (name_of r))
  start_there k r e =
      let m = meaning k r e in
      let w = row_there t m.0.call r m.2.ref in
      let v = there_is names w.0 (subst (λ (n : ℕ). w.0 < n) (sym all) (slice_get_within t.texts w.0 (name_of r) w.4)) in
      ap (meaning_start t starts names) m.1 ∙ ap (row_start starts names) w.2 ∙ ap (number_start starts names) w.3 ∙ ap (name_start starts) v.1 ∙ name_begins (name_of r) v.0 (stand w.0 (name_of r) v.0 w.4 v.1)

  module _ (flags : List Bool) (cycles : AreCycles (definitions s) root refs flags) (whole : (r : Ref) → Reaches (definitions s) root r → Contains refs r) where
    one_start : (o : Option S.Rule) (at : ℕ) → begins o ≡ Some at → (r : S.Rule) × (o ≡ Some r) × (at ≡ name_at r)
    one_start None at e = cc
    one_start (Some r) at e = (r, refl, sym (same_Some (name_at r) at e))

    -- the rule of a name on a cycle begins there
    abbrev IsToldAt : ℕ → Type 0
    IsToldAt at = (r : S.Rule) × IsRuleOnCycle s root r × (at ≡ name_at r)

    sound : (k : ℕ) (b : Bool) (at : ℕ) → slice_get flags k ≡ Some b → start_if t starts names closed k b ≡ Some at → IsToldAt at
    sound k false at e f = cc
    sound k true at e f =
        let r = there_is refs k (subst (λ (n : ℕ). k < n) cycles.all (slice_get_within flags k true e)) in
        let p = (cycles.each k r.0 r.1).0 e in
        let q = one_start (first_rule (rules s) (name_of r.0)) at (sym (start_there k r.0 r.1) ∙ f) in
        (q.0, record { point = p.0; cycle = p.2; first = ap (λ z. first_rule (rules s) (name_of z)) p.1 ∙ q.1 }, q.2)

    complete : (at : ℕ) → IsToldAt at → (k : ℕ) × (b : Bool) × (slice_get flags k ≡ Some b) × (start_if t starts names closed k b ≡ Some at)
    complete at (rule, h, begin) =
        let r = ref_at h.point in
        let c = whole r h.cycle.back.instance in
        let there = slice_get_read refs (length refs) c.0 r refl c.1 (sym c.2) in
        (c.0, true, (cycles.each c.0 r there).1 (h.point, refl, h.cycle), start_there c.0 r there ∙ ap begins h.first ∙ ap Some (sym begin))

    least_rule : IsLeast IsToldAt (least_start t starts names closed flags)
    least_rule = least_at_places (start_if t starts names closed) IsToldAt flags sound complete

    -- Where no rule is told, something is on a cycle all the same.
    told : (o : Option ℕ) → IsLeast IsToldAt o → IsLeast (HasRecursion s root) (Some (unwrap_or o 0))
    told (Some at) h = (at_rule (h.0.1) (h.0.2), after)
      where
        after : (p : ℕ) → HasRecursion s root p → at ≤ p
        after p (at_rule {r = r} on e) = h.1 p (r, on, e)
        after p (without_rule c none e) = absurd (none h.0.0 h.0.1)
    told None h = (without_rule cycles.one.1 (λ r on. h (name_at r) (r, on, refl)) refl, λ p k. omega arith)

    pub least_recursion : IsLeast (HasRecursion s root) (Some (unwrap_or (least_start t starts names closed flags) 0))
    least_recursion = told (least_start t starts names closed flags) least_rule

    -- All of these, or the first byte where there are none.
    all_told : (offsets : List ℕ) → AreOffsets IsToldAt offsets → AreOffsets (HasRecursion s root) (or_first_byte offsets)
    all_told [] are = one_alone (HasRecursion s root) 0 (without_rule cycles.one.1 no_rule refl) only
      where
        no_rule : (r : S.Rule) → IsRuleOnCycle s root r → ⊥
        no_rule r on = none_in (name_at r) ((are.exactly (name_at r)).1 (r, on, refl))

        only : (p : ℕ) → HasRecursion s root p → p ≡ 0
        only p (at_rule {r = r} on e) = absurd (no_rule r on)
        only p (without_rule c none e) = e
    all_told (at ∷ more) are = same_offsets IsToldAt (HasRecursion s root) (at ∷ more) to from are
      where
        to : (p : ℕ) → IsToldAt p → HasRecursion s root p
        to p (r, on, e) = at_rule on e

        from : (p : ℕ) → HasRecursion s root p → IsToldAt p
        from p (at_rule {r = r} on e) = (r, on, e)
        from p (without_rule c none e) = let h = (are.exactly at).0 (at_head at more) in absurd (none h.0 h.1)

    pub all_recursion : (offsets : List ℕ) → AreOffsets (IsAtPlace (IsSaid (start_if t starts names closed)) flags) offsets → AreOffsets (HasRecursion s root) (or_first_byte offsets)
    all_recursion offsets are = all_told offsets (all_at_places (start_if t starts names closed) IsToldAt flags offsets sound complete are)

pub none_comes : (s : Specification) (root : Text) → ((p : Point) → LeadsBack (definitions s) root p → ⊥) → (at : ℕ) → HasRecursion s root at → ⊥
none_comes s root none at (at_rule h e) = none h.point h.cycle.back
none_comes s root none at (without_rule {p = p} c rules e) = none p c.back
