-- The nodes that have an edge within their component are those on cycles.
use Rattle.std.proofs.Common.{◌≡◌, ℕ, zero, suc, ◌<◌, ◌≤◌, List, [], ◌∷◌, length, set, replicate, Bool, true, false, cond, Option, Some, None, ◌⊎◌, inl, inr, slice_get, slice_index_or, refl, sym, ap, subst, ◌∙◌, arith}
use Rattle.std.proofs.lemmas.Option.{slice_get-get_or, get_or_from_slice_get}
use Rattle.lists.proofs.Lemmas.{after_set, false_true, is_equal as test_true, never_some, replicate_at, replicate_length, same_or_not, set_length, set_other, set_there, test_same, there as there_is, within}
use mathlib.Core.Bool.{beq}
use Rattle.graphs.specs.declared.cycles.Edge.{Edge}
use Rattle.graphs.specs.Cycles.Graph.{IsEdge, LeadsOn, at_once, onwards, AreRanks, AreOnCycles}
use Rattle.graphs.specs.Cycles.Links.{AreNumbers, are_same, inside, flagged, flags_of}
use Rattle.graphs.proofs.OfCycles.Lists.{same_some}
use Rattle.graphs.proofs.OfCycles.Ways.{edge_then}
use Rattle.graphs.proofs.OfCycles.Steps.{up_to_or_past}

both_are : (o u : Option ℕ) → are_same o u ≡ true → (r : ℕ) × (o ≡ Some r) × (u ≡ Some r)
both_are (Some a) (Some b) e = (b, ap Some (test_true a b e), refl)
both_are (Some a) None e = absurd (false_true e)
both_are None u e = absurd (false_true e)

are_both : (o u : Option ℕ) (r : ℕ) → o ≡ Some r → u ≡ Some r → are_same o u ≡ true
are_both o u r e f = subst (λ v. are_same v u ≡ true) (sym e) (subst (λ v. are_same (Some r) v ≡ true) (sym f) (test_same r))

module _ (numbers : List ℕ) where
  -- one of the edges leaves the node and stays within its component
  pub record HasInside (edges : List Edge) (i : ℕ) : Type 0 where
    pub place : ℕ
    pub edge : Edge
    pub there : slice_get edges place ≡ Some edge
    pub stays : inside numbers edge ≡ true
    pub from : edge.from ≡ i

  abbrev with_edge : Edge → Bool → List Bool → List Bool
  with_edge d b fs = cond b (set fs d.from true) fs

  one_length : (d : Edge) (b : Bool) (fs : List Bool) → length (with_edge d b fs) ≡ length fs
  one_length d true fs = set_length fs d.from true
  one_length d false fs = refl

  pub flagged_length : (ds : List Edge) (fs : List Bool) → length (flagged numbers ds fs) ≡ length fs
  flagged_length [] fs = refl
  flagged_length (d ∷ ds) fs = flagged_length ds (with_edge d (inside numbers d) fs) ∙ one_length d (inside numbers d) fs

  keeps_one : (d : Edge) (b : Bool) (fs : List Bool) (i : ℕ) → slice_get fs i ≡ Some true → slice_get (with_edge d b fs) i ≡ Some true
  keeps_one d true fs i e = elim (same_or_not d.from i) [ inl q ↦ subst (λ j. slice_get (set fs d.from true) j ≡ Some true) q (set_there fs d.from true (let l = within fs i true e in omega (arith, l, q))) | inr q ↦ set_other fs d.from i true q ∙ e ]
  keeps_one d false fs i e = e

  keeps : (ds : List Edge) (fs : List Bool) (i : ℕ) → slice_get fs i ≡ Some true → slice_get (flagged numbers ds fs) i ≡ Some true
  keeps [] fs i e = e
  keeps (d ∷ ds) fs i e = keeps ds (with_edge d (inside numbers d) fs) i (keeps_one d (inside numbers d) fs i e)

  first_in : (d : Edge) → inside numbers d ≡ true → d.from < length numbers
  first_in d e = let b = both_are (slice_get numbers d.from) (slice_get numbers d.to) e in within numbers d.from b.0 b.1

  sets_one : (d : Edge) (fs : List Bool) (i : ℕ) → length fs ≡ length numbers → (b : Bool) → inside numbers d ≡ b → b ≡ true → d.from ≡ i → slice_get (with_edge d b fs) i ≡ Some true
  sets_one d fs i all true e f q = subst (λ j. slice_get (set fs d.from true) j ≡ Some true) q (set_there fs d.from true (let l = first_in d e in omega (arith, l, all)))
  sets_one d fs i all false e f q = absurd (false_true f)

  sets : (ds : List Edge) (fs : List Bool) (i : ℕ) → length fs ≡ length numbers → (k : ℕ) (d : Edge) → slice_get ds k ≡ Some d → inside numbers d ≡ true → d.from ≡ i → slice_get (flagged numbers ds fs) i ≡ Some true
  sets [] fs i all k d t e q = absurd (never_some d t)
  sets (f ∷ ds) fs i all zero d t e q =
      let same = same_some f d t in
      let stays : inside numbers f ≡ true = subst (λ g. inside numbers g ≡ true) (sym same) e in
      keeps ds (with_edge f (inside numbers f) fs) i (sets_one f fs i all (inside numbers f) refl stays (ap (λ (g : Edge). g.from) same ∙ q))
  sets (f ∷ ds) fs i all (suc k) d t e q = sets ds (with_edge f (inside numbers f) fs) i (one_length f (inside numbers f) fs ∙ all) k d t e q

  was_one : (d : Edge) (b : Bool) (fs : List Bool) (i : ℕ) → slice_get (with_edge d b fs) i ≡ Some true → (slice_get fs i ≡ Some true) ⊎ ((b ≡ true) × (d.from ≡ i))
  was_one d true fs i e = elim (after_set fs d.from i true true e) [ inl h ↦ inr (refl, h.0) | inr h ↦ inl h.1 ]
  was_one d false fs i e = inl e

  was : (ds : List Edge) (fs : List Bool) (i : ℕ) → slice_get (flagged numbers ds fs) i ≡ Some true → (slice_get fs i ≡ Some true) ⊎ HasInside ds i
  was [] fs i e = inl e
  was (d ∷ ds) fs i e = elim (was ds (with_edge d (inside numbers d) fs) i e) [
    | inl h ↦ elim (was_one d (inside numbers d) fs i h) [ inl k ↦ inl k | inr k ↦ inr (record { place = 0; edge = d; there = refl; stays = k.0; from = k.1 }) ]
    | inr h ↦ inr (record { place = suc h.place; edge = h.edge; there = h.there; stays = h.stays; from = h.from })
  ]

  module _ (nodes : ℕ) (edges : List Edge) (h : AreNumbers nodes edges numbers) where
    number_at : (i : ℕ) → i < nodes → (r : ℕ) × (slice_get numbers i ≡ Some r)
    number_at i l = there_is numbers i (subst (λ n. i < n) (sym h.all) l)

    never_up : {a b : ℕ} → LeadsOn nodes edges a b → (r s : ℕ) → slice_get numbers a ≡ Some r → slice_get numbers b ≡ Some s → s ≤ r
    never_up {a} {b} (at_once e) r s p q = h.down a b r s e p q
    never_up {a} {b = c} (onwards {b = b} e k) r s p q =
        let t = number_at b e.ends in
        let one = h.down a b r t.0 e p t.1 in
        let more = never_up k t.0 s t.1 q in
        omega (arith, one, more)

    edge_inside : (a b r s : ℕ) → IsEdge nodes edges a b → slice_get numbers a ≡ Some r → slice_get numbers b ≡ Some s → r ≤ s → HasInside edges a
    edge_inside a b r s e p q l =
        let m = h.down a b r s e p q in
        let same : s ≡ r = omega (arith, l, m) in
        record { place = e.place; edge = record { from = a; to = b }; there = e.there; stays = are_both (slice_get numbers a) (slice_get numbers b) r p (q ∙ ap Some same); from = refl }

    from_cycle : {i j : ℕ} → LeadsOn nodes edges i j → i ≡ j → HasInside edges i
    from_cycle {i} {j} (at_once e) q =
        let r = number_at i e.begins in
        edge_inside i j r.0 r.0 e r.1 (subst (λ k. slice_get numbers k ≡ Some r.0) q r.1) (omega arith)
    from_cycle {i} {j} (onwards {b = b} e k) q =
        let r = number_at i e.begins in
        let s = number_at b e.ends in
        let l = never_up k s.0 r.0 s.1 (subst (λ k. slice_get numbers k ≡ Some r.0) q r.1) in
        edge_inside i b r.0 s.0 e r.1 s.1 l

    to_cycle : (i : ℕ) → HasInside edges i → LeadsOn nodes edges i i
    to_cycle i k =
        let b = both_are (slice_get numbers k.edge.from) (slice_get numbers k.edge.to) k.stays in
        let all = h.all in
        let begins = within numbers k.edge.from b.0 b.1 in
        let ends = within numbers k.edge.to b.0 b.2 in
        let edge : IsEdge nodes edges k.edge.from k.edge.to = record { place = k.place; there = k.there; begins = omega (arith, begins, all); ends = omega (arith, ends, all) } in
        subst (λ j. LeadsOn nodes edges j j) k.from (edge_then nodes edges k.edge.from k.edge.to k.edge.from edge (h.same k.edge.to k.edge.from b.0 b.2 b.1))

    was_inside : (i : ℕ) → slice_get (flags_of numbers edges) i ≡ Some true → HasInside edges i
    was_inside i e = elim (was edges (replicate (length numbers) false) i e) [ inl f ↦ absurd (false_true (replicate_at (length numbers) false i true f)) | inr k ↦ k ]

    is_flagged : (i : ℕ) → HasInside edges i → slice_get (flags_of numbers edges) i ≡ Some true
    is_flagged i k = sets edges (replicate (length numbers) false) i (replicate_length (length numbers) false) k.place k.edge k.there k.stays k.from

    pub are_on_cycles : (i : ℕ) → slice_get (flags_of numbers edges) i ≡ Some true → AreOnCycles nodes edges (flags_of numbers edges)
    are_on_cycles i e = record {
      all = flagged_length edges (replicate (length numbers) false) ∙ (replicate_length (length numbers) false ∙ h.all);
      each = λ j. ((λ f. to_cycle j (was_inside j f)), (λ k. is_flagged j (from_cycle k refl)));
      one = (i, e);
    }

    pub are_ranks : ((i : ℕ) → slice_get (flags_of numbers edges) i ≡ Some true → ⊥) → AreRanks nodes edges numbers
    are_ranks none = record {
      all = h.all;
      below = h.below;
      down = λ a b r s e p q. elim (up_to_or_past r s) [ inl l ↦ absurd (none a (is_flagged a (edge_inside a b r s e p q l))) | inr l ↦ l ];
    }

-- whether a flag is set

is_set : (b : Bool) → beq b true ≡ true → b ≡ true
is_set true e = refl
is_set false e = e

set_flag : (b : Bool) → b ≡ true → beq b true ≡ false → ⊥
set_flag true e f = absurd (false_true (sym f))
set_flag false e f = absurd (false_true e)

pub flag_set : (flags : List Bool) (i : ℕ) → i < length flags → beq (slice_index_or flags i false) true ≡ true → slice_get flags i ≡ Some true
flag_set flags i l e = slice_get-get_or flags i false l ∙ ap Some (is_set (slice_index_or flags i false) e)

pub no_flag : (flags : List Bool) → ((i : ℕ) (d : Bool) → 0 ≤ i → i < length flags → beq (slice_index_or flags i d) true ≡ false) → (i : ℕ) → slice_get flags i ≡ Some true → ⊥
no_flag flags h i e = set_flag (slice_index_or flags i false) (get_or_from_slice_get flags i true false e) (h i false (omega arith) (within flags i true e))
