-- What taking nodes in turn keeps, and that nothing that could be taken is left.
use Rattle.std.proofs.Common.{◌≡◌, ℕ, ◌+◌, ◌<◌, ◌≤◌, List, [], ◌∷◌, ◌++◌, length, get_or, set, replicate, Bool, true, false, Some, ◌⊎◌, inl, inr, slice_get, sym, ap, subst, ◌∙◌, arith}
use Rattle.std.specs.List.{All, Contains}
use Rattle.std.specs.List.Sorted.{IsNonDecreasingBy, IsPermutation}
use Rattle.std.proofs.lemmas.List.Elements.{All-contains, All-from_get_or}
use Rattle.std.proofs.lemmas.List.Sorted.{All-permutation, Contains-permutation}
use Rattle.std.proofs.lemmas.Option.{slice_get-get_or, get_or_from_slice_get}
use Rattle.lists.proofs.Lemmas.{after_push, after_set, never_some, push_before, push_there, replicate_at, set_other, set_there, there as there_is, within}
use Rattle.graphs.specs.declared.cycles.Edge.{Edge}
use Rattle.graphs.specs.declared.cycles.turns.Numbered.{Numbered}
use Rattle.graphs.specs.Cycles.Graph.{IsEdge, LeadsOn, at_once, onwards, IsBottomUp}
use Rattle.graphs.specs.Cycles.Links.{AreNumbers, Leads}
use Rattle.graphs.specs.Cycles.Turns.{AreNumbered, AreSorted, IsReady, IsHeld, IsIn, ComesLater, WasHeld, AreTaken, ArePlaced}
use Rattle.graphs.proofs.OfCycles.Lists.{same_some}

pub contains_in : {A : Type 0} (xs : List A) (x : A) → (i : ℕ) × (slice_get xs i ≡ Some x) → Contains xs x
contains_in xs x h = (h.0, within xs h.0 x h.1, get_or_from_slice_get xs h.0 x x h.1)

pub in_contains : {A : Type 0} (xs : List A) (x : A) → Contains xs x → (i : ℕ) × (slice_get xs i ≡ Some x)
in_contains xs x h = (h.0, slice_get-get_or xs h.0 x h.1 ∙ ap Some h.2)

-- low numbers first

module _ (numbers : List ℕ) (xs ys : List Numbered) (numbered : AreNumbered numbers (length numbers) xs) (moved : IsPermutation xs ys) (rise : IsNonDecreasingBy (λ (n : Numbered). n.number) ys) where
  numbered_at : (i : ℕ) (n : Numbered) → slice_get xs i ≡ Some n → slice_get numbers n.node ≡ Some n.number
  numbered_at i n e = let h = numbered.each i n e in subst (λ z. slice_get numbers z ≡ Some n.number) (sym h.0) h.1

  each_there : (i : ℕ) → i < length xs → slice_get numbers (get_or xs i (record { number = 0; node = 0 })).node ≡ Some (get_or xs i (record { number = 0; node = 0 })).number
  each_there i l = numbered_at i _ (slice_get-get_or xs i (record { number = 0; node = 0 }) l)

  all_numbered : All (λ (n : Numbered). slice_get numbers n.node ≡ Some n.number) ys
  all_numbered = All-permutation (λ (n : Numbered). slice_get numbers n.node ≡ Some n.number) xs ys moved (All-from_get_or (λ (n : Numbered). slice_get numbers n.node ≡ Some n.number) xs (record { number = 0; node = 0 }) each_there)

  one_there : (a c : ℕ) → slice_get numbers a ≡ Some c → (i : ℕ) × (slice_get xs i ≡ Some (record { number = c; node = a }))
  one_there a c e =
      let t = there_is xs a (subst (λ n. a < n) (sym numbered.all) (within numbers a c e)) in
      let h = numbered.each a t.0 t.1 in
      let same : c ≡ t.0.number = same_some c t.0.number (sym e ∙ h.1) in
      (a, t.1 ∙ ap Some (is_it t.0 a c h.0 same))
    where
      is_it : (n : Numbered) (a c : ℕ) → n.node ≡ a → c ≡ n.number → n ≡ record { number = c; node = a }
      is_it n a c p q = ap (λ z. record { number = n.number; node = z }) p ∙ ap (λ z. record { number = z; node = a }) (sym q)

  pub are_sorted : AreSorted numbers ys
  are_sorted = record {
    each = λ i n e. All-contains (λ (n : Numbered). slice_get numbers n.node ≡ Some n.number) ys n all_numbered (contains_in ys n (i, e));
    all = λ a c e. in_contains ys _ (Contains-permutation xs ys (record { number = c; node = a }) moved (contains_in xs _ (one_there a c e)));
    rising = λ i j m n e f l. subst (λ (z : Numbered). z.number ≤ n.number) (get_or_from_slice_get ys i m m e) (subst (λ (z : Numbered). (get_or ys i m).number ≤ z.number) (get_or_from_slice_get ys j n m f) (rise i j m l (within ys j n f)));
  }

-- a node goes into the order

module _ (nodes : ℕ) (edges : List Edge) (sorted : List Numbered) (k : ℕ) (placed : List Bool) (order : List ℕ) (n : Numbered) (there : slice_get sorted k ≡ Some n) (taken : AreTaken nodes edges sorted k order) (flags : ArePlaced placed order) where
  more : (count : ℕ) → count < k + 1 → (count ≡ k → ⊥) → count < k
  more count l u = omega (arith, l, u)

  at_hand : (m : Numbered) (j : ℕ) → j ≡ k → slice_get sorted j ≡ Some m → n ≡ m
  at_hand m j e h = same_some n m (sym there ∙ (ap (λ i. slice_get sorted i) (sym e) ∙ h))

  in_more : (a : ℕ) → IsIn order a → IsIn (order ++ n.node ∷ []) a
  in_more a i = (i.0, push_before order n.node i.0 a i.1)

  module _ (fits : n.node < nodes) (as_many : length placed ≡ nodes) (ready : IsReady nodes edges placed n.node) where
    none_twice : (i : ℕ) → slice_get order i ≡ Some n.node → ⊥
    none_twice i e = ready.fresh (flags.flagged_so i n.node e)

    grown_left : (j : ℕ) (m : Numbered) → IsIn order m.node ⊎ WasHeld nodes edges sorted order j m.node → j ≤ k → IsIn (order ++ n.node ∷ []) m.node ⊎ WasHeld nodes edges sorted (order ++ n.node ∷ []) j m.node
    grown_left j m (inl i) l = inl (in_more m.node i)
    grown_left j m (inr w) l = inr (record {
      by = w.by;
      edge = w.edge;
      if_in = λ i. elim (after_push order n.node i.0 w.by i.1) [
        | inl e ↦ record { place = k; later = l; what = n; there = there; is = e.1 }
        | inr e ↦ w.if_in (i.0, e)
      ];
    })

    pub takes : AreTaken nodes edges sorted (k + 1) (order ++ n.node ∷ [])
    takes = record {
      within = λ i a e. elim (after_push order n.node i a e) [ inl h ↦ subst (λ z. z < nodes) h.1 fits | inr h ↦ taken.within i a h ];
      once = λ i j a e f. elim (after_push order n.node i a e) [
        | inl h ↦ elim (after_push order n.node j a f) [ inl u ↦ sym h.0 ∙ u.0 | inr u ↦ absurd (none_twice j (u ∙ ap Some (sym h.1))) ]
        | inr h ↦ elim (after_push order n.node j a f) [ inl u ↦ absurd (none_twice i (h ∙ ap Some (sym u.1))) | inr u ↦ taken.once i j a h u ]
      ];
      after = λ i a b e d. elim (after_push order n.node i a e) [
        | inl h ↦ (
            let p = flags.in_order b (ready.below b (subst (λ z. IsEdge nodes edges z b) (sym h.1) d)) in
            let l = within order p.0 b p.1 in
            (p.0, subst (λ z. p.0 < z) h.0 l, push_before order n.node p.0 b p.1))
        | inr h ↦ (let p = taken.after i a b h d in (p.0, p.1, push_before order n.node p.0 b p.2))
      ];
      left = λ j m l e. elim (at_most j l) [
        | inl q ↦ inl (length order, push_there order n.node ∙ ap (λ (z : Numbered). Some z.node) (at_hand m j q e))
        | inr q ↦ grown_left j m (taken.left j m q e) (omega (arith, q))
      ];
    }
      where
        at_most : (j : ℕ) → j < k + 1 → (j ≡ k) ⊎ (j < k)
        at_most j l = grind arith

    pub places : ArePlaced (set placed n.node true) (order ++ n.node ∷ [])
    places = record {
      in_order = λ a e. elim (after_set placed n.node a true true e) [
        | inl h ↦ (length order, push_there order n.node ∙ ap Some h.0)
        | inr h ↦ in_more a (flags.in_order a h.1)
      ];
      flagged_so = λ i a e. elim (after_push order n.node i a e) [
        | inl h ↦ subst (λ z. slice_get (set placed n.node true) z ≡ Some true) h.1 (set_there placed n.node true (subst (λ z. n.node < z) (sym as_many) fits))
        | inr h ↦ stays a (flags.flagged_so i a h)
      ];
    }
      where
        stays : (a : ℕ) → slice_get placed a ≡ Some true → slice_get (set placed n.node true) a ≡ Some true
        stays a e = set_other placed n.node a true (λ q. ready.fresh (subst (λ z. slice_get placed z ≡ Some true) (sym q) e)) ∙ e

  pub passes : (slice_get placed n.node ≡ Some true) ⊎ IsHeld nodes edges placed n.node → AreTaken nodes edges sorted (k + 1) order
  passes h = record {
    within = taken.within;
    once = taken.once;
    after = taken.after;
    left = λ j m l e. elim (at_most j l) [
      | inl q ↦ subst (λ (z : Numbered). IsIn order z.node ⊎ WasHeld nodes edges sorted order j z.node) (at_hand m j q e) (here j h)
      | inr q ↦ taken.left j m q e
    ];
  }
    where
      at_most : (j : ℕ) → j < k + 1 → (j ≡ k) ⊎ (j < k)
      at_most j l = grind arith

      here : (j : ℕ) → (slice_get placed n.node ≡ Some true) ⊎ IsHeld nodes edges placed n.node → IsIn order n.node ⊎ WasHeld nodes edges sorted order j n.node
      here j (inl p) = inl (flags.in_order n.node p)
      here j (inr w) = inr (record { by = w.by; edge = w.edge; if_in = λ i. absurd (w.not_yet (flags.flagged_so i.0 w.by i.1)) })

-- all were taken

module _ (nodes : ℕ) (edges : List Edge) (numbers : List ℕ) (sorted : List Numbered) (order : List ℕ) (are : AreNumbers nodes edges numbers) (low_first : AreSorted numbers sorted) (taken : AreTaken nodes edges sorted (length sorted) order) where
  below_in : {a b : ℕ} → LeadsOn nodes edges a b → IsIn order a → IsIn order b
  below_in {a} {b} (at_once e) i = let p = taken.after i.0 a b i.1 e in (p.0, p.2)
  below_in {a} {b = c} (onwards {b = b} e h) i = let p = taken.after i.0 a b i.1 e in below_in h (p.0, p.2)

  all_below_in : (a b : ℕ) → Leads nodes edges a b → IsIn order a → IsIn order b
  all_below_in a b (inl e) i = subst (λ z. IsIn order z) e i
  all_below_in a b (inr h) i = below_in h i

  no_later : (a c k b : ℕ) → slice_get numbers a ≡ Some c → slice_get sorted k ≡ Some (record { number = c; node = a }) → IsEdge nodes edges a b → IsIn order b → ComesLater sorted k b → IsIn order a
  no_later a c k b e s d i h =
      let at_b : slice_get numbers b ≡ Some h.what.number = subst (λ z. slice_get numbers z ≡ Some h.what.number) h.is (low_first.each h.place h.what h.there) in
      let up = low_first.rising k h.place (record { number = c; node = a }) h.what s h.there h.later in
      let down = are.down a b c h.what.number d e at_b in
      let same : h.what.number ≡ c = omega (arith, up, down) in
      all_below_in b a (are.same b a c (subst (λ z. slice_get numbers b ≡ Some z) same at_b) e) i

  pub is_bottom_up : IsBottomUp nodes edges order
  is_bottom_up = record {
    within = taken.within;
    once = taken.once;
    after = taken.after;
    others = λ a l out.
        let n = there_is numbers a (subst (λ z. a < z) (sym are.all) l) in
        let s = low_first.all a n.0 n.1 in
        elim (taken.left s.0 (record { number = n.0; node = a }) (within sorted s.0 _ s.1) s.1) [
          | inl i ↦ absurd (out (contains_in order a i))
          | inr w ↦ (w.by, w.edge, λ i. out (contains_in order a (no_later a n.0 s.0 w.by n.1 s.1 w.edge (in_contains order w.by i) (w.if_in (in_contains order w.by i)))))
        ];
  }

pub nothing_taken : (nodes : ℕ) (edges : List Edge) (sorted : List Numbered) → AreTaken nodes edges sorted 0 []
nothing_taken nodes edges sorted = record {
  within = λ i a e. absurd (never_some a e);
  once = λ i j a e f. absurd (never_some a e);
  after = λ i a b e d. absurd (never_some a e);
  left = λ k n l e. absurd (omega (arith, l));
}

pub none_placed : (n : ℕ) → ArePlaced (replicate n false) []
none_placed n = record {
  in_order = λ a e. absurd (not_true (replicate_at n false a true e));
  flagged_so = λ i a e. absurd (never_some a e);
}
  where
    not_true : false ≡ true → ⊥
    not_true e = cc

pub sorted_within : (nodes : ℕ) (edges : List Edge) (numbers : List ℕ) (sorted : List Numbered) → AreNumbers nodes edges numbers → AreSorted numbers sorted → (i : ℕ) (n : Numbered) → slice_get sorted i ≡ Some n → n.node < nodes
sorted_within nodes edges numbers sorted are low_first i n e = subst (λ z. n.node < z) are.all (within numbers n.node n.number (low_first.each i n e))
