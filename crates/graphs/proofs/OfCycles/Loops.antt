-- What the loops keep: where edges are linked, positions are taken from the end, and a component is closed.
use Rattle.std.proofs.Common.{◌≡◌, ℕ, ◌+◌, ◌-◌, ◌<◌, ◌≤◌, List, [], ◌∷◌, ◌++◌, length, map, take, set, Option, Some, None, inl, inr, slice_get, refl, sym, ap, subst, ◌∙◌, arith}
use Rattle.std.proofs.lemmas.List.{take-append-le}
use Rattle.lists.proofs.Lemmas.{after_push, after_set, push_before, push_length, push_there, set_length, set_other, within}
use Rattle.graphs.specs.declared.cycles.Edge.{Edge}
use Rattle.graphs.specs.declared.cycles.search.Mark.{Mark}
use Rattle.graphs.specs.declared.cycles.search.Mark.TheVariants.{Open, Done}
use Rattle.graphs.specs.Cycles.Links.{Joins, IsLast, AreHeads, AreLinks}
use Rattle.graphs.specs.Cycles.Search.{ArePlaces, cut, front, shut}
use Rattle.graphs.proofs.OfCycles.Lists.{same_some, last_of, cut_last, cut_none}
use Rattle.graphs.proofs.OfCycles.Marks.{one_mark, open_done, one_open, shut_twice, none_to_shut}

-- positions

pub cut_done : (q : ℕ) (xs : List ℕ) (t : ℕ) → slice_get xs (length xs - 1) ≡ Some t → t ≤ q → cut q xs ≡ xs
cut_done q xs t e l = let split = last_of xs t e in ap (cut q) split ∙ (cut_none q (front xs) t l ∙ sym split)

pub cut_more : (q : ℕ) (xs : List ℕ) (t : ℕ) → slice_get xs (length xs - 1) ≡ Some t → q < t → cut q (front xs) ≡ cut q xs
cut_more q xs t e l = let split = last_of xs t e in sym (cut_last q (front xs) t l) ∙ sym (ap (cut q) split)

-- a component

module _ (marks : List Mark) (opened rest : List ℕ) (x p c : ℕ) (split : opened ≡ rest ++ x ∷ []) (places : ArePlaces (length marks) marks opened) where
  last_open : slice_get marks x ≡ Some (Open (length rest))
  last_open = places.there (length rest) x (ap (λ (xs : List ℕ). slice_get xs (length rest)) split ∙ push_there rest x)

  pub last_within : x < length marks
  last_within = within marks x (Open (length rest)) last_open

  other : (q y : ℕ) → slice_get rest q ≡ Some y → x ≡ y → ⊥
  other q y e f =
      let opens : slice_get marks y ≡ Some (Open q) = places.there q y (ap (λ (xs : List ℕ). slice_get xs q) split ∙ push_before rest x q y e) in
      let same = one_open (length rest) q (one_mark _ (Open (length rest)) (Open q) (subst (λ z. slice_get marks z ≡ Some (Open (length rest))) f last_open) opens) in
      let l = within rest q y e in
      absurd (omega (arith, same, l))

  pub places_left : ArePlaces (length (set marks x (Done c))) (set marks x (Done c)) rest
  places_left = record {
    all = refl;
    there = λ q y e. set_other marks x y (Done c) (other q y e) ∙ places.there q y (ap (λ (xs : List ℕ). slice_get xs q) split ∙ push_before rest x q y e);
    back = λ q y e. elim (after_set marks x y (Done c) (Open q) e) [
      | inl h ↦ absurd (open_done q c (sym h.1))
      | inr h ↦ elim (after_push rest x q y (sym (ap (λ (xs : List ℕ). slice_get xs q) split) ∙ places.back q y h.1)) [ inl k ↦ absurd (h.0 k.1) | inr k ↦ k ]
    ];
  }

  longer : length opened ≡ length rest + 1
  longer = ap length split ∙ push_length rest x

  pub same_marks : p < length opened → map (shut p c) (set marks x (Done c)) ≡ map (shut p c) marks
  same_marks l = shut_twice p c marks x (length rest) last_open (omega (arith, l, longer))

  pub same_opened : p < length opened → take p rest ≡ take p opened
  same_opened l = sym (ap (take p) split ∙ take-append-le p rest (x ∷ []) (omega (arith, l, longer)))

pub all_shut : (marks : List Mark) (opened : List ℕ) (n p c : ℕ) → ArePlaces n marks opened → length opened ≤ p → marks ≡ map (shut p c) marks
all_shut marks opened n p c places l = sym (none_to_shut p c marks (λ x q e. let h = within opened q x (places.back q x e) in omega (arith, h, l)))

-- links

module _ (nodes : ℕ) (edges : List Edge) (heads links : List (Option ℕ)) (k : ℕ) (d : Edge) (there : slice_get edges k ≡ Some d) (heads_are : AreHeads nodes edges k heads) (links_are : AreLinks nodes edges links) (as_many : length links ≡ k) where
  edge_is : (a b : ℕ) → Joins nodes edges k a b → record { from = a; to = b } ≡ d
  edge_is a b j = same_some (record { from = a; to = b }) d (sym j.there ∙ there)

  one_more : (a : ℕ) (o : Option ℕ) → ((b : ℕ) → Joins nodes edges k a b → ⊥) → IsLast nodes edges a k o → IsLast nodes edges a (k + 1) o
  one_more a None n h = λ e b j l. h e b j (before e b j l)
    where
      before : (e b : ℕ) → Joins nodes edges e a b → e < k + 1 → e < k
      before e b j l = let u : e ≡ k → ⊥ = λ q. n b (subst (λ f. Joins nodes edges f a b) q j) in omega (arith, u, l)
  one_more a (Some f) n h = record {
    to = h.to;
    joins = h.joins;
    below = let l = h.below in omega (arith, l);
    last = λ e b j l. h.last e b j (before e b j l);
  }
    where
      before : (e b : ℕ) → Joins nodes edges e a b → e < k + 1 → e < k
      before e b j l = let u : e ≡ k → ⊥ = λ q. n b (subst (λ f. Joins nodes edges f a b) q j) in omega (arith, u, l)

  new_links : (v : Option ℕ) → ((a b : ℕ) → Joins nodes edges k a b → IsLast nodes edges a k v) → AreLinks nodes edges (links ++ v ∷ [])
  new_links v h = record {
    each = λ e a b o j t. elim (after_push links v e o t) [
      | inl q ↦ (let same : k ≡ e = sym as_many ∙ q.0 in subst (λ u. IsLast nodes edges a e u) q.1 (subst (λ f. IsLast nodes edges a f v) same (h a b (subst (λ f. Joins nodes edges f a b) (sym same) j))))
      | inr q ↦ links_are.each e a b o j q
    ];
  }

  -- the edge is between nodes

  pub heads_with : d.from < nodes → d.to < nodes → AreHeads nodes edges (k + 1) (set heads d.from (Some k))
  heads_with l m = record {
    all = set_length heads d.from (Some k) ∙ heads_are.all;
    each = λ a o t. elim (after_set heads d.from a (Some k) o t) [
      | inl q ↦ subst (λ u. IsLast nodes edges a (k + 1) u) q.1 (subst (λ c. IsLast nodes edges c (k + 1) (Some k)) q.0 (record { to = d.to; joins = record { there = there; begins = l; ends = m }; below = omega arith; last = λ e b j h. omega (arith, h) }))
      | inr q ↦ one_more a o (λ b j. q.0 (sym (ap (λ (z : Edge). z.from) (edge_is a b j)))) (heads_are.each a o q.1)
    ];
  }

  pub links_with : (v : Option ℕ) → slice_get heads d.from ≡ Some v → AreLinks nodes edges (links ++ v ∷ [])
  links_with v e = new_links v (λ a b j. subst (λ c. IsLast nodes edges c k v) (sym (ap (λ (z : Edge). z.from) (edge_is a b j))) (heads_are.each d.from v e))

  -- an end of the edge is no node

  no_edge : (d.from < nodes → d.to < nodes → ⊥) → (a b : ℕ) → Joins nodes edges k a b → ⊥
  no_edge n a b j = n (subst (λ c. c < nodes) (ap (λ (z : Edge). z.from) (edge_is a b j)) j.begins) (subst (λ c. c < nodes) (ap (λ (z : Edge). z.to) (edge_is a b j)) j.ends)

  pub heads_without : (d.from < nodes → d.to < nodes → ⊥) → AreHeads nodes edges (k + 1) heads
  heads_without n = record { all = heads_are.all; each = λ a o t. one_more a o (λ b j. no_edge n a b j) (heads_are.each a o t) }

  pub links_without : (v : Option ℕ) → (d.from < nodes → d.to < nodes → ⊥) → AreLinks nodes edges (links ++ v ∷ [])
  links_without v n = new_links v (λ a b j. absurd (no_edge n a b j))
