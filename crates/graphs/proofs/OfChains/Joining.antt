-- Chains that are followed in two stretches.
use Rattle.std.proofs.Common.{◌≡◌, ℕ, zero, suc, ◌+◌, ◌-◌, ◌<◌, ◌≤◌, List, [], ◌∷◌, ◌++◌, length, map, Some, refl, sym, ap, subst, ◌∙◌, ◌⊎◌, inl, inr, slice_get, slice_index_or, option_map, arith}
use Rattle.std.proofs.lemmas.Option.{slice_get-map}
use Rattle.graphs.specs.declared.chains.Link.{Link}
use Rattle.graphs.specs.declared.chains.Link.TheVariants as LinkV
use Rattle.graphs.specs.Chains.Chains.{AreEnds, end_by, end_within}
use Rattle.graphs.specs.Chains.Steps.{IsAfter, after, answer, joined, numbers_from, own_numbers}

as_many : {B : Type 0} (f : Link → B) (xs : List Link) → length (map f xs) ≡ length xs
as_many f [] = refl
as_many f (x ∷ xs) = ap suc (as_many f xs)

pub one_before : (xs : List Link) (x : Link) (ys : List Link) → (xs ++ x ∷ []) ++ ys ≡ xs ++ (x ∷ ys)
one_before [] x ys = refl
one_before (z ∷ xs) x ys = ap (λ (zs : List Link). z ∷ zs) (one_before xs x ys)

-- what is in a list, and past it

found : (xs : List Link) (i : ℕ) (d : Link) → i < length xs → slice_get xs i ≡ Some (slice_index_or xs i d)
found [] i d h = absurd (omega (arith, h))
found (x ∷ xs) zero d h = refl
found (x ∷ xs) (suc i) d h = found xs i d (omega (arith, h))

is_at : (xs : List Link) (i : ℕ) (d x : Link) → slice_get xs i ≡ Some x → slice_index_or xs i d ≡ x
is_at [] i d x e = cc
is_at (y ∷ xs) zero d x e = cc
is_at (y ∷ xs) (suc i) d x e = is_at xs i d x e

past : (xs : List Link) (i : ℕ) (d : Link) → length xs ≤ i → slice_index_or xs i d ≡ d
past [] i d h = refl
past (x ∷ xs) zero d h = absurd (omega (arith, h))
past (x ∷ xs) (suc i) d h = past xs i d (omega (arith, h))

module _ (links : List Link) where
  stays : (k a : ℕ) → after links k (LinkV.End a) ≡ LinkV.End a
  stays zero a = refl
  stays (suc k) a = stays k a

  -- a number of no link leads nowhere
  leads_nowhere : (k i : ℕ) → length links ≤ i → after links k (LinkV.Next i) ≡ LinkV.Next i
  leads_nowhere zero i h = refl
  leads_nowhere (suc k) i h = subst (λ l. after links k l ≡ LinkV.Next i) (sym (past links i (LinkV.Next i) h)) (leads_nowhere k i h)

  in_two : (a b c : ℕ) → c ≡ a + b → (l : Link) → after links c l ≡ after links b (after links a l)
  in_two zero b c e l =
      let same : c ≡ b = omega (arith, e) in
      ap (λ k. after links k l) same
  in_two (suc a) b zero e l = absurd (omega (arith, e))
  in_two (suc a) b (suc c) e l = in_two a b c (omega (arith, e)) (joined links l)

  within_or_past : (i n : ℕ) → (i < n) ⊎ (n ≤ i)
  within_or_past i zero = inr (omega arith)
  within_or_past zero (suc n) = inl (omega arith)
  within_or_past (suc i) (suc n) = elim (within_or_past i n) [ inl h ↦ inl (omega (arith, h)) | inr h ↦ inr (omega (arith, h)) ]

  -- a step by a list of stretches is a stretch
  stretch : (b : ℕ) (w : List Link) → IsAfter links b w → (l : Link) → joined w l ≡ after links b l
  stretch b w h (LinkV.End a) = sym (stays b a)
  stretch b w h (LinkV.Next i) = elim (within_or_past i (length links)) [ inl p ↦ is_at w i (LinkV.Next i) (after links b (LinkV.Next i)) (h.each i p) | inr p ↦ past w i (LinkV.Next i) (subst (λ n. n ≤ i) (sym h.all) p) ∙ sym (leads_nowhere b i p) ]

  pub joins : (a b c : ℕ) (v w : List Link) → c ≡ a + b → IsAfter links a v → IsAfter links b w → IsAfter links c (map (joined w) v)
  joins a b c v w e h k = record {
    all = as_many (joined w) v ∙ h.all;
    each = λ i p. slice_get-map (joined w) v i ∙ ap (option_map (joined w)) (h.each i p) ∙ ap Some (stretch b w k (after links a (LinkV.Next i)) ∙ sym (in_two a b c e (LinkV.Next i)));
  }

  pub once : IsAfter links 1 links
  once = record { all = refl; each = λ i p. found links i (LinkV.Next i) p }

  how_many : (i n : ℕ) → length (numbers_from i n) ≡ n
  how_many i zero = refl
  how_many i (suc n) = ap suc (how_many (suc i) n)

  number_at : (i n j : ℕ) → j < n → slice_get (numbers_from i n) j ≡ Some (LinkV.Next (i + j))
  number_at i zero j h = absurd (omega (arith, h))
  number_at i (suc n) zero h = ap (λ m. Some (LinkV.Next m)) (omega arith)
  number_at i (suc n) (suc j) h = number_at (suc i) n j (omega (arith, h)) ∙ ap (λ m. Some (LinkV.Next m)) (omega arith)

  pub at_first : IsAfter links 0 (own_numbers (length links))
  at_first = record { all = how_many 0 (length links); each = λ i p. number_at 0 (length links) i p ∙ ap (λ m. Some (LinkV.Next m)) (omega arith) }

  ended : (k : ℕ) (l : Link) → answer (after links k l) ≡ end_by (λ j. end_within links k j) l
  ended zero (LinkV.End a) = refl
  ended zero (LinkV.Next j) = refl
  ended (suc k) (LinkV.End a) = ended k (LinkV.End a)
  ended (suc k) (LinkV.Next j) = ended k (slice_index_or links j (LinkV.Next j))

  pub are_ends : (k : ℕ) (v : List Link) → IsAfter links k v → AreEnds links k (map answer v)
  are_ends k v h = record {
    all = as_many answer v ∙ h.all;
    each = λ i p. slice_get-map answer v i ∙ ap (option_map answer) (h.each i p) ∙ ap Some (ended k (LinkV.Next i));
  }

-- the numbers from one on
pub next_number : (i n : ℕ) → i < n → numbers_from i (n - i) ≡ LinkV.Next i ∷ numbers_from (i + 1) (n - (i + 1))
next_number i n h = ap (λ k. numbers_from i k) one ∙ ap (λ j. LinkV.Next i ∷ numbers_from j (n - (i + 1))) next
  where
    one : n - i ≡ suc (n - (i + 1))
    one = omega (arith, h)

    next : suc i ≡ i + 1
    next = omega arith
