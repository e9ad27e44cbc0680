-- Names by their places in a list.
use Rattle.std.proofs.Common.{◌≡◌, ℕ, zero, suc, ◌+◌, ◌≤◌, inl, inr, List, [], ◌∷◌, Some, refl, sym, ap, subst, ◌∙◌, slice_get, slice_index_or, arith}
use Rattle.std.specs.Prelude.{Contains}
use Rattle.lists.proofs.Lemmas.{IsIn, from_contains, to_contains, to_get}
use Rattle.cddl_meaning.specs.Alike.{AlikeAll, none, both}

-- each with its place, from this one on
abbrev pub placed : {A : Type 0} → ℕ → List A → List (A × ℕ)
placed i [] = []
placed i (x ∷ xs) = (x, i) ∷ placed (suc i) xs

module _ {A : Type 0} where
  same_pair : (x y : A) (i j : ℕ) → x ≡ y → i ≡ j → ◌≡◌ {A = A × ℕ} (x, i) (y, j)
  same_pair x y i j e f = ap (λ (z : A). (z, i)) e ∙ ap (λ (k : ℕ). (y, k)) f

  put : (i : ℕ) (xs : List A) (j : ℕ) (x : A) → slice_get xs j ≡ Some x → IsIn (x, i + j) (placed i xs)
  put i [] j x e = cc
  put i (y ∷ ys) zero x e = inl (same_pair x y (i + 0) i same (omega arith))
    where
      same : x ≡ y
      same = cc
  put i (y ∷ ys) (suc j) x e = inr (subst (λ k. IsIn (x, k) (placed (suc i) ys)) moved (put (suc i) ys j x e))
    where
      moved : suc i + j ≡ i + suc j
      moved = omega arith

  got : (i : ℕ) (xs : List A) (k : ℕ) (x : A) → IsIn (x, k) (placed i xs) → (j : ℕ) × (k ≡ i + j) × (slice_get xs j ≡ Some x)
  got i [] k x h = absurd h
  got i (y ∷ ys) k x (inl e) = (0, let f = ap (λ (p : A × ℕ). p.1) e in omega (arith, f), ap Some (sym (ap (λ (p : A × ℕ). p.0) e)))
  got i (y ∷ ys) k x (inr h) = let r = got (suc i) ys k x h in (suc r.0, let e = r.1 in omega (arith, e), r.2)

  abbrev pub IsPlaced : List A → A → ℕ → Type 0
  IsPlaced xs x k = Contains (placed 0 xs) (x, k)

  pub to_place : (xs : List A) (x : A) (k : ℕ) → slice_get xs k ≡ Some x → IsPlaced xs x k
  to_place xs x k e = to_contains (placed 0 xs) (x, k) (subst (λ j. IsIn (x, j) (placed 0 xs)) (omega arith) (put 0 xs k x e))

  pub at_place : (xs : List A) (x : A) (k : ℕ) → IsPlaced xs x k → slice_get xs k ≡ Some x
  at_place xs x k c = let r = got 0 xs k x (from_contains (placed 0 xs) (x, k) c) in subst (λ j. slice_get xs j ≡ Some x) (let e = r.1 in omega (arith, e)) r.2

  pub has_place : (xs : List A) (x : A) → IsIn x xs → (k : ℕ) × IsPlaced xs x k
  has_place xs x i = let r = to_get xs x i in (r.0, to_place xs x r.0 r.1)

module _ {A B : Type 0} (R : A → B → Type 0) where
  pub alike_at : (xs : List A) (ys : List B) → AlikeAll R xs ys → (k : ℕ) (x : A) → slice_get xs k ≡ Some x → (y : B) × (slice_get ys k ≡ Some y) × R x y
  alike_at xs ys none k x e = cc
  alike_at xs ys (both {n = n} {m = m} h hs) zero x e = (m, refl, subst (λ z. R z m) same h)
    where
      same : n ≡ x
      same = cc
  alike_at xs ys (both {ns = ns} {ms = ms} h hs) (suc k) x e = alike_at ns ms hs k x e

  pub alike_back : (xs : List A) (ys : List B) → AlikeAll R xs ys → (k : ℕ) (y : B) → slice_get ys k ≡ Some y → (x : A) × (slice_get xs k ≡ Some x)
  alike_back xs ys none k y e = cc
  alike_back xs ys (both {n = n} h hs) zero y e = (n, refl)
  alike_back xs ys (both {ns = ns} {ms = ms} h hs) (suc k) y e = alike_back ns ms hs k y e

  pub made : (xs : List A) → ((x : A) → IsIn x xs → (y : B) × R x y) → (ys : List B) × AlikeAll R xs ys
  made [] f = ([], none)
  made (x ∷ xs) f =
      let y = f x (inl refl) in
      let r = made xs (λ z i. f z (inr i)) in
      (y.0 ∷ r.0, both y.1 r.1)

-- numbers in lists

abbrev pub total : List ℕ → ℕ
total [] = 0
total (n ∷ ns) = n + total ns

pub within_total : (ns : List ℕ) (i : ℕ) → slice_index_or ns i 0 ≤ total ns
within_total [] zero = omega arith
within_total [] (suc i) = omega arith
within_total (n ∷ ns) zero = omega arith
within_total (n ∷ ns) (suc i) = let h : slice_index_or ns i 0 ≤ total ns = within_total ns i in omega (arith, h)

pub number_at : (ns : List ℕ) (i n : ℕ) → slice_get ns i ≡ Some n → n ≡ slice_index_or ns i 0
number_at [] i n e = cc
number_at (m ∷ ns) zero n e = same
  where
    same : n ≡ m
    same = cc
number_at (m ∷ ns) (suc i) n e = number_at ns i n e
