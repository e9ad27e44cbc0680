-- What is at a place of a list, and lists of positions.
use Rattle.std.proofs.Common.{◌≡◌, ℕ, zero, suc, ◌+◌, ◌-◌, ◌<◌, ◌≤◌, ltb, List, [], ◌∷◌, ◌++◌, length, take, Bool, true, false, cond, Option, Some, None, ◌⊎◌, inl, inr, slice_get, refl, ap, subst, ◌∙◌, arith}
use Rattle.std.proofs.lemmas.Bool.Decides.{nat_tests}
use Rattle.lists.proofs.Lemmas.{is_below as is_above, is_from as is_not_above, never_some, there as there_is, within}
use Rattle.graphs.specs.Cycles.Search.{In, IsRising, cut, kept, front}

pub same_some : {A : Type 0} (x y : A) → Some x ≡ Some y → x ≡ y
same_some x y e = cc

-- a place that is written

-- a list that grew by one

-- the beginning of a list

pub take_there : {A : Type 0} (n : ℕ) (xs : List A) (i : ℕ) (x : A) → i < n → slice_get xs i ≡ Some x → slice_get (take n xs) i ≡ Some x
take_there zero xs i x h e = absurd (omega (arith, h))
take_there (suc n) [] i x h e = e
take_there (suc n) (y ∷ xs) zero x h e = e
take_there (suc n) (y ∷ xs) (suc i) x h e = take_there n xs i x (omega (arith, h)) e

pub after_take : {A : Type 0} (n : ℕ) (xs : List A) (i : ℕ) (x : A) → slice_get (take n xs) i ≡ Some x → (i < n) × (slice_get xs i ≡ Some x)
after_take zero xs i x e = absurd (never_some x e)
after_take (suc n) [] i x e = absurd (never_some x e)
after_take (suc n) (y ∷ xs) zero x e = (omega arith, e)
after_take (suc n) (y ∷ xs) (suc i) x e = let h = after_take n xs i x e in (omega (arith, h.0), h.1)

-- lists of positions

pub in_before : (xs : List ℕ) (t b : ℕ) → In xs b → In (xs ++ t ∷ []) b
in_before [] t b h = absurd h
in_before (x ∷ xs) t b (inl e) = inl e
in_before (x ∷ xs) t b (inr h) = inr (in_before xs t b h)

pub in_last : (xs : List ℕ) (t : ℕ) → In (xs ++ t ∷ []) t
in_last [] t = inl refl
in_last (x ∷ xs) t = inr (in_last xs t)

pub in_push : (xs : List ℕ) (t b : ℕ) → In (xs ++ t ∷ []) b → (t ≡ b) ⊎ In xs b
in_push [] t b (inl e) = inl e
in_push [] t b (inr h) = absurd h
in_push (x ∷ xs) t b (inl e) = inr (inl e)
in_push (x ∷ xs) t b (inr h) = elim (in_push xs t b h) [ inl e ↦ inl e | inr k ↦ inr (inr k) ]

pub rises_on : (xs : List ℕ) (t : ℕ) → IsRising xs → ((b : ℕ) → In xs b → b < t) → IsRising (xs ++ t ∷ [])
rises_on [] t h k = ((λ y i. absurd i), tt)
rises_on (x ∷ xs) t h k = ((λ y i. elim (in_push xs t y i) [ inl e ↦ subst (λ z. x < z) e (k x (inl refl)) | inr j ↦ h.0 y j ]), rises_on xs t h.1 (λ b i. k b (inr i)))

pub rose : (xs : List ℕ) (t : ℕ) → IsRising (xs ++ t ∷ []) → IsRising xs
rose [] t h = tt
rose (x ∷ xs) t h = ((λ y i. h.0 y (in_before xs t y i)), rose xs t h.1)

pub rose_to : (xs : List ℕ) (t : ℕ) → IsRising (xs ++ t ∷ []) → (b : ℕ) → In xs b → b < t
rose_to [] t h b i = absurd i
rose_to (x ∷ xs) t h b (inl e) = subst (λ z. z < t) e (h.0 t (in_last xs t))
rose_to (x ∷ xs) t h b (inr i) = rose_to xs t h.1 b i

last_at : (xs : List ℕ) (i t : ℕ) → length xs ≡ suc i → slice_get xs i ≡ Some t → xs ≡ take i xs ++ t ∷ []
last_at [] i t h e = absurd (never_some t e)
last_at (x ∷ []) zero t h e = ap (λ z. z ∷ []) (same_some x t e)
last_at (x ∷ y ∷ xs) zero t h e = absurd (omega (arith, h))
last_at (x ∷ xs) (suc i) t h e = ap (λ zs. x ∷ zs) (last_at xs i t (omega (arith, h)) e)

-- a list with a last element is what is before it, and that
pub last_of : (xs : List ℕ) (t : ℕ) → slice_get xs (length xs - 1) ≡ Some t → xs ≡ front xs ++ t ∷ []
last_of xs t e = let h = within xs (length xs - 1) t e in last_at xs (length xs - 1) t (omega (arith, h)) e

some_none : (o : Option ℕ) (x : ℕ) → o ≡ Some x → o ≡ None → ⊥
some_none o x e f = cc

pub no_last : (xs : List ℕ) → slice_get xs (length xs - 1) ≡ None → xs ≡ []
no_last [] e = refl
no_last (x ∷ xs) e =
    let h : length (x ∷ xs) - 1 < length (x ∷ xs) = omega arith in
    let t = there_is (x ∷ xs) (length (x ∷ xs) - 1) h in
    absurd (some_none (slice_get (x ∷ xs) (length (x ∷ xs) - 1)) t.0 t.1 e)

-- positions up to one

one_kept : (q x b : ℕ) (c : Bool) → ltb q x ≡ c → In (cond c [] (x ∷ [])) b → (x ≡ b) × (x ≤ q)
one_kept q x b true e h = absurd h
one_kept q x b false e (inl h) = (h, is_not_above q x e)
one_kept q x b false e (inr h) = absurd h

pub in_kept : (q x : ℕ) (ys : List ℕ) (b : ℕ) → In (kept q x ys) b → (x ≡ b) ⊎ In ys b
in_kept q x [] b h = inl (one_kept q x b (ltb q x) refl h).0
in_kept q x (y ∷ ys) b h = h

pub in_cut : (q : ℕ) (xs : List ℕ) (b : ℕ) → In (cut q xs) b → In xs b
in_cut q [] b h = h
in_cut q (x ∷ xs) b h = elim (in_kept q x (cut q xs) b h) [ inl e ↦ inl e | inr k ↦ inr (in_cut q xs b k) ]

keeps_one : (q x b : ℕ) (c : Bool) → ltb q x ≡ c → x ≡ b → b ≤ q → In (cond c [] (x ∷ [])) b
keeps_one q x b true e f h = let k : q < x = is_above q x e in absurd (omega (arith, k, f, h))
keeps_one q x b false e f h = inl f

keeps_first : (q x : ℕ) (ys : List ℕ) (b : ℕ) → x ≡ b → b ≤ q → In (kept q x ys) b
keeps_first q x [] b e h = keeps_one q x b (ltb q x) refl e h
keeps_first q x (y ∷ ys) b e h = inl e

keeps_later : (q x : ℕ) (ys : List ℕ) (b : ℕ) → In ys b → In (kept q x ys) b
keeps_later q x [] b h = absurd h
keeps_later q x (y ∷ ys) b h = inr h

pub cut_keeps : (q : ℕ) (xs : List ℕ) (b : ℕ) → In xs b → b ≤ q → In (cut q xs) b
cut_keeps q [] b h k = h
cut_keeps q (x ∷ xs) b (inl e) k = keeps_first q x (cut q xs) b e k
cut_keeps q (x ∷ xs) b (inr h) k = keeps_later q x (cut q xs) b (cut_keeps q xs b h k)

kept_rises : (q x : ℕ) (ys : List ℕ) → ((y : ℕ) → In ys y → x < y) → IsRising ys → IsRising (kept q x ys)
kept_rises q x [] h k = one_rises (ltb q x)
  where
    one_rises : (c : Bool) → IsRising (cond c [] (x ∷ []))
    one_rises true = tt
    one_rises false = ((λ y i. absurd i), tt)
kept_rises q x (y ∷ ys) h k = (h, k)

pub cut_rises : (q : ℕ) (xs : List ℕ) → IsRising xs → IsRising (cut q xs)
cut_rises q [] h = tt
cut_rises q (x ∷ xs) h = kept_rises q x (cut q xs) (λ y i. h.0 y (in_cut q xs y i)) (cut_rises q xs h.1)

kept_up_to : (q x : ℕ) (ys : List ℕ) → ((y : ℕ) → In ys y → x < y) → ((b : ℕ) → In ys b → b ≤ q) → (b : ℕ) → In (kept q x ys) b → b ≤ q
kept_up_to q x [] h k b i = let o = one_kept q x b (ltb q x) refl i in omega (arith, o.0, o.1)
kept_up_to q x (y ∷ ys) h k b (inl e) = let u = h y (inl refl) in let w = k y (inl refl) in omega (arith, u, w, e)
kept_up_to q x (y ∷ ys) h k b (inr i) = k b i

pub cut_up_to : (q : ℕ) (xs : List ℕ) → IsRising xs → (b : ℕ) → In (cut q xs) b → b ≤ q
cut_up_to q [] h b i = absurd i
cut_up_to q (x ∷ xs) h b i = kept_up_to q x (cut q xs) (λ y j. h.0 y (in_cut q xs y j)) (cut_up_to q xs h.1) b i

-- what `merge` does
pub cut_last : (q : ℕ) (xs : List ℕ) (t : ℕ) → q < t → cut q (xs ++ t ∷ []) ≡ cut q xs
cut_last q [] t h = grind (arith, nat_tests)
cut_last q (x ∷ xs) t h = ap (λ ys. kept q x ys) (cut_last q xs t h)

pub cut_none : (q : ℕ) (xs : List ℕ) (t : ℕ) → t ≤ q → cut q (xs ++ t ∷ []) ≡ xs ++ t ∷ []
cut_none q [] t h = grind (arith, nat_tests)
cut_none q (x ∷ xs) t h = ap (λ ys. kept q x ys) (cut_none q xs t h) ∙ longer xs
  where
    longer : (ys : List ℕ) → kept q x (ys ++ t ∷ []) ≡ x ∷ (ys ++ t ∷ [])
    longer [] = refl
    longer (y ∷ ys) = refl
