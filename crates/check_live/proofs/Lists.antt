-- Places in lists.
use Rattle.std.proofs.Common.{◌≡◌, ◌≢◌, ℕ, zero, suc, ◌+◌, ◌<◌, Bool, true, false, ◌||◌, ◌⊎◌, inl, inr, not, nat_lt, cond, List, [], ◌∷◌, ◌++◌, length, drop, get_or, Option, Some, None, option_map, IfSome, IfNone, if◌then◌else◌, slice_get, refl, sym, ap, subst, ◌∙◌, arith, true≢false}
use Rattle.std.specs.List.{Contains, list_any, position, position_or_len}
use Rattle.std.proofs.Math.Dec.{leb-suc-suc, leb-zero}
use Rattle.std.proofs.Math.Seq.{drop-cons}
use Rattle.std.proofs.lemmas.Option.{get_or_from_slice_get, slice_get_read, slice_get_within}
use Rattle.indexmap.specs.IndexSet.{insert_key}
use Rattle.check_terms.specs.Table.{AreDistinct}

module _ {A : Type 0} where
  pub contained : (xs : List A) (k : ℕ) (x : A) → slice_get xs k ≡ Some x → Contains xs x
  contained xs k x e = (k, slice_get_within xs k x e, get_or_from_slice_get xs k x x e)

  pub place_of : (xs : List A) (x : A) → Contains xs x → (k : ℕ) × (slice_get xs k ≡ Some x)
  place_of xs x h = (h.0, slice_get_read xs (length xs) h.0 x refl h.1 (sym h.2))

  pub element : (xs : List A) (k : ℕ) → k < length xs → (x : A) × (slice_get xs k ≡ Some x)
  element [] k h = absurd (omega (arith, h))
  element (x ∷ xs) zero h = (x, refl)
  element (x ∷ xs) (suc k) h = element xs k (omega (arith, h))

  pub one_of : (o : Option A) (x y : A) → o ≡ Some x → o ≡ Some y → x ≡ y
  one_of o x y e f = cc

  pub get_added : (xs : List A) (x : A) → slice_get (xs ++ x ∷ []) (length xs) ≡ Some x
  get_added [] x = refl
  get_added (y ∷ xs) x = get_added xs x

  pub get_before : (xs ys : List A) (i : ℕ) (x : A) → slice_get xs i ≡ Some x → slice_get (xs ++ ys) i ≡ Some x
  get_before [] ys i x e = cc
  get_before (y ∷ xs) ys zero x e = e
  get_before (y ∷ xs) ys (suc i) x e = get_before xs ys i x e

  pub get_after : (xs ys : List A) (j i : ℕ) (x : A) → i ≡ length xs + j → slice_get ys j ≡ Some x → slice_get (xs ++ ys) i ≡ Some x
  get_after [] ys j i x h e =
      let same : j ≡ i = omega (arith, h) in
      subst (λ a. slice_get ys a ≡ Some x) same e
  get_after (y ∷ xs) ys j zero x h e = absurd (omega (arith, h))
  get_after (y ∷ xs) ys j (suc i) x h e = get_after xs ys j i x (omega (arith, h)) e

  -- what was read at a place within the list
  pub get_there : (xs ys : List A) (k : ℕ) (d : A) → ys ≡ xs → k < length ys → slice_get xs k ≡ Some (get_or ys k d)
  get_there xs ys k d e l = subst (λ zs. slice_get zs k ≡ Some (get_or ys k d)) e (go ys k l)
    where
      go : (zs : List A) (j : ℕ) → j < length zs → slice_get zs j ≡ Some (get_or zs j d)
      go [] j m = absurd (omega (arith, m))
      go (z ∷ zs) zero m = refl
      go (z ∷ zs) (suc j) m = go zs j (omega (arith, m))

  -- in the first list, or in the second
  pub get_either : (xs ys : List A) (i : ℕ) (x : A) → slice_get (xs ++ ys) i ≡ Some x → (slice_get xs i ≡ Some x) ⊎ ((j : ℕ) × ((i ≡ length xs + j) × (slice_get ys j ≡ Some x)))
  get_either [] ys i x e = inr (i, (omega arith, e))
  get_either (y ∷ xs) ys zero x e = inl e
  get_either (y ∷ xs) ys (suc i) x e = elim (get_either xs ys i x e) [ inl h ↦ inl h | inr h ↦ inr (h.0, ((let m = h.1.0 in omega (arith, m)), h.1.1)) ]

  -- before the last one, or the last one
  pub get_cases : (xs : List A) (y : A) (i : ℕ) (x : A) → slice_get (xs ++ y ∷ []) i ≡ Some x → (slice_get xs i ≡ Some x) ⊎ ((i ≡ length xs) × (x ≡ y))
  get_cases [] y zero x e = inr (refl, cc)
  get_cases [] y (suc i) x e = cc
  get_cases (z ∷ xs) y zero x e = inl e
  get_cases (z ∷ xs) y (suc i) x e = elim (get_cases xs y i x e) [ inl h ↦ inl h | inr h ↦ inr (ap suc h.0, h.1) ]

  pub next_drop : (xs : List A) (i : ℕ) (x : A) → i < length xs → x ≡ get_or xs i x → drop i xs ≡ x ∷ drop (i + 1) xs
  next_drop xs i x h e = drop-cons xs i x h ∙ ap (λ (y : A). y ∷ drop (suc i) xs) (sym e) ∙ ap (λ j. x ∷ drop j xs) step
    where
      step : suc i ≡ i + 1
      step = omega arith

  distinct_added : (xs : List A) (x : A) → ((i : ℕ) → slice_get xs i ≢ Some x) → AreDistinct xs → AreDistinct (xs ++ x ∷ [])
  distinct_added xs x missing distinct i j y e f = go (get_cases xs x i y e) (get_cases xs x j y f)
    where
      go : (slice_get xs i ≡ Some y) ⊎ ((i ≡ length xs) × (y ≡ x)) → (slice_get xs j ≡ Some y) ⊎ ((j ≡ length xs) × (y ≡ x)) → i ≡ j
      go (inl h) (inl k) = distinct i j y h k
      go (inl h) (inr k) = absurd (missing i (h ∙ ap Some k.1))
      go (inr h) (inl k) = absurd (missing j (k ∙ ap Some h.1))
      go (inr h) (inr k) = cc

later : (t : Bool) (p n : ℕ) → cond (nat_lt (cond (not t) (1 + p) 0) (suc n)) (Some (cond (not t) (1 + p) 0)) None ≡ (if t then Some 0 else option_map suc (cond (nat_lt p n) (Some p) None))
later true p n = subst (λ l. cond {A = Option ℕ} l (Some 0) None ≡ Some 0) (sym (leb-suc-suc zero n ∙ leb-zero n)) refl
later false p n = subst (λ q. cond (nat_lt q (suc n)) (Some q) None ≡ option_map suc (cond (nat_lt p n) (Some p) None)) one_more (subst (λ l. cond l (Some (suc p)) None ≡ option_map suc (cond (nat_lt p n) (Some p) None)) (sym (leb-suc-suc (suc p) n)) (by (nat_lt p n)))
  where
    one_more : suc p ≡ 1 + p
    one_more = omega arith

    by : (l : Bool) → cond l (Some (suc p)) None ≡ option_map suc (cond l (Some p) None)
    by true = refl
    by false = refl

-- the first key that passes a test is the first one, or it is looked for further on
step : {A : Type 0} (p : A → Bool) (x : A) (xs : List A) → position p (x ∷ xs) ≡ (if p x then Some 0 else option_map suc (position p xs))
step p x xs = later (p x) (position_or_len p xs) (length xs)

module _ {A : Type 0} (eq : A → A → Bool) (alike : (x : A) → eq x x ≡ true) (same : (x y : A) → eq x y ≡ true → x ≡ y) where
  abbrev pub IsFoundAt : List A → A → Option ℕ → Type 0
  IsFoundAt ks k o = IfSome o (λ i. slice_get ks i ≡ Some k)

  pub found_at : (ks : List A) (k : A) → IsFoundAt ks k (position (eq k) ks)
  found_at [] k = tt
  found_at (x ∷ ks) k = subst (IsFoundAt (x ∷ ks) k) (sym (step (eq k) x ks)) (by (eq k x) refl (position (eq k) ks) (found_at ks k))
    where
      by : (t : Bool) → eq k x ≡ t → (o : Option ℕ) → IsFoundAt ks k o → IsFoundAt (x ∷ ks) k (if t then Some 0 else option_map suc o)
      by true e o h = ap Some (sym (same k x e))
      by false e None h = tt
      by false e (Some i) h = h

  abbrev pub IsMissing : List A → A → Option ℕ → Type 0
  IsMissing ks k o = IfNone o ((i : ℕ) → slice_get ks i ≢ Some k)

  pub missing : (ks : List A) (k : A) → IsMissing ks k (position (eq k) ks)
  missing [] k = λ i e. cc
  missing (x ∷ ks) k = subst (IsMissing (x ∷ ks) k) (sym (step (eq k) x ks)) (by (eq k x) refl (position (eq k) ks) (missing ks k))
    where
      by : (t : Bool) → eq k x ≡ t → (o : Option ℕ) → IsMissing ks k o → IsMissing (x ∷ ks) k (if t then Some 0 else option_map suc o)
      by true e o h = tt
      by false e (Some i) h = tt
      by false e None h = none
        where
          none : (i : ℕ) → slice_get (x ∷ ks) i ≢ Some k
          none zero f = let s : x ≡ k = cc in true≢false (sym (subst (λ y. eq k y ≡ true) (sym s) (alike k)) ∙ e)
          none (suc i) f = h i f

  some_same : (ks : List A) (k : A) (i : ℕ) → slice_get ks i ≡ Some k → list_any (eq k) ks ≡ true
  some_same [] k i e = cc
  some_same (x ∷ ks) k zero e =
      let s : x ≡ k = cc in
      ap (λ b. b || list_any (eq k) ks) (subst (λ y. eq k y ≡ true) (sym s) (alike k))
  some_same (x ∷ ks) k (suc i) e = by (eq k x) (some_same ks k i e)
    where
      by : (b : Bool) → list_any (eq k) ks ≡ true → (b || list_any (eq k) ks) ≡ true
      by true h = refl
      by false h = h

  pub distinct_kept : (ks : List A) (k : A) → AreDistinct ks → AreDistinct (insert_key eq ks k)
  distinct_kept ks k distinct = by (list_any (eq k) ks) refl
    where
      by : (b : Bool) → list_any (eq k) ks ≡ b → AreDistinct (if b then ks else ks ++ k ∷ [])
      by true e = distinct
      by false e = distinct_added ks k (λ i f. absurd (true≢false (sym (some_same ks k i f) ∙ e))) distinct
