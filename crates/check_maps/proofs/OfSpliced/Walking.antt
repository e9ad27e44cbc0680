-- Lists that are related one for one, as they grow.
use Rattle.std.proofs.Common.{◌≡◌, ℕ, zero, suc, ◌+◌, ◌<◌, List, [], ◌∷◌, ◌++◌, append_assoc, length, drop, get_or, Some, slice_get, refl, sym, ap, subst, ◌∙◌, arith}
use Rattle.std.proofs.Math.Seq.{drop-cons}
use Rattle.cddl_meaning.specs.Alike.{AlikeAll, none, both}

module _ {A B : Type 0} (R : A → B → Type 0) where
  alike_push : (xs : List A) (ys : List B) (x : A) (y : B) → AlikeAll R xs ys → R x y → AlikeAll R (xs ++ x ∷ []) (ys ++ y ∷ [])
  alike_push xs ys x y none r = both r none
  alike_push xs ys x y (both {ns = us} {ms = vs} h hs) r = both h (alike_push us vs x y hs r)

  pub alike_at : (xs : List A) (ys : List B) → AlikeAll R xs ys → (k : ℕ) (x : A) → slice_get xs k ≡ Some x → (y : B) × (slice_get ys k ≡ Some y) × R x y
  alike_at xs ys none k x e = cc
  alike_at xs ys (both {n = u} {m = v} h hs) zero x e = (v, refl, subst (λ z. R z v) (same u x e) h)
    where
      same : (y z : A) → Some y ≡ Some z → y ≡ z
      same y z e = cc
  alike_at xs ys (both {ns = us} {ms = vs} h hs) (suc k) x e = alike_at us vs hs k x e

  pub alike_from : (xs : List A) (ys : List B) → AlikeAll R xs ys → (k : ℕ) (y : B) → slice_get ys k ≡ Some y → (x : A) × (slice_get xs k ≡ Some x) × R x y
  alike_from xs ys none k y e = cc
  alike_from xs ys (both {n = u} {m = v} h hs) zero y e = (u, refl, subst (R u) (same v y e) h)
    where
      same : (y z : B) → Some y ≡ Some z → y ≡ z
      same y z e = cc
  alike_from xs ys (both {ns = us} {ms = vs} h hs) (suc k) y e = alike_from us vs hs k y e

  -- some are related, and these are left
  pub record IsGoing (all left : List A) (ys : List B) : Type 0 where
    pub before : List A
    pub whole : all ≡ before ++ left
    pub alike : AlikeAll R before ys

  pub none_gone : (all : List A) (ys : List B) → ys ≡ [] → IsGoing all all ys
  none_gone all ys e = record { before = []; whole = refl; alike = subst (AlikeAll R []) (sym e) none }

  one_gone : (all left : List A) (ys : List B) (x : A) (y : B) → R x y → IsGoing all (x ∷ left) ys → IsGoing all left (ys ++ y ∷ [])
  one_gone all left ys x y r so = record { before = so.before ++ x ∷ []; whole = so.whole ∙ sym (append_assoc so.before (x ∷ []) left); alike = alike_push so.before ys x y so.alike r }

  pub next_gone : (all : List A) (i : ℕ) (ys : List B) (d : A) (y : B) → i < length all → R (get_or all i d) y → IsGoing all (drop i all) ys → IsGoing all (drop (i + 1) all) (ys ++ y ∷ [])
  next_gone all i ys d y l r so = one_gone all (drop (i + 1) all) ys (get_or all i d) y r (subst (λ zs. IsGoing all zs ys) (drop-cons all i d l ∙ ap (λ j. get_or all i d ∷ drop j all) step) so)
    where
      step : suc i ≡ i + 1
      step = omega arith

  pub all_gone : (all left : List A) (ys : List B) → left ≡ [] → IsGoing all left ys → AlikeAll R all ys
  all_gone all left ys e so = subst (λ zs. AlikeAll R zs ys) (sym (so.whole ∙ ap (λ zs. so.before ++ zs) e ∙ no_more so.before)) so.alike
    where
      no_more : (zs : List A) → zs ++ [] ≡ zs
      no_more [] = refl
      no_more (z ∷ zs) = ap (λ (us : List A). z ∷ us) (no_more zs)
