-- Lists that are related one for one.
use Rattle.std.proofs.Common.{◌≡◌, ℕ, zero, suc, List, [], ◌∷◌, Some, refl, subst, slice_get}
use Rattle.cddl_meaning.specs.Alike.{AlikeAll, both}

pub alike_at : {N M : Type 0} (R : N → M → Type 0) (ns : List N) (ms : List M) → AlikeAll R ns ms → (k : ℕ) (n : N) → slice_get ns k ≡ Some n → (m : M) × (slice_get ms k ≡ Some m) × R n m
alike_at R [] ms h k n e = cc
alike_at {N = N} {M = M} R (n ∷ ns) [] h k x e = elim h [ ]
alike_at {N = N} {M = M} R (n ∷ ns) (m ∷ ms) (both h hs) zero x e = (m, refl, subst (λ (y : N). R y m) (same n x e) h)
  where
    same : (y z : N) → Some y ≡ Some z → y ≡ z
    same y z e = cc
alike_at R (n ∷ ns) (m ∷ ms) (both h hs) (suc k) x e = alike_at R ns ms hs k x e
