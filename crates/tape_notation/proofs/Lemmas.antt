-- Texts that are put one after the other, for other crates too.
use Rattle.std.proofs.Common.{◌≡◌, ℕ, ◌≤◌, List, [], ◌++◌, length, take, refl, sym, ap, ◌∙◌, subst, arith, append_assoc, append-nil, length-append}
use Rattle.tape_notation.specs.Put.{IsPut}

pub more_put : (old mid new : List ℕ) (at middle end : ℕ) (s t : List ℕ) → IsPut old mid at s middle → IsPut mid new middle t end → IsPut old new at (s ++ t) end
more_put old mid new at middle end s t h k = record {
  placed = omega (arith, h.placed, k.placed, length-append s t);
  within = k.within;
  long = k.long ∙ h.long;
  is = k.is ∙ (ap (λ r. r ++ t) h.is ∙ append_assoc (take at old) s t);
}

pub none_put : (old : List ℕ) (at : ℕ) → at ≤ length old → IsPut old old at [] at
none_put old at within = record { placed = omega arith; within = within; long = refl; is = sym (append-nil (take at old)) }

pub same_put : {old new : List ℕ} {at end : ℕ} (s t : List ℕ) → s ≡ t → IsPut old new at s end → IsPut old new at t end
same_put {old} {new} {at} {end} s t is h = subst (λ r. IsPut old new at r end) is h
