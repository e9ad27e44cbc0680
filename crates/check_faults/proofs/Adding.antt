-- The faults of one more code.
use Rattle.std.proofs.Common.{◌≡◌, ℕ, ◌-◌, List, [], ◌∷◌, ◌++◌, length, take, sym, subst}
use Rattle.cddl_token.specs.declared.Code.{Code}
use Rattle.all_offsets.specs.Offsets.{AreOffsets}
use Rattle.check_faults.specs.declared.listing.Listed.{Listed}
use Rattle.check_faults.specs.Listed.{AreListed, further_code}

pub one_more : (P : Code → ℕ → Type 0) (most : ℕ) (before : List Code) (old new : List Listed) (c : Code) (l : Listed) (all : List ℕ) → new ≡ old ++ l ∷ [] → l.code ≡ c → AreOffsets (P c) all → l.offsets.items ≡ take most all → l.further ≡ length all - most → AreListed P most before old → AreListed P most (before ++ c ∷ []) new
one_more P most before old new c l all pushed is are first further h = subst (λ ls. AreListed P most (before ++ c ∷ []) ls) (sym pushed) (further_code h c l is (record { all = all; are_all = are; first = first; further = further }))
