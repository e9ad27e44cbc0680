use Rattle.std.proofs.Common.{[], ◌∷◌, subst, sym}
use Rattle.cddl_token.specs.declared.Code.TheVariants.{Duplicate, KindClash}
use Rattle.cddl_language.specs.Faults.{IsFaultAt}
use Rattle.check_text.specs.First.{IsFirst}
use Rattle.check_text.proofs.Firsts.{joined}
use Rattle.check_text.proofs.text.rule_fault.Goals as goal

pub returns : goal.returns
returns c s worth tree e is = subst (IsFirst (IsFaultAt s worth) (Duplicate ∷ KindClash ∷ [])) (sym c.first_of.ensures) (joined (IsFaultAt s worth) (Duplicate ∷ []) (KindClash ∷ []) _ _ (c.fault_of-twice.ensures s worth (c.in_ok-duplicate.ensures s tree e is)) (c.fault_of-clash.ensures s worth (c.kind_clash.ensures s tree e is)))
