use Rattle.std.proofs.Common.{[], ◌∷◌, subst, sym}
use Rattle.cddl_token.specs.declared.Code.TheVariants.{NoRoot, BadRoot}
use Rattle.cddl_language.specs.Faults.{IsFaultAt}
use Rattle.check_text.specs.First.{IsFirst}
use Rattle.check_text.proofs.Firsts.{joined}
use Rattle.check_text.proofs.text.root_fault.Goals as goal

pub returns : goal.returns
returns c s worth tree e g is = subst (IsFirst (IsFaultAt s worth) (NoRoot ∷ BadRoot ∷ [])) (sym c.first_of.ensures) (joined (IsFaultAt s worth) (NoRoot ∷ []) (BadRoot ∷ []) _ _ (c.fault_of-none.ensures s worth (c.no_root.ensures s tree e g is)) (c.fault_of-bad.ensures s worth (c.bad_root.ensures s tree e g is)))
