use Rattle.std.proofs.Common.{[], ◌∷◌, subst, sym}
use Rattle.cddl_token.specs.declared.Code.TheVariants.{Undefined, Arity}
use Rattle.cddl_language.specs.Faults.{IsFaultAt}
use Rattle.check_text.specs.First.{IsFirst}
use Rattle.check_text.proofs.Firsts.{joined}
use Rattle.check_text.proofs.text.name_fault.Goals as goal

pub returns : goal.returns
returns c s worth tree e is = subst (IsFirst (IsFaultAt s worth) (Undefined ∷ Arity ∷ [])) (sym c.first_of.ensures) (joined (IsFaultAt s worth) (Undefined ∷ []) (Arity ∷ []) _ _ (c.fault_of-undefined.ensures s worth (c.in_ok-site_fault.ensures s tree e is)) (c.fault_of-arity.ensures s worth (c.in_ok-wrong_arity.ensures s tree e is)))
