use Rattle.std.proofs.Common.{[], ◌∷◌, subst, sym}
use Rattle.cddl_token.specs.declared.Code.TheVariants.{GroupAsType, HashForm, UnknownControl}
use Rattle.cddl_language.specs.Faults.{IsFaultAt}
use Rattle.check_text.specs.First.{IsFirst}
use Rattle.check_text.proofs.Firsts.{joined}
use Rattle.check_text.proofs.text.type_fault.Goals as goal

pub returns : goal.returns
returns c s worth tree e is = subst (IsFirst (IsFaultAt s worth) (GroupAsType ∷ HashForm ∷ UnknownControl ∷ [])) (sym c.first_of-2.ensures) (joined (IsFaultAt s worth) (GroupAsType ∷ []) (HashForm ∷ UnknownControl ∷ []) _ _ (c.fault_of-group.ensures s worth (c.in_ok-group.ensures s tree e is)) (subst (IsFirst (IsFaultAt s worth) (HashForm ∷ UnknownControl ∷ [])) (sym c.first_of.ensures) (joined (IsFaultAt s worth) (HashForm ∷ []) (UnknownControl ∷ []) _ _ (c.fault_of-hash.ensures s worth (c.in_ok-hash.ensures s tree e is)) (c.fault_of-control.ensures s worth (c.in_ok-control.ensures s tree e is)))))
