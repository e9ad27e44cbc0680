use Rattle.std.proofs.Common.{[], ◌∷◌, subst, sym}
use Rattle.cddl_token.specs.declared.Code.TheVariants.{Duplicate, KindClash, Undefined, Arity, NoRoot, BadRoot, GroupAsType, HashForm, UnknownControl}
use Rattle.cddl_language.specs.Faults.{IsFaultAt}
use Rattle.check_text.specs.First.{IsFirst}
use Rattle.check_text.proofs.Firsts.{joined}
use Rattle.check_text.proofs.text.text_fault.Goals as goal

pub returns : goal.returns
returns c s worth tree e g is =
    let P = IsFaultAt s worth in
    let types = c.in_ok-types.ensures s worth tree e is in
    let root = c.root_fault-root.ensures s worth tree e g is in
    let names = c.in_ok-names.ensures s worth tree e is in
    let rules = c.in_ok-rules.ensures s worth tree e is in
    let last = subst (IsFirst P (NoRoot ∷ BadRoot ∷ GroupAsType ∷ HashForm ∷ UnknownControl ∷ [])) (sym c.first_of.ensures) (joined P (NoRoot ∷ BadRoot ∷ []) (GroupAsType ∷ HashForm ∷ UnknownControl ∷ []) _ _ root types) in
    let later = subst (IsFirst P (Undefined ∷ Arity ∷ NoRoot ∷ BadRoot ∷ GroupAsType ∷ HashForm ∷ UnknownControl ∷ [])) (sym c.first_of-2.ensures) (joined P (Undefined ∷ Arity ∷ []) (NoRoot ∷ BadRoot ∷ GroupAsType ∷ HashForm ∷ UnknownControl ∷ []) _ _ names last) in
    subst (IsFirst P (Duplicate ∷ KindClash ∷ Undefined ∷ Arity ∷ NoRoot ∷ BadRoot ∷ GroupAsType ∷ HashForm ∷ UnknownControl ∷ [])) (sym c.first_of-3.ensures) (joined P (Duplicate ∷ KindClash ∷ []) (Undefined ∷ Arity ∷ NoRoot ∷ BadRoot ∷ GroupAsType ∷ HashForm ∷ UnknownControl ∷ []) _ _ rules later)
