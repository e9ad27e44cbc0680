use Rattle.std.proofs.lemmas.Result.{IfOk-weaker}
use Rattle.cddl_language.specs.Faults.{HasBadRoot, HasNoRoot}
use Rattle.all_offsets.proofs.Lemmas.{least_alone}
use Rattle.check_text.proofs.OfEverywhere.Roots.{one_bad_root, one_no_root}
use Rattle.check_text.proofs.everywhere.codes.found_offsets.Goals as goal

pub returns-in-Duplicate : goal.returns-in-Duplicate
returns-in-Duplicate c = rw c.in-Duplicate.is (IfOk-weaker c.at_rules.result _ _ (λ v h s worth tree e g is. h s tree e is) c.at_rules.ensures)

pub returns-in-KindClash : goal.returns-in-KindClash
returns-in-KindClash c = rw c.in-KindClash.is (IfOk-weaker c.at_rules-in-KindClash.result _ _ (λ v h s worth tree e g is. h s tree e is) c.at_rules-in-KindClash.ensures)

pub returns-in-Undefined : goal.returns-in-Undefined
returns-in-Undefined c = rw c.in-Undefined.is (IfOk-weaker c.at_sites.result _ _ (λ v h s worth tree e g is. h s tree e is) c.at_sites.ensures)

pub returns-in-Arity : goal.returns-in-Arity
returns-in-Arity c = rw c.in-Arity.is (IfOk-weaker c.wrong_arities.result _ _ (λ v h s worth tree e g is. h s tree e is) c.wrong_arities.ensures)

pub returns-in-NoRoot : goal.returns-in-NoRoot
returns-in-NoRoot c = rw c.in-NoRoot.is (IfOk-weaker c.found_alone.result _ _ (λ v h s worth tree e g is. least_alone (HasNoRoot s) c.no_root.result _ (c.no_root.ensures s tree e g is) (one_no_root s) h) c.found_alone.ensures)

pub returns-in-BadRoot : goal.returns-in-BadRoot
returns-in-BadRoot c = rw c.in-BadRoot.is (IfOk-weaker c.found_alone-in-BadRoot.result _ _ (λ v h s worth tree e g is. least_alone (HasBadRoot s) c.bad_root.result _ (c.bad_root.ensures s tree e g is) (one_bad_root s) h) c.found_alone-in-BadRoot.ensures)

pub returns-in-GroupAsType : goal.returns-in-GroupAsType
returns-in-GroupAsType c = rw c.in-GroupAsType.is (IfOk-weaker c.at_sites-in-GroupAsType.result _ _ (λ v h s worth tree e g is. h s tree e is) c.at_sites-in-GroupAsType.ensures)

pub returns-in-HashForm : goal.returns-in-HashForm
returns-in-HashForm c = rw c.in-HashForm.is (IfOk-weaker c.at_sites-in-HashForm.result _ _ (λ v h s worth tree e g is. h s tree e is) c.at_sites-in-HashForm.ensures)

pub returns-in-UnknownControl : goal.returns-in-UnknownControl
returns-in-UnknownControl c = rw c.in-UnknownControl.is (IfOk-weaker c.at_sites-in-UnknownControl.result _ _ (λ v h s worth tree e g is. h s tree e is) c.at_sites-in-UnknownControl.ensures)
