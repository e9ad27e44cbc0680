use Rattle.std.proofs.Common.{subst}
use Rattle.std.proofs.lemmas.Result.{IfOk-weaker}
use Rattle.table_making.proofs.Forming.{chosen_case, instance_case, row_case, word_case}
use Rattle.table_making.specs.Origins.{IsTypeForm, IsTypeOrigin}
use Rattle.table_making.proofs.types.type_form.Goals as goal

pub returns-in-Row : goal.returns-in-Row
returns-in-Row c = IfOk-weaker c.row_form.result _ _ (λ f h s n src is. row_case s c.args.terms.now (λ m. IsTypeForm s c.args.terms.now m f) n c.in-Row.row (subst (IsTypeOrigin s c.args.terms.now n) c.in-Row.is is) (λ x a re. h s x src a re)) c.row_form.ensures

pub returns-in-Instance : goal.returns-in-Instance
returns-in-Instance c = IfOk-weaker c.instance_form.result _ _ (λ f h s n src is. instance_case s c.args.terms.now (λ m. IsTypeForm s c.args.terms.now m f) n c.in-Instance.place (subst (IsTypeOrigin s c.args.terms.now n) c.in-Instance.is is) (λ r e. h s c.args.terms.now r src e)) c.instance_form.ensures

pub returns-in-Chosen : goal.returns-in-Chosen
returns-in-Chosen c = IfOk-weaker c.chosen_form.result _ _ (λ f h s n src is. chosen_case s c.args.terms.now (λ m. IsTypeForm s c.args.terms.now m f) n c.in-Chosen.group (subst (IsTypeOrigin s c.args.terms.now n) c.in-Chosen.is is) (λ ess a re can. h s ess src a re can)) c.chosen_form.ensures

pub returns-in-Word : goal.returns-in-Word
returns-in-Word c = IfOk-weaker c.word_form.result _ _ (λ f h s n src is. word_case s c.args.terms.now (λ m. IsTypeForm s c.args.terms.now m f) n c.in-Word.text (subst (IsTypeOrigin s c.args.terms.now n) c.in-Word.is is) (λ w e. h s w e)) c.word_form.ensures
