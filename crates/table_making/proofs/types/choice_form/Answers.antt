use Rattle.std.proofs.Common.{sym}
use Rattle.std.proofs.lemmas.Result.{IfOk-weaker}
use Rattle.check_instances.specs.Closed.Closed.{alternatives_of}
use Rattle.cddl_language.specs.Choices.{chosen}
use Rattle.cddl_language.specs.Language.{chosen_names}
use Rattle.cddl_language.specs.Terms.{alternatives}
use Rattle.table_making.proofs.Forming.{chosen_not, chosen_so, flagged, flagged_so}
use Rattle.table_making.proofs.Knowing.{group_known}
use Rattle.table_making.proofs.types.choice_form.Goals as goal

pub returns-then-is_choosable : goal.returns-then-is_choosable
returns-then-is_choosable c = IfOk-weaker c.chosen_form.result _ _ (λ f h s g src is re.
    let can = (src.choosable.groups c.args.group g is re.0).0 (flagged _ (sym c.if-is_choosable.ensures)) in
    chosen_so s c.args.terms.now (chosen s.definitions g) (chosen_names s.worth s.definitions (alternatives g)) _ can (h s (alternatives g) src (alternatives_of g is) (group_known s g re) can)) c.chosen_form.ensures

pub returns : goal.returns
returns c s g src is re = chosen_not s c.args.terms.now (chosen s.definitions g) (chosen_names s.worth s.definitions (alternatives g)) _ (λ e. flagged_so _ (sym c.if-is_choosable.ensures) ((src.choosable.groups c.args.group g is re.0).1 e)) c.nothing.ensures
