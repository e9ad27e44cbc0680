use Rattle.std.proofs.Common.{subst}
use Rattle.std.proofs.lemmas.Result.{IfOk-weaker}
use Rattle.table_making.proofs.Forming.{alternatives_case, entry_case, round_case, sequence_case}
use Rattle.table_making.specs.Origins.{IsGroupForm, IsGroupOrigin}
use Rattle.table_making.proofs.groups.group_form.Goals as goal

pub returns-in-Alternatives : goal.returns-in-Alternatives
returns-in-Alternatives c = IfOk-weaker c.alternatives_form.result _ _ (λ f h s n src is. alternatives_case s c.args.terms.now (λ m. IsGroupForm s c.args.terms.now m f) n c.in-Alternatives.group (subst (IsGroupOrigin s c.args.terms.now n) c.in-Alternatives.is is) (λ ess a re. h s ess a re)) c.alternatives_form.ensures

pub returns-in-Sequence : goal.returns-in-Sequence
returns-in-Sequence c = IfOk-weaker c.entries_form.result _ _ (λ f h s n src is. sequence_case s c.args.terms.now (λ m. IsGroupForm s c.args.terms.now m f) n c.in-Sequence.row (subst (IsGroupOrigin s c.args.terms.now n) c.in-Sequence.is is) (λ es a re. h s es a re)) c.entries_form.ensures

pub returns-in-Entry : goal.returns-in-Entry
returns-in-Entry c = IfOk-weaker c.entry_form.result _ _ (λ f h s n src is. entry_case s c.args.terms.now (λ m. IsGroupForm s c.args.terms.now m f) n c.in-Entry.row (subst (IsGroupOrigin s c.args.terms.now n) c.in-Entry.is is) (λ e a re. h s e src a re)) c.entry_form.ensures

pub returns-in-Round : goal.returns-in-Round
returns-in-Round c s n src is = round_case s c.args.terms.now (λ m. IsGroupForm s c.args.terms.now m c.round_form.result) n c.in-Round.row (subst (IsGroupOrigin s c.args.terms.now n) c.in-Round.is is) (λ e a re. c.round_form.ensures s e src a re)
