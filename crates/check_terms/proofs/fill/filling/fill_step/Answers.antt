use Rattle.std.proofs.Common.{sym, subst, ◌∙◌, Option, Some}
use Rattle.std.specs.Prelude.{IfOk}
use Rattle.std.proofs.lemmas.Result.{IfOk-weaker}
use Rattle.cddl_language.specs.Terms.{Text}
use Rattle.check_terms.specs.declared.row.Row.{Row}
use Rattle.check_terms.specs.Table.{Holds, HoldsText, Tree, node}
use Rattle.check_terms.proofs.OfFill.Filled.{rebuilt, replaced_by}
use Rattle.check_terms.proofs.fill.filling.fill_step.Goals as goal

pub returns-in-Some-clause-fills : goal.returns-in-Some-clause-fills
returns-in-Some-clause-fills c = λ ps before ys x is held made. replaced_by c.args.terms.now ps ys c.args.arguments.now held before c.args.step x c.in-Some.number (sym c.number_at.ensures ∙ c.in-Some.is) is

pub returns-clause-fills : goal.returns-clause-fills
returns-clause-fills c =
    let t = c.args.terms.now in
    let new = c.add_row.new.terms in
    let stands = subst (λ (q : Row). IfOk c.add_row.result (λ n. (v : Option Text) (a b : Tree) → HoldsText t.texts q.text v → Holds t q.first a → Holds t q.second b → Holds new (Some n) (node q.form v a b))) c.filled_row.ensures c.add_row.ensures.stands in
    IfOk-weaker c.add_row.result _ _ (λ n h ps before ys x is held made. rebuilt t ps ys c.args.arguments.now held before c.args.made.now made c.args.step c.in-Some-row.row x new n (sym c.number_at.ensures ∙ c.in_default.is) (sym c.row.ensures ∙ c.in-Some-row.is) h is) stands
