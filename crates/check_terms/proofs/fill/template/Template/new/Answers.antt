use Rattle.std.proofs.Common.{sym, ap, subst, ◌∙◌}
use Rattle.std.proofs.lemmas.Result.{IfOk-weaker}
use Rattle.check_terms.specs.Fill.Templates.{IsTemplate, at_place}
use Rattle.check_terms.proofs.OfFill.Replacing.{slots_are}
use Rattle.check_terms.proofs.OfFill.Unfilled.{no_parameters}
use Rattle.check_terms.proofs.fill.template.Template.new.Goals as goal

pub returns-then-is_empty : goal.returns-then-is_empty
returns-then-is_empty c = λ ks ps x places are held.
    let t = c.args.terms.now in
    let none = no_parameters c.args.slots.now t.texts ks ps (c.is_empty.ensures.0 c.if-is_empty.true) places are in
    subst (λ qs. IsTemplate t qs c.unfilled.result x) none (c.unfilled.ensures t x held)

pub returns : goal.returns
returns c =
    let t = c.args.terms.now in
    let texts = c.is_table.ensures.texts in
    IfOk-weaker c.template_of.result _ _ (λ m h ks ps x places are held. h ps x (λ n w e ys. slots_are t.texts texts ks ps are n w e ys ∙ ap (at_place ys) (sym (places n))) c.in_ok-rows.ensures held) c.template_of.ensures
