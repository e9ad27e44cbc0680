use Rattle.std.proofs.Common.{option_map, sym, ap, ◌∙◌}
use Rattle.check_reading.specs.Survey.Survey.{defined_in}
use Rattle.check_text.specs.SiteFaults.Words.{IsUndefinedName, IsWrongWord}
use Rattle.check_text.specs.declared.site_faults.code.SiteCode.TheVariants.{Undefined}
use Rattle.check_text.proofs.OfSiteFaults.Wrong.{defined_there, its_text, no_text, other_role, told_not, undefined_there}
use Rattle.check_text.proofs.site_faults.undefined_names.undefined_at.Goals as goal

pub returns-then-not-is_name : goal.returns-then-not-is_name
returns-then-not-is_name c tree r x is place said = told_not c.args.terms.now c.args.word x said (IsWrongWord Undefined (defined_in tree) r x) (other_role c.args.terms.now c.args.word x said (IsUndefinedName (defined_in tree) r x.text) (sym c.is_name.ensures ∙ c.if-not-is_name.true))

pub returns-in_err-text : goal.returns-in_err-text
returns-in_err-text c tree r x is place said = absurd (no_text c.args.terms.now c.args.word x said (sym (ap (option_map (λ s. s.now)) c.in_err-text.was) ∙ c.text.ensures))

pub returns-then-is_known : goal.returns-then-is_known
returns-then-is_known c tree r x is place said =
    let text = its_text c.args.terms.now c.args.word x said c.in_ok-text.text.now (sym (ap (option_map (λ s. s.now)) c.in_ok-text.was) ∙ c.text.ensures) in
    defined_there c.args.terms.now tree c.args.survey.now c.args.marks.now.keys is c.args.word r x place said c.is_known.result c.in_ok-text.text.now text c.is_known.ensures c.if-is_known.true

pub returns : goal.returns
returns c tree r x is place said =
    let text = its_text c.args.terms.now c.args.word x said c.in_ok-text.text.now (sym (ap (option_map (λ s. s.now)) c.in_ok-text.was) ∙ c.text.ensures) in
    undefined_there c.args.terms.now tree c.args.survey.now c.args.marks.now.keys is c.args.word r x place said c.is_known.result c.in_ok-text.text.now text c.is_known.ensures c.if-is_known.false (sym c.is_name.ensures ∙ c.if-not-is_name.false)
