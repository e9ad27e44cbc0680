use Rattle.std.proofs.Common.{option_map, sym, ap, ◌∙◌}
use Rattle.check_terms.specs.Texts.Controls.{control_view}
use Rattle.check_text.proofs.OfSiteFaults.Wrong.{its_text, known_control, no_text, unknown}
use Rattle.check_text.proofs.site_faults.controls.unknown_control_at.Goals as goal

pub returns-in_err-text : goal.returns-in_err-text
returns-in_err-text c ds r x said = absurd (no_text c.args.terms.now c.args.word x said (sym (ap (option_map (λ s. s.now)) c.in_err-text.was) ∙ c.text.ensures))

pub returns-in-Some : goal.returns-in-Some
returns-in-Some c ds r x said =
    let text = its_text c.args.terms.now c.args.word x said c.in_ok-text.field-0.now (sym (ap (option_map (λ s. s.now)) c.in_ok-text.was) ∙ c.text.ensures) in
    known_control c.args.terms.now ds r c.args.word x said c.in_ok-text.field-0.now text (λ e. let h = sym (ap (option_map control_view) c.in-Some.is) ∙ c.control_of.ensures ∙ e in cc)

pub returns-in-None : goal.returns-in-None
returns-in-None c ds r x said =
    let text = its_text c.args.terms.now c.args.word x said c.in_ok-text.field-0.now (sym (ap (option_map (λ s. s.now)) c.in_ok-text.was) ∙ c.text.ensures) in
    unknown c.args.terms.now ds r c.args.word x said c.in_ok-text.field-0.now text c.in-Control.is (sym c.control_of.ensures ∙ ap (option_map control_view) c.in-None.is)
