use Rattle.std.proofs.Common.{Some, sym, ap, ◌∙◌}
use Rattle.std.specs.Prelude.{option_map}
use Rattle.check_terms.proofs.Equal.{same_text}
use Rattle.check_terms.proofs.terms.is_text_at.Goals as goal

pub returns-in-Some : goal.returns-in-Some
returns-in-Some c = λ e. sym c.text_at.ensures ∙ ap (option_map (λ t. t.now)) c.in-Some.is ∙ ap Some (same_text c.in-Some.found c.args.text (sym c.eq.ensures ∙ e))
