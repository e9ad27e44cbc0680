use Rattle.std.proofs.Common.{Some, refl, ap, ◌∙◌}
use Rattle.check_reading.proofs.OfReader.Growing.{body_kept, grown}
use Rattle.check_reading.proofs.reader.definitions.define.Goals as goal

pub returns-in_err-parameters-clause-grows : goal.returns-in_err-parameters-clause-grows
returns-in_err-parameters-clause-grows c = grown _ _ _ c.in_ok-number.ensures.grows c.in_err-parameters.ensures.grows

pub returns-clause-grows : goal.returns-clause-grows
returns-clause-grows c = grown _ _ _ c.in_ok-number.ensures.grows c.in_ok-parameters.ensures.grows

pub returns-clause-definition : goal.returns-clause-definition
returns-clause-definition c = λ b h. record {
  name = c.in_ok-parameters.ensures.grows.texts _ _ (c.in_ok-number.ensures.there ∙ ap Some c.rule_name.ensures);
  parameters = c.in_ok-parameters.ensures.parameters;
  sign = refl;
  body = body_kept (grown _ _ _ c.in_ok-number.ensures.grows c.in_ok-parameters.ensures.grows) h;
}
