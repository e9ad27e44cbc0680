use Rattle.std.proofs.Common.{subst}
use Rattle.std.specs.Option.{option_map}
use Rattle.cddl_literal.specs.Literals.{view}
use Rattle.cddl_language.specs.Terms as L
use Rattle.cddl_language.specs.Literals.{Means}
use Rattle.check_literals.specs.Values.Values.{Answers}
use Rattle.check_literals.proofs.values.number_value.Goals as goal

pub returns : goal.returns
returns c = subst (λ s. Answers (Means (L.number s)) (option_map view c.number_in.result)) c.as_bytes.ensures.value c.number_in.ensures
