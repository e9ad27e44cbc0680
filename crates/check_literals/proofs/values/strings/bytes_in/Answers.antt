use Rattle.check_literals.proofs.OfValues.Quoting.{not_plain_as}
use Rattle.check_literals.proofs.values.strings.bytes_in.Goals as goal

pub returns-then-not-is_quoted : goal.returns-then-not-is_quoted
returns-then-not-is_quoted c = not_plain_as (λ v. v.items) c.as_bytes-source.result.now c.args.text.now c.as_bytes-source.ensures.value c.prefixed_in.result (λ v h. c.is_quoted.ensures.otherwise c.if-not-is_quoted.true v h) c.prefixed_in.ensures
