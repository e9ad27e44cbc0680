use Rattle.std.proofs.Common.{◌<◌, ◌^◌, SomeIff, sym, subst, arith}
use Rattle.cddl_literal.proofs.UintFacts.{ok_small}
use Rattle.cddl_literal.proofs.numbers.uint_of.Goals as goal

pub returns-in_err-number : goal.returns-in_err-number
returns-in_err-number c = λ n h. subst (λ r. SomeIff r (n < 2 ^ 64) n) (sym c.from_residual.ensures) (λ lt. c.in_err-number.ensures n h (omega arith))

pub returns : goal.returns
returns c = λ n h. ok_small c.try_from.result c.ok.result c.in_ok-number.number n (2 ^ 64) c.ok.ensures.value c.try_from.ensures (c.in_ok-number.ensures n h).1
