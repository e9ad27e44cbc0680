use Rattle.std.proofs.Common.{◌-◌, Some, sym, ap, ◌∙◌, arith}
use Rattle.std.specs.Option.{option_map}
use Rattle.cddl_literal.specs.Literals.{view}
use Rattle.cddl_literal.specs.Numbers.{UintOf, NintOf}
use Rattle.cddl_literal.proofs.UintFacts.{small_uint, large_uint, zero_minus, small_nint, large_nint, without_minus, with_minus, some_minus}
use Rattle.cddl_literal.proofs.numbers.number_of.Goals as goal

pub returns-in_err-number : goal.returns-in_err-number
returns-in_err-number c = without_minus c.args.source.now c.args.from c.args.to _ c.if-source-from-ne45.true (λ n h. ap (option_map view) c.from_residual.ensures ∙ large_uint n (c.in_err-number.ensures n h))

pub returns-then-source-from-ne45 : goal.returns-then-source-from-ne45
returns-then-source-from-ne45 c = without_minus c.args.source.now c.args.from c.args.to _ c.if-source-from-ne45.true (λ n h. let e = c.in_ok-number.ensures n h in ap (λ k. Some (UintOf k)) e.1 ∙ small_uint n e.0)

pub returns-in_err-number-2 : goal.returns-in_err-number-2
returns-in_err-number-2 c = with_minus c.args.source.now c.args.from c.args.to _ c.if-source-from-ne45.false (λ n h. ap (option_map view) c.from_residual-in_err-number-2.ensures ∙ large_nint n (c.in_err-number-2.ensures n h))

pub overflow_cast-result : goal.overflow_cast-result
overflow_cast-result c =
    let h = c.requires.spelled in
    let e = c.in_ok-number-2.ensures h.1 (some_minus c.args.source.now c.args.from c.args.to c.if-source-from-ne45.false h.0 h.1 h.2) in
    omega (arith, e.0, e.1)

pub returns-then-number-eq0 : goal.returns-then-number-eq0
returns-then-number-eq0 c = with_minus c.args.source.now c.args.from c.args.to _ c.if-source-from-ne45.false (λ n h. zero_minus n (sym (c.in_ok-number-2.ensures n h).1 ∙ c.if-number-eq0.true))

pub returns-else-number-eq0 : goal.returns-else-number-eq0
returns-else-number-eq0 c = with_minus c.args.source.now c.args.from c.args.to _ c.if-source-from-ne45.false (λ n h. let e = c.in_ok-number-2.ensures n h in ap (λ k. Some (NintOf (k - 1))) e.1 ∙ small_nint n (λ z. c.if-number-eq0.false (e.1 ∙ z)) e.0)
