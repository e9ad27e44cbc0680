use Rattle.std.proofs.Common.{refl, sym, ◌∙◌, arith}
use Rattle.cddl_literal.specs.Numbers.{decimal, hexadecimal, binary}
use Rattle.spec_calls.proofs.literal_calls.is_uint.Goals as goal

pub returns-then-source-from-ne48 : goal.returns-then-source-from-ne48
returns-then-source-from-ne48 c = λ h. (_, decimal (record { nonempty = c.requires; holds = c.are_decimal.ensures h }) (λ b. absurd (c.if-source-from-ne48.true b)) refl)

pub returns-then-from-source : goal.returns-then-from-source
returns-then-from-source c = λ h. (_, decimal (record { nonempty = c.requires; holds = c.are_decimal-then-from-source.ensures h }) (λ b. omega arith) refl)

pub returns-then-is_x : goal.returns-then-is_x
returns-then-is_x c = λ h. (_, hexadecimal c.if-source-from-ne48.false (sym c.is_x.ensures ∙ c.if-is_x.true) (record { nonempty = omega arith; holds = c.are_hex.ensures h }) refl)

pub returns-then-is_b : goal.returns-then-is_b
returns-then-is_b c = λ h. (_, binary c.if-source-from-ne48.false (sym c.is_b.ensures ∙ c.if-is_b.true) (record { nonempty = omega arith; holds = c.are_binary.ensures h }) refl)
