-- Digits in each base.
use Rattle.std.specs.Prelude.{ℕ, Bool}
use Rattle.hex.specs.Hex.{is_hex_digit}
use Rattle.cddl_literal.specs.Bytes.{is_binary_digit, is_decimal_digit}
use Rattle.check_literals.specs.declared.values.numbers.Base.{Base}
use Rattle.check_literals.specs.declared.values.numbers.Base.TheVariants.{Binary, Decimal, Hexadecimal}

-- a digit in the base
abbrev pub is_digit_in : Base → ℕ → Bool
is_digit_in Binary = is_binary_digit
is_digit_in Decimal = is_decimal_digit
is_digit_in Hexadecimal = is_hex_digit
