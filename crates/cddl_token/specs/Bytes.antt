-- Classes of bytes in names and numbers (RFC 8610, appendix B, as updated by RFC 9682).
use Rattle.std.specs.Prelude.{ℕ, Bool, ◌||◌, ◌==◌}
use Prim.Native.Char.{code}
use Rattle.std.specs.Char.{is_ascii_alphabetic}
use Rattle.cddl_literal.specs.Bytes.{is_decimal_digit, is_one_of}

-- EALPHA: a letter, `@`, `_` or `$`
abbrev pub is_ealpha : ℕ → Bool
is_ealpha b = ((is_ascii_alphabetic b || b == code "@") || b == code "_") || b == code "$"

-- `e` or `E`
abbrev pub is_e : ℕ → Bool
is_e b = is_one_of "eE" b

-- `p` or `P`
abbrev pub is_p : ℕ → Bool
is_p b = is_one_of "pP" b

-- `+` or `-`
abbrev pub is_sign : ℕ → Bool
is_sign b = is_one_of "+-" b

-- `-` or `.`
abbrev pub is_mark : ℕ → Bool
is_mark b = is_one_of "-." b

-- EALPHA or a digit
abbrev pub is_id_end : ℕ → Bool
is_id_end b = is_ealpha b || is_decimal_digit b

-- a byte that an id may hold
abbrev pub is_id_byte : ℕ → Bool
is_id_byte b = (is_ealpha b || is_decimal_digit b) || is_mark b
