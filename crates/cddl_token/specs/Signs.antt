-- Bytes that are tokens by themselves.
use Rattle.std.specs.Prelude.{ℕ, Bool}
use Rattle.cddl_literal.specs.Bytes.{is_one_of}

abbrev pub is_single : ℕ → Bool
is_single b = is_one_of "^:,()[]{}>~&+?" b
