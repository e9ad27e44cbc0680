-- Sums of two literals, `.plus` (RFC 9165, section 2.1).
use Rattle.std.specs.Prelude.{◌^◌, nat_lt, if◌then◌else◌, ℤ, pos, negsuc, ◌+ℤ◌, Option, Some, None, Result, Ok, Err}
use Rattle.cddl_literal.specs.Numbers.{Meaning, UintOf, NintOf}
use Rattle.cddl_literal.specs.declared.operators.Fault.{Fault}
use Rattle.cddl_literal.specs.declared.operators.Fault.TheVariants.{LeftKind, RightKind, OutOfRange}

-- the whole number that a literal is
abbrev pub number_of : Meaning → Option ℤ
number_of (UintOf n) = Some (pos n)
number_of (NintOf n) = Some (negsuc n)
number_of _ = None

-- the literal that a whole number is: from -2^64 to 2^64 - 1
abbrev pub number_literal : ℤ → Result Meaning Fault
number_literal (pos n) = if nat_lt n (2 ^ 64) then Ok (UintOf n) else Err OutOfRange
number_literal (negsuc n) = if nat_lt n (2 ^ 64) then Ok (NintOf n) else Err OutOfRange

abbrev pub sum_of : Option ℤ → Option ℤ → Result Meaning Fault
sum_of None right = Err LeftKind
sum_of (Some m) None = Err RightKind
sum_of (Some m) (Some n) = number_literal (m +ℤ n)

-- the sum of two whole numbers, or the first fault of these: the left one is none, the right one is none, it is out of range
abbrev pub plus : Meaning → Meaning → Result Meaning Fault
plus left right = sum_of (number_of left) (number_of right)
