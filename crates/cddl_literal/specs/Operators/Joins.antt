-- Joins of two literals, `.cat` and `.det` (RFC 9165, sections 2.2 and 2.3).
use Rattle.std.specs.Prelude.{ℕ, nat_le, if◌then◌else◌, List, ◌++◌, length, Option, Some, None, Result, Ok, Err}
use Rattle.std.specs.Str.{is_utf8}
use Rattle.cddl_literal.specs.Numbers.{Meaning, TextOf, BytesOf}
use Rattle.cddl_literal.specs.Operators.Dedent.{dedented}
use Rattle.cddl_literal.specs.declared.operators.Joining.{Joining}
use Rattle.cddl_literal.specs.declared.operators.Joining.TheVariants.{AsTheyAre, Dedented}
use Rattle.cddl_literal.specs.declared.operators.Fault.{Fault}
use Rattle.cddl_literal.specs.declared.operators.Fault.TheVariants.{LeftKind, RightKind, OutOfRange, NotUtf8}

-- the bytes of a string, text or not
abbrev pub string_of : Meaning → Option (List ℕ)
string_of (TextOf bytes) = Some bytes
string_of (BytesOf bytes) = Some bytes
string_of _ = None

-- a string as it is joined
abbrev pub operand : Joining → List ℕ → List ℕ
operand AsTheyAre string = string
operand Dedented string = dedented string

-- the text with these bytes
abbrev pub text_of : List ℕ → Result Meaning Fault
text_of bytes = if is_utf8 bytes then Ok (TextOf bytes) else Err NotUtf8

-- the string with these bytes, of the kind of another
abbrev pub string_like : Meaning → List ℕ → Result Meaning Fault
string_like (TextOf _) bytes = text_of bytes
string_like _ bytes = Ok (BytesOf bytes)

-- how many bytes a join may have
abbrev pub most_bytes : ℕ
most_bytes = 65536

abbrev pub limited : Meaning → List ℕ → Result Meaning Fault
limited like bytes = if nat_le (length bytes) most_bytes then string_like like bytes else Err OutOfRange

abbrev pub join_of : Joining → Meaning → Option (List ℕ) → Option (List ℕ) → Result Meaning Fault
join_of joining like None right = Err LeftKind
join_of joining like (Some l) None = Err RightKind
join_of joining like (Some l) (Some r) = limited like (operand joining l ++ operand joining r)

-- Two strings in one, of the left one's kind; or the first fault of these: the left operand is no string, the right one is
-- none, the join is too long, it is to be a text and is not UTF-8.
abbrev pub joined : Joining → Meaning → Meaning → Result Meaning Fault
joined joining left right = join_of joining left (string_of left) (string_of right)
