-- The number and the name of a code, and the byte at which its example is refused.
use Rattle.std.specs.Prelude.{ℕ, List, codes}
use Rattle.cddl_token.specs.declared.Code.{Code}
use Rattle.cddl_token.specs.declared.Code.TheVariants.{NotUtf8, BadCharacter, Unclosed, BadEscape, BadNumber, FloatLiteral, NumberTooLarge, BadBytes, SourceTooLong, Unexpected, TooNested, Duplicate, KindClash, Undefined, Arity, NoRoot, BadRoot, GroupAsType, HashForm, UnknownControl, TooManyInstances, NotUnwrappable, Recursion, NotLiteral, BadRange, BadController, NoKey, MapShape, TooManyAlternatives}

-- the number of a code, as in its line
abbrev pub number_of : Code → List ℕ
number_of NotUtf8 = codes "S1"
number_of BadCharacter = codes "S2"
number_of Unclosed = codes "S3"
number_of BadEscape = codes "S4"
number_of BadNumber = codes "S5"
number_of FloatLiteral = codes "S6"
number_of NumberTooLarge = codes "S7"
number_of BadBytes = codes "S8"
number_of SourceTooLong = codes "S9"
number_of Unexpected = codes "S10"
number_of TooNested = codes "S11"
number_of Duplicate = codes "C1"
number_of KindClash = codes "C2"
number_of Undefined = codes "C3"
number_of Arity = codes "C4"
number_of NoRoot = codes "C5"
number_of BadRoot = codes "C6"
number_of GroupAsType = codes "C7"
number_of HashForm = codes "C8"
number_of UnknownControl = codes "C9"
number_of TooManyInstances = codes "C10"
number_of NotUnwrappable = codes "C11"
number_of Recursion = codes "C12"
number_of NotLiteral = codes "C13"
number_of BadRange = codes "C14"
number_of BadController = codes "C15"
number_of NoKey = codes "C16"
number_of MapShape = codes "C17"
number_of TooManyAlternatives = codes "C18"

-- the name of a code, as in its line
abbrev pub name_of : Code → List ℕ
name_of NotUtf8 = codes "NotUtf8"
name_of BadCharacter = codes "BadCharacter"
name_of Unclosed = codes "Unclosed"
name_of BadEscape = codes "BadEscape"
name_of BadNumber = codes "BadNumber"
name_of FloatLiteral = codes "FloatLiteral"
name_of NumberTooLarge = codes "NumberTooLarge"
name_of BadBytes = codes "BadBytes"
name_of SourceTooLong = codes "SourceTooLong"
name_of Unexpected = codes "Unexpected"
name_of TooNested = codes "TooNested"
name_of Duplicate = codes "Duplicate"
name_of KindClash = codes "KindClash"
name_of Undefined = codes "Undefined"
name_of Arity = codes "Arity"
name_of NoRoot = codes "NoRoot"
name_of BadRoot = codes "BadRoot"
name_of GroupAsType = codes "GroupAsType"
name_of HashForm = codes "HashForm"
name_of UnknownControl = codes "UnknownControl"
name_of TooManyInstances = codes "TooManyInstances"
name_of NotUnwrappable = codes "NotUnwrappable"
name_of Recursion = codes "Recursion"
name_of NotLiteral = codes "NotLiteral"
name_of BadRange = codes "BadRange"
name_of BadController = codes "BadController"
name_of NoKey = codes "NoKey"
name_of MapShape = codes "MapShape"
name_of TooManyAlternatives = codes "TooManyAlternatives"

-- the byte at which its example is refused
abbrev pub example_at_of : Code → ℕ
example_at_of NotUtf8 = 4
example_at_of BadCharacter = 4
example_at_of Unclosed = 4
example_at_of BadEscape = 5
example_at_of BadNumber = 4
example_at_of FloatLiteral = 4
example_at_of NumberTooLarge = 4
example_at_of BadBytes = 4
example_at_of SourceTooLong = 1048576
example_at_of Unexpected = 8
example_at_of TooNested = 132
example_at_of Duplicate = 14
example_at_of KindClash = 24
example_at_of Undefined = 4
example_at_of Arity = 4
example_at_of NoRoot = 0
example_at_of BadRoot = 0
example_at_of GroupAsType = 4
example_at_of HashForm = 4
example_at_of UnknownControl = 8
example_at_of TooManyInstances = 0
example_at_of NotUnwrappable = 5
example_at_of Recursion = 8
example_at_of NotLiteral = 12
example_at_of BadRange = 7
example_at_of BadController = 12
example_at_of NoKey = 23
example_at_of MapShape = 6
example_at_of TooManyAlternatives = 4
