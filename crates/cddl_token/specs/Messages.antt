-- What is printed of codes and of refusals.
use Rattle.std.specs.Prelude.{ℕ, List, ◌++◌, codes, decimal}
use Rattle.cddl_token.specs.declared.Code.{Code}
use Rattle.cddl_token.specs.declared.Code.TheVariants.{NotUtf8, BadCharacter, Unclosed, BadEscape, BadNumber, FloatLiteral, NumberTooLarge, BadBytes, SourceTooLong, Unexpected, TooNested, Duplicate, KindClash, Undefined, Arity, NoRoot, BadRoot, GroupAsType, HashForm, UnknownControl, TooManyInstances, NotUnwrappable, Recursion, NotLiteral, BadRange, BadController, NoKey, MapShape, TooManyAlternatives}
use Rattle.cddl_token.specs.declared.Refusal.{Refusal}
use Rattle.cddl_token.specs.declared.Refusal.TheVariants.{At, Memory}

-- the number and the name of a code
abbrev pub code_text : Code → List ℕ
code_text NotUtf8 = codes "S1 NotUtf8"
code_text BadCharacter = codes "S2 BadCharacter"
code_text Unclosed = codes "S3 Unclosed"
code_text BadEscape = codes "S4 BadEscape"
code_text BadNumber = codes "S5 BadNumber"
code_text FloatLiteral = codes "S6 FloatLiteral"
code_text NumberTooLarge = codes "S7 NumberTooLarge"
code_text BadBytes = codes "S8 BadBytes"
code_text SourceTooLong = codes "S9 SourceTooLong"
code_text Unexpected = codes "S10 Unexpected"
code_text TooNested = codes "S11 TooNested"
code_text Duplicate = codes "C1 Duplicate"
code_text KindClash = codes "C2 KindClash"
code_text Undefined = codes "C3 Undefined"
code_text Arity = codes "C4 Arity"
code_text NoRoot = codes "C5 NoRoot"
code_text BadRoot = codes "C6 BadRoot"
code_text GroupAsType = codes "C7 GroupAsType"
code_text HashForm = codes "C8 HashForm"
code_text UnknownControl = codes "C9 UnknownControl"
code_text TooManyInstances = codes "C10 TooManyInstances"
code_text NotUnwrappable = codes "C11 NotUnwrappable"
code_text Recursion = codes "C12 Recursion"
code_text NotLiteral = codes "C13 NotLiteral"
code_text BadRange = codes "C14 BadRange"
code_text BadController = codes "C15 BadController"
code_text NoKey = codes "C16 NoKey"
code_text MapShape = codes "C17 MapShape"
code_text TooManyAlternatives = codes "C18 TooManyAlternatives"

-- the line that tells a refusal
abbrev pub refusal_text : Refusal → List ℕ
refusal_text (At code at) = codes "refused: " ++ (code_text code ++ (codes " at byte " ++ decimal at))
refusal_text Memory = codes "out of memory"
