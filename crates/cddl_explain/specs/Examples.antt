-- A specification that is refused, by its code.
use Rattle.std.specs.Prelude.{ℕ, List}
use Rattle.cddl_token.specs.declared.Code.{Code}
use Rattle.cddl_token.specs.declared.Code.TheVariants.{NotUtf8, BadCharacter, Unclosed, BadEscape, BadNumber, FloatLiteral, NumberTooLarge, BadBytes, SourceTooLong, Unexpected, TooNested, Duplicate, KindClash, Undefined, Arity, NoRoot, BadRoot, GroupAsType, HashForm, UnknownControl, TooManyInstances, NotUnwrappable, Recursion, NotLiteral, BadRange, BadController, NoKey, MapShape, TooManyAlternatives}
use Rattle.cddl_explain.specs.declared.examples.TheConstants as text

abbrev pub example_of : Code → List ℕ
example_of NotUtf8 = text.NOT_UTF8.now
example_of BadCharacter = text.BAD_CHARACTER.now
example_of Unclosed = text.UNCLOSED.now
example_of BadEscape = text.BAD_ESCAPE.now
example_of BadNumber = text.BAD_NUMBER.now
example_of FloatLiteral = text.FLOAT_LITERAL.now
example_of NumberTooLarge = text.NUMBER_TOO_LARGE.now
example_of BadBytes = text.BAD_BYTES.now
example_of SourceTooLong = text.SOURCE_TOO_LONG.now
example_of Unexpected = text.UNEXPECTED.now
example_of TooNested = text.TOO_NESTED.now
example_of Duplicate = text.DUPLICATE.now
example_of KindClash = text.KIND_CLASH.now
example_of Undefined = text.UNDEFINED.now
example_of Arity = text.ARITY.now
example_of NoRoot = text.NO_ROOT.now
example_of BadRoot = text.BAD_ROOT.now
example_of GroupAsType = text.GROUP_AS_TYPE.now
example_of HashForm = text.HASH_FORM.now
example_of UnknownControl = text.UNKNOWN_CONTROL.now
example_of TooManyInstances = text.TOO_MANY_INSTANCES.now
example_of NotUnwrappable = text.NOT_UNWRAPPABLE.now
example_of Recursion = text.RECURSION.now
example_of NotLiteral = text.NOT_LITERAL.now
example_of BadRange = text.BAD_RANGE.now
example_of BadController = text.BAD_CONTROLLER.now
example_of NoKey = text.NO_KEY.now
example_of MapShape = text.MAP_SHAPE.now
example_of TooManyAlternatives = text.TOO_MANY_ALTERNATIVES.now
