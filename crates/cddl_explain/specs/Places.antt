-- Which byte a refusal names, by its code.
use Rattle.std.specs.Prelude.{ℕ, List}
use Rattle.cddl_token.specs.declared.Code.{Code}
use Rattle.cddl_token.specs.declared.Code.TheVariants.{NotUtf8, BadCharacter, Unclosed, BadEscape, BadNumber, FloatLiteral, NumberTooLarge, BadBytes, SourceTooLong, Unexpected, TooNested, Duplicate, KindClash, Undefined, Arity, NoRoot, BadRoot, GroupAsType, HashForm, UnknownControl, TooManyInstances, NotUnwrappable, Recursion, NotLiteral, BadRange, BadController, NoKey, MapShape, TooManyAlternatives}
use Rattle.cddl_explain.specs.declared.places.TheConstants as text

abbrev pub place_of : Code → List ℕ
place_of NotUtf8 = text.NOT_UTF8.now
place_of BadCharacter = text.BAD_CHARACTER.now
place_of Unclosed = text.UNCLOSED.now
place_of BadEscape = text.BAD_ESCAPE.now
place_of BadNumber = text.BAD_NUMBER.now
place_of FloatLiteral = text.FLOAT_LITERAL.now
place_of NumberTooLarge = text.NUMBER_TOO_LARGE.now
place_of BadBytes = text.BAD_BYTES.now
place_of SourceTooLong = text.SOURCE_TOO_LONG.now
place_of Unexpected = text.UNEXPECTED.now
place_of TooNested = text.TOO_NESTED.now
place_of Duplicate = text.DUPLICATE.now
place_of KindClash = text.KIND_CLASH.now
place_of Undefined = text.UNDEFINED.now
place_of Arity = text.ARITY.now
place_of NoRoot = text.NO_ROOT.now
place_of BadRoot = text.BAD_ROOT.now
place_of GroupAsType = text.GROUP_AS_TYPE.now
place_of HashForm = text.HASH_FORM.now
place_of UnknownControl = text.UNKNOWN_CONTROL.now
place_of TooManyInstances = text.TOO_MANY_INSTANCES.now
place_of NotUnwrappable = text.NOT_UNWRAPPABLE.now
place_of Recursion = text.RECURSION.now
place_of NotLiteral = text.NOT_LITERAL.now
place_of BadRange = text.BAD_RANGE.now
place_of BadController = text.BAD_CONTROLLER.now
place_of NoKey = text.NO_KEY.now
place_of MapShape = text.MAP_SHAPE.now
place_of TooManyAlternatives = text.TOO_MANY_ALTERNATIVES.now
