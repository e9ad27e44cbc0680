-- What is wrong with a specification, by its code.
use Rattle.std.specs.Prelude.{ℕ, List}
use Rattle.cddl_token.specs.declared.Code.{Code}
use Rattle.cddl_token.specs.declared.Code.TheVariants.{NotUtf8, BadCharacter, Unclosed, BadEscape, BadNumber, FloatLiteral, NumberTooLarge, BadBytes, SourceTooLong, Unexpected, TooNested, Duplicate, KindClash, Undefined, Arity, NoRoot, BadRoot, GroupAsType, HashForm, UnknownControl, TooManyInstances, NotUnwrappable, Recursion, NotLiteral, BadRange, BadController, NoKey, MapShape, TooManyAlternatives}
use Rattle.cddl_explain.specs.declared.sentences.TheConstants as text

abbrev pub sentence_of : Code → List ℕ
sentence_of NotUtf8 = text.NOT_UTF8.now
sentence_of BadCharacter = text.BAD_CHARACTER.now
sentence_of Unclosed = text.UNCLOSED.now
sentence_of BadEscape = text.BAD_ESCAPE.now
sentence_of BadNumber = text.BAD_NUMBER.now
sentence_of FloatLiteral = text.FLOAT_LITERAL.now
sentence_of NumberTooLarge = text.NUMBER_TOO_LARGE.now
sentence_of BadBytes = text.BAD_BYTES.now
sentence_of SourceTooLong = text.SOURCE_TOO_LONG.now
sentence_of Unexpected = text.UNEXPECTED.now
sentence_of TooNested = text.TOO_NESTED.now
sentence_of Duplicate = text.DUPLICATE.now
sentence_of KindClash = text.KIND_CLASH.now
sentence_of Undefined = text.UNDEFINED.now
sentence_of Arity = text.ARITY.now
sentence_of NoRoot = text.NO_ROOT.now
sentence_of BadRoot = text.BAD_ROOT.now
sentence_of GroupAsType = text.GROUP_AS_TYPE.now
sentence_of HashForm = text.HASH_FORM.now
sentence_of UnknownControl = text.UNKNOWN_CONTROL.now
sentence_of TooManyInstances = text.TOO_MANY_INSTANCES.now
sentence_of NotUnwrappable = text.NOT_UNWRAPPABLE.now
sentence_of Recursion = text.RECURSION.now
sentence_of NotLiteral = text.NOT_LITERAL.now
sentence_of BadRange = text.BAD_RANGE.now
sentence_of BadController = text.BAD_CONTROLLER.now
sentence_of NoKey = text.NO_KEY.now
sentence_of MapShape = text.MAP_SHAPE.now
sentence_of TooManyAlternatives = text.TOO_MANY_ALTERNATIVES.now
