-- Why an item fails, by the words that the program prints.
use Rattle.std.specs.Prelude.{ℕ, List, codes}
use Rattle.cddl_explain.specs.declared.causes.Cause.{Cause}
use Rattle.cddl_explain.specs.declared.causes.Cause.TheVariants.{ReservedInformation, BadIndefinite, BadBreak, BadChunk, BadSimple, TooDeep, TooLong, Truncated, BadText, DuplicateKey, Mismatch, Spent}
use Rattle.cddl_explain.specs.declared.causes.TheConstants as text

-- what the program prints
abbrev pub words_of : Cause → List ℕ
words_of ReservedInformation = codes "reserved additional information"
words_of BadIndefinite = codes "indefinite length not allowed"
words_of BadBreak = codes "break not allowed"
words_of BadChunk = codes "bad chunk"
words_of BadSimple = codes "bad simple value"
words_of TooDeep = codes "too deep"
words_of TooLong = codes "item too long"
words_of Truncated = codes "truncated"
words_of BadText = codes "text is not UTF-8"
words_of DuplicateKey = codes "duplicate key"
words_of Mismatch = codes "mismatch"
words_of Spent = codes "step limit reached"

-- what it says, with an example
abbrev pub meaning_of : Cause → List ℕ
meaning_of ReservedInformation = text.RESERVED_INFORMATION.now
meaning_of BadIndefinite = text.BAD_INDEFINITE.now
meaning_of BadBreak = text.BAD_BREAK.now
meaning_of BadChunk = text.BAD_CHUNK.now
meaning_of BadSimple = text.BAD_SIMPLE.now
meaning_of TooDeep = text.TOO_DEEP.now
meaning_of TooLong = text.TOO_LONG.now
meaning_of Truncated = text.TRUNCATED.now
meaning_of BadText = text.BAD_TEXT.now
meaning_of DuplicateKey = text.DUPLICATE_KEY.now
meaning_of Mismatch = text.MISMATCH.now
meaning_of Spent = text.SPENT.now
