-- What no entry of a list is named, nothing is named.
use Rattle.std.proofs.Common.{◌≡◌, ◌⊎◌, ℕ, ◌<◌, List, [], ◌∷◌, ◌++◌, codes, get_or, refl, arith}
use Rattle.cddl_token.specs.Messages.{code_text}
use Rattle.cddl_token.specs.declared.Code.{Code}
use Rattle.cddl_token.specs.declared.Code.TheVariants.{NotUtf8, BadCharacter, Unclosed, BadEscape, BadNumber, FloatLiteral, NumberTooLarge, BadBytes, SourceTooLong, Unexpected, TooNested, Duplicate, KindClash, Undefined, Arity, NoRoot, BadRoot, GroupAsType, HashForm, UnknownControl, TooManyInstances, NotUnwrappable, Recursion, NotLiteral, BadRange, BadController, NoKey, MapShape, TooManyAlternatives}
use Rattle.cddl_explain.specs.declared.causes.Cause.{Cause}
use Rattle.cddl_explain.specs.declared.causes.Cause.TheVariants.{ReservedInformation, BadIndefinite, BadBreak, BadChunk, BadSimple, TooDeep, TooLong, Truncated, BadText, DuplicateKey, Mismatch, Spent}
use Rattle.cddl_explain.specs.Causes.{words_of}
use Rattle.cddl_explain.specs.Subjects.{IsSameWord}
use Rattle.cddl_explain.specs.Names.{name_of, number_of}

abbrev pub every_code : List Code
every_code = NotUtf8 ∷ BadCharacter ∷ Unclosed ∷ BadEscape ∷ BadNumber ∷ FloatLiteral ∷ NumberTooLarge ∷ BadBytes ∷ SourceTooLong ∷ Unexpected ∷ TooNested ∷ Duplicate ∷ KindClash ∷ Undefined ∷ Arity ∷ NoRoot ∷ BadRoot ∷ GroupAsType ∷ HashForm ∷ UnknownControl ∷ TooManyInstances ∷ NotUnwrappable ∷ Recursion ∷ NotLiteral ∷ BadRange ∷ BadController ∷ NoKey ∷ MapShape ∷ TooManyAlternatives ∷ []

abbrev pub every_cause : List Cause
every_cause = ReservedInformation ∷ BadIndefinite ∷ BadBreak ∷ BadChunk ∷ BadSimple ∷ TooDeep ∷ TooLong ∷ Truncated ∷ BadText ∷ DuplicateKey ∷ Mismatch ∷ Spent ∷ []

pub no_code : (word : List ℕ) → ((k : ℕ) → k < 29 → IsSameWord word (number_of (get_or every_code k NotUtf8)) ⊎ IsSameWord word (name_of (get_or every_code k NotUtf8)) → ⊥) → (code : Code) → IsSameWord word (number_of code) ⊎ IsSameWord word (name_of code) → ⊥
no_code word h NotUtf8 e = h 0 (omega arith) e
no_code word h BadCharacter e = h 1 (omega arith) e
no_code word h Unclosed e = h 2 (omega arith) e
no_code word h BadEscape e = h 3 (omega arith) e
no_code word h BadNumber e = h 4 (omega arith) e
no_code word h FloatLiteral e = h 5 (omega arith) e
no_code word h NumberTooLarge e = h 6 (omega arith) e
no_code word h BadBytes e = h 7 (omega arith) e
no_code word h SourceTooLong e = h 8 (omega arith) e
no_code word h Unexpected e = h 9 (omega arith) e
no_code word h TooNested e = h 10 (omega arith) e
no_code word h Duplicate e = h 11 (omega arith) e
no_code word h KindClash e = h 12 (omega arith) e
no_code word h Undefined e = h 13 (omega arith) e
no_code word h Arity e = h 14 (omega arith) e
no_code word h NoRoot e = h 15 (omega arith) e
no_code word h BadRoot e = h 16 (omega arith) e
no_code word h GroupAsType e = h 17 (omega arith) e
no_code word h HashForm e = h 18 (omega arith) e
no_code word h UnknownControl e = h 19 (omega arith) e
no_code word h TooManyInstances e = h 20 (omega arith) e
no_code word h NotUnwrappable e = h 21 (omega arith) e
no_code word h Recursion e = h 22 (omega arith) e
no_code word h NotLiteral e = h 23 (omega arith) e
no_code word h BadRange e = h 24 (omega arith) e
no_code word h BadController e = h 25 (omega arith) e
no_code word h NoKey e = h 26 (omega arith) e
no_code word h MapShape e = h 27 (omega arith) e
no_code word h TooManyAlternatives e = h 28 (omega arith) e

pub no_cause : (word : List ℕ) → ((k : ℕ) → k < 12 → IsSameWord word (words_of (get_or every_cause k ReservedInformation)) → ⊥) → (cause : Cause) → IsSameWord word (words_of cause) → ⊥
no_cause word h ReservedInformation e = h 0 (omega arith) e
no_cause word h BadIndefinite e = h 1 (omega arith) e
no_cause word h BadBreak e = h 2 (omega arith) e
no_cause word h BadChunk e = h 3 (omega arith) e
no_cause word h BadSimple e = h 4 (omega arith) e
no_cause word h TooDeep e = h 5 (omega arith) e
no_cause word h TooLong e = h 6 (omega arith) e
no_cause word h Truncated e = h 7 (omega arith) e
no_cause word h BadText e = h 8 (omega arith) e
no_cause word h DuplicateKey e = h 9 (omega arith) e
no_cause word h Mismatch e = h 10 (omega arith) e
no_cause word h Spent e = h 11 (omega arith) e

-- what is printed of a code
pub printed : (code : Code) → code_text code ≡ number_of code ++ (codes " " ++ name_of code)
printed NotUtf8 = refl
printed BadCharacter = refl
printed Unclosed = refl
printed BadEscape = refl
printed BadNumber = refl
printed FloatLiteral = refl
printed NumberTooLarge = refl
printed BadBytes = refl
printed SourceTooLong = refl
printed Unexpected = refl
printed TooNested = refl
printed Duplicate = refl
printed KindClash = refl
printed Undefined = refl
printed Arity = refl
printed NoRoot = refl
printed BadRoot = refl
printed GroupAsType = refl
printed HashForm = refl
printed UnknownControl = refl
printed TooManyInstances = refl
printed NotUnwrappable = refl
printed Recursion = refl
printed NotLiteral = refl
printed BadRange = refl
printed BadController = refl
printed NoKey = refl
printed MapShape = refl
printed TooManyAlternatives = refl
