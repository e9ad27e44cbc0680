-- What is wrong with the token that a refusal names, by the code: words that follow the token.
use Rattle.std.specs.Prelude.{ℕ, List, [], ◌∷◌, Option, if◌then◌else◌}
use Rattle.cddl_token.specs.declared.Code.{Code}
use Rattle.cddl_token.specs.declared.Code.TheVariants.{NotUtf8, BadCharacter, Unclosed, BadEscape, BadNumber, FloatLiteral, NumberTooLarge, BadBytes, SourceTooLong, Unexpected, TooNested, Duplicate, KindClash, Undefined, Arity, NoRoot, BadRoot, GroupAsType, HashForm, UnknownControl, TooManyInstances, NotUnwrappable, Recursion, NotLiteral, BadRange, BadController, NoKey, MapShape, TooManyAlternatives}
use Rattle.cddl_token.specs.declared.Token.{Token}
use Rattle.cddl_explain.specs.Arity.{arity_of_name}
use Rattle.cddl_explain.specs.Cases.{clash_case, hash_case, kind_case, opening_case, range_case, root_case}
use Rattle.cddl_explain.specs.Controls.{controller_case, literal_case}
use Rattle.cddl_explain.specs.Rules.{begins_rule}
use Rattle.cddl_explain.specs.Spots.{after, before, last_of}
use Rattle.cddl_explain.specs.declared.predicates.TheConstants as text

-- by the code, with the token before a place and those from there on, of all tokens
abbrev pub predicate_of : Code → (last : Option Token) → (here ts : List Token) → List ℕ
predicate_of NotUtf8 last here ts = text.NOT_UTF8.now
predicate_of BadCharacter last here ts = text.BAD_CHARACTER.now
predicate_of Unclosed last here ts = text.UNCLOSED.now
predicate_of BadEscape last here ts = text.BAD_ESCAPE.now
predicate_of BadNumber last here ts = text.BAD_NUMBER.now
predicate_of FloatLiteral last here ts = text.FLOAT_LITERAL.now
predicate_of NumberTooLarge last here ts = text.NUMBER_TOO_LARGE.now
predicate_of BadBytes last here ts = text.BAD_BYTES.now
predicate_of SourceTooLong last here ts = text.SOURCE_TOO_LONG.now
predicate_of Unexpected last here ts = text.UNEXPECTED.now
predicate_of TooNested last here ts = text.TOO_NESTED.now
predicate_of Duplicate last here ts = text.DUPLICATE.now
predicate_of KindClash last here ts = clash_case here ts
predicate_of Undefined last here ts = text.UNDEFINED.now
predicate_of Arity last here ts = text.ARITY.now
predicate_of NoRoot last here ts = text.NO_ROOT.now
predicate_of BadRoot last here ts = root_case here
predicate_of GroupAsType last here ts = kind_case last
predicate_of HashForm last here ts = hash_case here
predicate_of UnknownControl last here ts = text.UNKNOWN_CONTROL.now
predicate_of TooManyInstances last here ts = text.TOO_MANY_INSTANCES.now
predicate_of NotUnwrappable last here ts = opening_case here
predicate_of Recursion last here ts = text.RECURSION.now
predicate_of NotLiteral last here ts = text.NOT_LITERAL.now
predicate_of BadRange last here ts = range_case here
predicate_of BadController last here ts = text.BAD_CONTROLLER.now
predicate_of NoKey last here ts = text.NO_KEY.now
predicate_of MapShape last here ts = text.MAP_SHAPE.now
predicate_of TooManyAlternatives last here ts = text.TOO_MANY_ALTERNATIVES.now

-- of a name that stands twice: as the name of a rule, or in a list of parameters
abbrev pub duplicate_of : List Token → List ℕ
duplicate_of [] = text.DUPLICATE.now
duplicate_of (t ∷ ts) = if begins_rule (t ∷ ts) then text.DUPLICATE.now else text.PARAMETER_TWICE.now

-- what is wrong with the token at the offset, of all tokens
abbrev pub predicate_at : Code → ℕ → List Token → List ℕ
predicate_at Arity at ts = arity_of_name (before at ts) (after at ts) ts
predicate_at Duplicate at ts = duplicate_of (after at ts)
predicate_at NotLiteral at ts = literal_case (last_of (before at ts))
predicate_at BadController at ts = controller_case (last_of (before at ts))
predicate_at code at ts = predicate_of code (last_of (before at ts)) (after at ts) ts
