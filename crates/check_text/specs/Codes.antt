-- The codes in their order.
use Rattle.std.specs.Prelude.{List, [], ◌∷◌, ◌++◌}
use Rattle.cddl_token.specs.declared.Code.{Code}
use Rattle.cddl_token.specs.declared.Code.TheVariants.{Duplicate, KindClash, Undefined, Arity, NoRoot, BadRoot, GroupAsType, HashForm, UnknownControl, TooManyInstances, NotUnwrappable, Recursion, NotLiteral, BadRange, BadController, NoKey, MapShape, TooManyAlternatives}

-- those of the whole text
abbrev pub text_codes : List Code
text_codes = Duplicate ∷ KindClash ∷ Undefined ∷ Arity ∷ NoRoot ∷ BadRoot ∷ GroupAsType ∷ HashForm ∷ UnknownControl ∷ []

-- those of what the root reaches, once it is known what that is
abbrev pub reached_codes : List Code
reached_codes = NotUnwrappable ∷ Recursion ∷ NotLiteral ∷ BadRange ∷ BadController ∷ NoKey ∷ MapShape ∷ TooManyAlternatives ∷ []

-- those of the root
abbrev pub root_codes : List Code
root_codes = TooManyInstances ∷ reached_codes

abbrev pub all_codes : List Code
all_codes = text_codes ++ root_codes
