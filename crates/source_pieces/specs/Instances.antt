-- What the terms of a rule are in an instance of a name (RFC 8610 section 3.10).
use Rattle.std.specs.Prelude.{Bool, true, false, if◌then◌else◌, List, [], ◌∷◌}
use Rattle.tree_nodes.specs.Syntax.Syntax as S
use Rattle.cddl_language.specs.Environment.{is_same}
use Rattle.cddl_language.specs.Reading.{name_in, parameters_in}
use Rattle.cddl_language.specs.Substitution.{fill}
use Rattle.cddl_language.specs.Terms.{Ref, Term, Text, arguments_of, name_of}

abbrev pub as_written : Term → Term
as_written t = t

-- the same of each rule
abbrev pub all_as_written : S.Rule → Term → Term
all_as_written r = as_written

-- a name without arguments leaves it as it is
abbrev pub with_arguments : List Text → List Term → Term → Term
with_arguments ps [] t = t
with_arguments ps (x ∷ xs) t = fill ps (x ∷ xs) t

-- with the arguments in the place of the parameters, where the rule is one of the instance's name
abbrev pub term_in : Ref → S.Rule → Term → Term
term_in q r t = if is_same (name_in r) (name_of q) then with_arguments (parameters_in r) (arguments_of q) t else t

abbrev pub is_some_term : List Term → Bool
is_some_term [] = false
is_some_term (x ∷ xs) = true

-- whether it is one of a rule with parameters
abbrev pub has_arguments : Ref → Bool
has_arguments q = is_some_term (arguments_of q)
