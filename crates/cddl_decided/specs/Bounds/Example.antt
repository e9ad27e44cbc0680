-- Definitions by which an instance is asked as a type and as a group on one way.
use Rattle.std.specs.Prelude.{List, [], ◌∷◌, None, codes}
use Rattle.cddl_language.specs.Examples.{a_number, a_ref, also_group}
use Rattle.cddl_language.specs.Prelude.{definition, plain}
use Rattle.cddl_language.specs.Terms.{Definition, Term, choice_of_name, grouped, lone, sole, typed}

-- `&a`, `&b`
abbrev pub after_a : Term
after_a = choice_of_name (a_ref (codes "a"))

abbrev pub after_b : Term
after_b = choice_of_name (a_ref (codes "b"))

-- `a = b`, `a //= (&b)`, `b = 5`, `b //= (a)`
abbrev pub both_ways : List Definition
both_ways =
    definition (codes "a") (plain (codes "b"))
    ∷ also_group (codes "a") (grouped None (sole (lone (typed None after_b))))
    ∷ definition (codes "b") (a_number (codes "5"))
    ∷ also_group (codes "b") (grouped None (sole (lone (typed None (plain (codes "a"))))))
    ∷ []
