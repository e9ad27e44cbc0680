-- As many as there are.
use Rattle.std.proofs.Common.{◌≡◌, List, [], ◌∷◌, length, refl, arith}
use Rattle.cddl_language.specs.Terms as L
use Rattle.cddl_language.specs.Terms.{Ref}
use Rattle.check_terms.specs.declared.definition.Definition.{Definition}
use Rattle.check_terms.specs.Definitions.{AreDefinitions, no_definitions, further_definition}
use Rattle.check_terms.specs.Table.{Table}
use Rattle.check_instances.specs.declared.found.Instance.{Instance}
use Rattle.check_instances.specs.Found.{AreFound, none_found, further_found}

pub definitions_length : (t : Table) (ds : List Definition) (xs : List L.Definition) → AreDefinitions t ds xs → length ds ≡ length xs
definitions_length t [] [] no_definitions = refl
definitions_length t [] (x ∷ xs) h = elim h [ ]
definitions_length t (d ∷ ds) [] h = elim h [ ]
definitions_length t (d ∷ ds) (x ∷ xs) (further_definition h hs) = let e = definitions_length t ds xs hs in omega arith

pub found_length : (ds : List L.Definition) (t : Table) (is : List Instance) (rs : List Ref) → AreFound ds t is rs → length is ≡ length rs
found_length ds t [] [] none_found = refl
found_length ds t [] (r ∷ rs) h = elim h [ ]
found_length ds t (i ∷ is) [] h = elim h [ ]
found_length ds t (i ∷ is) (r ∷ rs) (further_found h hs) = let e = found_length ds t is rs hs in omega arith
