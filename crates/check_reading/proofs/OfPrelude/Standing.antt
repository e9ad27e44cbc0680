-- What stands in a table stays as it grows, and definitions one after another.
use Rattle.std.proofs.Common.{◌≡◌, ℕ, ◌+◌, ◌<◌, Bool, true, List, [], ◌∷◌, ◌++◌, Some, length, map, take, get_or, if◌then◌else◌, sym, ap, subst, ◌∙◌}
use Rattle.std.proofs.lemmas.Option.{slice_get_within}
use Rattle.std.proofs.lemmas.List.{map-append, take_more}
use Rattle.cddl_language.specs.Terms as L
use Rattle.check_terms.specs.declared.definition.Definition.{Definition}
use Rattle.check_terms.specs.Definitions.{AreDefinitions, no_definitions, further_definition, IsDefinition}
use Rattle.check_terms.specs.Table.{Table, Grows, Holds, part, IsPart, Tree}
use Rattle.check_reading.specs.Prelude.Lines.{Line, definition_in}

pub further : {a b c : Table} → Grows a b → Grows b c → Grows a c
further g h = record { texts = λ n x e. h.texts n x (g.texts n x e); rows = λ n r e. h.rows n r (g.rows n r e) }

pub is_part : (t : Table) (n : ℕ) (x : Tree) → Holds t (Some n) x → IsPart t (Some n)
is_part t n x (part e d a b) = slice_get_within t.rows n _ e

pub one_more : (t : Table) (ds : List Definition) (xs : List L.Definition) (d : Definition) (x : L.Definition) → AreDefinitions t ds xs → IsDefinition t d x → AreDefinitions t (ds ++ d ∷ []) (xs ++ x ∷ [])
one_more t [] [] d x no_definitions is = further_definition is no_definitions
one_more t [] (y ∷ xs) d x h is = elim h [ ]
one_more t (e ∷ ds) [] d x h is = elim h [ ]
one_more t (e ∷ ds) (y ∷ xs) d x (further_definition one rest) is = further_definition one (one_more t ds xs d x rest is)

-- with the definition of the next line at the end, if it was pushed
pub next_line : (t : Table) (lines : List Line) (i : ℕ) (l : Line) (ds es : List Definition) (d : Definition) (pushed : Bool) → i < length lines → AreDefinitions t ds (map definition_in (take i lines)) → IsDefinition t d (definition_in (get_or lines i l)) → es ≡ (if pushed then ds ++ d ∷ [] else ds) → true ≡ pushed → AreDefinitions t es (map definition_in (take (i + 1) lines))
next_line t lines i l ds es d pushed within before is e ok =
    let taken : map definition_in (take (i + 1) lines) ≡ map definition_in (take i lines) ++ definition_in (get_or lines i l) ∷ [] = ap (map definition_in) (take_more lines i l within) ∙ map-append definition_in (take i lines) (get_or lines i l ∷ []) in
    let added : es ≡ ds ++ d ∷ [] = e ∙ ap (λ (b : Bool). if b then ds ++ d ∷ [] else ds) (sym ok) in
    subst (AreDefinitions t es) (sym taken) (subst (λ fs. AreDefinitions t fs (map definition_in (take i lines) ++ definition_in (get_or lines i l) ∷ [])) (sym added) (one_more t ds (map definition_in (take i lines)) d (definition_in (get_or lines i l)) before is))
