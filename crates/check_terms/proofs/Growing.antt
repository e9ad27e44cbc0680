-- What numbers stand for stays when a table grows.
use Rattle.std.proofs.Common.{◌≡◌, ℕ, ◌<◌, ◌≤◌, List, ◌⊎◌, inl, inr, Option, None, Some, IfSome, get_or, length, sym, subst, slice_get, arith}
use Rattle.std.specs.Prelude.{Result, Ok, Err, IfOk}
use Rattle.std.proofs.lemmas.Option.{slice_get_within, slice_get_cases}
use Rattle.cddl_language.specs.Terms as L
use Rattle.cddl_language.specs.Terms.{Text}
use Rattle.check_terms.specs.declared.row.Row.{Row}
use Rattle.check_terms.specs.declared.definition.Body.{Body}
use Rattle.check_terms.specs.declared.definition.Definition.{Definition}
use Rattle.check_terms.specs.Definitions.{AreDefinitions, no_definitions, further_definition, AreTexts, no_texts, further_text, IsBody, types, entry, IsDefinition}
use Rattle.check_terms.specs.Table.{Table, AddsRow, AddsText, Grows, HasParts, Holds, HoldsText, no_text, some_text, IsPart, Tree}
use Rattle.check_terms.proofs.Holding.{still, still_get}

pub same : (t : Table) → Grows t t
same t = record { texts = λ n x e. e; rows = λ n r e. e }

pub further : (a b c : Table) → Grows a b → Grows b c → Grows a c
further a b c g h = record { texts = λ n x e. h.texts n x (g.texts n x e); rows = λ n r e. h.rows n r (g.rows n r e) }

pub with_row : (old new : Table) (r : Row) → AddsRow old r new → Grows old new
with_row old new r adds = record { texts = λ n x e. subst (λ xs. slice_get xs n ≡ Some x) (sym adds.0) e; rows = still_get old.rows new.rows r adds.1 }

pub with_text : (old new : Table) (s : Text) → AddsText old s new → Grows old new
with_text old new s adds = record { texts = still_get old.texts new.texts s adds.1; rows = λ n r e. subst (λ xs. slice_get xs n ≡ Some r) (sym adds.0) e }

module _ (old new : Table) (grows : Grows old new) where
  row_kept : (n : ℕ) → n < length old.rows → n < length new.rows
  row_kept n h = by (slice_get_cases old.rows n).1
    where
      by : ((r : Row) × (n < length old.rows) × (slice_get old.rows n ≡ Some r) × (get_or old.rows n r ≡ r)) ⊎ ((length old.rows ≤ n) × (slice_get old.rows n ≡ None)) → n < length new.rows
      by (inl q) = slice_get_within new.rows n q.0 (grows.rows n q.0 q.2)
      by (inr q) = absurd (omega (arith, q.0, h))

  pub part_kept : (n : Option ℕ) → IsPart old n → IsPart new n
  part_kept None p = p
  part_kept (Some n) p = row_kept n p

  text_kept : (n : Option ℕ) (y : Option Text) → HoldsText old.texts n y → HoldsText new.texts n y
  text_kept n y no_text = no_text
  text_kept n y (some_text {n = k} {x = z} e) = some_text (grows.texts k z e)

  pub tree_kept : (n : Option ℕ) (x : Tree) → Holds old n x → Holds new n x
  tree_kept = still old new text_kept grows.rows

  pub texts_kept : (ns : List ℕ) (xs : List Text) → AreTexts old.texts ns xs → AreTexts new.texts ns xs
  texts_kept ns xs no_texts = no_texts
  texts_kept ns xs (further_text {n = n} {x = x} {ns = ms} {xs = ys} e h) = further_text (grows.texts n x e) (texts_kept ms ys h)

  pub body_kept : (b : Body) (x : L.Body) → IsBody old b x → IsBody new b x
  body_kept b x (types h) = types (tree_kept _ _ h)
  body_kept b x (entry h) = entry (tree_kept _ _ h)

  pub definition_kept : (d : Definition) (x : L.Definition) → IsDefinition old d x → IsDefinition new d x
  definition_kept d x is = record {
    name = grows.texts d.name x.name is.name;
    parameters = texts_kept d.parameters.items x.parameters is.parameters;
    sign = is.sign;
    body = body_kept d.body x.body is.body;
  }

  pub definitions_kept : (ds : List Definition) (xs : List L.Definition) → AreDefinitions old ds xs → AreDefinitions new ds xs
  definitions_kept ds xs no_definitions = no_definitions
  definitions_kept ds xs (further_definition {d = d} {x = x} {ds = es} {xs = ys} h k) = further_definition (definition_kept d x h) (definitions_kept es ys k)

-- a text that stands has a number of the table
pub text_within : (xs : List Text) (n : Option ℕ) (y : Option Text) → HoldsText xs n y → IfSome n (λ k. k < length xs)
text_within xs n y no_text = tt
text_within xs n y (some_text {n = k} {x = z} e) = slice_get_within xs k z e

-- what a row has, and what it stands for, after its text was numbered
pub has_parts : (old mid : Table) → Grows old mid → (r : Row) (x : Option Text) → HoldsText mid.texts r.text x → IsPart old r.first → IsPart old r.second → HasParts mid r
has_parts old mid grows r x holds first second = (text_within mid.texts r.text x holds, part_kept old mid grows r.first first, part_kept old mid grows r.second second)

pub some_row : {E : Type 0} (t : Table) (r : Row) (o : Result ℕ E) → IfOk o (λ n. slice_get t.rows n ≡ Some r) → IfOk o (λ n. IsPart t (Some n))
some_row t r (Ok n) e = slice_get_within t.rows n r e
some_row t r (Err e) p = p
