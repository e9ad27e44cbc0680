-- What a number stands for, it stands for in each table that has grown from this one.
use Rattle.std.proofs.Common.{◌≡◌, subst, ℕ, ◌<◌, ◌≤◌, ◌⊎◌, inl, inr, get_or, arith, List, Option, None, Some, length, slice_get}
use Rattle.std.specs.Prelude.{Result, IfOk}
use Rattle.std.proofs.lemmas.Option.{slice_get_cases, slice_get_within}
use Rattle.lists.proofs.Lemmas.{ok_then}
use Rattle.cddl_language.specs.Terms as L
use Rattle.cddl_language.specs.Terms.{Text}
use Rattle.check_terms.specs.declared.definition.Body.{Body}
use Rattle.check_terms.specs.declared.definition.Definition.{Definition}
use Rattle.check_terms.specs.Definitions.{AreDefinitions, no_definitions, further_definition, AreTexts, no_texts, further_text, IsBody, types, entry, IsDefinition}
use Rattle.check_terms.specs.declared.row.Form.{Form}
use Rattle.check_terms.specs.declared.row.Row.{Row}
use Rattle.check_terms.specs.Table.{node, Table, Grows, Holds, no_part, part, HoldsText, no_text, some_text, Tree}

pub grown : (a b c : Table) → Grows a b → Grows b c → Grows a c
grown a b c g h = record { texts = λ n x e. h.texts n x (g.texts n x e); rows = λ n r e. h.rows n r (g.rows n r e) }

pub is_row : {t : Table} {n : ℕ} {x : Tree} → Holds t (Some n) x → n < length t.rows
is_row {t = t} {n = n} (part e d a b) = slice_get_within t.rows n _ e

pub row_kept : (old new : Table) → Grows old new → (n : ℕ) → n < length old.rows → n < length new.rows
row_kept old new g n h = by (slice_get_cases old.rows n).1
  where
    by : ((r : Row) × (n < length old.rows) × (slice_get old.rows n ≡ Some r) × (get_or old.rows n r ≡ r)) ⊎ ((length old.rows ≤ n) × (slice_get old.rows n ≡ None)) → n < length new.rows
    by (inl q) = slice_get_within new.rows n q.0 (g.rows n q.0 q.2)
    by (inr q) = absurd (omega (arith, q.0, h))

text_kept : (old new : Table) → Grows old new → (n : Option ℕ) (x : Option Text) → HoldsText old.texts n x → HoldsText new.texts n x
text_kept old new g n x no_text = no_text
text_kept old new g n x (some_text {n = k} {x = y} e) = some_text (g.texts k y e)

pub kept : {old new : Table} {n : Option ℕ} {x : Tree} → Grows old new → Holds old n x → Holds new n x
kept g no_part = no_part
kept {old = old} {new = new} g (part e d a b) = part (g.rows _ _ e) (text_kept old new g _ _ d) (kept g a) (kept g b)

pub texts_kept : {old new : Table} {ns : List ℕ} {xs : List Text} → Grows old new → AreTexts old.texts ns xs → AreTexts new.texts ns xs
texts_kept g no_texts = no_texts
texts_kept g (further_text {n = n} {x = x} e h) = further_text (g.texts n x e) (texts_kept g h)

pub body_kept : {old new : Table} {b : Body} {x : L.Body} → Grows old new → IsBody old b x → IsBody new b x
body_kept g (types h) = types (kept g h)
body_kept g (entry h) = entry (kept g h)

definition_kept : {old new : Table} {d : Definition} {x : L.Definition} → Grows old new → IsDefinition old d x → IsDefinition new d x
definition_kept {d = d} {x = x} g is = record {
  name = g.texts d.name x.name is.name;
  parameters = texts_kept g is.parameters;
  sign = is.sign;
  body = body_kept g is.body;
}

pub definitions_kept : {old new : Table} {ds : List Definition} {xs : List L.Definition} → Grows old new → AreDefinitions old ds xs → AreDefinitions new ds xs
definitions_kept g no_definitions = no_definitions
definitions_kept g (further_definition h k) = further_definition (definition_kept g h) (definitions_kept g k)

-- A row that is added, where its parts stand for these, and its text or its form is given in other words.

pub made : {E : Type 0} {old : Table} {i j : Option ℕ} {x y : Option Text} {a b : Tree} (r : Result ℕ E) (new : Table) (f : Form) → x ≡ y → Holds old i a → Holds old j b → IfOk r (λ n. (c d : Tree) → Holds old i c → Holds old j d → Holds new (Some n) (node f x c d)) → IfOk r (λ n. Holds new (Some n) (node f y a b))
made {a = a} {b = b} r new f e h k stands = ok_then r _ _ (λ n s. subst (λ z. Holds new (Some n) (node f z a b)) e (s a b h k)) stands

pub with_text : {E : Type 0} {x y : Option Text} (r : Result ℕ E) (t : Table) (f : Form) (a b : Tree) → x ≡ y → IfOk r (λ n. Holds t (Some n) (node f x a b)) → IfOk r (λ n. Holds t (Some n) (node f y a b))
with_text r t f a b e = subst (λ z. IfOk r (λ n. Holds t (Some n) (node f z a b))) e

pub with_form : {E : Type 0} {f g : Form} (r : Result ℕ E) (t : Table) (x : Option Text) (a b : Tree) → f ≡ g → IfOk r (λ n. Holds t (Some n) (node f x a b)) → IfOk r (λ n. Holds t (Some n) (node g x a b))
with_form r t x a b e = subst (λ z. IfOk r (λ n. Holds t (Some n) (node z x a b))) e
