-- Rows, and the parts that stand there.
use Rattle.std.proofs.Common.{◌≡◌, ℕ, true, false, List, Option, Some, None, refl, sym, ap, subst, ◌∙◌, slice_get, true≢false}
use Rattle.cddl_language.specs.Terms.{Text, number, text, bytes, Term, literal, named, parens, map_of, array_of, unwrapped, choice_of, choice_of_name, tagged, tagged_by, simple_by, hash, range, control, or, Group, sole, orelse, Entries, no_entries, entries, Entry, typed, keyed, grouped, Definition}
use Rattle.cddl_language.specs.Reach.{points, entry_points}
use Rattle.check_terms.specs.declared.row.Form.{Form}
use Rattle.check_terms.specs.declared.row.Form.TheVariants as F
use Rattle.check_terms.specs.declared.row.Row.{Row}
use Rattle.check_terms.specs.Table.{Table, Tree, node, Holds, part, HoldsText}
use Rattle.check_terms.specs.Trees.{IsGroup, IsEntries, IsEntry, group_tree, entries_tree, entry_tree, term_tree}
use Rattle.check_names.specs.Kinds.Heads.{HoldsRow, row_of}
use Rattle.check_terms.specs.Entries.{is_entry}
use Rattle.check_instances.specs.Closed.Closed.{AreReached}
use Rattle.check_groups.specs.declared.causes.rows.GroupRow.{GroupRow}
use Rattle.check_groups.specs.declared.causes.rows.GroupRow.TheVariants as RowV
use Rattle.check_groups.specs.Causes.Rows.{IsGroupRow, of_sole, of_orelse, IsEntriesRow, of_none, of_more, IsEntryRow, of_keyed, of_grouped, IsRowAt, group_row, sole_row, or_else_row, entries_row}

row_there : (t : Table) (n : ℕ) (x : Tree) (r : Row) → Holds t (Some n) x → slice_get t.rows n ≡ Some r → HoldsRow t r x
row_there t n x r (part e h a b) g = subst (λ s. HoldsRow t s x) (one _ _ _ e g) (row_of refl h a b)
  where
    one : (o : Option Row) (s r : Row) → o ≡ Some s → o ≡ Some r → s ≡ r
    one o s r e g = cc

pub no_row : (t : Table) (n : ℕ) (x : Tree) → Holds t (Some n) x → slice_get t.rows n ≡ None → ⊥
no_row t n x (part e h a b) g = never _ _ e g
  where
    never : (o : Option Row) (s : Row) → o ≡ Some s → o ≡ None → ⊥
    never o s e g = cc

-- A part that stands for something is a row.

node_there : (t : Table) (o : Option ℕ) (f : Form) (x : Option Text) (a b : Tree) → Holds t o (node f x a b) → (n : ℕ) × (o ≡ Some n) × Holds t (Some n) (node f x a b)
node_there t o f x a b (part {n = n} e h k l) = (n, refl, part e h k l)

group_there : (t : Table) (o : Option ℕ) (g : Group) → Holds t o (group_tree g) → (n : ℕ) × (o ≡ Some n) × IsGroup t n g
group_there t o (sole es) h = node_there t o _ _ _ _ h
group_there t o (orelse g es) h = node_there t o _ _ _ _ h

entries_there : (t : Table) (o : Option ℕ) (es : Entries) → Holds t o (entries_tree es) → (n : ℕ) × (o ≡ Some n) × IsEntries t n es
entries_there t o no_entries h = node_there t o _ _ _ _ h
entries_there t o (entries es e c) h = node_there t o _ _ _ _ h

entry_there : (t : Table) (o : Option ℕ) (e : Entry) → Holds t o (entry_tree e) → (n : ℕ) × (o ≡ Some n) × IsEntry t n e
entry_there t o (typed p x) h = node_there t o _ _ _ _ h
entry_there t o (keyed p k x) h = node_there t o _ _ _ _ h
entry_there t o (grouped p g) h = node_there t o _ _ _ _ h

no_node : (t : Table) (f : Form) (x : Option Text) (a b : Tree) → Holds t None (node f x a b) → ⊥
no_node t f x a b h = elim h [ ]

pub no_term : (t : Table) (x : Term) → Holds t None (term_tree x) → ⊥
no_term t (literal (number x)) h = no_node t _ _ _ _ h
no_term t (literal (text x)) h = no_node t _ _ _ _ h
no_term t (literal (bytes x)) h = no_node t _ _ _ _ h
no_term t (named r) h = no_node t _ _ _ _ h
no_term t (parens y) h = no_node t _ _ _ _ h
no_term t (map_of g) h = no_node t _ _ _ _ h
no_term t (array_of g) h = no_node t _ _ _ _ h
no_term t (unwrapped r) h = no_node t _ _ _ _ h
no_term t (choice_of g) h = no_node t _ _ _ _ h
no_term t (choice_of_name r) h = no_node t _ _ _ _ h
no_term t (tagged x y) h = no_node t _ _ _ _ h
no_term t (tagged_by z y) h = no_node t _ _ _ _ h
no_term t (simple_by y) h = no_node t _ _ _ _ h
no_term t (hash x) h = no_node t _ _ _ _ h
no_term t (range y c z) h = no_node t _ _ _ _ h
no_term t (control y x z) h = no_node t _ _ _ _ h
no_term t (or y z) h = no_node t _ _ _ _ h

-- Which rows are of entries.

group_is_no_entry : (t : Table) (r : Row) (g : Group) → HoldsRow t r (group_tree g) → is_entry r.form ≡ false
group_is_no_entry t r (sole es) (row_of e h a b) = ap is_entry e
group_is_no_entry t r (orelse g es) (row_of e h a b) = ap is_entry e

entries_are_no_entry : (t : Table) (r : Row) (es : Entries) → HoldsRow t r (entries_tree es) → is_entry r.form ≡ false
entries_are_no_entry t r no_entries (row_of e h a b) = ap is_entry e
entries_are_no_entry t r (entries es x true) (row_of e h a b) = ap is_entry e
entries_are_no_entry t r (entries es x false) (row_of e h a b) = ap is_entry e

entry_is_entry : (t : Table) (r : Row) (e : Entry) → HoldsRow t r (entry_tree e) → is_entry r.form ≡ true
entry_is_entry t r (typed o x) (row_of e h a b) = ap is_entry e
entry_is_entry t r (keyed o k x) (row_of e h a b) = ap is_entry e
entry_is_entry t r (grouped o g) (row_of e h a b) = ap is_entry e

-- What stands at a row of a group or of entries.

of_group : (t : Table) (r : Row) (g : Group) → HoldsRow t r (group_tree g) → IsGroupRow t g (group_row r.form r.first r.second)
of_group t r (sole es) (row_of e h a b) =
    let p = entries_there t r.first es a in
    subst (IsGroupRow t (sole es)) (sym (ap (λ (f : Form). group_row f r.first r.second) e ∙ ap sole_row p.1)) (of_sole p.2)
of_group t r (orelse g es) (row_of e h a b) =
    let p = group_there t r.first g a in
    let q = entries_there t r.second es b in
    subst (IsGroupRow t (orelse g es)) (sym (ap (λ (f : Form). group_row f r.first r.second) e ∙ ap (λ o. or_else_row o r.second) p.1 ∙ ap (or_else_row (Some p.0)) q.1)) (of_orelse p.2 q.2)

of_entries : (t : Table) (r : Row) (es : Entries) → HoldsRow t r (entries_tree es) → IsEntriesRow t es (group_row r.form r.first r.second)
of_entries t r no_entries (row_of e h a b) = subst (IsEntriesRow t no_entries) (sym (ap (λ (f : Form). group_row f r.first r.second) e)) of_none
of_entries t r (entries es x true) (row_of e h a b) =
    let p = entries_there t r.first es a in
    let q = entry_there t r.second x b in
    subst (IsEntriesRow t (entries es x true)) (sym (ap (λ (f : Form). group_row f r.first r.second) e ∙ ap (λ o. entries_row o r.second) p.1 ∙ ap (entries_row (Some p.0)) q.1)) (of_more p.2 q.2)
of_entries t r (entries es x false) (row_of e h a b) =
    let p = entries_there t r.first es a in
    let q = entry_there t r.second x b in
    subst (IsEntriesRow t (entries es x false)) (sym (ap (λ (f : Form). group_row f r.first r.second) e ∙ ap (λ o. entries_row o r.second) p.1 ∙ ap (entries_row (Some p.0)) q.1)) (of_more p.2 q.2)

module _ (xs : List Definition) (root : Text) (t : Table) where
  pub no_row_at : (n : ℕ) (c : GroupRow) → slice_get t.rows n ≡ None → IsRowAt xs root t n c
  no_row_at n c g = record {
    group = λ x h. absurd (no_row t n (group_tree x) h g);
    entries = λ x h. absurd (no_row t n (entries_tree x) h g);
    entry = λ x h k. absurd (no_row t n (entry_tree x) h g);
  }

  pub entry_row_at : (n : ℕ) (r : Row) (c : GroupRow) → slice_get t.rows n ≡ Some r → is_entry r.form ≡ true → ((e : Entry) → HoldsRow t r (entry_tree e) → AreReached xs root (entry_points e) → IsEntryRow xs root t e c) → IsRowAt xs root t n c
  entry_row_at n r c g i f = record {
    group = λ x h. absurd (true≢false (sym i ∙ group_is_no_entry t r x (row_there t n (group_tree x) r h g)));
    entries = λ x h. absurd (true≢false (sym i ∙ entries_are_no_entry t r x (row_there t n (entries_tree x) r h g)));
    entry = λ x h k. f x (row_there t n (entry_tree x) r h g) k;
  }

  pub group_row_at : (n : ℕ) (r : Row) → slice_get t.rows n ≡ Some r → is_entry r.form ≡ false → IsRowAt xs root t n (group_row r.form r.first r.second)
  group_row_at n r g i = record {
    group = λ x h. of_group t r x (row_there t n (group_tree x) r h g);
    entries = λ x h. of_entries t r x (row_there t n (entries_tree x) r h g);
    entry = λ x h k. absurd (true≢false (sym (entry_is_entry t r x (row_there t n (entry_tree x) r h g)) ∙ i));
  }

  -- What stands at a row of an entry.

  pub typed_row : (r : Row) → r.form ≡ F.Typed → (c : GroupRow) → ((o : Option Text) (x : Term) → HoldsText t.texts r.text o → Holds t r.first (term_tree x) → AreReached xs root (points x) → IsEntryRow xs root t (typed o x) c) → (e : Entry) → HoldsRow t r (entry_tree e) → AreReached xs root (entry_points e) → IsEntryRow xs root t e c
  typed_row r f c inner (typed o x) (row_of e h a b) k = inner o x h a k
  typed_row r f c inner (keyed o q x) (row_of e h a b) k = cc
  typed_row r f c inner (grouped o g) (row_of e h a b) k = cc

  pub grouped_row : (r : Row) → r.form ≡ F.Grouped → (e : Entry) → HoldsRow t r (entry_tree e) → IsEntryRow xs root t e (RowV.Group r.text r.first)
  grouped_row r f (typed o x) (row_of e h a b) = cc
  grouped_row r f (keyed o q x) (row_of e h a b) = cc
  grouped_row r f (grouped o g) (row_of e h a b) =
      let n = group_there t r.first g a in
      subst (λ m. IsEntryRow xs root t (grouped o g) (RowV.Group r.text m)) (sym n.1) (of_grouped h n.2)

  pub keyed_row : (r : Row) → (r.form ≡ F.Typed → ⊥) → (r.form ≡ F.Grouped → ⊥) → (e : Entry) → HoldsRow t r (entry_tree e) → IsEntryRow xs root t e (RowV.Pair r.text)
  keyed_row r f g (typed o x) (row_of e h a b) = absurd (f e)
  keyed_row r f g (grouped o x) (row_of e h a b) = absurd (g e)
  keyed_row r f g (keyed o q x) (row_of e h a b) = of_keyed h
