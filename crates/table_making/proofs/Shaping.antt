-- What the rows of terms and of entries are.
use Rattle.std.proofs.Common.{◌≡◌, ℕ, Bool, true, false, Option, Some, None, refl, sym, ap, subst, slice_get}
use Rattle.cddl_language.specs.Terms.{number, text, bytes, Term, literal, named, parens, map_of, array_of, unwrapped, choice_of, choice_of_name, tagged, tagged_by, simple_by, hash, range, control, or, Ref, call, Group, sole, orelse, Entry, typed, keyed, grouped, name_of, occurrence_of}
use Rattle.check_terms.specs.declared.row.Form.TheVariants as F
use Rattle.check_terms.specs.declared.row.Row.{Row}
use Rattle.check_terms.specs.Table.{Table, Tree, node, nothing, Holds, HoldsText, no_part, part, some_text}
use Rattle.check_terms.specs.Trees.{IsTerm, IsEntry, term_tree, ref_tree, group_tree, entry_tree}
use Rattle.table_making.specs.Lookups.{text_in}
use Rattle.table_making.specs.Shapes.{IsShape, a_literal, a_name, in_parens, an_array, an_unwrapping, a_choice_of, a_choice_of_name, a_tag, a_tag_by, a_simple, a_hash, a_range, a_range_below, a_choice, a_map, a_control, shape_by, form_shape_by, IsEntryShape, a_typed, a_keyed, a_group, entry_shape_by}

-- Each term and each part of one is a row, and no row is missing.

abbrev pub is_node : Tree → Bool
is_node nothing = false
is_node (node f x a b) = true

pub term_is_node : (x : Term) → is_node (term_tree x) ≡ true
term_is_node (literal (number n)) = refl
term_is_node (literal (text n)) = refl
term_is_node (literal (bytes n)) = refl
term_is_node (named s) = refl
term_is_node (parens y) = refl
term_is_node (map_of g) = refl
term_is_node (array_of g) = refl
term_is_node (unwrapped s) = refl
term_is_node (choice_of g) = refl
term_is_node (choice_of_name s) = refl
term_is_node (tagged n y) = refl
term_is_node (tagged_by z y) = refl
term_is_node (simple_by y) = refl
term_is_node (hash n) = refl
term_is_node (range y c z) = refl
term_is_node (control y n z) = refl
term_is_node (or y z) = refl

pub ref_is_node : (r : Ref) → is_node (ref_tree r) ≡ true
ref_is_node (call n ts) = refl

pub group_is_node : (g : Group) → is_node (group_tree g) ≡ true
group_is_node (sole es) = refl
group_is_node (orelse g es) = refl

-- what holds of each number that there may be, holds of the part
pub at_part : (t : Table) (o : Option ℕ) (x : Tree) (P : Option ℕ → Type 0) → is_node x ≡ true → Holds t o x → ((k : ℕ) → Holds t (Some k) x → P (Some k)) → P o
at_part t None x P e no_part f = cc
at_part t (Some k) x P e h f = f k h

abbrev Shaped : Table → ℕ → Term → Type 0
Shaped t n x = (r : Row) × (slice_get t.rows n ≡ Some r) × IsShape t x (shape_by r)

shaped : (t : Table) (n : ℕ) (x : Term) → IsTerm t n x → Shaped t n x
shaped t n (literal (number s)) (part e h a b) = (_, e, a_literal)
shaped t n (literal (text s)) (part e h a b) = (_, e, a_literal)
shaped t n (literal (bytes s)) (part e h a b) = (_, e, a_literal)
shaped t n (named r) (part {m = m} {i = i} {j = j} e h a b) = (_, e, at_part t i (ref_tree r) (λ o. IsShape t (named r) (form_shape_by F.Named m o j)) (ref_is_node r) a (λ k h. a_name h))
shaped t n (parens x) (part {m = m} {i = i} {j = j} e h a b) = (_, e, at_part t i (term_tree x) (λ o. IsShape t (parens x) (form_shape_by F.Parens m o j)) (term_is_node x) a (λ k h. in_parens h))
shaped t n (map_of g) (part {m = m} {i = i} {j = j} e h a b) = (_, e, at_part t i (group_tree g) (λ o. IsShape t (map_of g) (form_shape_by F.MapOf m o j)) (group_is_node g) a (λ k h. a_map h))
shaped t n (array_of g) (part {m = m} {i = i} {j = j} e h a b) = (_, e, at_part t i (group_tree g) (λ o. IsShape t (array_of g) (form_shape_by F.ArrayOf m o j)) (group_is_node g) a (λ k h. an_array h))
shaped t n (unwrapped r) (part {m = m} {i = i} {j = j} e h a b) = (_, e, at_part t i (ref_tree r) (λ o. IsShape t (unwrapped r) (form_shape_by F.Unwrapped m o j)) (ref_is_node r) a (λ k h. an_unwrapping h))
shaped t n (choice_of g) (part {m = m} {i = i} {j = j} e h a b) = (_, e, at_part t i (group_tree g) (λ o. IsShape t (choice_of g) (form_shape_by F.ChoiceOf m o j)) (group_is_node g) a (λ k h. a_choice_of h))
shaped t n (choice_of_name r) (part {m = m} {i = i} {j = j} e h a b) = (_, e, at_part t i (ref_tree r) (λ o. IsShape t (choice_of_name r) (form_shape_by F.ChoiceOfName m o j)) (ref_is_node r) a (λ k h. a_choice_of_name h))
shaped t n (tagged s x) (part {i = i} {j = j} e (some_text {n = m} g) a b) = (_, e, at_part t i (term_tree x) (λ o. IsShape t (tagged s x) (form_shape_by F.Tagged (Some m) o j)) (term_is_node x) a (λ k h. a_tag g h))
shaped t n (tagged_by y x) (part {m = m} {i = i} {j = j} e h a b) = (_, e, at_part t i (term_tree y) (λ o. IsShape t (tagged_by y x) (form_shape_by F.TaggedBy m o j)) (term_is_node y) a (λ k h. at_part t j (term_tree x) (λ o. IsShape t (tagged_by y x) (form_shape_by F.TaggedBy m (Some k) o)) (term_is_node x) b (λ l g. a_tag_by h g)))
shaped t n (simple_by x) (part {m = m} {i = i} {j = j} e h a b) = (_, e, at_part t i (term_tree x) (λ o. IsShape t (simple_by x) (form_shape_by F.SimpleBy m o j)) (term_is_node x) a (λ k h. a_simple h))
shaped t n (hash s) (part e (some_text g) a b) = (_, e, a_hash g)
shaped t n (range y true x) (part {m = m} {i = i} {j = j} e h a b) = (_, e, at_part t i (term_tree y) (λ o. IsShape t (range y true x) (form_shape_by F.Range m o j)) (term_is_node y) a (λ k h. at_part t j (term_tree x) (λ o. IsShape t (range y true x) (form_shape_by F.Range m (Some k) o)) (term_is_node x) b (λ l g. a_range h g)))
shaped t n (range y false x) (part {m = m} {i = i} {j = j} e h a b) = (_, e, at_part t i (term_tree y) (λ o. IsShape t (range y false x) (form_shape_by F.RangeBelow m o j)) (term_is_node y) a (λ k h. at_part t j (term_tree x) (λ o. IsShape t (range y false x) (form_shape_by F.RangeBelow m (Some k) o)) (term_is_node x) b (λ l g. a_range_below h g)))
shaped t n (control y s x) (part {i = i} {j = j} e (some_text {n = m} g) a b) = (_, e, at_part t i (term_tree y) (λ o. IsShape t (control y s x) (form_shape_by F.Control (Some m) o j)) (term_is_node y) a (λ k h. at_part t j (term_tree x) (λ o. IsShape t (control y s x) (form_shape_by F.Control (Some m) (Some k) o)) (term_is_node x) b (λ l q. a_control g h q)))
shaped t n (or y x) (part e h a b) = (_, e, a_choice)

one_row : (o : Option Row) (r s : Row) → o ≡ Some r → o ≡ Some s → r ≡ s
one_row o r s e f = cc

pub shape_there : (t : Table) (n : ℕ) (x : Term) (r : Row) → Some r ≡ slice_get t.rows n → IsTerm t n x → IsShape t x (shape_by r)
shape_there t n x r e h =
    let s = shaped t n x h in
    subst (λ q. IsShape t x (shape_by q)) (one_row (slice_get t.rows n) s.0 r s.1 (sym e)) s.2

pub no_row : (t : Table) (n : ℕ) (x : Tree) → is_node x ≡ true → None ≡ slice_get t.rows n → Holds t (Some n) x → ⊥
no_row t n x g e (part f h a b) = cc

abbrev EntryShaped : Table → ℕ → Entry → Type 0
EntryShaped t n x = (r : Row) × (slice_get t.rows n ≡ Some r) × IsEntryShape t x (entry_shape_by r.form r.first r.second)

entry_shaped : (t : Table) (n : ℕ) (x : Entry) → IsEntry t n x → EntryShaped t n x
entry_shaped t n (typed s x) (part {m = m} {i = i} {j = j} e h a b) = (_, e, at_part t i (term_tree x) (λ o. IsEntryShape t (typed s x) (entry_shape_by F.Typed o j)) (term_is_node x) a (λ k h. a_typed h))
entry_shaped t n (keyed s y x) (part {m = m} {i = i} {j = j} e h a b) = (_, e, at_part t j (term_tree x) (λ o. IsEntryShape t (keyed s y x) (entry_shape_by F.Keyed i o)) (term_is_node x) b (λ k h. a_keyed h))
entry_shaped t n (grouped s g) (part {m = m} {i = i} {j = j} e h a b) = (_, e, at_part t i (group_tree g) (λ o. IsEntryShape t (grouped s g) (entry_shape_by F.Grouped o j)) (group_is_node g) a (λ k h. a_group h))

pub entry_shape_there : (t : Table) (n : ℕ) (x : Entry) (r : Row) → Some r ≡ slice_get t.rows n → IsEntry t n x → IsEntryShape t x (entry_shape_by r.form r.first r.second)
entry_shape_there t n x r e h =
    let s = entry_shaped t n x h in
    subst (λ q. IsEntryShape t x (entry_shape_by q.form q.first q.second)) (one_row (slice_get t.rows n) s.0 r s.1 (sym e)) s.2

pub entry_is_node : (x : Entry) → is_node (entry_tree x) ≡ true
entry_is_node (typed o x) = refl
entry_is_node (keyed o y x) = refl
entry_is_node (grouped o g) = refl

occurrence_shaped : (t : Table) (n : ℕ) (x : Entry) → IsEntry t n x → (r : Row) × (slice_get t.rows n ≡ Some r) × HoldsText t.texts r.text (occurrence_of x)
occurrence_shaped t n (typed o x) (part e h a b) = (_, e, h)
occurrence_shaped t n (keyed o y x) (part e h a b) = (_, e, h)
occurrence_shaped t n (grouped o g) (part e h a b) = (_, e, h)

pub occurrence_there : (t : Table) (n : ℕ) (x : Entry) (r : Row) → Some r ≡ slice_get t.rows n → IsEntry t n x → HoldsText t.texts r.text (occurrence_of x)
occurrence_there t n x r e h =
    let s = occurrence_shaped t n x h in
    subst (λ q. HoldsText t.texts q.text (occurrence_of x)) (one_row (slice_get t.rows n) s.0 r s.1 (sym e)) s.2

name_shaped : (t : Table) (n : ℕ) (r : Ref) → Holds t (Some n) (ref_tree r) → (k : ℕ) × (text_in (slice_get t.rows n) ≡ Some k) × (slice_get t.texts k ≡ Some (name_of r))
name_shaped t n (call m ts) (part e (some_text {n = k} g) a b) = (k, ap text_in e, g)

-- the number of the name of a reference
pub name_there : (t : Table) (n : ℕ) (r : Ref) (k : ℕ) → Holds t (Some n) (ref_tree r) → Some k ≡ text_in (slice_get t.rows n) → slice_get t.texts k ≡ Some (name_of r)
name_there t n r k h e =
    let s = name_shaped t n r h in
    subst (λ j. slice_get t.texts j ≡ Some (name_of r)) (one_number (text_in (slice_get t.rows n)) s.0 k s.1 e) s.2
  where
    one_number : (o : Option ℕ) (i j : ℕ) → o ≡ Some i → Some j ≡ o → i ≡ j
    one_number o i j e f = cc

pub name_missing : (t : Table) (n : ℕ) (r : Ref) → Holds t (Some n) (ref_tree r) → None ≡ text_in (slice_get t.rows n) → ⊥
name_missing t n r h e =
    let s = name_shaped t n r h in
    none (text_in (slice_get t.rows n)) s.0 s.1 e
  where
    none : (o : Option ℕ) (i : ℕ) → o ≡ Some i → None ≡ o → ⊥
    none o i e f = cc
