-- What the rows of terms and of entries are.
use Rattle.std.specs.Prelude.{◌≡◌, ℕ, Bool, true, false, Option, Some, None, slice_get}
use Rattle.cddl_language.specs.Terms.{Text, Term, Ref, Group, Literal, literal, named, parens, map_of, array_of, unwrapped, choice_of, choice_of_name, tagged, tagged_by, simple_by, hash, range, control, or, Key, Entry, typed, keyed, grouped}
use Rattle.check_terms.specs.declared.row.Form.{Form}
use Rattle.check_terms.specs.declared.row.Form.TheVariants as F
use Rattle.check_terms.specs.declared.row.Row.{Row}
use Rattle.check_terms.specs.Table.{Table}
use Rattle.check_terms.specs.Trees.{IsTerm, IsRef, IsGroup}
use Rattle.table_making.specs.declared.form.KeyForm.{KeyForm}
use Rattle.table_making.specs.declared.origin.TypeOrigin.TheVariants as T
use Rattle.table_making.specs.declared.shape.Pair.{Pair}
use Rattle.table_making.specs.declared.shape.Shape.{Shape}
use Rattle.table_making.specs.declared.shape.Shape.TheVariants as S
use Rattle.table_making.specs.declared.shape.EntryShape.{EntryShape}
use Rattle.table_making.specs.declared.shape.EntryShape.TheVariants as E

-- a shape with a part, where there is one

abbrev pub with_part : (ℕ → Shape) → Option ℕ → Shape
with_part f None = S.Other
with_part f (Some n) = f n

abbrev pub with_parts : (ℕ → ℕ → Shape) → Option ℕ → Option ℕ → Shape
with_parts f (Some m) (Some n) = f m n
with_parts f _ _ = S.Other

abbrev pub with_all : (ℕ → ℕ → ℕ → Shape) → Option ℕ → Option ℕ → Option ℕ → Shape
with_all f (Some k) (Some m) (Some n) = f k m n
with_all f _ _ _ = S.Other

abbrev pub pair_shape_by : Form → (text first second : Option ℕ) → Shape
pair_shape_by F.Tagged m i j = with_parts S.Tagged m i
pair_shape_by F.TaggedBy m i j = with_parts S.TaggedBy i j
pair_shape_by F.Range m i j = with_parts S.Range i j
pair_shape_by F.RangeBelow m i j = with_parts S.RangeBelow i j
pair_shape_by F.Control m i j = with_all S.Control m i j
pair_shape_by _ m i j = S.Other

abbrev pub form_shape_by : Form → (text first second : Option ℕ) → Shape
form_shape_by F.Number m i j = S.Literal
form_shape_by F.Text m i j = S.Literal
form_shape_by F.Bytes m i j = S.Literal
form_shape_by F.Named m i j = with_part S.Named i
form_shape_by F.Parens m i j = with_part S.Parens i
form_shape_by F.MapOf m i j = with_part S.MapOf i
form_shape_by F.ArrayOf m i j = with_part S.ArrayOf i
form_shape_by F.Unwrapped m i j = with_part S.Unwrapped i
form_shape_by F.ChoiceOf m i j = with_part S.ChoiceOf i
form_shape_by F.ChoiceOfName m i j = with_part S.ChoiceOfName i
form_shape_by F.SimpleBy m i j = with_part S.SimpleBy i
form_shape_by F.Hash m i j = with_part S.Hash m
form_shape_by F.Or m i j = S.Or
form_shape_by f m i j = pair_shape_by f m i j

abbrev pub shape_by : Row → Shape
shape_by r = form_shape_by r.form r.text r.first r.second

-- the term is of this shape, and the parts are these
pub data IsShape (t : Table) : Term → Shape → Type 0 where
  a_literal : {v : Literal} → IsShape t (literal v) S.Literal
  a_name : {k : ℕ} {r : Ref} → IsRef t k r → IsShape t (named r) (S.Named k)
  in_parens : {k : ℕ} {x : Term} → IsTerm t k x → IsShape t (parens x) (S.Parens k)
  an_array : {k : ℕ} {g : Group} → IsGroup t k g → IsShape t (array_of g) (S.ArrayOf k)
  an_unwrapping : {k : ℕ} {r : Ref} → IsRef t k r → IsShape t (unwrapped r) (S.Unwrapped k)
  a_choice_of : {k : ℕ} {g : Group} → IsGroup t k g → IsShape t (choice_of g) (S.ChoiceOf k)
  a_choice_of_name : {k : ℕ} {r : Ref} → IsRef t k r → IsShape t (choice_of_name r) (S.ChoiceOfName k)
  a_tag : {m k : ℕ} {n : Text} {x : Term} → slice_get t.texts m ≡ Some n → IsTerm t k x → IsShape t (tagged n x) (S.Tagged m k)
  a_tag_by : {m k : ℕ} {h x : Term} → IsTerm t m h → IsTerm t k x → IsShape t (tagged_by h x) (S.TaggedBy m k)
  a_simple : {k : ℕ} {h : Term} → IsTerm t k h → IsShape t (simple_by h) (S.SimpleBy k)
  a_hash : {m : ℕ} {n : Text} → slice_get t.texts m ≡ Some n → IsShape t (hash n) (S.Hash m)
  a_range : {m k : ℕ} {a b : Term} → IsTerm t m a → IsTerm t k b → IsShape t (range a true b) (S.Range m k)
  a_range_below : {m k : ℕ} {a b : Term} → IsTerm t m a → IsTerm t k b → IsShape t (range a false b) (S.RangeBelow m k)
  a_choice : {a b : Term} → IsShape t (or a b) S.Or
  a_map : {k : ℕ} {g : Group} → IsGroup t k g → IsShape t (map_of g) (S.MapOf k)
  a_control : {m i k : ℕ} {a b : Term} {n : Text} → slice_get t.texts m ≡ Some n → IsTerm t i a → IsTerm t k b → IsShape t (control a n b) (S.Control m i k)

abbrev pub entry_with : (ℕ → EntryShape) → Option ℕ → EntryShape
entry_with f None = E.Other
entry_with f (Some n) = f n

abbrev pub entry_shape_by : Form → (first second : Option ℕ) → EntryShape
entry_shape_by F.Typed i j = entry_with E.Typed i
entry_shape_by F.Keyed i j = entry_with E.Keyed j
entry_shape_by F.Grouped i j = entry_with E.Grouped i
entry_shape_by _ i j = E.Other

pub data IsEntryShape (t : Table) : Entry → EntryShape → Type 0 where
  a_typed : {k : ℕ} {o : Option Text} {x : Term} → IsTerm t k x → IsEntryShape t (typed o x) (E.Typed k)
  a_keyed : {k : ℕ} {o : Option Text} {y : Key} {x : Term} → IsTerm t k x → IsEntryShape t (keyed o y x) (E.Keyed k)
  a_group : {k : ℕ} {o : Option Text} {g : Group} → IsGroup t k g → IsEntryShape t (grouped o g) (E.Grouped k)

-- the key and the type of an entry

abbrev pub pair_with : Option ℕ → Option ℕ → Option Pair
pair_with (Some i) (Some j) = Some (record { key = i; value = j })
pair_with _ _ = None

abbrev pub pair_by : Form → (first second : Option ℕ) → Option Pair
pair_by F.Keyed i j = pair_with i j
pair_by _ i j = None

-- the type of a key, and whether it cuts

abbrev pub type_key : Bool → Option ℕ → Option KeyForm
type_key cuts None = None
type_key cuts (Some i) = Some (record { origin = T.Row i; cuts = cuts })

abbrev pub word_key : Option ℕ → Option KeyForm
word_key None = None
word_key (Some m) = Some (record { origin = T.Word m; cuts = true })

abbrev pub key_by : Form → (text first : Option ℕ) → Option KeyForm
key_by F.TypeKey m i = type_key false i
key_by F.CutKey m i = type_key true i
key_by F.LiteralKey m i = type_key true i
key_by F.Bareword m i = word_key m
key_by _ m i = None
