-- What stands at the rows of groups, of entries and of each entry.
use Rattle.std.specs.Prelude.{◌≡◌, ℕ, Bool, List, [], length, Option, Some, None, slice_get}
use Rattle.cddl_language.specs.Terms.{Text, Term, Group, sole, orelse, Entries, no_entries, entries, Entry, typed, keyed, grouped, Key, Definition, alternatives}
use Rattle.cddl_language.specs.Kinds as K
use Rattle.cddl_language.specs.Kinds.{part_of}
use Rattle.cddl_language.specs.MapFaults.{group_of_part}
use Rattle.cddl_language.specs.Reach.{group_points, entry_points}
use Rattle.check_terms.specs.declared.row.Form.{Form}
use Rattle.check_terms.specs.declared.row.Form.TheVariants as F
use Rattle.check_terms.specs.Table.{Table, HoldsText}
use Rattle.check_terms.specs.Trees.{IsGroup, IsEntries, IsEntry}
use Rattle.check_instances.specs.declared.closed.closed.Meaning.{Meaning}
use Rattle.check_instances.specs.Closed.Closed.{AreReached}
use Rattle.check_instances.specs.declared.openings.openings.Part.{Part}
use Rattle.check_instances.specs.declared.openings.openings.Part.TheVariants as PartV
use Rattle.check_groups.specs.declared.causes.rows.GroupRow.{GroupRow}
use Rattle.check_groups.specs.declared.causes.rows.GroupRow.TheVariants as RowV

-- the alternatives of the group that is named or opened, if one is
abbrev pub choices_or_none : Option (List Entries) → List Entries
choices_or_none None = []
choices_or_none (Some ess) = ess

abbrev pub alternatives_at : List Definition → K.Part → List Entries
alternatives_at xs k = choices_or_none (group_of_part xs k)

-- the row is of a group with these alternatives, whose references are all instances; without a row there is none
pub data IsGroupOf (xs : List Definition) (root : Text) (t : Table) (ess : List Entries) : Option ℕ → Type 0 where
  no_group : ess ≡ [] → IsGroupOf xs root t ess None
  group_of : {n : ℕ} (g : Group) → ess ≡ alternatives g → IsGroup t n g → AreReached xs root (group_points g) → IsGroupOf xs root t ess (Some n)

-- What stands at the row of a group, of entries, and of an entry.

pub data IsGroupRow (t : Table) : Group → GroupRow → Type 0 where
  of_sole : {es : Entries} {n : ℕ} → IsEntries t n es → IsGroupRow t (sole es) (RowV.Sole n)
  of_orelse : {g : Group} {es : Entries} {n m : ℕ} → IsGroup t n g → IsEntries t m es → IsGroupRow t (orelse g es) (RowV.OrElse n m)

pub data IsEntriesRow (t : Table) : Entries → GroupRow → Type 0 where
  of_none : IsEntriesRow t no_entries RowV.NoEntries
  of_more : {es : Entries} {e : Entry} {n m : ℕ} {c : Bool} → IsEntries t n es → IsEntry t m e → IsEntriesRow t (entries es e c) (RowV.Entries n m)

pub data IsEntryRow (xs : List Definition) (root : Text) (t : Table) : Entry → GroupRow → Type 0 where
  of_type : {o : Option Text} {x : Term} {k : Option ℕ} → HoldsText t.texts k o → group_of_part xs (part_of xs x) ≡ None → IsEntryRow xs root t (typed o x) (RowV.Type k)
  of_named : {o : Option Text} {x : Term} {k m : Option ℕ} {ess : List Entries} → HoldsText t.texts k o → group_of_part xs (part_of xs x) ≡ Some ess → IsGroupOf xs root t ess m → IsEntryRow xs root t (typed o x) (RowV.Group k m)
  of_keyed : {o : Option Text} {q : Key} {x : Term} {k : Option ℕ} → HoldsText t.texts k o → IsEntryRow xs root t (keyed o q x) (RowV.Pair k)
  of_grouped : {o : Option Text} {g : Group} {k : Option ℕ} {n : ℕ} → HoldsText t.texts k o → IsGroup t n g → IsEntryRow xs root t (grouped o g) (RowV.Group k (Some n))

-- what is said of the row n is true of what stands there, if all references in an entry there are instances
pub record IsAt {A : Type 0} (xs : List Definition) (root : Text) (t : Table) (OfGroup : Group → A → Type 0) (OfEntries : Entries → A → Type 0) (OfEntry : Entry → A → Type 0) (n : ℕ) (a : A) : Type 0 where
  pub group : (g : Group) → IsGroup t n g → OfGroup g a
  pub entries : (es : Entries) → IsEntries t n es → OfEntries es a
  pub entry : (e : Entry) → IsEntry t n e → AreReached xs root (entry_points e) → OfEntry e a

abbrev pub IsRowAt : List Definition → Text → Table → ℕ → GroupRow → Type 0
IsRowAt xs root t n r = IsAt xs root t (IsGroupRow t) (IsEntriesRow t) (IsEntryRow xs root t) n r

-- of all rows
pub record AreRows (xs : List Definition) (root : Text) (t : Table) (rows : List GroupRow) : Type 0 where
  pub all : length rows ≡ length t.rows
  pub each : (n : ℕ) (r : GroupRow) → slice_get rows n ≡ Some r → IsRowAt xs root t n r

abbrev pub occurrence_at : GroupRow → Option ℕ
occurrence_at (RowV.Type k) = k
occurrence_at (RowV.Pair k) = k
occurrence_at (RowV.Group k n) = k
occurrence_at _ = None

-- by the form and the parts of a row

abbrev pub sole_row : Option ℕ → GroupRow
sole_row (Some n) = RowV.Sole n
sole_row None = RowV.Other

abbrev pub or_else_row : Option ℕ → Option ℕ → GroupRow
or_else_row (Some n) (Some m) = RowV.OrElse n m
or_else_row _ _ = RowV.Other

abbrev pub entries_row : Option ℕ → Option ℕ → GroupRow
entries_row (Some n) (Some m) = RowV.Entries n m
entries_row _ _ = RowV.Other

abbrev pub group_row : Form → Option ℕ → Option ℕ → GroupRow
group_row F.Sole first second = sole_row first
group_row F.OrElse first second = or_else_row first second
group_row F.NoEntries first second = RowV.NoEntries
group_row F.Entries first second = entries_row first second
group_row F.EntriesComma first second = entries_row first second
group_row _ first second = RowV.Other

-- by what the type of an entry is, where these are the meanings of the instances

abbrev pub named_row : Option ℕ → Option Meaning → GroupRow
named_row k None = RowV.Other
named_row k (Some m) = RowV.Group k m.group

abbrev pub part_row : List Meaning → Option ℕ → Part → GroupRow
part_row meanings k PartV.AsksType = RowV.Type k
part_row meanings k (PartV.NamesGroup place) = named_row k (slice_get meanings place)
part_row meanings k (PartV.Opens place n) = RowV.Group k (Some n)
