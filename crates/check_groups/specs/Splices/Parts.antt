-- What the parts of rows say of what the rows stand for.
use Rattle.std.specs.Prelude.{◌≡◌, ◌+◌, ℕ, Bool, List, [], length, Option, Some, None, slice_get}
use Rattle.check_terms.specs.Texts.Occurrence.{most_in}
use Rattle.cddl_language.specs.Numbers.{least_of, most_of}
use Rattle.cddl_language.specs.Terms.{Text, Term, Group, sole, orelse, Entries, no_entries, entries, Entry, typed, keyed, grouped, Key, Definition, alternatives}
use Rattle.cddl_language.specs.Kinds.{part_of}
use Rattle.cddl_language.specs.MapFaults.{group_of_part}
use Rattle.cddl_language.specs.Reach.{group_points, entry_points}
use Rattle.check_terms.specs.Table.{Table}
use Rattle.check_terms.specs.Trees.{IsGroup, IsEntries, IsEntry}
use Rattle.check_instances.specs.Closed.Closed.{AreReached}
use Rattle.alternatives.specs.declared.Bounds.{Bounds}
use Rattle.alternatives.specs.declared.Part.{Part}
use Rattle.alternatives.specs.declared.Part.TheVariants.{Refused, Entry as AnEntry, Empty, Nothing, Same, Both, Either, Occurs}

-- so often at least and at most
pub record HasBounds (o : Option Text) (b : Bounds) : Type 0 where
  pub least : b.least ≡ least_of o
  pub most : most_in b.most ≡ most_of o

-- the number is that of a group with these choices, whose references are all instances; that after the rows where there are none
pub data IsOf (xs : List Definition) (root : Text) (t : Table) : List Entries → ℕ → Type 0 where
  no_choices : IsOf xs root t [] (length t.rows)
  choices_of : {n : ℕ} (g : Group) → IsGroup t n g → AreReached xs root (group_points g) → IsOf xs root t (alternatives g) n

-- Of a group, of entries, and of an entry.

pub data IsPartOfGroup (t : Table) : Group → Part → Type 0 where
  of_sole : {es : Entries} {n : ℕ} → IsEntries t n es → IsPartOfGroup t (sole es) (Same n)
  of_orelse : {g : Group} {es : Entries} {n m : ℕ} → IsGroup t n g → IsEntries t m es → IsPartOfGroup t (orelse g es) (Either n m)

pub data IsPartOfEntries (t : Table) : Entries → Part → Type 0 where
  of_none : IsPartOfEntries t no_entries Empty
  of_more : {es : Entries} {e : Entry} {n m : ℕ} {c : Bool} → IsEntries t n es → IsEntry t m e → IsPartOfEntries t (entries es e c) (Both n m)

pub data IsPartOfEntry (xs : List Definition) (root : Text) (t : Table) : Entry → Part → Type 0 where
  of_type : {o : Option Text} {x : Term} → group_of_part xs (part_of xs x) ≡ None → IsPartOfEntry xs root t (typed o x) Refused
  of_named : {o : Option Text} {x : Term} {ess : List Entries} {b : Bounds} {n : ℕ} → HasBounds o b → group_of_part xs (part_of xs x) ≡ Some ess → IsOf xs root t ess n → IsPartOfEntry xs root t (typed o x) (Occurs b n)
  of_keyed : {o : Option Text} {k : Key} {x : Term} {b : Bounds} → HasBounds o b → IsPartOfEntry xs root t (keyed o k x) (AnEntry b)
  of_grouped : {o : Option Text} {g : Group} {b : Bounds} {n : ℕ} → HasBounds o b → IsGroup t n g → IsPartOfEntry xs root t (grouped o g) (Occurs b n)

-- the part of a row, where all references that stand in an entry are instances
pub record IsPartAt (xs : List Definition) (root : Text) (t : Table) (n : ℕ) (p : Part) : Type 0 where
  pub group : (g : Group) → IsGroup t n g → IsPartOfGroup t g p
  pub entries : (es : Entries) → IsEntries t n es → IsPartOfEntries t es p
  pub entry : (e : Entry) → IsEntry t n e → AreReached xs root (entry_points e) → IsPartOfEntry xs root t e p

-- of each row, and after them nothing to choose from
pub record AreParts (xs : List Definition) (root : Text) (t : Table) (parts : List Part) : Type 0 where
  pub all : length parts ≡ length t.rows + 1
  pub nothing : slice_get parts (length t.rows) ≡ Some Nothing
  pub each : (n : ℕ) (p : Part) → slice_get parts n ≡ Some p → IsPartAt xs root t n p
