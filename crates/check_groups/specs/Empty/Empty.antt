-- The groups that may be empty, by rows.
use Rattle.std.specs.Prelude.{◌≡◌, ◌↔◌, ℕ, Bool, true, List, length, Some, slice_get}
use Rattle.cddl_language.specs.Terms.{Text, Group, Entries, Entry, Definition, alternatives}
use Rattle.cddl_language.specs.Free.{EntryMayBeEmpty, MayBeEmpty, SomeMayBeEmpty}
use Rattle.cddl_language.specs.Reach.{group_points, entries_points, entry_points}
use Rattle.check_terms.specs.Table.{Table}
use Rattle.check_terms.specs.Trees.{IsGroup, IsEntries, IsEntry}
use Rattle.check_instances.specs.Closed.Closed.{AreReached}

-- for each row that is a closed group's, entries' or an entry's, whose references are instances
pub record AreEmpty (xs : List Definition) (root : Text) (t : Table) (flags : List Bool) : Type 0 where
  pub all : length flags ≡ length t.rows
  pub groups : (n : ℕ) (g : Group) → IsGroup t n g → AreReached xs root (group_points g) → (slice_get flags n ≡ Some true) ↔ SomeMayBeEmpty xs (alternatives g)
  pub entries : (n : ℕ) (es : Entries) → IsEntries t n es → AreReached xs root (entries_points es) → (slice_get flags n ≡ Some true) ↔ MayBeEmpty xs es
  pub entry : (n : ℕ) (e : Entry) → IsEntry t n e → AreReached xs root (entry_points e) → (slice_get flags n ≡ Some true) ↔ EntryMayBeEmpty xs e
