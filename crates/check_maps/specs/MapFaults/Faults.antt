-- What is wrong in the groups of maps, by rows.
use Rattle.std.specs.Prelude.{◌≡◌, ◌+◌, ◌↔◌, ℕ, true, List, length, Some, slice_get}
use Rattle.cddl_language.specs.Terms.{Text, Group, Entry, Definition, alternatives}
use Rattle.cddl_language.specs.MapFaults.{LacksKey, OccursBadly, HasTooMany}
use Rattle.cddl_language.specs.Reach.{group_points, entry_points}
use Rattle.check_terms.specs.Table.{Table}
use Rattle.check_terms.specs.Trees.{IsGroup, IsEntry}
use Rattle.check_instances.specs.Closed.Closed.{AreReached}
use Rattle.check_maps.specs.declared.map_faults.MapFaults.{MapFaults}

-- of a row of an entry or of a group, where all references that stand there are instances
pub record HasFaults (xs : List Definition) (root : Text) (t : Table) (n : ℕ) (f : MapFaults) : Type 0 where
  pub lacks_key : (e : Entry) → IsEntry t n e → AreReached xs root (entry_points e) → (f.lacks_key ≡ true) ↔ LacksKey xs e
  pub occurs_badly : (e : Entry) → IsEntry t n e → AreReached xs root (entry_points e) → (f.occurs_badly ≡ true) ↔ OccursBadly xs e
  pub has_too_many : (g : Group) → IsGroup t n g → AreReached xs root (group_points g) → (f.has_too_many ≡ true) ↔ HasTooMany xs (alternatives g)

-- of each row, and of what is after them
pub record AreFaults (xs : List Definition) (root : Text) (t : Table) (faults : List MapFaults) : Type 0 where
  pub all : length faults ≡ length t.rows + 1
  pub each : (n : ℕ) (f : MapFaults) → slice_get faults n ≡ Some f → HasFaults xs root t n f
