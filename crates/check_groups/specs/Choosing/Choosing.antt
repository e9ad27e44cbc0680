-- The groups from which `&` can choose, by rows.
use Rattle.std.specs.Prelude.{◌≡◌, ◌↔◌, ℕ, Bool, true, List, length, Some, is_some, slice_get}
use Rattle.cddl_language.specs.Terms.{Text, Group, Definition}
use Rattle.cddl_language.specs.Choices.{chosen}
use Rattle.cddl_language.specs.Reach.{group_points}
use Rattle.check_terms.specs.Table.{Table}
use Rattle.check_terms.specs.Trees.{IsGroup}
use Rattle.check_instances.specs.Closed.Closed.{AreReached}

-- for each row that is a closed group's, whose references are instances
pub record AreChoosable (xs : List Definition) (root : Text) (t : Table) (flags : List Bool) : Type 0 where
  pub all : length flags ≡ length t.rows
  pub groups : (n : ℕ) (g : Group) → IsGroup t n g → AreReached xs root (group_points g) → (slice_get flags n ≡ Some true) ↔ (is_some (chosen xs g) ≡ true)
