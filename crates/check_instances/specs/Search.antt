-- What a search over the rows of a table keeps.
use Rattle.std.specs.Prelude.{◌≡◌, ◌⊎◌, ℕ, ◌≤◌, Bool, true, false, List, ◌++◌, length, Some, IfSome, slice_get}
use Rattle.cddl_language.specs.Terms.{Text, Ref, Definition}
use Rattle.cddl_language.specs.Reach.{Reaches}
use Rattle.check_terms.specs.declared.row.Row.{Row}
use Rattle.check_terms.specs.Table.{Table, Tree, Holds}
use Rattle.check_terms.specs.Trees.{IsRef, ref_tree}
use Rattle.check_instances.specs.Calls.{calls, is_call}
use Rattle.check_instances.specs.Lists.{AreApart, IsIn}
use Rattle.check_instances.specs.Marks.{is_marked}

-- visited, or to be visited
abbrev pub IsSeen : List Bool → List ℕ → ℕ → Type 0
IsSeen marks waiting n = (is_marked marks n ≡ true) ⊎ IsIn n waiting

-- a row that is a reference is among these, and of another the parts are seen
abbrev pub IsFollowed : Table → (ℕ → Type 0) → List ℕ → ℕ → Type 0
IsFollowed t Seen refs n = (r : Row) → slice_get t.rows n ≡ Some r → (is_call r.form ≡ true → IsIn n refs) × (is_call r.form ≡ false → IfSome r.first Seen × IfSome r.second Seen)

-- the tree is of a reference that the root leads to
pub record IsReached (xs : List Definition) (root : Text) (x : Tree) : Type 0 where
  pub ref : Ref
  pub tree : x ≡ ref_tree ref
  pub reaches : Reaches xs root ref

-- all references that stand in what the row stands for are reached
pub record IsSound (xs : List Definition) (root : Text) (t : Table) (n : ℕ) : Type 0 where
  pub tree : Tree
  pub holds : Holds t (Some n) tree
  pub reached : (x : Tree) → IsIn x (calls tree) → IsReached xs root x

-- the row is such a reference
pub record IsInstanceRow (xs : List Definition) (root : Text) (t : Table) (n : ℕ) : Type 0 where
  pub ref : Ref
  pub holds : IsRef t n ref
  pub reaches : Reaches xs root ref

-- The rows that are marked were visited and these wait; the references that were come upon begin with some; and these rows,
-- from which the search goes out, are seen.
pub record IsSearch (xs : List Definition) (root : Text) (t : Table) (from first : List ℕ) (marks : List Bool) (waiting refs : List ℕ) : Type 0 where
  pub sized : length marks ≤ length t.rows
  pub sound : (n : ℕ) → IsIn n waiting → IsSound xs root t n
  pub followed : (n : ℕ) → is_marked marks n ≡ true → IsFollowed t (IsSeen marks waiting) refs n
  pub reached : (n : ℕ) → IsIn n refs → IsInstanceRow xs root t n
  pub marked : (n : ℕ) → IsIn n refs → is_marked marks n ≡ true
  pub apart : AreApart refs
  pub seen : (n : ℕ) → IsIn n from → IsSeen marks waiting n
  pub later : List ℕ
  pub begins : refs ≡ first ++ later
