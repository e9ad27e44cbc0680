-- The rows that have a property, by what follows from what.
use Rattle.std.specs.Prelude.{◌≡◌, ℕ, Bool, List, length, Some, slice_get}
use Rattle.cddl_language.specs.Terms.{Text, Definition}
use Rattle.check_terms.specs.Table.{Table}
use Rattle.graphs.specs.Implications.Implications.{AreFollowing}
use Rattle.check_groups.specs.declared.causes.cause.RowCause.{RowCause}
use Rattle.check_groups.specs.declared.causes.cause.GroupProperty.{GroupProperty}
use Rattle.check_groups.specs.declared.causes.cause.GroupProperty.TheVariants as PropertyV
use Rattle.check_groups.specs.declared.causes.rows.GroupRow.{GroupRow}
use Rattle.check_groups.specs.Causes.Rows.{IsRowAt}
use Rattle.check_groups.specs.Causes.Rules.{all_rules}
use Rattle.check_groups.specs.Choosing.Causes.{choosing_cause}
use Rattle.check_groups.specs.Empty.Causes.{empty_cause}

-- of which rows it follows for what stands at a row, by the texts of the table
abbrev pub cause_of : GroupProperty → List Text → GroupRow → RowCause
cause_of PropertyV.CanChoose texts row = choosing_cause texts row
cause_of PropertyV.MayBeEmpty texts row = empty_cause texts row

-- the cause of the row n
pub record IsCauseAt (property : GroupProperty) (xs : List Definition) (root : Text) (t : Table) (n : ℕ) (c : RowCause) : Type 0 where
  pub row : GroupRow
  pub same : c ≡ cause_of property t.texts row
  pub stands : IsRowAt xs root t n row

-- the causes of all rows
pub record AreCauses (property : GroupProperty) (xs : List Definition) (root : Text) (t : Table) (causes : List RowCause) : Type 0 where
  pub all : length causes ≡ length t.rows
  pub each : (n : ℕ) (c : RowCause) → slice_get causes n ≡ Some c → IsCauseAt property xs root t n c

-- what follows from them
abbrev pub AreFlags : GroupProperty → List Definition → Text → Table → List Bool → Type 0
AreFlags property xs root t flags = (causes : List RowCause) × AreCauses property xs root t causes × AreFollowing (length causes) (all_rules 0 causes) flags
