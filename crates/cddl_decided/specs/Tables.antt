-- That a specification has a table.
use Rattle.std.specs.Prelude.{ℕ, List}
use Rattle.cddl_meaning.specs.Forms.{Language}
use Rattle.cddl_meaning.specs.Ranks.Ranked.{Name}
use Rattle.cddl_language.specs.Literals.{Values}
use Rattle.cddl_language.specs.StandsFor.{StandsFor}
use Rattle.cddl_language.specs.Terms.{Definition, Text}

-- A language whose types and groups are numbers stands for the specification, with ranks.
pub record HasTable (worth : Values) (ds : List Definition) (root : Text) : Type 0 where
  pub table : Language ℕ ℕ
  pub top : ℕ
  pub rank : Name ℕ ℕ → ℕ
  pub ranks : ℕ
  pub stands : StandsFor worth ds root table top rank ranks
