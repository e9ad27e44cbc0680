-- What a table stands for.
use Rattle.std.specs.Prelude.{◌≡◌, ℕ, List, Option, Some}
use Rattle.tree_nodes.specs.Syntax.Syntax.{Cddl}
use Rattle.tree_nodes.specs.View.{view}
use Rattle.cddl_language.specs.Terms.{Ref, Text}
use Rattle.cddl_language.specs.Faults.{IsAccepted, Specification, definitions, root_of}
use Rattle.cddl_language.specs.Literals.{AreRight, Values}
use Rattle.cddl_language.specs.StandsFor.{StandsFor}
use Rattle.cddl_check.specs.Outcome.{specification}
use Rattle.cddl_check.specs.Spec.{Checked, definitions_of}
use Rattle.cddl_check.specs.Text.{IsTreeOfText}
use Rattle.table_making.specs.Basis.{Sense}
use Rattle.table_nodes.specs.declared.table.Table.{Table}
use Rattle.table_nodes.specs.Language.{language_of, rank_of, ranks_of, root_of as top_of}

-- what the nodes of a specification are made from, with these values and instances
abbrev pub sense : Cddl → Values → Text → List Ref → Sense
sense x worth root refs = record { worth = worth; tree = x; definitions = definitions_of x; root = root; refs = refs }

-- The table stands for a specification that was checked.
abbrev pub IsTableOf : Checked → Table → Type 0
IsTableOf s table = (worth : Values) → AreRight (view s.tree) worth → StandsFor worth (definitions_of (view s.tree)) s.root (language_of table) (top_of table) (rank_of table) (ranks_of table)

-- accepted, and the table stands for it
abbrev pub IsTabled : Specification → Values → Table → Type 0
IsTabled s worth table = IsAccepted s worth × (root : Text) × (root_of s ≡ Some root) × StandsFor worth (definitions s) root (language_of table) (top_of table) (rank_of table) (ranks_of table)

-- The table stands for the accepted specification of the text, with this name as its root.
pub record IsTabledText (text : List ℕ) (n : Option Text) (table : Table) : Type 0 where
  pub tree : Cddl
  pub is_tree : IsTreeOfText tree text
  pub is_tabled : (worth : Values) → AreRight tree worth → IsTabled (specification tree n) worth table
