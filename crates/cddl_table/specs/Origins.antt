-- What the types of a table are of.
use Rattle.std.specs.Prelude.{◌≡◌, List}
use Rattle.tree_nodes.specs.Syntax.Syntax.{Cddl}
use Rattle.cddl_language.specs.Terms.{Ref, Text}
use Rattle.cddl_language.specs.Literals.{AreRight, Values}
use Rattle.check_terms.specs.Table.{Table}
use Rattle.cddl_check.specs.Spec.{AreFindings, definitions_of}
use Rattle.cddl_check.specs.declared.findings.Findings.{Findings}
use Rattle.table_making.specs.Basis.{Sense}
use Rattle.table_making.specs.Nodes.{AreNodes}
use Rattle.table_making.specs.declared.making.Nodes.{Nodes}
use Rattle.table_nodes.specs.Nodes.{language_in}
use Rattle.table_nodes.specs.Language.{language_of, root_of}
use Rattle.cddl_table.specs.Text.{sense}
use Rattle.cddl_table.specs.declared.table.Traced.{Traced}

-- The table is made of nodes whose origins are these: each type stands for a name that is of what its origin says, by the numbers
-- of the terms, and for each name that is of it.
pub record AreOrigins (s : Sense) (t : Table) (x : Traced) : Type 0 where
  pub nodes : Nodes
  pub are_nodes : AreNodes s t nodes
  pub same_origins : x.origins.items ≡ nodes.type_origins.items
  pub same_language : language_of x.table ≡ language_in nodes.types.items nodes.groups.items
  pub same_root : root_of x.table ≡ nodes.root

-- The same of what was found of a specification, with whatever values are right.
abbrev pub AreTraced : Cddl → Text → Findings → Traced → Type 0
AreTraced x root f traced = (worth : Values) → AreRight x worth → (refs : List Ref) × AreFindings (definitions_of x) worth root refs f × AreOrigins (sense x worth root refs) f.terms traced
