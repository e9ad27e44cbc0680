-- Where the types of the table of a specification stand in its text.
use Rattle.std.specs.Prelude.{List}
use Rattle.tree_nodes.specs.View.{view}
use Rattle.cddl_language.specs.Literals.{AreRight, Values}
use Rattle.cddl_language.specs.StandsFor.{AreInstances}
use Rattle.cddl_language.specs.Terms.{Ref}
use Rattle.cddl_check.specs.Spec.{Checked, definitions_of}
use Rattle.table_nodes.specs.declared.table.Table.{Table}
use Rattle.cddl_table.specs.Text.{sense}
use Rattle.source_places.specs.Sources.{AreSources}
use Rattle.source_places.specs.declared.sources.Sources.{Sources}

-- The places are of the types of this table, of a specification that was checked, with whatever values are right.
abbrev pub AreSourcesOf : Checked → Table → Sources → Type 0
AreSourcesOf s table x = (worth : Values) → AreRight (view s.tree) worth → (refs : List Ref) × AreInstances (definitions_of (view s.tree)) s.root refs × AreSources (sense (view s.tree) worth s.root refs) table x
