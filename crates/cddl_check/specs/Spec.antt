-- What callers see of a checked specification, and what it holds.
use Rattle.std.specs.Prelude.{◌≡◌, ℕ, false, List, Option, Some, refl, slice_get}
use Rattle.std.specs.Coded.{Coded, code_by, coded×, coded_ℕ, coded_list}
use denote.Signature.{static_lft}
use Rattle.tree_nodes.specs.View.{view}
use Rattle.tree_nodes.specs.declared.tree.Tree.{Tree}
use Rattle.tree_nodes.specs.contracts.tree.Tree.{the_row as tree_row}
use Rattle.tree_nodes.specs.Syntax.Syntax.{Cddl}
use Rattle.cddl_language.specs.Terms.{Definition, Ref, Text}
use Rattle.cddl_language.specs.Reading.{definitions_in, rules_of}
use Rattle.cddl_language.specs.Kinds.{is_group}
use Rattle.cddl_language.specs.Literals.{AreRight, AreTokens, Values}
use Rattle.check_names.specs.Kinds.Kinds.{AreKinds}
use Rattle.check_recursion.specs.Order.{AreRanked}
use Rattle.cddl_check.specs.Outcome.{IsChecked}
use Rattle.cddl_check.specs.Stages.{AreSplices, IsMeant}
use Rattle.cddl_check.specs.declared.findings.Findings.{Findings}

-- a tree, and the name of its root
pub record Checked : Type 0 where
  pub tree : Tree
  pub root : Text

abbrev pub coded_checked : Coded Checked
coded_checked = code_by (Tree × List ℕ) (coded× (tree_row static_lft).coded (coded_list coded_ℕ)) (λ x. (x.tree, x.root)) (λ p. record { tree = p.0; root = p.1 }) (λ _. refl)

abbrev pub definitions_of : Cddl → List Definition
definitions_of x = definitions_in (rules_of x)

-- What is known of the instances by the numbers of the table of terms: what a table is made of.
pub record AreFindings (ds : List Definition) (worth : Values) (root : Text) (refs : List Ref) (x : Findings) : Type 0 where
  pub is_type : is_group ds root ≡ false
  pub kinds : AreKinds x.terms.texts ds x.kinds
  pub meant : IsMeant ds worth root refs x.terms x.meant
  pub splices : AreSplices ds root x.terms x.splices
  pub ranked : AreRanked ds root refs x.terms x.ranks

-- The tree is of tokens, nothing is wrong with its specification from this root, and this was found of it.
pub record IsSpec (tree : Tree) (root : Text) (x : Findings) : Type 0 where
  pub tokens : AreTokens (view tree)
  pub given : Option Text
  pub checked : IsChecked (view tree) given root
  pub number : slice_get x.terms.texts x.root ≡ Some root
  pub found : (worth : Values) → AreRight (view tree) worth → (refs : List Ref) × AreFindings (definitions_of (view tree)) worth root refs x
