-- What is told of a tree is told of the text.
use Rattle.std.proofs.Common.{◌≡◌, ℕ, List, Option, subst}
use Rattle.cddl_token.specs.declared.Token.{Token}
use Rattle.cddl_token.specs.declared.Refusal.{Refusal}
use Rattle.cddl_token.specs.declared.Refusal.TheVariants as RefusalV
use Rattle.tree_nodes.specs.Syntax.Syntax.{Cddl}
use Rattle.tree_nodes.specs.View.{view}
use Rattle.tree_nodes.specs.declared.tree.Tree.{Tree}
use Rattle.cddl_tree.specs.States.{Refuses}
use Rattle.cddl_language.specs.Terms.{Text}
use Rattle.cddl_check.specs.Outcome.{IsChecked, IsFaulty}
use Rattle.cddl_check.specs.Spec.{Checked}
use Rattle.cddl_check.specs.Text.{AreTokensOf, IsTreeOfText, IsUnreadText, has_fault, no_tree}
use Rattle.table_nodes.specs.declared.table.Table.{Table}
use Rattle.cddl_table.specs.Text.{IsTableOf, IsTabledText}

pub told : (x : Cddl) (n : Option Text) (text : List ℕ) (e : Refusal) → IsTreeOfText x text → IsFaulty x n e → IsUnreadText text n e
told x n text RefusalV.Memory of h = tt
told x n text (RefusalV.At code at) of h = has_fault of h

pub told_of_tokens : (ts : List Token) (n : Option Text) (text : List ℕ) (r : Refusal) → AreTokensOf ts text → Refuses ts r → IsUnreadText text n r
told_of_tokens ts n text RefusalV.Memory are h = tt
told_of_tokens ts n text (RefusalV.At code at) are h = no_tree are h

abbrev Stands : Tree → Text → Table → Type 0
Stands t root table = IsTableOf (record { tree = t; root = root }) table

pub tabled : (t : Tree) (n : Option Text) (text : List ℕ) (s : Checked) (table : Table) → IsTreeOfText (view t) text → s.tree ≡ t → IsChecked (view t) n s.root → IsTableOf s table → IsTabledText text n table
tabled t n text s table of e checked h = record {
  tree = view t;
  is_tree = of;
  is_tabled = λ worth right. (checked.accepted worth right, s.root, checked.rooted, subst (λ u. Stands u s.root table) e h worth right);
}
