-- The references that stand in a tree. What stands in the arguments of one does not count.
use Rattle.std.specs.Prelude.{Bool, true, false, if◌then◌else◌, List, [], ◌∷◌, ◌++◌}
use Rattle.cddl_language.specs.Terms as L
use Rattle.cddl_language.specs.Reach.{Point, ref_at}
use Rattle.check_terms.specs.declared.row.Form.{Form}
use Rattle.check_terms.specs.declared.row.Form.TheVariants as F
use Rattle.check_terms.specs.Table.{Tree, nothing, node}
use Rattle.check_terms.specs.Trees.{term_tree, entry_tree, ref_tree}

abbrev pub is_call : Form → Bool
is_call F.Call = true
is_call f = false

abbrev pub calls : Tree → List Tree
calls nothing = []
calls (node f x a b) = if is_call f then node f x a b ∷ [] else calls a ++ calls b

-- the tree of the reference at a point
abbrev pub point_tree : Point → Tree
point_tree p = ref_tree (ref_at p)

abbrev pub body_tree : L.Body → Tree
body_tree (L.of_types t) = term_tree t
body_tree (L.of_entry e) = entry_tree e
