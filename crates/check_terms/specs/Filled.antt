-- Arguments in the place of parameters, in the tree of a term.
use Rattle.std.specs.Prelude.{if◌then◌else◌, List, [], ◌∷◌, map, Option, Some, None}
use Rattle.cddl_language.specs.Terms.{Text, Term}
use Rattle.cddl_language.specs.Environment.{is_same}
use Rattle.check_terms.specs.declared.row.Form.{Form}
use Rattle.check_terms.specs.declared.row.Form.TheVariants as F
use Rattle.check_terms.specs.Table.{Tree, nothing, node}
use Rattle.check_terms.specs.Trees.{term_tree}

-- what stands for the parameter n, of these parameters and arguments
abbrev pub tree_argument : List Text → List Tree → Text → Option Tree
tree_argument [] ys n = None
tree_argument (p ∷ ps) [] n = None
tree_argument (p ∷ ps) (y ∷ ys) n = if is_same p n then Some y else tree_argument ps ys n

-- what stands for the reference: a name without arguments may be a parameter
abbrev pub parameter : List Text → List Tree → Tree → Option Tree
parameter ps ys (node F.Call (Some n) (node F.NoTerms x a b) c) = tree_argument ps ys n
parameter ps ys t = None

-- what takes the place of a tree of this form with this first part
abbrev pub replaced : List Text → List Tree → Form → Tree → Option Tree
replaced ps ys F.Named r = parameter ps ys r
replaced ps ys F.Unwrapped r = parameter ps ys r
replaced ps ys f r = None

abbrev pub tree_or : Option Tree → Tree → Tree
tree_or (Some t) u = t
tree_or None u = u

abbrev pub filled : List Text → List Tree → Tree → Tree
filled ps ys nothing = nothing
filled ps ys (node f x a b) = tree_or (replaced ps ys f a) (node f x (filled ps ys a) (filled ps ys b))

abbrev pub term_trees : List Term → List Tree
term_trees xs = map term_tree xs
