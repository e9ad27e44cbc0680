-- A table stands for a specification: it has the instances one for one, its nodes are what they mean form by form, and what
-- may be asked of the same item or list goes down in rank. The table is any language with a rank for each type and group.
use Rattle.std.specs.Prelude.{◌≡◌, ◌≢◌, ℕ, true, false, List, AllPairs, Contains}
use Rattle.cddl_meaning.specs.Forms.{Language}
use Rattle.cddl_meaning.specs.Alike.{AreAlike}
use Rattle.cddl_meaning.specs.Ranks.Ranked.{Name, IsRanked}
use Rattle.cddl_language.specs.Terms.{Text, Ref, Definition, call, no_terms, name_of}
use Rattle.cddl_language.specs.Substitution.{group_choices}
use Rattle.cddl_language.specs.Kinds.{is_group}
use Rattle.cddl_language.specs.Reach.{Reaches}
use Rattle.cddl_language.specs.Literals.{Values}
use Rattle.cddl_language.specs.Language.{TypeName, GroupName, first_of, language, reference}

-- the instances, each once
pub record AreInstances (ds : List Definition) (root : Text) (instances : List Ref) : Type 0 where
  pub all : (r : Ref) → Reaches ds root r → Contains instances r
  pub only : (r : Ref) → Contains instances r → Reaches ds root r
  pub once : AllPairs (λ (q r : Ref). q ≢ r) instances

-- Which terms the nodes are for: what an instance means has a node, as a type or as a group.
module _ {N G : Type 0} (ds : List Definition) (types : List (TypeName × N)) (groups : List (GroupName × G)) where
  pub data HasNode (r : Ref) : Type 0 where
    of_type : (n : N) → is_group ds (name_of r) ≡ false → Contains types (reference r, n) → HasNode r
    of_group : (g : G) → is_group ds (name_of r) ≡ true → Contains groups (first_of (group_choices ds r), g) → HasNode r

-- The table: its language, the node of the root, and ranks. Each node that is for a term has its form. Several nodes may be
-- for one term, and one node for several, as for `16` and `0x10`.
pub record StandsFor {N G : Type 0} (worth : Values) (ds : List Definition) (root : Text) (l : Language N G) (top : N) (rank : Name N G → ℕ) (ranks : ℕ) : Type 0 where
  pub types : List (TypeName × N)
  pub groups : List (GroupName × G)
  pub alike : AreAlike (language worth ds) l (λ (t : TypeName) (n : N). Contains types (t, n)) (λ (t : GroupName) (g : G). Contains groups (t, g))
  pub root_node : Contains types (reference (call root no_terms), top)
  pub instances : List Ref
  pub are_instances : AreInstances ds root instances
  pub have_nodes : (r : Ref) → Contains instances r → HasNode ds types groups r
  pub ranked : IsRanked l rank ranks
