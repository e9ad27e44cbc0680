-- The groups of the text that are spliced into maps, with all that is in their parentheses.
use Rattle.std.specs.Prelude.{◌≡◌, List, Contains, Option, Some, None}
use Rattle.cddl_token.specs.declared.Token.{Token}
use Rattle.tree_nodes.specs.Syntax.Syntax as S
use Rattle.cddl_language.specs.Terms.{Term, Text, Ref, name_of, arguments_of}
use Rattle.cddl_language.specs.Reading.{definitions_in, name_in}
use Rattle.cddl_language.specs.Reach.{Point, at_name, at_unwrapping}
use Rattle.cddl_language.specs.Sites.{IsReached, a_map}
use Rattle.cddl_language.specs.MapFaults.{IsBare, IsSpliced, StandsAt, closed_entry, group_between, point_in}
use Rattle.check_sites.specs.Entries.Entries.{group_inside, rule_inside}

module _ (rs : List S.Rule) (root : Text) where
  -- a reference by which an entry that is spliced into a map has its group
  pub record IsSplicedPoint (p : Point) : Type 0 where
    pub rule : S.Rule
    pub arguments : List Term
    pub owner : Option Point
    pub entry : S.GrpEnt
    pub spliced : IsSpliced rs root rule arguments owner entry
    pub point : point_in (definitions_in rs) (closed_entry rule arguments entry) ≡ Some p

  -- the entries of a group that is spliced into a map, in an instance of its rule, with its owner
  pub data AreSplicedIn : S.Rule → List Term → Option Point → List S.GrpEnt → Type 0 where
    of_a_map : {r : S.Rule} {xs : List Term} {t : Token} {g : S.Group} → IsReached rs root r xs (a_map t g) → AreSplicedIn r xs None (group_inside g)
    of_a_name : {s : S.Rule} {f : Ref} → IsSplicedPoint (at_name f) → Contains rs s → name_in s ≡ name_of f → AreSplicedIn s (arguments_of f) (Some (at_name f)) (rule_inside s)
    of_an_opening : {s : S.Rule} {ys : List Term} {f : Ref} {g : S.Group} → IsSplicedPoint (at_unwrapping f) → StandsAt rs f s ys g → AreSplicedIn s ys (Some (at_unwrapping f)) (group_inside g)

  pub record IsAmongSpliced (r : S.Rule) (xs : List Term) (q : Option Point) (e : S.GrpEnt) : Type 0 where
    pub entries : List S.GrpEnt
    pub are : AreSplicedIn r xs q entries
    pub contained : Contains entries e

-- a type of the text that is a map or an array, in any number of parentheses
abbrev pub IsBareGroup : S.Types → S.Group → Type 0
IsBareGroup t g = (x : S.Type2) × (IsBare x t × (group_between x ≡ Some g))
