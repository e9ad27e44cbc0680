-- The entries in each kind of node.
use Rattle.std.proofs.Common.{◌≡◌, List, [], ◌∷◌, ◌++◌, map, Option, Some, None, Box, Global, refl, sym, ap, ◌∙◌, append_assoc}
use Rattle.std.proofs.lemmas.List.{append-nil}
use Rattle.std.specs.List.{flat_map}
use Rattle.cddl_token.specs.declared.Token.{Token}
use Rattle.tree_nodes.specs.Syntax.Syntax as S
use Rattle.tree_nodes.specs.declared.tree.Leaf.{Leaf}
use Rattle.tree_nodes.specs.declared.tree.AssignG.{AssignG}
use Rattle.tree_nodes.specs.declared.tree.AssignT.{AssignT}
use Rattle.tree_nodes.specs.declared.tree.Entry.{Entry}
use Rattle.tree_nodes.specs.declared.tree.Group.{Group}
use Rattle.tree_nodes.specs.declared.tree.GrpChoice.{GrpChoice}
use Rattle.tree_nodes.specs.declared.tree.GrpEnt.{GrpEnt}
use Rattle.tree_nodes.specs.declared.tree.MemberKey.{MemberKey}
use Rattle.tree_nodes.specs.declared.tree.Rule.{Rule}
use Rattle.tree_nodes.specs.declared.tree.RuleName.{RuleName}
use Rattle.tree_nodes.specs.declared.tree.Types.{Types}
use Rattle.tree_nodes.specs.declared.tree.GrpEnt.TheVariants as GrpEntV
use Rattle.tree_nodes.specs.declared.tree.Rule.TheVariants as RuleV
use Rattle.tree_nodes.specs.declared.tree.GrpEnt.TheViews.{out-Group, out-GrpChoice}
use Rattle.tree_nodes.specs.View.{leaf, view_choice, view_entry, view_group, view_grpent, view_rule, view_types, with_choices, with_entries}
use Rattle.tree_nodes.proofs.Lemmas.{view-Entry, view-Grouped, view-Keyed, view-Typed, view_out-Group, view_out-GrpChoice}
use Rattle.check_sites.specs.Entries.Entries.{body_inside, choice_inside, entry_inside, group_inside, rule_inside}
use Rattle.check_sites.specs.Entries.Walk.{choice_part, entry_part}

module _ (read : Leaf → Token) where
  one_entry : (e : Entry) → entry_inside (view_entry read e).0 ≡ entry_part read e
  one_entry e = ap (λ (y : S.GrpEnt × Option Token). entry_inside y.0) (view-Entry read e.grpent e.comma)

  with_further_entries : (es : S.GrpChoice) (xs : List Entry) → choice_inside (with_entries es (map (view_entry read) xs)) ≡ choice_inside es ++ flat_map (entry_part read) xs
  with_further_entries es [] = sym (append-nil (choice_inside es))
  with_further_entries es (x ∷ xs) =
      with_further_entries (S.entries es (view_entry read x).0 (view_entry read x).1) xs
      ∙ append_assoc (choice_inside es) (entry_inside (view_entry read x).0) (flat_map (entry_part read) xs)
      ∙ ap (λ (ps : List S.GrpEnt). choice_inside es ++ (ps ++ flat_map (entry_part read) xs)) (one_entry x)

  one_choice : (c : GrpChoice) → choice_inside (view_choice read c).1 ≡ choice_part read c
  one_choice c = ap (λ (y : Token × S.GrpChoice). choice_inside y.1) (view_out-GrpChoice read c) ∙ with_further_entries S.no_entries (out-GrpChoice c).entries.items

  with_further_choices : (g : S.Group) (xs : List GrpChoice) → group_inside (with_choices g (map (view_choice read) xs)) ≡ group_inside g ++ flat_map (choice_part read) xs
  with_further_choices g [] = sym (append-nil (group_inside g))
  with_further_choices g (x ∷ xs) =
      with_further_choices (S.orelse g (view_choice read x).0 (view_choice read x).1) xs
      ∙ append_assoc (group_inside g) (choice_inside (view_choice read x).1) (flat_map (choice_part read) xs)
      ∙ ap (λ (ps : List S.GrpEnt). group_inside g ++ (ps ++ flat_map (choice_part read) xs)) (one_choice x)

  pub group_parts : (g : Group) → group_inside (view_group read g) ≡ flat_map (entry_part read) (out-Group g).first.items ++ flat_map (choice_part read) (out-Group g).others.items
  group_parts g =
      ap group_inside (view_out-Group read g)
      ∙ with_further_choices (S.sole (with_entries S.no_entries (map (view_entry read) (out-Group g).first.items))) (out-Group g).others.items
      ∙ ap (λ (ps : List S.GrpEnt). ps ++ flat_map (choice_part read) (out-Group g).others.items) (with_further_entries S.no_entries (out-Group g).first.items)

  seen : (x y : GrpEnt) (v : S.GrpEnt) → x ≡ y → view_grpent read y ≡ v → (after : List S.GrpEnt) → entry_inside v ≡ v ∷ after → entry_inside (view_grpent read x) ≡ view_grpent read x ∷ after
  seen x y v is e after h = let same = ap (view_grpent read) is ∙ e in ap entry_inside same ∙ h ∙ ap (λ (z : S.GrpEnt). z ∷ after) (sym same)

  pub typed_inside : (x : GrpEnt) (o : Option Leaf) (t : Types) → x ≡ GrpEntV.Typed o t → entry_inside (view_grpent read x) ≡ view_grpent read x ∷ []
  typed_inside x o t is = seen x _ _ is (view-Typed read o t) [] refl

  pub keyed_inside : (x : GrpEnt) (o : Option Leaf) (k : Box MemberKey Global) (t : Types) → x ≡ GrpEntV.Keyed o k t → entry_inside (view_grpent read x) ≡ view_grpent read x ∷ []
  keyed_inside x o k t is = seen x _ _ is (view-Keyed read o k t) [] refl

  pub grouped_inside : (x : GrpEnt) (o : Option Leaf) (p : Leaf) (g : Group) (c : Leaf) → x ≡ GrpEntV.Grouped o p g c → entry_inside (view_grpent read x) ≡ view_grpent read x ∷ group_inside (view_group read g)
  grouped_inside x o p g c is = seen x _ _ is (view-Grouped read o p g c) (group_inside (view_group read g)) refl

  pub body_of_group : (x : GrpEnt) (o : Option Leaf) (p : Leaf) (g : Group) (c : Leaf) → x ≡ GrpEntV.Grouped o p g c → o ≡ None → body_inside (view_grpent read x) ≡ group_inside (view_group read g)
  body_of_group x o p g c is none = ap (λ z. body_inside (view_grpent read z)) is ∙ ap body_inside (view-Grouped read o p g c) ∙ ap (λ z. body_inside (S.grouped (leaf read z) (read p) (view_group read g) (read c))) none

  pub body_of_some : (x : GrpEnt) (o : Option Leaf) (p : Leaf) (g : Group) (c : Leaf) (t : Leaf) → x ≡ GrpEntV.Grouped o p g c → o ≡ Some t → body_inside (view_grpent read x) ≡ entry_inside (view_grpent read x)
  body_of_some x o p g c t is some =
      let same = ap (view_grpent read) is ∙ view-Grouped read o p g c ∙ ap (λ z. S.grouped (leaf read z) (read p) (view_group read g) (read c)) some in
      ap body_inside same ∙ sym (ap entry_inside same)

  pub body_of_typed : (x : GrpEnt) (o : Option Leaf) (t : Types) → x ≡ GrpEntV.Typed o t → body_inside (view_grpent read x) ≡ entry_inside (view_grpent read x)
  body_of_typed x o t is = let same = ap (view_grpent read) is ∙ view-Typed read o t in ap body_inside same ∙ sym (ap entry_inside same)

  pub body_of_keyed : (x : GrpEnt) (o : Option Leaf) (k : Box MemberKey Global) (t : Types) → x ≡ GrpEntV.Keyed o k t → body_inside (view_grpent read x) ≡ entry_inside (view_grpent read x)
  body_of_keyed x o k t is = let same = ap (view_grpent read) is ∙ view-Keyed read o k t in ap body_inside same ∙ sym (ap entry_inside same)

  pub type_rule_inside : (x : Rule) (n : RuleName) (a : AssignT) (t : Types) → x ≡ RuleV.TypeRule n a t → rule_inside (view_rule read x) ≡ S.typed None (view_types read t) ∷ []
  type_rule_inside x n a t is = ap (λ z. rule_inside (view_rule read z)) is

  pub group_rule_inside : (x : Rule) (n : RuleName) (a : AssignG) (e : GrpEnt) → x ≡ RuleV.GroupRule n a e → rule_inside (view_rule read x) ≡ body_inside (view_grpent read e)
  group_rule_inside x n a e is = ap (λ z. rule_inside (view_rule read z)) is
