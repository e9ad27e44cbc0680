-- One more at the end of a list of parts.
use Rattle.std.proofs.Common.{◌≡◌, List, [], ◌∷◌, ◌++◌, Option, refl, map, Vec, Global}
use Rattle.tree_nodes.specs.declared.tree.Leaf.{Leaf}
use Rattle.cddl_token.specs.declared.Token.{Token}
use Rattle.tree_nodes.specs.declared.tree.Type1.{Type1}
use Rattle.tree_nodes.specs.declared.tree.GrpEnt.{GrpEnt}
use Rattle.tree_nodes.specs.declared.tree.Entry.{Entry}
use Rattle.tree_nodes.specs.declared.tree.Further.{Further}
use Rattle.tree_nodes.specs.declared.tree.GrpChoice.{GrpChoice}
use Rattle.tree_nodes.specs.declared.tree.Parameter.{Parameter}
use Rattle.cddl_tree.specs.declared.frames.Frame.{Frame}
use Rattle.cddl_tree.specs.Frames.{Below, over, above, below, nowhere}
use Rattle.tree_nodes.specs.declared.tree.GrpEnt.TheViews.{roll-GrpChoice}
use Rattle.tree_nodes.specs.Syntax.Syntax as S
use Rattle.tree_nodes.specs.View.{with_types, with_arguments, with_entries, with_choices, with_parameters, leaf, view_type1, view_grpent, view_entry, view_further, view_choice}
use Rattle.tree_nodes.proofs.Lemmas.{view-Name, view-Applied, view-One, view-Operation, view-Literal, view-Typename, view-Parens, view-MapOf, view-ArrayOf, view-Unwrapped, view-ChoiceOf, view-ChoiceOfName, view-Tagged, view-TaggedBy, view-SimpleBy, view-Hash, view-Typed, view-Keyed, view-Grouped, view-TypeKey, view-Bareword, view-ValueKey, view-Types, view-GenericArg, view-Group, view-GrpChoice, view-Entry, view-Further}

pub with_types-push : (read : Leaf → Token) (t : S.Types) (xs : List Further) (s : Leaf) (r : Type1) → with_types t (map (view_further read) (xs ++ (record { sign = s; type1 = r }) ∷ [])) ≡ S.or (with_types t (map (view_further read) xs)) (read s) (view_type1 read r)
with_types-push read t [] s r = rw view-Further refl
with_types-push read t (x ∷ xs) s r = with_types-push read (S.or t (view_further read x).0 (view_further read x).1) xs s r

pub with_arguments-push : (read : Leaf → Token) (t : S.GenericArg) (xs : List Further) (s : Leaf) (r : Type1) → with_arguments t (map (view_further read) (xs ++ (record { sign = s; type1 = r }) ∷ [])) ≡ S.arguments (with_arguments t (map (view_further read) xs)) (read s) (view_type1 read r)
with_arguments-push read t [] s r = rw view-Further refl
with_arguments-push read t (x ∷ xs) s r = with_arguments-push read (S.arguments t (view_further read x).0 (view_further read x).1) xs s r

pub with_entries-push : (read : Leaf → Token) (t : S.GrpChoice) (xs : List Entry) (e : GrpEnt) (c : Option Leaf) → with_entries t (map (view_entry read) (xs ++ (record { grpent = e; comma = c }) ∷ [])) ≡ S.entries (with_entries t (map (view_entry read) xs)) (view_grpent read e) (leaf read c)
with_entries-push read t [] e c = rw view-Entry refl
with_entries-push read t (x ∷ xs) e c = with_entries-push read (S.entries t (view_entry read x).0 (view_entry read x).1) xs e c

pub with_choices-push : (read : Leaf → Token) (t : S.Group) (xs : List GrpChoice) (s : Leaf) (es : Vec Entry Global) → with_choices t (map (view_choice read) (xs ++ roll-GrpChoice (record { slashes = s; entries = es }) ∷ [])) ≡ S.orelse (with_choices t (map (view_choice read) xs)) (read s) (with_entries S.no_entries (map (view_entry read) es.items))
with_choices-push read t [] s es = rw view-GrpChoice refl
with_choices-push read t (x ∷ xs) s es = with_choices-push read (S.orelse t (view_choice read x).0 (view_choice read x).1) xs s es

pub with_parameters-push : (read : Leaf → Token) (p : S.GenericParm) (xs : List Parameter) (c n : Leaf) → with_parameters read p (xs ++ (record { comma = c; name = n }) ∷ []) ≡ S.parameters (with_parameters read p xs) (read c) (read n)
with_parameters-push read p [] c n = refl
with_parameters-push read p (x ∷ xs) c n = with_parameters-push read (S.parameters p (read x.comma) (read x.name)) xs c n

over-push : (read : Leaf → Token) (rs : S.Rules) (b : Below) (fs : List Frame) (f : Frame) → over read rs b (fs ++ f ∷ []) ≡ above read rs (over read rs b fs) f
over-push read rs b [] f = refl
over-push read rs b (g ∷ fs) f = over-push read rs (above read rs b g) fs f

pub below-push : (read : Leaf → Token) (rs : S.Rules) (fs : List Frame) (f : Frame) → below read rs (fs ++ f ∷ []) ≡ above read rs (below read rs fs) f
unfolding below
below-push read rs fs f = over-push read rs nowhere fs f

pub below-empty : (read : Leaf → Token) (rs : S.Rules) → below read rs [] ≡ nowhere
unfolding below
below-empty read rs = refl

pub ruleset views = (view-Name, view-Applied, view-One, view-Operation, view-Literal, view-Typename, view-Parens, view-MapOf, view-ArrayOf, view-Unwrapped, view-ChoiceOf, view-ChoiceOfName, view-Tagged, view-TaggedBy, view-SimpleBy, view-Hash, view-Typed, view-Keyed, view-Grouped, view-TypeKey, view-Bareword, view-ValueKey, view-Types, view-GenericArg, view-Group, view-GrpChoice, view-Entry, view-Further, with_types-push, with_arguments-push, with_entries-push, with_choices-push, with_parameters-push)
