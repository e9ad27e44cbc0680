-- What callers' proofs may name of this crate: the equations of the view.
use Rattle.std.proofs.Common.{◌≡◌, Option, sym, ap, ◌∙◌, map, Box, Vec, Global}
use Rattle.cddl_token.specs.declared.Token.{Token}
use Rattle.tree_nodes.specs.declared.tree.GrpEnt.{GrpEnt}
use Rattle.tree_nodes.specs.declared.tree.MemberKey.{MemberKey}
use Rattle.tree_nodes.specs.declared.tree.Ref.{Ref}
use Rattle.tree_nodes.specs.declared.tree.Type1.{Type1}
use Rattle.tree_nodes.specs.declared.tree.Type2.{Type2}
use Rattle.tree_nodes.specs.declared.tree.Entry.{Entry}
use Rattle.tree_nodes.specs.declared.tree.Further.{Further}
use Rattle.tree_nodes.specs.declared.tree.GenericArg.{GenericArg}
use Rattle.tree_nodes.specs.declared.tree.Group.{Group}
use Rattle.tree_nodes.specs.declared.tree.GrpChoice.{GrpChoice}
use Rattle.tree_nodes.specs.declared.tree.Types.{Types}
use Rattle.tree_nodes.specs.declared.tree.Value.{Value}
use Rattle.tree_nodes.specs.declared.tree.Operator.{Operator}
use Rattle.tree_nodes.specs.declared.tree.Leaf.{Leaf}
use Rattle.tree_nodes.specs.declared.tree.GrpEnt.TheViews.{roll-GenericArg, roll-Group, roll-GrpChoice, roll-Types, out-Types, out-GenericArg, out-Group, out-GrpChoice}
use Rattle.tree_nodes.specs.declared.tree.GrpEnt.TheFolds.{fold-roll-GrpEnt, fold-roll-MemberKey, fold-roll-Ref, fold-roll-Type1, fold-roll-Type2, fold-roll-Entry, fold-roll-Further, fold-roll-GenericArg, fold-roll-Group, fold-roll-GrpChoice, fold-roll-Types, fold_out-Types, fold_out-GenericArg, fold_out-Group, fold_out-GrpChoice}
use Rattle.tree_nodes.specs.declared.tree.GrpEnt.TheOpen.{GrpEnt-F, MemberKey-F, Ref-F, Type1-F, Type2-F}
use Rattle.tree_nodes.specs.declared.tree.GrpEnt.TheVariants as GrpEntV
use Rattle.tree_nodes.specs.declared.tree.MemberKey.TheVariants as MemberKeyV
use Rattle.tree_nodes.specs.declared.tree.Ref.TheVariants as RefV
use Rattle.tree_nodes.specs.declared.tree.Type1.TheVariants as Type1V
use Rattle.tree_nodes.specs.declared.tree.Type2.TheVariants as Type2V
use Rattle.tree_nodes.specs.Syntax.Syntax as S
use Rattle.tree_nodes.specs.View.{leaf, view_value, view_operator, with_types, with_arguments, with_entries, with_choices, grpent_step, key_step, ref_step, type1_step, type2_step, entry_step, further_step, arg_step, group_step, choice_step, types_step, view_grpent, view_key, view_ref, view_type1, view_type2, view_entry, view_further, view_arg, view_group, view_choice, view_types}

pub view-Name : (read : Leaf → Token) (t : Leaf) → view_ref read (RefV.Name t) ≡ S.name (read t)
unfolding view_ref
view-Name read t = ap (view_ref read) (sym (RefV.rolls-Name t)) ∙ fold-roll-Ref _ _ _ _ _ _ _ _ _ _ _ (grpent_step read) (key_step read) (ref_step read) (type1_step read) (type2_step read) (entry_step read) (further_step read) (arg_step read) (group_step read) (choice_step read) (types_step read) (Ref-F.Name t)

pub view-Applied : (read : Leaf → Token) (o : Leaf) (a : Box GenericArg Global) (c : Leaf) → view_ref read (RefV.Applied o a c) ≡ S.applied (read o) (view_arg read a.value) (read c)
unfolding view_ref view_arg
view-Applied read o a c = ap (view_ref read) (sym (RefV.rolls-Applied o a c)) ∙ fold-roll-Ref _ _ _ _ _ _ _ _ _ _ _ (grpent_step read) (key_step read) (ref_step read) (type1_step read) (type2_step read) (entry_step read) (further_step read) (arg_step read) (group_step read) (choice_step read) (types_step read) (Ref-F.Applied o a c)

pub view-One : (read : Leaf → Token) (x : Box Type2 Global) → view_type1 read (Type1V.One x) ≡ S.one (view_type2 read x.value)
unfolding view_type1 view_type2
view-One read x = ap (view_type1 read) (sym (Type1V.rolls-One x)) ∙ fold-roll-Type1 _ _ _ _ _ _ _ _ _ _ _ (grpent_step read) (key_step read) (ref_step read) (type1_step read) (type2_step read) (entry_step read) (further_step read) (arg_step read) (group_step read) (choice_step read) (types_step read) (Type1-F.One x)

pub view-Operation : (read : Leaf → Token) (x : Box Type2 Global) (o : Operator) (y : Box Type2 Global) → view_type1 read (Type1V.Operation x o y) ≡ S.operation (view_type2 read x.value) (view_operator read o) (view_type2 read y.value)
unfolding view_type1 view_type2
view-Operation read x o y = ap (view_type1 read) (sym (Type1V.rolls-Operation x o y)) ∙ fold-roll-Type1 _ _ _ _ _ _ _ _ _ _ _ (grpent_step read) (key_step read) (ref_step read) (type1_step read) (type2_step read) (entry_step read) (further_step read) (arg_step read) (group_step read) (choice_step read) (types_step read) (Type1-F.Operation x o y)

pub view-Literal : (read : Leaf → Token) (v : Value) → view_type2 read (Type2V.Literal v) ≡ S.literal (view_value read v)
unfolding view_type2
view-Literal read v = ap (view_type2 read) (sym (Type2V.rolls-Literal v)) ∙ fold-roll-Type2 _ _ _ _ _ _ _ _ _ _ _ (grpent_step read) (key_step read) (ref_step read) (type1_step read) (type2_step read) (entry_step read) (further_step read) (arg_step read) (group_step read) (choice_step read) (types_step read) (Type2-F.Literal v)

pub view-Typename : (read : Leaf → Token) (r : Ref) → view_type2 read (Type2V.Typename r) ≡ S.typename (view_ref read r)
unfolding view_type2 view_ref
view-Typename read r = ap (view_type2 read) (sym (Type2V.rolls-Typename r)) ∙ fold-roll-Type2 _ _ _ _ _ _ _ _ _ _ _ (grpent_step read) (key_step read) (ref_step read) (type1_step read) (type2_step read) (entry_step read) (further_step read) (arg_step read) (group_step read) (choice_step read) (types_step read) (Type2-F.Typename r)

pub view-Parens : (read : Leaf → Token) (o : Leaf) (t : Box Types Global) (c : Leaf) → view_type2 read (Type2V.Parens o t c) ≡ S.parens (read o) (view_types read t.value) (read c)
unfolding view_type2 view_types
view-Parens read o t c = ap (view_type2 read) (sym (Type2V.rolls-Parens o t c)) ∙ fold-roll-Type2 _ _ _ _ _ _ _ _ _ _ _ (grpent_step read) (key_step read) (ref_step read) (type1_step read) (type2_step read) (entry_step read) (further_step read) (arg_step read) (group_step read) (choice_step read) (types_step read) (Type2-F.Parens o t c)

pub view-MapOf : (read : Leaf → Token) (o : Leaf) (g : Group) (c : Leaf) → view_type2 read (Type2V.MapOf o g c) ≡ S.map_of (read o) (view_group read g) (read c)
unfolding view_type2 view_group
view-MapOf read o g c = ap (view_type2 read) (sym (Type2V.rolls-MapOf o g c)) ∙ fold-roll-Type2 _ _ _ _ _ _ _ _ _ _ _ (grpent_step read) (key_step read) (ref_step read) (type1_step read) (type2_step read) (entry_step read) (further_step read) (arg_step read) (group_step read) (choice_step read) (types_step read) (Type2-F.MapOf o g c)

pub view-ArrayOf : (read : Leaf → Token) (o : Leaf) (g : Group) (c : Leaf) → view_type2 read (Type2V.ArrayOf o g c) ≡ S.array_of (read o) (view_group read g) (read c)
unfolding view_type2 view_group
view-ArrayOf read o g c = ap (view_type2 read) (sym (Type2V.rolls-ArrayOf o g c)) ∙ fold-roll-Type2 _ _ _ _ _ _ _ _ _ _ _ (grpent_step read) (key_step read) (ref_step read) (type1_step read) (type2_step read) (entry_step read) (further_step read) (arg_step read) (group_step read) (choice_step read) (types_step read) (Type2-F.ArrayOf o g c)

pub view-Unwrapped : (read : Leaf → Token) (u : Leaf) (r : Ref) → view_type2 read (Type2V.Unwrapped u r) ≡ S.unwrapped (read u) (view_ref read r)
unfolding view_type2 view_ref
view-Unwrapped read u r = ap (view_type2 read) (sym (Type2V.rolls-Unwrapped u r)) ∙ fold-roll-Type2 _ _ _ _ _ _ _ _ _ _ _ (grpent_step read) (key_step read) (ref_step read) (type1_step read) (type2_step read) (entry_step read) (further_step read) (arg_step read) (group_step read) (choice_step read) (types_step read) (Type2-F.Unwrapped u r)

pub view-ChoiceOf : (read : Leaf → Token) (a : Leaf) (o : Leaf) (g : Group) (c : Leaf) → view_type2 read (Type2V.ChoiceOf a o g c) ≡ S.choice_of (read a) (read o) (view_group read g) (read c)
unfolding view_type2 view_group
view-ChoiceOf read a o g c = ap (view_type2 read) (sym (Type2V.rolls-ChoiceOf a o g c)) ∙ fold-roll-Type2 _ _ _ _ _ _ _ _ _ _ _ (grpent_step read) (key_step read) (ref_step read) (type1_step read) (type2_step read) (entry_step read) (further_step read) (arg_step read) (group_step read) (choice_step read) (types_step read) (Type2-F.ChoiceOf a o g c)

pub view-ChoiceOfName : (read : Leaf → Token) (a : Leaf) (r : Ref) → view_type2 read (Type2V.ChoiceOfName a r) ≡ S.choice_of_name (read a) (view_ref read r)
unfolding view_type2 view_ref
view-ChoiceOfName read a r = ap (view_type2 read) (sym (Type2V.rolls-ChoiceOfName a r)) ∙ fold-roll-Type2 _ _ _ _ _ _ _ _ _ _ _ (grpent_step read) (key_step read) (ref_step read) (type1_step read) (type2_step read) (entry_step read) (further_step read) (arg_step read) (group_step read) (choice_step read) (types_step read) (Type2-F.ChoiceOfName a r)

pub view-Tagged : (read : Leaf → Token) (o : Leaf) (t : Box Types Global) (c : Leaf) → view_type2 read (Type2V.Tagged o t c) ≡ S.tagged (read o) (view_types read t.value) (read c)
unfolding view_type2 view_types
view-Tagged read o t c = ap (view_type2 read) (sym (Type2V.rolls-Tagged o t c)) ∙ fold-roll-Type2 _ _ _ _ _ _ _ _ _ _ _ (grpent_step read) (key_step read) (ref_step read) (type1_step read) (type2_step read) (entry_step read) (further_step read) (arg_step read) (group_step read) (choice_step read) (types_step read) (Type2-F.Tagged o t c)

pub view-TaggedBy : (read : Leaf → Token) (o : Leaf) (h : Box Types Global) (a : Leaf) (p : Leaf) (t : Box Types Global) (c : Leaf) → view_type2 read (Type2V.TaggedBy o h a p t c) ≡ S.tagged_by (read o) (view_types read h.value) (read a) (read p) (view_types read t.value) (read c)
unfolding view_type2 view_types
view-TaggedBy read o h a p t c = ap (view_type2 read) (sym (Type2V.rolls-TaggedBy o h a p t c)) ∙ fold-roll-Type2 _ _ _ _ _ _ _ _ _ _ _ (grpent_step read) (key_step read) (ref_step read) (type1_step read) (type2_step read) (entry_step read) (further_step read) (arg_step read) (group_step read) (choice_step read) (types_step read) (Type2-F.TaggedBy o h a p t c)

pub view-SimpleBy : (read : Leaf → Token) (o : Leaf) (h : Box Types Global) (c : Leaf) → view_type2 read (Type2V.SimpleBy o h c) ≡ S.simple_by (read o) (view_types read h.value) (read c)
unfolding view_type2 view_types
view-SimpleBy read o h c = ap (view_type2 read) (sym (Type2V.rolls-SimpleBy o h c)) ∙ fold-roll-Type2 _ _ _ _ _ _ _ _ _ _ _ (grpent_step read) (key_step read) (ref_step read) (type1_step read) (type2_step read) (entry_step read) (further_step read) (arg_step read) (group_step read) (choice_step read) (types_step read) (Type2-F.SimpleBy o h c)

pub view-Hash : (read : Leaf → Token) (t : Leaf) → view_type2 read (Type2V.Hash t) ≡ S.hash (read t)
unfolding view_type2
view-Hash read t = ap (view_type2 read) (sym (Type2V.rolls-Hash t)) ∙ fold-roll-Type2 _ _ _ _ _ _ _ _ _ _ _ (grpent_step read) (key_step read) (ref_step read) (type1_step read) (type2_step read) (entry_step read) (further_step read) (arg_step read) (group_step read) (choice_step read) (types_step read) (Type2-F.Hash t)

pub view-Typed : (read : Leaf → Token) (o : Option Leaf) (t : Types) → view_grpent read (GrpEntV.Typed o t) ≡ S.typed (leaf read o) (view_types read t)
unfolding view_grpent view_types
view-Typed read o t = ap (view_grpent read) (sym (GrpEntV.rolls-Typed o t)) ∙ fold-roll-GrpEnt _ _ _ _ _ _ _ _ _ _ _ (grpent_step read) (key_step read) (ref_step read) (type1_step read) (type2_step read) (entry_step read) (further_step read) (arg_step read) (group_step read) (choice_step read) (types_step read) (GrpEnt-F.Typed o t)

pub view-Keyed : (read : Leaf → Token) (o : Option Leaf) (k : Box MemberKey Global) (t : Types) → view_grpent read (GrpEntV.Keyed o k t) ≡ S.keyed (leaf read o) (view_key read k.value) (view_types read t)
unfolding view_grpent view_key view_types
view-Keyed read o k t = ap (view_grpent read) (sym (GrpEntV.rolls-Keyed o k t)) ∙ fold-roll-GrpEnt _ _ _ _ _ _ _ _ _ _ _ (grpent_step read) (key_step read) (ref_step read) (type1_step read) (type2_step read) (entry_step read) (further_step read) (arg_step read) (group_step read) (choice_step read) (types_step read) (GrpEnt-F.Keyed o k t)

pub view-Grouped : (read : Leaf → Token) (o : Option Leaf) (p : Leaf) (g : Group) (c : Leaf) → view_grpent read (GrpEntV.Grouped o p g c) ≡ S.grouped (leaf read o) (read p) (view_group read g) (read c)
unfolding view_grpent view_group
view-Grouped read o p g c = ap (view_grpent read) (sym (GrpEntV.rolls-Grouped o p g c)) ∙ fold-roll-GrpEnt _ _ _ _ _ _ _ _ _ _ _ (grpent_step read) (key_step read) (ref_step read) (type1_step read) (type2_step read) (entry_step read) (further_step read) (arg_step read) (group_step read) (choice_step read) (types_step read) (GrpEnt-F.Grouped o p g c)

pub view-TypeKey : (read : Leaf → Token) (r : Type1) (u : Option Leaf) (a : Leaf) → view_key read (MemberKeyV.TypeKey r u a) ≡ S.type_key (view_type1 read r) (leaf read u) (read a)
unfolding view_key view_type1
view-TypeKey read r u a = ap (view_key read) (sym (MemberKeyV.rolls-TypeKey r u a)) ∙ fold-roll-MemberKey _ _ _ _ _ _ _ _ _ _ _ (grpent_step read) (key_step read) (ref_step read) (type1_step read) (type2_step read) (entry_step read) (further_step read) (arg_step read) (group_step read) (choice_step read) (types_step read) (MemberKey-F.TypeKey r u a)

pub view-Bareword : (read : Leaf → Token) (n : Leaf) (c : Leaf) → view_key read (MemberKeyV.Bareword n c) ≡ S.bareword (read n) (read c)
unfolding view_key
view-Bareword read n c = ap (view_key read) (sym (MemberKeyV.rolls-Bareword n c)) ∙ fold-roll-MemberKey _ _ _ _ _ _ _ _ _ _ _ (grpent_step read) (key_step read) (ref_step read) (type1_step read) (type2_step read) (entry_step read) (further_step read) (arg_step read) (group_step read) (choice_step read) (types_step read) (MemberKey-F.Bareword n c)

pub view-ValueKey : (read : Leaf → Token) (v : Value) (c : Leaf) → view_key read (MemberKeyV.ValueKey v c) ≡ S.value_key (view_value read v) (read c)
unfolding view_key
view-ValueKey read v c = ap (view_key read) (sym (MemberKeyV.rolls-ValueKey v c)) ∙ fold-roll-MemberKey _ _ _ _ _ _ _ _ _ _ _ (grpent_step read) (key_step read) (ref_step read) (type1_step read) (type2_step read) (entry_step read) (further_step read) (arg_step read) (group_step read) (choice_step read) (types_step read) (MemberKey-F.ValueKey v c)

pub view-Types : (read : Leaf → Token) (first : Type1) (others : Vec Further Global) → view_types read (roll-Types (record { first = first; others = others })) ≡ with_types (S.only (view_type1 read first)) (map (view_further read) others.items)
unfolding view_types view_type1 view_further
view-Types read first others = fold-roll-Types _ _ _ _ _ _ _ _ _ _ _ (grpent_step read) (key_step read) (ref_step read) (type1_step read) (type2_step read) (entry_step read) (further_step read) (arg_step read) (group_step read) (choice_step read) (types_step read) (record { first = first; others = others })

pub view_out-Types : (read : Leaf → Token) (x : Types) → view_types read x ≡ with_types (S.only (view_type1 read (out-Types x).first)) (map (view_further read) (out-Types x).others.items)
unfolding view_types view_type1 view_further
view_out-Types read x = fold_out-Types _ _ _ _ _ _ _ _ _ _ _ (grpent_step read) (key_step read) (ref_step read) (type1_step read) (type2_step read) (entry_step read) (further_step read) (arg_step read) (group_step read) (choice_step read) (types_step read) x

pub view-GenericArg : (read : Leaf → Token) (first : Type1) (others : Vec Further Global) → view_arg read (roll-GenericArg (record { first = first; others = others })) ≡ with_arguments (S.argument (view_type1 read first)) (map (view_further read) others.items)
unfolding view_arg view_type1 view_further
view-GenericArg read first others = fold-roll-GenericArg _ _ _ _ _ _ _ _ _ _ _ (grpent_step read) (key_step read) (ref_step read) (type1_step read) (type2_step read) (entry_step read) (further_step read) (arg_step read) (group_step read) (choice_step read) (types_step read) (record { first = first; others = others })

pub view_out-GenericArg : (read : Leaf → Token) (x : GenericArg) → view_arg read x ≡ with_arguments (S.argument (view_type1 read (out-GenericArg x).first)) (map (view_further read) (out-GenericArg x).others.items)
unfolding view_arg view_type1 view_further
view_out-GenericArg read x = fold_out-GenericArg _ _ _ _ _ _ _ _ _ _ _ (grpent_step read) (key_step read) (ref_step read) (type1_step read) (type2_step read) (entry_step read) (further_step read) (arg_step read) (group_step read) (choice_step read) (types_step read) x

pub view-Group : (read : Leaf → Token) (first : Vec Entry Global) (others : Vec GrpChoice Global) → view_group read (roll-Group (record { first = first; others = others })) ≡ with_choices (S.sole (with_entries S.no_entries (map (view_entry read) first.items))) (map (view_choice read) others.items)
unfolding view_group view_entry view_choice
view-Group read first others = fold-roll-Group _ _ _ _ _ _ _ _ _ _ _ (grpent_step read) (key_step read) (ref_step read) (type1_step read) (type2_step read) (entry_step read) (further_step read) (arg_step read) (group_step read) (choice_step read) (types_step read) (record { first = first; others = others })

pub view_out-Group : (read : Leaf → Token) (x : Group) → view_group read x ≡ with_choices (S.sole (with_entries S.no_entries (map (view_entry read) (out-Group x).first.items))) (map (view_choice read) (out-Group x).others.items)
unfolding view_group view_entry view_choice
view_out-Group read x = fold_out-Group _ _ _ _ _ _ _ _ _ _ _ (grpent_step read) (key_step read) (ref_step read) (type1_step read) (type2_step read) (entry_step read) (further_step read) (arg_step read) (group_step read) (choice_step read) (types_step read) x

pub view-GrpChoice : (read : Leaf → Token) (slashes : Leaf) (entries : Vec Entry Global) → view_choice read (roll-GrpChoice (record { slashes = slashes; entries = entries })) ≡ (read slashes, with_entries S.no_entries (map (view_entry read) entries.items))
unfolding view_choice view_entry
view-GrpChoice read slashes entries = fold-roll-GrpChoice _ _ _ _ _ _ _ _ _ _ _ (grpent_step read) (key_step read) (ref_step read) (type1_step read) (type2_step read) (entry_step read) (further_step read) (arg_step read) (group_step read) (choice_step read) (types_step read) (record { slashes = slashes; entries = entries })

pub view_out-GrpChoice : (read : Leaf → Token) (x : GrpChoice) → view_choice read x ≡ (read (out-GrpChoice x).slashes, with_entries S.no_entries (map (view_entry read) (out-GrpChoice x).entries.items))
unfolding view_choice view_entry
view_out-GrpChoice read x = fold_out-GrpChoice _ _ _ _ _ _ _ _ _ _ _ (grpent_step read) (key_step read) (ref_step read) (type1_step read) (type2_step read) (entry_step read) (further_step read) (arg_step read) (group_step read) (choice_step read) (types_step read) x

pub view-Entry : (read : Leaf → Token) (e : GrpEnt) (c : Option Leaf) → view_entry read (record { grpent = e; comma = c }) ≡ (view_grpent read e, leaf read c)
unfolding view_entry view_grpent
view-Entry read e c = fold-roll-Entry _ _ _ _ _ _ _ _ _ _ _ (grpent_step read) (key_step read) (ref_step read) (type1_step read) (type2_step read) (entry_step read) (further_step read) (arg_step read) (group_step read) (choice_step read) (types_step read) (record { grpent = e; comma = c })

pub view-Further : (read : Leaf → Token) (s : Leaf) (r : Type1) → view_further read (record { sign = s; type1 = r }) ≡ ((read s), view_type1 read r)
unfolding view_further view_type1
view-Further read s r = fold-roll-Further _ _ _ _ _ _ _ _ _ _ _ (grpent_step read) (key_step read) (ref_step read) (type1_step read) (type2_step read) (entry_step read) (further_step read) (arg_step read) (group_step read) (choice_step read) (types_step read) (record { sign = s; type1 = r })

pub ruleset views = (view-Name, view-Applied, view-One, view-Operation, view-Literal, view-Typename, view-Parens, view-MapOf, view-ArrayOf, view-Unwrapped, view-ChoiceOf, view-ChoiceOfName, view-Tagged, view-TaggedBy, view-SimpleBy, view-Hash, view-Typed, view-Keyed, view-Grouped, view-TypeKey, view-Bareword, view-ValueKey)
