-- The sites of each kind of node.
use Rattle.std.proofs.Common.{◌≡◌, Bool, true, false, List, [], ◌∷◌, ◌++◌, map, Option, Box, Global, if◌then◌else◌, refl, sym, ap, ◌∙◌, append_assoc}
use Rattle.std.proofs.lemmas.List.{append-nil}
use Rattle.std.specs.List.{flat_map}
use Rattle.cddl_token.specs.declared.Token.{Token}
use Rattle.tree_nodes.specs.Syntax.Syntax as S
use Rattle.tree_nodes.specs.declared.tree.Leaf.{Leaf}
use Rattle.tree_nodes.specs.declared.tree.Entry.{Entry}
use Rattle.tree_nodes.specs.declared.tree.Further.{Further}
use Rattle.tree_nodes.specs.declared.tree.GenericArg.{GenericArg}
use Rattle.tree_nodes.specs.declared.tree.Group.{Group}
use Rattle.tree_nodes.specs.declared.tree.GrpChoice.{GrpChoice}
use Rattle.tree_nodes.specs.declared.tree.Types.{Types}
use Rattle.tree_nodes.specs.declared.tree.Type1.{Type1}
use Rattle.tree_nodes.specs.declared.tree.Type2.{Type2}
use Rattle.tree_nodes.specs.declared.tree.Ref.{Ref}
use Rattle.tree_nodes.specs.declared.tree.GrpEnt.{GrpEnt}
use Rattle.tree_nodes.specs.declared.tree.MemberKey.{MemberKey}
use Rattle.tree_nodes.specs.declared.tree.Value.{Value}
use Rattle.tree_nodes.specs.declared.tree.Operator.{Operator}
use Rattle.tree_nodes.specs.declared.tree.Rule.{Rule}
use Rattle.tree_nodes.specs.declared.tree.RuleName.{RuleName}
use Rattle.tree_nodes.specs.declared.tree.AssignT.{AssignT}
use Rattle.tree_nodes.specs.declared.tree.AssignG.{AssignG}
use Rattle.tree_nodes.specs.declared.tree.GrpEnt.TheVariants as GrpEntV
use Rattle.tree_nodes.specs.declared.tree.MemberKey.TheVariants as MemberKeyV
use Rattle.tree_nodes.specs.declared.tree.Ref.TheVariants as RefV
use Rattle.tree_nodes.specs.declared.tree.Rule.TheVariants as RuleV
use Rattle.tree_nodes.specs.declared.tree.Type1.TheVariants as Type1V
use Rattle.tree_nodes.specs.declared.tree.Type2.TheVariants as Type2V
use Rattle.tree_nodes.specs.declared.tree.GrpEnt.TheViews.{out-Types, out-GenericArg, out-Group, out-GrpChoice}
use Rattle.tree_nodes.specs.View.{view_assignt, view_type1, view_type2, view_ref, view_key, view_operator, view_grpent, view_rule, view_further, view_entry, view_choice, view_types, view_arg, view_group, with_types, with_arguments, with_entries, with_choices}
use Rattle.tree_nodes.proofs.Lemmas.{view-Name, view-Applied, view-One, view-Operation, view-Literal, view-Typename, view-Parens, view-MapOf, view-ArrayOf, view-Unwrapped, view-ChoiceOf, view-ChoiceOfName, view-Tagged, view-TaggedBy, view-SimpleBy, view-Hash, view-Typed, view-Keyed, view-Grouped, view-TypeKey, view-Bareword, view-ValueKey, view-Entry, view-Further, view_out-GrpChoice, view_out-Types, view_out-GenericArg, view_out-Group}
use Rattle.cddl_language.specs.Sites.{Site, a_name, an_unwrapping, a_choice_of, a_choice_of_name, a_hash, an_operation, an_entry, a_map, demands_type, in_types, in_type1, in_type2, in_ref, in_arguments, in_group, in_entries, in_entry, in_key, in_rule}
use Rattle.check_sites.specs.Sites.Walk.{several, further_sites, entry_sites, choice_sites}

module _ (i : Bool) (read : Leaf → Token) where
  further_part : (x : Further) → in_type1 i true (view_further read x).1 ≡ further_sites i read x
  further_part x = ap (λ (y : Token × S.Type1). in_type1 i true y.1) (view-Further read x.sign x.type1)

  entry_part : (e : Entry) → in_entry i (view_entry read e).0 ≡ entry_sites i read e
  entry_part e = ap (λ (y : S.GrpEnt × Option Token). in_entry i y.0) (view-Entry read e.grpent e.comma)

  in_with_types : (b : Bool) (t : S.Types) (xs : List Further) → in_types i b (with_types t (map (view_further read) xs)) ≡ in_types i (several b xs) t ++ flat_map (further_sites i read) xs
  in_with_types b t [] = sym (append-nil (in_types i b t))
  in_with_types b t (x ∷ xs) =
      in_with_types b (S.or t (view_further read x).0 (view_further read x).1) xs
      ∙ ap (λ (ps : List Site). ps ++ flat_map (further_sites i read) xs) (either b xs)
      ∙ append_assoc (in_types i true t) (in_type1 i true (view_further read x).1) (flat_map (further_sites i read) xs)
      ∙ ap (λ (ps : List Site). in_types i true t ++ (ps ++ flat_map (further_sites i read) xs)) (further_part x)
    where
      either : (c : Bool) (ys : List Further) → in_types i (several c ys) (S.or t (view_further read x).0 (view_further read x).1) ≡ in_types i true t ++ in_type1 i true (view_further read x).1
      either c ys = refl

  in_with_arguments : (a : S.GenericArg) (xs : List Further) → in_arguments i (with_arguments a (map (view_further read) xs)) ≡ in_arguments i a ++ flat_map (further_sites i read) xs
  in_with_arguments a [] = sym (append-nil (in_arguments i a))
  in_with_arguments a (x ∷ xs) =
      in_with_arguments (S.arguments a (view_further read x).0 (view_further read x).1) xs
      ∙ append_assoc (in_arguments i a) (in_type1 i true (view_further read x).1) (flat_map (further_sites i read) xs)
      ∙ ap (λ (ps : List Site). in_arguments i a ++ (ps ++ flat_map (further_sites i read) xs)) (further_part x)

  in_with_entries : (es : S.GrpChoice) (xs : List Entry) → in_entries i (with_entries es (map (view_entry read) xs)) ≡ in_entries i es ++ flat_map (entry_sites i read) xs
  in_with_entries es [] = sym (append-nil (in_entries i es))
  in_with_entries es (x ∷ xs) =
      in_with_entries (S.entries es (view_entry read x).0 (view_entry read x).1) xs
      ∙ append_assoc (in_entries i es) (in_entry i (view_entry read x).0) (flat_map (entry_sites i read) xs)
      ∙ ap (λ (ps : List Site). in_entries i es ++ (ps ++ flat_map (entry_sites i read) xs)) (entry_part x)

  choice_part : (c : GrpChoice) → in_entries i (view_choice read c).1 ≡ choice_sites i read c
  choice_part c = ap (λ (y : Token × S.GrpChoice). in_entries i y.1) (view_out-GrpChoice read c) ∙ in_with_entries S.no_entries (out-GrpChoice c).entries.items

  in_with_choices : (g : S.Group) (xs : List GrpChoice) → in_group i (with_choices g (map (view_choice read) xs)) ≡ in_group i g ++ flat_map (choice_sites i read) xs
  in_with_choices g [] = sym (append-nil (in_group i g))
  in_with_choices g (x ∷ xs) =
      in_with_choices (S.orelse g (view_choice read x).0 (view_choice read x).1) xs
      ∙ append_assoc (in_group i g) (in_entries i (view_choice read x).1) (flat_map (choice_sites i read) xs)
      ∙ ap (λ (ps : List Site). in_group i g ++ (ps ++ flat_map (choice_sites i read) xs)) (choice_part x)

  pub types_sites : (b : Bool) (t : Types) → in_types i b (view_types read t) ≡ in_type1 i (several b (out-Types t).others.items) (view_type1 read (out-Types t).first) ++ flat_map (further_sites i read) (out-Types t).others.items
  types_sites b t = ap (in_types i b) (view_out-Types read t) ∙ in_with_types b (S.only (view_type1 read (out-Types t).first)) (out-Types t).others.items

  pub argument_sites : (a : GenericArg) → in_arguments i (view_arg read a) ≡ in_type1 i true (view_type1 read (out-GenericArg a).first) ++ flat_map (further_sites i read) (out-GenericArg a).others.items
  argument_sites a = ap (in_arguments i) (view_out-GenericArg read a) ∙ in_with_arguments (S.argument (view_type1 read (out-GenericArg a).first)) (out-GenericArg a).others.items

  pub group_sites : (g : Group) → in_group i (view_group read g) ≡ flat_map (entry_sites i read) (out-Group g).first.items ++ flat_map (choice_sites i read) (out-Group g).others.items
  group_sites g =
      ap (in_group i) (view_out-Group read g)
      ∙ in_with_choices (S.sole (with_entries S.no_entries (map (view_entry read) (out-Group g).first.items))) (out-Group g).others.items
      ∙ ap (λ (ps : List Site). ps ++ flat_map (choice_sites i read) (out-Group g).others.items) (in_with_entries S.no_entries (out-Group g).first.items)

-- The sites of a node of each form, whose parts are read through references.
module _ (i : Bool) (read : Leaf → Token) where
  pub one_sites : (d : Bool) (x : Type1) (b : Box Type2 Global) (y : Type2) → x ≡ Type1V.One b → y ≡ b.value → in_type1 i d (view_type1 read x) ≡ in_type2 i d (view_type2 read y)
  one_sites d x b y is e = ap (λ (z : Type1). in_type1 i d (view_type1 read z)) is ∙ ap (in_type1 i d) (view-One read b) ∙ ap (λ (z : Type2). in_type2 i d (view_type2 read z)) (sym e)

  operands : (l k m r u v : Type2) (o : Operator) → l ≡ k → m ≡ k → r ≡ u → v ≡ u → ◌≡◌ {A = List Site} (an_operation (view_type2 read k) (view_operator read o) (view_type2 read u) ∷ (in_type2 i true (view_type2 read k) ++ in_type2 i true (view_type2 read u))) (an_operation (view_type2 read l) (view_operator read o) (view_type2 read r) ∷ (in_type2 i true (view_type2 read m) ++ in_type2 i true (view_type2 read v)))
  operands l k m r u v o e f g h = rw (e, f, g, h) refl

  pub operation_sites : (d : Bool) (x : Type1) (a : Box Type2 Global) (o : Operator) (b : Box Type2 Global) (l m r v : Type2) → x ≡ Type1V.Operation a o b → l ≡ a.value → m ≡ a.value → r ≡ b.value → v ≡ b.value → in_type1 i d (view_type1 read x) ≡ an_operation (view_type2 read l) (view_operator read o) (view_type2 read r) ∷ (in_type2 i true (view_type2 read m) ++ in_type2 i true (view_type2 read v))
  operation_sites d x a o b l m r v is e f g h = ap (λ (z : Type1). in_type1 i d (view_type1 read z)) is ∙ ap (in_type1 i d) (view-Operation read a o b) ∙ operands l a.value m r b.value v o e f g h

  seen : (d : Bool) (x y : Type2) (v : S.Type2) → x ≡ y → view_type2 read y ≡ v → in_type2 i d (view_type2 read x) ≡ in_type2 i d v
  seen d x y v is e = ap (λ (z : Type2). in_type2 i d (view_type2 read z)) is ∙ ap (in_type2 i d) e

  at_types : (d : Bool) (t : Box Types Global) (y : Types) → y ≡ t.value → in_types i d (view_types read t.value) ≡ in_types i d (view_types read y)
  at_types d t y e = ap (λ (z : Types). in_types i d (view_types read z)) (sym e)

  pub literal_sites : (d : Bool) (x : Type2) (v : Value) → x ≡ Type2V.Literal v → in_type2 i d (view_type2 read x) ≡ []
  literal_sites d x v is = seen d x _ _ is (view-Literal read v)

  pub typename_sites : (d : Bool) (x : Type2) (r : Ref) → x ≡ Type2V.Typename r → in_type2 i d (view_type2 read x) ≡ a_name d (view_ref read r) ∷ in_ref i (view_ref read r)
  typename_sites d x r is = seen d x _ _ is (view-Typename read r)

  pub parens_sites : (d : Bool) (x : Type2) (o : Leaf) (t : Box Types Global) (c : Leaf) (y : Types) → x ≡ Type2V.Parens o t c → y ≡ t.value → in_type2 i d (view_type2 read x) ≡ in_types i d (view_types read y)
  parens_sites d x o t c y is e = seen d x _ _ is (view-Parens read o t c) ∙ at_types d t y e

  pub map_sites : (d : Bool) (x : Type2) (o : Leaf) (g : Group) (c : Leaf) → x ≡ Type2V.MapOf o g c → in_type2 i d (view_type2 read x) ≡ a_map (read o) (view_group read g) ∷ in_group i (view_group read g)
  map_sites d x o g c is = seen d x _ _ is (view-MapOf read o g c)

  pub array_sites : (d : Bool) (x : Type2) (o : Leaf) (g : Group) (c : Leaf) → x ≡ Type2V.ArrayOf o g c → in_type2 i d (view_type2 read x) ≡ in_group i (view_group read g)
  array_sites d x o g c is = seen d x _ _ is (view-ArrayOf read o g c)

  pub unwrapped_sites : (d : Bool) (x : Type2) (u : Leaf) (r : Ref) → x ≡ Type2V.Unwrapped u r → in_type2 i d (view_type2 read x) ≡ an_unwrapping d (read u) (view_ref read r) ∷ in_ref i (view_ref read r)
  unwrapped_sites d x u r is = seen d x _ _ is (view-Unwrapped read u r)

  pub choice_of_sites : (d : Bool) (x : Type2) (a o : Leaf) (g : Group) (c : Leaf) → x ≡ Type2V.ChoiceOf a o g c → in_type2 i d (view_type2 read x) ≡ a_choice_of (read a) (view_group read g) ∷ in_group i (view_group read g)
  choice_of_sites d x a o g c is = seen d x _ _ is (view-ChoiceOf read a o g c)

  pub choice_of_name_sites : (d : Bool) (x : Type2) (a : Leaf) (r : Ref) → x ≡ Type2V.ChoiceOfName a r → in_type2 i d (view_type2 read x) ≡ a_choice_of_name (read a) (view_ref read r) ∷ in_ref i (view_ref read r)
  choice_of_name_sites d x a r is = seen d x _ _ is (view-ChoiceOfName read a r)

  pub tagged_sites : (d : Bool) (x : Type2) (o : Leaf) (t : Box Types Global) (c : Leaf) (y : Types) → x ≡ Type2V.Tagged o t c → y ≡ t.value → in_type2 i d (view_type2 read x) ≡ in_types i true (view_types read y)
  tagged_sites d x o t c y is e = seen d x _ _ is (view-Tagged read o t c) ∙ at_types true t y e

  pub tagged_by_sites : (d : Bool) (x : Type2) (o : Leaf) (h : Box Types Global) (a p : Leaf) (t : Box Types Global) (c : Leaf) (y z : Types) → x ≡ Type2V.TaggedBy o h a p t c → y ≡ h.value → z ≡ t.value → in_type2 i d (view_type2 read x) ≡ in_types i true (view_types read y) ++ in_types i true (view_types read z)
  tagged_by_sites d x o h a p t c y z is e f =
      seen d x _ _ is (view-TaggedBy read o h a p t c)
      ∙ ap (λ (ps : List Site). ps ++ in_types i true (view_types read t.value)) (at_types true h y e)
      ∙ ap (λ (ps : List Site). in_types i true (view_types read y) ++ ps) (at_types true t z f)

  pub simple_by_sites : (d : Bool) (x : Type2) (o : Leaf) (h : Box Types Global) (c : Leaf) (y : Types) → x ≡ Type2V.SimpleBy o h c → y ≡ h.value → in_type2 i d (view_type2 read x) ≡ in_types i true (view_types read y)
  simple_by_sites d x o h c y is e = seen d x _ _ is (view-SimpleBy read o h c) ∙ at_types true h y e

  pub hash_sites : (d : Bool) (x : Type2) (t : Leaf) → x ≡ Type2V.Hash t → in_type2 i d (view_type2 read x) ≡ a_hash (read t) ∷ []
  hash_sites d x t is = seen d x _ _ is (view-Hash read t)

  pub name_sites : (x : Ref) (t : Leaf) → x ≡ RefV.Name t → in_ref i (view_ref read x) ≡ []
  name_sites x t is = ap (λ (z : Ref). in_ref i (view_ref read z)) is ∙ ap (in_ref i) (view-Name read t)

  pub applied_sites : (x : Ref) (o : Leaf) (a : Box GenericArg Global) (c : Leaf) (y : GenericArg) → x ≡ RefV.Applied o a c → y ≡ a.value → in_ref i (view_ref read x) ≡ (if i then in_arguments i (view_arg read y) else [])
  applied_sites x o a c y is e =
      ap (λ (z : Ref). in_ref i (view_ref read z)) is
      ∙ ap (in_ref i) (view-Applied read o a c)
      ∙ ap (λ (z : GenericArg). if i then in_arguments i (view_arg read z) else []) (sym e)

  seen_entry : (x y : GrpEnt) (v : S.GrpEnt) → x ≡ y → view_grpent read y ≡ v → (after : S.GrpEnt → List Site) → in_entry i v ≡ an_entry v ∷ after v → in_entry i (view_grpent read x) ≡ an_entry (view_grpent read x) ∷ after v
  seen_entry x y v is e after h =
      let seen_as = ap (view_grpent read) is ∙ e in
      ap (in_entry i) seen_as ∙ h ∙ ap (λ (z : S.GrpEnt). an_entry z ∷ after v) (sym seen_as)

  pub typed_sites : (x : GrpEnt) (o : Option Leaf) (t : Types) → x ≡ GrpEntV.Typed o t → in_entry i (view_grpent read x) ≡ an_entry (view_grpent read x) ∷ in_types i false (view_types read t)
  typed_sites x o t is = seen_entry x _ _ is (view-Typed read o t) (λ z. in_types i false (view_types read t)) refl

  pub keyed_sites : (x : GrpEnt) (o : Option Leaf) (k : Box MemberKey Global) (t : Types) (y : MemberKey) → x ≡ GrpEntV.Keyed o k t → y ≡ k.value → in_entry i (view_grpent read x) ≡ an_entry (view_grpent read x) ∷ (in_key i (view_key read y) ++ in_types i true (view_types read t))
  keyed_sites x o k t y is e =
      seen_entry x _ _ is (view-Keyed read o k t) (λ z. in_key i (view_key read k.value) ++ in_types i true (view_types read t)) refl
      ∙ ap (λ (z : MemberKey). an_entry (view_grpent read x) ∷ (in_key i (view_key read z) ++ in_types i true (view_types read t))) (sym e)

  pub grouped_sites : (x : GrpEnt) (o : Option Leaf) (p : Leaf) (g : Group) (c : Leaf) → x ≡ GrpEntV.Grouped o p g c → in_entry i (view_grpent read x) ≡ an_entry (view_grpent read x) ∷ in_group i (view_group read g)
  grouped_sites x o p g c is = seen_entry x _ _ is (view-Grouped read o p g c) (λ z. in_group i (view_group read g)) refl

  seen_key : (x y : MemberKey) (v : S.MemberKey) → x ≡ y → view_key read y ≡ v → in_key i (view_key read x) ≡ in_key i v
  seen_key x y v is e = ap (λ (z : MemberKey). in_key i (view_key read z)) is ∙ ap (in_key i) e

  pub type_key_sites : (x : MemberKey) (r : Type1) (u : Option Leaf) (a : Leaf) → x ≡ MemberKeyV.TypeKey r u a → in_key i (view_key read x) ≡ in_type1 i true (view_type1 read r)
  type_key_sites x r u a is = seen_key x _ _ is (view-TypeKey read r u a)

  pub bareword_sites : (x : MemberKey) (n c : Leaf) → x ≡ MemberKeyV.Bareword n c → in_key i (view_key read x) ≡ []
  bareword_sites x n c is = seen_key x _ _ is (view-Bareword read n c)

  pub value_key_sites : (x : MemberKey) (v : Value) (c : Leaf) → x ≡ MemberKeyV.ValueKey v c → in_key i (view_key read x) ≡ []
  value_key_sites x v c is = seen_key x _ _ is (view-ValueKey read v c)

  pub type_rule_sites : (x : Rule) (n : RuleName) (a : AssignT) (t : Types) (d : Bool) → x ≡ RuleV.TypeRule n a t → d ≡ demands_type i (view_assignt read a) → in_rule i (view_rule read x) ≡ in_types i d (view_types read t)
  type_rule_sites x n a t d is e = ap (λ (z : Rule). in_rule i (view_rule read z)) is ∙ ap (λ (b : Bool). in_types i b (view_types read t)) (sym e)

  pub group_rule_sites : (x : Rule) (n : RuleName) (a : AssignG) (e : GrpEnt) → x ≡ RuleV.GroupRule n a e → in_rule i (view_rule read x) ≡ in_entry i (view_grpent read e)
  group_rule_sites x n a e is = ap (λ (z : Rule). in_rule i (view_rule read z)) is
