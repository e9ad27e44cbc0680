-- The types in each kind of node.
use Rattle.std.proofs.Common.{◌≡◌, ◌-◌, List, [], ◌∷◌, ◌++◌, length, map, option_map, slice_get, None, Option, Some, Box, Global, refl, sym, ap, ◌∙◌, append_assoc}
use Rattle.std.proofs.lemmas.List.{append-nil}
use Rattle.std.specs.List.{flat_map}
use Rattle.cddl_token.specs.declared.Token.{Token}
use Rattle.tree_nodes.specs.Syntax.Syntax as S
use Rattle.tree_nodes.specs.declared.tree.Leaf.{Leaf}
use Rattle.tree_nodes.specs.declared.tree.Entry.{Entry}
use Rattle.tree_nodes.specs.declared.tree.Further.{Further}
use Rattle.tree_nodes.specs.declared.tree.GenericArg.{GenericArg}
use Rattle.tree_nodes.specs.declared.tree.Group.{Group}
use Rattle.tree_nodes.specs.declared.tree.GrpChoice.{GrpChoice}
use Rattle.tree_nodes.specs.declared.tree.Types.{Types}
use Rattle.tree_nodes.specs.declared.tree.Type1.{Type1}
use Rattle.tree_nodes.specs.declared.tree.Type2.{Type2}
use Rattle.tree_nodes.specs.declared.tree.Ref.{Ref}
use Rattle.tree_nodes.specs.declared.tree.GrpEnt.{GrpEnt}
use Rattle.tree_nodes.specs.declared.tree.MemberKey.{MemberKey}
use Rattle.tree_nodes.specs.declared.tree.Value.{Value}
use Rattle.tree_nodes.specs.declared.tree.Operator.{Operator}
use Rattle.tree_nodes.specs.declared.tree.Rule.{Rule}
use Rattle.tree_nodes.specs.declared.tree.RuleName.{RuleName}
use Rattle.tree_nodes.specs.declared.tree.AssignT.{AssignT}
use Rattle.tree_nodes.specs.declared.tree.AssignG.{AssignG}
use Rattle.tree_nodes.specs.declared.tree.GrpEnt.TheVariants as GrpEntV
use Rattle.tree_nodes.specs.declared.tree.MemberKey.TheVariants as MemberKeyV
use Rattle.tree_nodes.specs.declared.tree.Ref.TheVariants as RefV
use Rattle.tree_nodes.specs.declared.tree.Rule.TheVariants as RuleV
use Rattle.tree_nodes.specs.declared.tree.Type1.TheVariants as Type1V
use Rattle.tree_nodes.specs.declared.tree.Type2.TheVariants as Type2V
use Rattle.tree_nodes.specs.declared.tree.GrpEnt.TheViews.{out-Types, out-GenericArg, out-Group, out-GrpChoice}
use Rattle.tree_nodes.specs.View.{leaf, view_type1, view_type2, view_ref, view_key, view_grpent, view_rule, view_value, view_further, view_entry, view_choice, view_types, view_arg, view_group, with_types, with_arguments, with_entries, with_choices}
use Rattle.tree_nodes.proofs.Lemmas.{view-Name, view-Applied, view-One, view-Operation, view-Literal, view-Typename, view-Parens, view-MapOf, view-ArrayOf, view-Unwrapped, view-ChoiceOf, view-ChoiceOfName, view-Tagged, view-TaggedBy, view-SimpleBy, view-Hash, view-Typed, view-Keyed, view-Grouped, view-TypeKey, view-Bareword, view-ValueKey, view-Entry, view-Further, view_out-GrpChoice, view_out-Types, view_out-GenericArg, view_out-Group}
use Rattle.source_pieces.specs.Pieces.{Around, Piece, a_key, a_member, a_type, a_value, a_word, an_entry, bare_type1, bare_types, brackets, count_of, entries_in, key_piece, operand, in_types, in_members, in_type1, in_type2, in_ref, in_arguments, in_group, in_entries, in_entry, in_key, in_rule, inner_or, name_of_type1, name_of_types, of_group, of_types, own_count, own_entries, the_rule}
use Rattle.source_pieces.specs.Walk.{further_pieces, entry_pieces, choice_pieces, view_around}
use Rattle.source_pieces.specs.declared.node.AroundNode.{AroundNode}

whole : (t : S.Types) → in_types t ≡ a_type t ∷ in_members t
whole (S.only r) = refl
whole (S.or t s r) = refl

module _ (read : Leaf → Token) where
  further_part : (x : Further) → in_type1 (view_further read x).1 ≡ further_pieces read x
  further_part x = ap (λ (y : Token × S.Type1). in_type1 y.1) (view-Further read x.sign x.type1)

  entry_part : (a : AroundNode) (e : Entry) → in_entry (view_around read a) (view_entry read e).0 ≡ entry_pieces a read e
  entry_part a e = ap (λ (y : S.GrpEnt × Option Token). in_entry (view_around read a) y.0) (view-Entry read e.grpent e.comma)

  in_with_types : (t : S.Types) (xs : List Further) → in_members (with_types t (map (view_further read) xs)) ≡ in_members t ++ flat_map (further_pieces read) xs
  in_with_types t [] = sym (append-nil (in_members t))
  in_with_types t (x ∷ xs) =
      in_with_types (S.or t (view_further read x).0 (view_further read x).1) xs
      ∙ append_assoc (in_members t) (in_type1 (view_further read x).1) (flat_map (further_pieces read) xs)
      ∙ ap (λ (ps : List Piece). in_members t ++ (ps ++ flat_map (further_pieces read) xs)) (further_part x)

  in_with_arguments : (a : S.GenericArg) (xs : List Further) → in_arguments (with_arguments a (map (view_further read) xs)) ≡ in_arguments a ++ flat_map (further_pieces read) xs
  in_with_arguments a [] = sym (append-nil (in_arguments a))
  in_with_arguments a (x ∷ xs) =
      in_with_arguments (S.arguments a (view_further read x).0 (view_further read x).1) xs
      ∙ append_assoc (in_arguments a) (in_type1 (view_further read x).1) (flat_map (further_pieces read) xs)
      ∙ ap (λ (ps : List Piece). in_arguments a ++ (ps ++ flat_map (further_pieces read) xs)) (further_part x)

  module _ (b : AroundNode) where
    in_with_entries : (es : S.GrpChoice) (xs : List Entry) → in_entries (view_around read b) (with_entries es (map (view_entry read) xs)) ≡ in_entries (view_around read b) es ++ flat_map (entry_pieces b read) xs
    in_with_entries es [] = sym (append-nil (in_entries (view_around read b) es))
    in_with_entries es (x ∷ xs) =
        let a = view_around read b in
        in_with_entries (S.entries es (view_entry read x).0 (view_entry read x).1) xs
        ∙ append_assoc (in_entries a es) (in_entry a (view_entry read x).0) (flat_map (entry_pieces b read) xs)
        ∙ ap (λ (ps : List Piece). in_entries a es ++ (ps ++ flat_map (entry_pieces b read) xs)) (entry_part b x)

    choice_part : (c : GrpChoice) → in_entries (view_around read b) (view_choice read c).1 ≡ choice_pieces b read c
    choice_part c = ap (λ (y : Token × S.GrpChoice). in_entries (view_around read b) y.1) (view_out-GrpChoice read c) ∙ in_with_entries S.no_entries (out-GrpChoice c).entries.items

    in_with_choices : (g : S.Group) (xs : List GrpChoice) → in_group (view_around read b) (with_choices g (map (view_choice read) xs)) ≡ in_group (view_around read b) g ++ flat_map (choice_pieces b read) xs
    in_with_choices g [] = sym (append-nil (in_group (view_around read b) g))
    in_with_choices g (x ∷ xs) =
        let a = view_around read b in
        in_with_choices (S.orelse g (view_choice read x).0 (view_choice read x).1) xs
        ∙ append_assoc (in_group a g) (in_entries a (view_choice read x).1) (flat_map (choice_pieces b read) xs)
        ∙ ap (λ (ps : List Piece). in_group a g ++ (ps ++ flat_map (choice_pieces b read) xs)) (choice_part x)

  pub types_pieces : (t : Types) → in_types (view_types read t) ≡ a_type (view_types read t) ∷ (in_type1 (view_type1 read (out-Types t).first) ++ flat_map (further_pieces read) (out-Types t).others.items)
  types_pieces t =
      whole (view_types read t)
      ∙ ap (λ (ps : List Piece). a_type (view_types read t) ∷ ps)
      (ap in_members (view_out-Types read t) ∙ in_with_types (S.only (view_type1 read (out-Types t).first)) (out-Types t).others.items)

  pub argument_pieces : (a : GenericArg) → in_arguments (view_arg read a) ≡ in_type1 (view_type1 read (out-GenericArg a).first) ++ flat_map (further_pieces read) (out-GenericArg a).others.items
  argument_pieces a = ap in_arguments (view_out-GenericArg read a) ∙ in_with_arguments (S.argument (view_type1 read (out-GenericArg a).first)) (out-GenericArg a).others.items

  pub group_pieces : (b : AroundNode) (g : Group) → in_group (view_around read b) (view_group read g) ≡ flat_map (entry_pieces b read) (out-Group g).first.items ++ flat_map (choice_pieces b read) (out-Group g).others.items
  group_pieces b g =
      ap (in_group (view_around read b)) (view_out-Group read g)
      ∙ in_with_choices b (S.sole (with_entries S.no_entries (map (view_entry read) (out-Group g).first.items))) (out-Group g).others.items
      ∙ ap (λ (ps : List Piece). ps ++ flat_map (choice_pieces b read) (out-Group g).others.items) (in_with_entries b S.no_entries (out-Group g).first.items)

-- The types in a node of each form, whose parts are read through references.
module _ (read : Leaf → Token) where
  pub one_pieces : (x : Type1) (b : Box Type2 Global) (y : Type2) → x ≡ Type1V.One b → y ≡ b.value → in_type1 (view_type1 read x) ≡ in_type2 (view_type2 read y)
  one_pieces x b y is e = ap (λ (z : Type1). in_type1 (view_type1 read z)) is ∙ ap in_type1 (view-One read b) ∙ ap (λ (z : Type2). in_type2 (view_type2 read z)) (sym e)

  seen1 : (x y : Type1) (v : S.Type1) (after : List Piece) → x ≡ y → view_type1 read y ≡ v → in_type1 v ≡ a_type (S.only v) ∷ after → in_type1 (view_type1 read x) ≡ a_type (S.only (view_type1 read x)) ∷ after
  seen1 x y v after is e h = let same = ap (view_type1 read) is ∙ e in ap in_type1 same ∙ h ∙ ap (λ (z : S.Type1). a_type (S.only z) ∷ after) (sym same)

  pub operation_pieces : (x : Type1) (a : Box Type2 Global) (o : Operator) (b : Box Type2 Global) (l r : Type2) → x ≡ Type1V.Operation a o b → l ≡ a.value → r ≡ b.value → in_type1 (view_type1 read x) ≡ a_type (S.only (view_type1 read x)) ∷ (in_type2 (view_type2 read l) ++ in_type2 (view_type2 read r))
  operation_pieces x a o b l r is e f =
      seen1 x _ _ (in_type2 (view_type2 read a.value) ++ in_type2 (view_type2 read b.value)) is (view-Operation read a o b) refl
      ∙ ap (λ (z : Type2). a_type (S.only (view_type1 read x)) ∷ (in_type2 (view_type2 read z) ++ in_type2 (view_type2 read b.value))) (sym e)
      ∙ ap (λ (z : Type2). a_type (S.only (view_type1 read x)) ∷ (in_type2 (view_type2 read l) ++ in_type2 (view_type2 read z))) (sym f)

  seen : (x y : Type2) (v : S.Type2) (after : List Piece) → x ≡ y → view_type2 read y ≡ v → in_type2 v ≡ operand v ∷ after → in_type2 (view_type2 read x) ≡ operand (view_type2 read x) ∷ after
  seen x y v after is e h = let same = ap (view_type2 read) is ∙ e in ap in_type2 same ∙ h ∙ ap (λ (z : S.Type2). operand z ∷ after) (sym same)

  at_types : (x : Type2) (t : Box Types Global) (y : Types) → y ≡ t.value → in_type2 (view_type2 read x) ≡ operand (view_type2 read x) ∷ in_types (view_types read t.value) → in_type2 (view_type2 read x) ≡ operand (view_type2 read x) ∷ in_types (view_types read y)
  at_types x t y e h = h ∙ ap (λ (z : Types). operand (view_type2 read x) ∷ in_types (view_types read z)) (sym e)

  pub literal_pieces : (x : Type2) (v : Value) → x ≡ Type2V.Literal v → in_type2 (view_type2 read x) ≡ operand (view_type2 read x) ∷ []
  literal_pieces x v is = seen x _ _ [] is (view-Literal read v) refl

  pub typename_pieces : (x : Type2) (r : Ref) → x ≡ Type2V.Typename r → in_type2 (view_type2 read x) ≡ operand (view_type2 read x) ∷ in_ref (view_ref read r)
  typename_pieces x r is = seen x _ _ (in_ref (view_ref read r)) is (view-Typename read r) refl

  pub parens_pieces : (x : Type2) (o : Leaf) (t : Box Types Global) (c : Leaf) (y : Types) → x ≡ Type2V.Parens o t c → y ≡ t.value → in_type2 (view_type2 read x) ≡ operand (view_type2 read x) ∷ in_types (view_types read y)
  parens_pieces x o t c y is e = at_types x t y e (seen x _ _ (in_types (view_types read t.value)) is (view-Parens read o t c) refl)

  pub map_pieces : (x : Type2) (o : Leaf) (g : Group) (c : Leaf) → x ≡ Type2V.MapOf o g c → in_type2 (view_type2 read x) ≡ operand (view_type2 read x) ∷ in_group (brackets (read o) (read c)) (view_group read g)
  map_pieces x o g c is = seen x _ _ (in_group (brackets (read o) (read c)) (view_group read g)) is (view-MapOf read o g c) refl

  pub array_pieces : (x : Type2) (o : Leaf) (g : Group) (c : Leaf) → x ≡ Type2V.ArrayOf o g c → in_type2 (view_type2 read x) ≡ operand (view_type2 read x) ∷ (entries_in (brackets (read o) (read c)) 0 (view_group read g) ++ in_group (brackets (read o) (read c)) (view_group read g))
  array_pieces x o g c is = seen x _ _ (entries_in (brackets (read o) (read c)) 0 (view_group read g) ++ in_group (brackets (read o) (read c)) (view_group read g)) is (view-ArrayOf read o g c) refl

  pub unwrapped_pieces : (x : Type2) (u : Leaf) (r : Ref) → x ≡ Type2V.Unwrapped u r → in_type2 (view_type2 read x) ≡ operand (view_type2 read x) ∷ in_ref (view_ref read r)
  unwrapped_pieces x u r is = seen x _ _ (in_ref (view_ref read r)) is (view-Unwrapped read u r) refl

  pub choice_of_pieces : (x : Type2) (a o : Leaf) (g : Group) (c : Leaf) → x ≡ Type2V.ChoiceOf a o g c → in_type2 (view_type2 read x) ≡ operand (view_type2 read x) ∷ in_group (brackets (read o) (read c)) (view_group read g)
  choice_of_pieces x a o g c is = seen x _ _ (in_group (brackets (read o) (read c)) (view_group read g)) is (view-ChoiceOf read a o g c) refl

  pub choice_of_name_pieces : (x : Type2) (a : Leaf) (r : Ref) → x ≡ Type2V.ChoiceOfName a r → in_type2 (view_type2 read x) ≡ operand (view_type2 read x) ∷ in_ref (view_ref read r)
  choice_of_name_pieces x a r is = seen x _ _ (in_ref (view_ref read r)) is (view-ChoiceOfName read a r) refl

  pub tagged_pieces : (x : Type2) (o : Leaf) (t : Box Types Global) (c : Leaf) (y : Types) → x ≡ Type2V.Tagged o t c → y ≡ t.value → in_type2 (view_type2 read x) ≡ operand (view_type2 read x) ∷ in_types (view_types read y)
  tagged_pieces x o t c y is e = at_types x t y e (seen x _ _ (in_types (view_types read t.value)) is (view-Tagged read o t c) refl)

  pub tagged_by_pieces : (x : Type2) (o : Leaf) (h : Box Types Global) (a p : Leaf) (t : Box Types Global) (c : Leaf) (y z : Types) → x ≡ Type2V.TaggedBy o h a p t c → y ≡ h.value → z ≡ t.value → in_type2 (view_type2 read x) ≡ operand (view_type2 read x) ∷ (in_types (view_types read y) ++ in_types (view_types read z))
  tagged_by_pieces x o h a p t c y z is e f =
      seen x _ _ (in_types (view_types read h.value) ++ in_types (view_types read t.value)) is (view-TaggedBy read o h a p t c) refl
      ∙ ap (λ (w : Types). operand (view_type2 read x) ∷ (in_types (view_types read w) ++ in_types (view_types read t.value))) (sym e)
      ∙ ap (λ (w : Types). operand (view_type2 read x) ∷ (in_types (view_types read y) ++ in_types (view_types read w))) (sym f)

  pub simple_by_pieces : (x : Type2) (o : Leaf) (h : Box Types Global) (c : Leaf) (y : Types) → x ≡ Type2V.SimpleBy o h c → y ≡ h.value → in_type2 (view_type2 read x) ≡ operand (view_type2 read x) ∷ in_types (view_types read y)
  simple_by_pieces x o h c y is e = at_types x h y e (seen x _ _ (in_types (view_types read h.value)) is (view-SimpleBy read o h c) refl)

  pub hash_pieces : (x : Type2) (t : Leaf) → x ≡ Type2V.Hash t → in_type2 (view_type2 read x) ≡ operand (view_type2 read x) ∷ []
  hash_pieces x t is = seen x _ _ [] is (view-Hash read t) refl

  pub name_pieces : (x : Ref) (t : Leaf) → x ≡ RefV.Name t → in_ref (view_ref read x) ≡ []
  name_pieces x t is = ap (λ (z : Ref). in_ref (view_ref read z)) is ∙ ap in_ref (view-Name read t)

  pub applied_pieces : (x : Ref) (o : Leaf) (a : Box GenericArg Global) (c : Leaf) (y : GenericArg) → x ≡ RefV.Applied o a c → y ≡ a.value → in_ref (view_ref read x) ≡ in_arguments (view_arg read y)
  applied_pieces x o a c y is e =
      ap (λ (z : Ref). in_ref (view_ref read z)) is
      ∙ ap in_ref (view-Applied read o a c)
      ∙ ap (λ (z : GenericArg). in_arguments (view_arg read z)) (sym e)

  seen_entry : (b : Around) (x y : GrpEnt) (v : S.GrpEnt) → x ≡ y → view_grpent read y ≡ v → in_entry b (view_grpent read x) ≡ in_entry b v
  seen_entry b x y v is e = ap (λ (z : GrpEnt). in_entry b (view_grpent read z)) is ∙ ap (in_entry b) e

  pub typed_pieces : (b : Around) (x : GrpEnt) (o : Option Leaf) (t : Types) → x ≡ GrpEntV.Typed o t → in_entry b (view_grpent read x) ≡ a_member b (view_types read t) ∷ in_types (view_types read t)
  typed_pieces b x o t is = seen_entry b x _ _ is (view-Typed read o t)

  pub keyed_pieces : (b : Around) (x : GrpEnt) (o : Option Leaf) (k : Box MemberKey Global) (t : Types) (y z v : MemberKey) → x ≡ GrpEntV.Keyed o k t → y ≡ k.value → z ≡ k.value → v ≡ k.value → in_entry b (view_grpent read x) ≡ in_key (view_key read y) ++ (a_key b (key_piece (view_key read z)) ∷ a_value b (key_piece (view_key read v)) (view_types read t) ∷ in_types (view_types read t))
  keyed_pieces b x o k t y z v is e f g =
      seen_entry b x _ _ is (view-Keyed read o k t)
      ∙ ap (λ (w : MemberKey). in_key (view_key read w) ++ (a_key b (key_piece (view_key read k.value)) ∷ a_value b (key_piece (view_key read k.value)) (view_types read t) ∷ in_types (view_types read t))) (sym e)
      ∙ ap (λ (w : MemberKey). in_key (view_key read y) ++ (a_key b (key_piece (view_key read w)) ∷ a_value b (key_piece (view_key read k.value)) (view_types read t) ∷ in_types (view_types read t))) (sym f)
      ∙ ap (λ (w : MemberKey). in_key (view_key read y) ++ (a_key b (key_piece (view_key read z)) ∷ a_value b (key_piece (view_key read w)) (view_types read t) ∷ in_types (view_types read t))) (sym g)

  pub grouped_pieces : (b : Around) (x : GrpEnt) (o : Option Leaf) (p : Leaf) (g : Group) (c : Leaf) → x ≡ GrpEntV.Grouped o p g c → in_entry b (view_grpent read x) ≡ entries_in (brackets (read p) (read c)) 0 (view_group read g) ++ in_group b (view_group read g)
  grouped_pieces b x o p g c is = seen_entry b x _ _ is (view-Grouped read o p g c)

  seen_key : (x y : MemberKey) (v : S.MemberKey) → x ≡ y → view_key read y ≡ v → in_key (view_key read x) ≡ in_key v
  seen_key x y v is e = ap (λ (z : MemberKey). in_key (view_key read z)) is ∙ ap in_key e

  pub type_key_pieces : (x : MemberKey) (r : Type1) (u : Option Leaf) (a : Leaf) → x ≡ MemberKeyV.TypeKey r u a → in_key (view_key read x) ≡ in_type1 (view_type1 read r)
  type_key_pieces x r u a is = seen_key x _ _ is (view-TypeKey read r u a)

  pub bareword_pieces : (x : MemberKey) (n c : Leaf) → x ≡ MemberKeyV.Bareword n c → in_key (view_key read x) ≡ a_word (read n) ∷ []
  bareword_pieces x n c is = seen_key x _ _ is (view-Bareword read n c)

  pub value_key_pieces : (x : MemberKey) (v : Value) (c : Leaf) → x ≡ MemberKeyV.ValueKey v c → in_key (view_key read x) ≡ operand (S.literal (view_value read v)) ∷ []
  value_key_pieces x v c is = seen_key x _ _ is (view-ValueKey read v c)

  -- the key of an entry

  pub type_key : (x : MemberKey) (r : Type1) (u : Option Leaf) (a : Leaf) → x ≡ MemberKeyV.TypeKey r u a → a_type (S.only (view_type1 read r)) ≡ key_piece (view_key read x)
  type_key x r u a is = sym (ap (λ (z : MemberKey). key_piece (view_key read z)) is ∙ ap key_piece (view-TypeKey read r u a))

  pub bareword_key : (x : MemberKey) (n c : Leaf) → x ≡ MemberKeyV.Bareword n c → a_word (read n) ≡ key_piece (view_key read x)
  bareword_key x n c is = sym (ap (λ (z : MemberKey). key_piece (view_key read z)) is ∙ ap key_piece (view-Bareword read n c))

  pub value_key : (x : MemberKey) (v : Value) (c : Leaf) → x ≡ MemberKeyV.ValueKey v c → operand (S.literal (view_value read v)) ≡ key_piece (view_key read x)
  value_key x v c is = sym (ap (λ (z : MemberKey). key_piece (view_key read z)) is ∙ ap key_piece (view-ValueKey read v c))

  pub type_rule_pieces : (x : Rule) (n : RuleName) (a : AssignT) (t : Types) → x ≡ RuleV.TypeRule n a t → in_rule (view_rule read x) ≡ an_entry the_rule 0 0 (of_types (view_types read t)) ∷ a_member the_rule (view_types read t) ∷ in_types (view_types read t)
  type_rule_pieces x n a t is = ap (λ (z : Rule). in_rule (view_rule read z)) is

  pub group_rule_pieces : (x : Rule) (n : RuleName) (a : AssignG) (e : GrpEnt) → x ≡ RuleV.GroupRule n a e → in_rule (view_rule read x) ≡ own_entries (view_grpent read e) ++ in_entry the_rule (view_grpent read e)
  group_rule_pieces x n a e is = ap (λ (z : Rule). in_rule (view_rule read z)) is

  -- the entries of the body of a rule

  seen_own : (x y : GrpEnt) (v : S.GrpEnt) → x ≡ y → view_grpent read y ≡ v → own_entries (view_grpent read x) ≡ own_entries v
  seen_own x y v is e = ap (λ (z : GrpEnt). own_entries (view_grpent read z)) is ∙ ap own_entries e

  pub typed_body : (x : GrpEnt) (o : Option Leaf) (t : Types) → x ≡ GrpEntV.Typed o t → own_entries (view_grpent read x) ≡ an_entry the_rule 0 0 (of_types (view_types read t)) ∷ []
  typed_body x o t is = seen_own x _ _ is (view-Typed read o t)

  pub keyed_body : (x : GrpEnt) (o : Option Leaf) (k : Box MemberKey Global) (t : Types) → x ≡ GrpEntV.Keyed o k t → own_entries (view_grpent read x) ≡ an_entry the_rule 0 0 (of_types (view_types read t)) ∷ []
  keyed_body x o k t is = seen_own x _ _ is (view-Keyed read o k t)

  pub grouped_body : (x : GrpEnt) (o : Option Leaf) (l p : Leaf) (g : Group) (c : Leaf) → x ≡ GrpEntV.Grouped o p g c → o ≡ Some l → own_entries (view_grpent read x) ≡ an_entry the_rule 0 0 (of_group (read p) (view_group read g) (read c)) ∷ []
  grouped_body x o l p g c is e = seen_own x _ _ is (view-Grouped read o p g c) ∙ ap (λ (z : Option Leaf). own_entries (S.grouped (leaf read z) (read p) (view_group read g) (read c))) e

  pub group_body : (x : GrpEnt) (o : Option Leaf) (p : Leaf) (g : Group) (c : Leaf) → x ≡ GrpEntV.Grouped o p g c → o ≡ None → own_entries (view_grpent read x) ≡ entries_in the_rule 0 (view_group read g)
  group_body x o p g c is e = seen_own x _ _ is (view-Grouped read o p g c) ∙ ap (λ (z : Option Leaf). own_entries (S.grouped (leaf read z) (read p) (view_group read g) (read c))) e

  -- how many alternatives that body makes

  seen_count : (x y : GrpEnt) (v : S.GrpEnt) → x ≡ y → view_grpent read y ≡ v → own_count (view_grpent read x) ≡ own_count v
  seen_count x y v is e = ap (λ (z : GrpEnt). own_count (view_grpent read z)) is ∙ ap own_count e

  pub typed_count : (x : GrpEnt) (o : Option Leaf) (t : Types) → x ≡ GrpEntV.Typed o t → own_count (view_grpent read x) ≡ 1
  typed_count x o t is = seen_count x _ _ is (view-Typed read o t)

  pub keyed_count : (x : GrpEnt) (o : Option Leaf) (k : Box MemberKey Global) (t : Types) → x ≡ GrpEntV.Keyed o k t → own_count (view_grpent read x) ≡ 1
  keyed_count x o k t is = seen_count x _ _ is (view-Keyed read o k t)

  pub grouped_count : (x : GrpEnt) (o : Option Leaf) (l p : Leaf) (g : Group) (c : Leaf) → x ≡ GrpEntV.Grouped o p g c → o ≡ Some l → own_count (view_grpent read x) ≡ 1
  grouped_count x o l p g c is e = seen_count x _ _ is (view-Grouped read o p g c) ∙ ap (λ (z : Option Leaf). own_count (S.grouped (leaf read z) (read p) (view_group read g) (read c))) e

  pub group_count : (x : GrpEnt) (o : Option Leaf) (p : Leaf) (g : Group) (c : Leaf) → x ≡ GrpEntV.Grouped o p g c → o ≡ None → own_count (view_grpent read x) ≡ count_of (view_group read g)
  group_count x o p g c is e = seen_count x _ _ is (view-Grouped read o p g c) ∙ ap (λ (z : Option Leaf). own_count (S.grouped (leaf read z) (read p) (view_group read g) (read c))) e

-- the name that a type is alone
module _ (read : Leaf → Token) where
  no_name : (t : S.Types) (s : Token) (r : S.Type1) (xs : List Further) → name_of_types (with_types (S.or t s r) (map (view_further read) xs)) ≡ None
  no_name t s r [] = refl
  no_name t s r (x ∷ xs) = no_name (S.or t s r) (view_further read x).0 (view_further read x).1 xs

  named_with : (t : Types) (xs : List Further) → (out-Types t).others.items ≡ xs → name_of_types (view_types read t) ≡ name_of_types (with_types (S.only (view_type1 read (out-Types t).first)) (map (view_further read) xs))
  named_with t xs e = ap name_of_types (view_out-Types read t) ∙ ap (λ (ys : List Further). name_of_types (with_types (S.only (view_type1 read (out-Types t).first)) (map (view_further read) ys))) e

  pub one_name : (t : Types) → (out-Types t).others.items ≡ [] → name_of_type1 (view_type1 read (out-Types t).first) ≡ name_of_types (view_types read t)
  one_name t e = sym (named_with t [] e)

  pub several_names : (t : Types) (x : Further) → slice_get (out-Types t).others.items (length (out-Types t).others.items - 1) ≡ Some x → None ≡ name_of_types (view_types read t)
  several_names t x h = by (out-Types t).others.items refl h
    where
      by : (xs : List Further) → (out-Types t).others.items ≡ xs → slice_get xs (length xs - 1) ≡ Some x → None ≡ name_of_types (view_types read t)
      by [] e f = cc
      by (y ∷ ys) e f = sym (named_with t (y ∷ ys) e ∙ no_name (S.only (view_type1 read (out-Types t).first)) (view_further read y).0 (view_further read y).1 ys)

-- a type without the parentheses round all of it

pub inner_is : {A : Type 0} (f : A → S.Types) (x : S.Types) (o : Option A) (y : A) → o ≡ Some y → f y ≡ inner_or x (option_map f o)
inner_is {A = A} f x o y e = sym (ap (λ (z : Option A). inner_or x (option_map f z)) e)

pub no_inner : {A : Type 0} (f : A → S.Types) (x : S.Types) (o : Option A) → o ≡ None → x ≡ inner_or x (option_map f o)
no_inner {A = A} f x o e = sym (ap (λ (z : Option A). inner_or x (option_map f z)) e)

module _ (read : Leaf → Token) where
  several_bare : (t : S.Types) (s : Token) (r : S.Type1) (xs : List Further) → bare_types (with_types (S.or t s r) (map (view_further read) xs)) ≡ with_types (S.or t s r) (map (view_further read) xs)
  several_bare t s r [] = refl
  several_bare t s r (x ∷ xs) = several_bare (S.or t s r) (view_further read x).0 (view_further read x).1 xs

  types_with : (t : Types) (xs : List Further) → (out-Types t).others.items ≡ xs → view_types read t ≡ with_types (S.only (view_type1 read (out-Types t).first)) (map (view_further read) xs)
  types_with t xs e = view_out-Types read t ∙ ap (λ (ys : List Further). with_types (S.only (view_type1 read (out-Types t).first)) (map (view_further read) ys)) e

  pub one_bare : (t : Types) → (out-Types t).others.items ≡ [] → bare_type1 (view_type1 read (out-Types t).first) ≡ bare_types (view_types read t)
  one_bare t e = sym (ap bare_types (types_with t [] e))

  pub one_whole : (t : Types) → (out-Types t).others.items ≡ [] → view_types read t ≡ S.only (view_type1 read (out-Types t).first)
  one_whole t e = types_with t [] e

  pub all_bare : (t : Types) (x : Further) → slice_get (out-Types t).others.items (length (out-Types t).others.items - 1) ≡ Some x → view_types read t ≡ bare_types (view_types read t)
  all_bare t x h = by (out-Types t).others.items refl h
    where
      by : (xs : List Further) → (out-Types t).others.items ≡ xs → slice_get xs (length xs - 1) ≡ Some x → view_types read t ≡ bare_types (view_types read t)
      by [] e f = cc
      by (y ∷ ys) e f =
          let same = types_with t (y ∷ ys) e in
          same ∙ sym (several_bare (S.only (view_type1 read (out-Types t).first)) (view_further read y).0 (view_further read y).1 ys) ∙ ap bare_types (sym same)
