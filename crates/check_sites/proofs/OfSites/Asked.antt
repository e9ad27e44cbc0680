-- What is asked of the parts of a site.
use Rattle.std.proofs.Common.{◌≡◌, ◌≢◌, ℕ, zero, suc, ◌+◌, ◌-◌, List, [], ◌∷◌, ◌++◌, length, map, Option, Some, None, option_map, slice_get, Box, Global, refl, sym, ap, ◌∙◌, arith, append_assoc, length-append}
use Rattle.std.proofs.lemmas.List.{append-nil}
use Rattle.std.proofs.lemmas.Option.{slice_get-map}
use Rattle.cddl_token.specs.declared.Token.{Token}
use Rattle.tree_nodes.specs.Syntax.Syntax as S
use Rattle.tree_nodes.specs.declared.tree.Leaf.{Leaf}
use Rattle.tree_nodes.specs.declared.tree.Further.{Further}
use Rattle.tree_nodes.specs.declared.tree.GenericArg.{GenericArg}
use Rattle.tree_nodes.specs.declared.tree.Group.{Group}
use Rattle.tree_nodes.specs.declared.tree.GrpEnt.{GrpEnt}
use Rattle.tree_nodes.specs.declared.tree.MemberKey.{MemberKey}
use Rattle.tree_nodes.specs.declared.tree.Ref.{Ref}
use Rattle.tree_nodes.specs.declared.tree.Types.{Types}
use Rattle.tree_nodes.specs.declared.tree.GrpEnt.TheViews.{out-GenericArg}
use Rattle.tree_nodes.specs.declared.tree.GrpEnt.TheVariants as GrpEntV
use Rattle.tree_nodes.specs.declared.tree.Ref.TheVariants as RefV
use Rattle.tree_nodes.specs.View.{leaf, view_arg, view_further, view_grpent, view_ref, view_type1, with_arguments}
use Rattle.tree_nodes.proofs.Lemmas.{view-Name, view-Applied, view-Typed, view-Keyed, view-Grouped, view_out-GenericArg, view-Further}
use Rattle.cddl_language.specs.Faults.{occur_token}
use Rattle.cddl_language.specs.Sites.{argument_list, arguments, ref_token}

module _ (read : Leaf → Token) where
  seen_ref : (x y : Ref) (v : S.Ref) → x ≡ y → view_ref read y ≡ v → view_ref read x ≡ v
  seen_ref x y v is e = ap (view_ref read) is ∙ e

  pub token_of_name : (x : Ref) (t : Leaf) → x ≡ RefV.Name t → read t ≡ ref_token (view_ref read x)
  token_of_name x t is = sym (ap ref_token (seen_ref x _ _ is (view-Name read t)))

  pub token_of_applied : (x : Ref) (o : Leaf) (a : Box GenericArg Global) (c : Leaf) → x ≡ RefV.Applied o a c → read o ≡ ref_token (view_ref read x)
  token_of_applied x o a c is = sym (ap ref_token (seen_ref x _ _ is (view-Applied read o a c)))

  pub count_of_name : (x : Ref) (t : Leaf) → x ≡ RefV.Name t → 0 ≡ length (arguments (view_ref read x))
  count_of_name x t is = sym (ap (λ (r : S.Ref). length (arguments r)) (seen_ref x _ _ is (view-Name read t)))

  counted_with : (a : S.GenericArg) (xs : List Further) → length (argument_list (with_arguments a (map (view_further read) xs))) ≡ length (argument_list a) + length xs
  counted_with a [] = omega arith
  counted_with a (x ∷ xs) =
      let next = counted_with (S.arguments a (view_further read x).0 (view_further read x).1) xs in
      let more = length-append (argument_list a) ((view_further read x).1 ∷ []) in
      omega (arith, next, more)

  pub count_of_applied : (x : Ref) (o : Leaf) (a : Box GenericArg Global) (c : Leaf) (n : ℕ) → x ≡ RefV.Applied o a c → n ≡ length (out-GenericArg a.value).others.items → n + 1 ≡ length (arguments (view_ref read x))
  count_of_applied x o a c n is e =
      let all = ap (λ (r : S.Ref). length (arguments r)) (seen_ref x _ _ is (view-Applied read o a c)) in
      let list = ap (λ (r : S.GenericArg). length (argument_list r)) (view_out-GenericArg read a.value) in
      let count = counted_with (S.argument (view_type1 read (out-GenericArg a.value).first)) (out-GenericArg a.value).others.items in
      omega (arith, all, list, count, e)

  seen_entry : (x y : GrpEnt) (v : S.GrpEnt) → x ≡ y → view_grpent read y ≡ v → occur_token v ≡ occur_token (view_grpent read x)
  seen_entry x y v is e = sym (ap (λ (z : GrpEnt). occur_token (view_grpent read z)) is ∙ ap occur_token e)

  pub occur_of_typed : (x : GrpEnt) (o : Option Leaf) (t : Types) → x ≡ GrpEntV.Typed o t → leaf read o ≡ occur_token (view_grpent read x)
  occur_of_typed x o t is = seen_entry x _ _ is (view-Typed read o t)

  pub occur_of_keyed : (x : GrpEnt) (o : Option Leaf) (k : Box MemberKey Global) (t : Types) → x ≡ GrpEntV.Keyed o k t → leaf read o ≡ occur_token (view_grpent read x)
  occur_of_keyed x o k t is = seen_entry x _ _ is (view-Keyed read o k t)

  pub occur_of_grouped : (x : GrpEnt) (o : Option Leaf) (p : Leaf) (g : Group) (c : Leaf) → x ≡ GrpEntV.Grouped o p g c → leaf read o ≡ occur_token (view_grpent read x)
  occur_of_grouped x o p g c is = seen_entry x _ _ is (view-Grouped read o p g c)

-- the argument at a place
module _ (read : Leaf → Token) where
  read_arguments : (a : S.GenericArg) (xs : List Further) → argument_list (with_arguments a (map (view_further read) xs)) ≡ argument_list a ++ map (λ (x : Further). view_type1 read x.type1) xs
  read_arguments a [] = sym (append-nil (argument_list a))
  read_arguments a (x ∷ xs) =
      read_arguments (S.arguments a (view_further read x).0 (view_further read x).1) xs
      ∙ append_assoc (argument_list a) ((view_further read x).1 ∷ []) (map (λ (y : Further). view_type1 read y.type1) xs)
      ∙ ap (λ (y : Token × S.Type1). argument_list a ++ y.1 ∷ map (λ (z : Further). view_type1 read z.type1) xs) (view-Further read x.sign x.type1)

  all_arguments : (a : GenericArg) → argument_list (view_arg read a) ≡ view_type1 read (out-GenericArg a).first ∷ map (λ (x : Further). view_type1 read x.type1) (out-GenericArg a).others.items
  all_arguments a = ap argument_list (view_out-GenericArg read a) ∙ read_arguments (S.argument (view_type1 read (out-GenericArg a).first)) (out-GenericArg a).others.items

  pub first_argument : (a : GenericArg) (k : ℕ) → k ≡ 0 → Some (view_type1 read (out-GenericArg a).first) ≡ slice_get (argument_list (view_arg read a)) k
  first_argument a k e = sym (ap (λ (xs : List S.Type1). slice_get xs k) (all_arguments a) ∙ ap (slice_get (view_type1 read (out-GenericArg a).first ∷ map (λ (x : Further). view_type1 read x.type1) (out-GenericArg a).others.items)) e)

  later_argument : (a : GenericArg) (k : ℕ) → slice_get (argument_list (view_arg read a)) (suc k) ≡ option_map (λ (x : Further). view_type1 read x.type1) (slice_get (out-GenericArg a).others.items k)
  later_argument a k = ap (λ (xs : List S.Type1). slice_get xs (suc k)) (all_arguments a) ∙ slice_get-map (λ (x : Further). view_type1 read x.type1) (out-GenericArg a).others.items k

  pub further_argument : (a : GenericArg) (k : ℕ) (o : Option Further) → k ≢ 0 → o ≡ slice_get (out-GenericArg a).others.items (k - 1) → option_map (λ (x : Further). view_type1 read x.type1) o ≡ slice_get (argument_list (view_arg read a)) k
  further_argument a zero o e f = absurd (e refl)
  further_argument a (suc k) o e f = ap (option_map (λ (x : Further). view_type1 read x.type1)) (f ∙ ap (slice_get (out-GenericArg a).others.items) (before k)) ∙ sym (later_argument a k)
    where
      before : (n : ℕ) → suc n - 1 ≡ n
      before n = omega arith

  pub argument_of_name : (x : Ref) (t : Leaf) (k : ℕ) → x ≡ RefV.Name t → None ≡ slice_get (arguments (view_ref read x)) k
  argument_of_name x t k is = sym (ap (λ (r : S.Ref). slice_get (arguments r) k) (seen_ref read x _ _ is (view-Name read t)))

  pub argument_of_applied : (x : Ref) (o : Leaf) (a : Box GenericArg Global) (c : Leaf) (y : GenericArg) (k : ℕ) (v : Option S.Type1) → x ≡ RefV.Applied o a c → y ≡ a.value → v ≡ slice_get (argument_list (view_arg read y)) k → v ≡ slice_get (arguments (view_ref read x)) k
  argument_of_applied x o a c y k v is e f = f ∙ ap (λ (z : GenericArg). slice_get (argument_list (view_arg read z)) k) e ∙ sym (ap (λ (r : S.Ref). slice_get (arguments r) k) (seen_ref read x _ _ is (view-Applied read o a c)))
