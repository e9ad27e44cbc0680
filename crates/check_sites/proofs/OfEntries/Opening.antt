-- The group of the map or the array that a node is.
use Rattle.std.proofs.Common.{◌≡◌, ℕ, ◌==◌, Bool, true, false, List, [], ◌∷◌, length, map, arith, None, refl, sym, ap, ◌∙◌}
use Rattle.std.specs.Global.{Vec}
use Rattle.std.proofs.lemmas.Bool.Decides.{nat_tests}
use Rattle.cddl_token.specs.declared.Token.{Token}
use Rattle.tree_nodes.specs.Syntax.Syntax as S
use Rattle.tree_nodes.specs.declared.tree.Further.{Further}
use Rattle.tree_nodes.specs.declared.tree.Leaf.{Leaf}
use Rattle.tree_nodes.specs.declared.tree.Types.{Types}
use Rattle.tree_nodes.specs.declared.tree.Type1.{Type1}
use Rattle.tree_nodes.specs.declared.tree.Type2.{Type2}
use Rattle.tree_nodes.specs.declared.tree.GrpEnt.TheViews.{out-Types}
use Rattle.tree_nodes.specs.View.{view_further, view_type1, view_type2, view_types, with_types}
use Rattle.tree_nodes.proofs.Lemmas.{view_out-Types}
use Rattle.check_sites.specs.Entries.Entries.{bare_operand, bare_type1, bare_types}

nothing : {A : Type 0} (xs : List A) → length xs ≡ 0 → xs ≡ []
nothing [] h = refl
nothing (x ∷ xs) h = absurd (omega (arith, h))

pub full : {A : Type 0} (v : Vec A) (r : Bool) → r ≡ (v.len == 0) → r ≡ false → v.items ≡ [] → ⊥
full v r e f g = some (v.ok.0 ∙ ap length g)
  where
    some : v.len ≡ 0 → ⊥
    some h = let g : (v.len == 0) ≡ true = rw h refl in cc

pub empty : {A : Type 0} (v : Vec A) (r : Bool) → r ≡ (v.len == 0) → r ≡ true → v.items ≡ []
empty v r e f = nothing v.items (sym v.ok.0 ∙ zero v.len (sym e ∙ f))
  where
    zero : (n : ℕ) → (n == 0) ≡ true → n ≡ 0
    zero n h = grind (arith, nat_tests)

module _ (read : Leaf → Token) where
  pub one_bare : (t : Types) → (out-Types t).others.items ≡ [] → bare_types (view_types read t) ≡ bare_type1 (view_type1 read (out-Types t).first)
  one_bare t none = ap bare_types (view_out-Types read t) ∙ ap (λ (fs : List Further). bare_types (with_types (S.only (view_type1 read (out-Types t).first)) (map (view_further read) fs))) none

  of_choice : (t : S.Types) (s : Token) (x : S.Type1) (xs : List (Token × S.Type1)) → bare_types (with_types (S.or t s x) xs) ≡ None
  of_choice t s x [] = refl
  of_choice t s x (y ∷ ys) = of_choice (S.or t s x) y.0 y.1 ys

  pub several_bare : (t : Types) → ((out-Types t).others.items ≡ [] → ⊥) → bare_types (view_types read t) ≡ None
  several_bare t some = ap bare_types (view_out-Types read t) ∙ by (out-Types t).others.items some
    where
      by : (fs : List Further) → (fs ≡ [] → ⊥) → bare_types (with_types (S.only (view_type1 read (out-Types t).first)) (map (view_further read) fs)) ≡ None
      by [] h = absurd (h refl)
      by (f ∷ fs) h = of_choice (S.only (view_type1 read (out-Types t).first)) (view_further read f).0 (view_further read f).1 (map (view_further read) fs)

  pub seen1 : (x y : Type1) (v : S.Type1) → x ≡ y → view_type1 read y ≡ v → bare_type1 (view_type1 read x) ≡ bare_type1 v
  seen1 x y v is e = ap (λ z. bare_type1 (view_type1 read z)) is ∙ ap bare_type1 e

  pub seen2 : (x y : Type2) (v : S.Type2) → x ≡ y → view_type2 read y ≡ v → bare_operand (view_type2 read x) ≡ bare_operand v
  seen2 x y v is e = ap (λ z. bare_operand (view_type2 read z)) is ∙ ap bare_operand e
