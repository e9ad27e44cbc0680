-- The argument that takes the place of a row is found by the numbers of texts.
use Rattle.std.proofs.Common.{◌≡◌, ℕ, suc, List, [], ◌∷◌, Option, Some, None, Bool, true, false, nat_eq, refl, sym, ap, subst, ◌∙◌, eqb-true}
use Rattle.std.specs.Prelude.{slice_get, option_map, if◌then◌else◌}
use Rattle.std.specs.Cmp.Lexicographic.{same_text}
use Rattle.std.proofs.lemmas.Cmp.{nat_eq_equiv, nat_list_eq_equiv}
use Rattle.std.proofs.lemmas.Option.{same_Some}
use Rattle.cddl_language.specs.Environment.{is_same}
use Rattle.cddl_language.specs.Terms.{Text}
use Rattle.check_terms.specs.declared.row.Form.{Form}
use Rattle.check_terms.specs.declared.row.Form.TheVariants as F
use Rattle.check_terms.specs.declared.row.Row.{Row}
use Rattle.check_terms.specs.Definitions.{AreTexts, no_texts, further_text}
use Rattle.check_terms.specs.Filled.{parameter, replaced, tree_argument}
use Rattle.check_terms.specs.Table.{AreDistinct, Table, Tree, nothing, node, Holds, no_part, part, HoldsText, no_text, some_text}
use Rattle.check_terms.specs.Fill.Making.{AreSlots, place_in, look_up, name_by, lone_name, name_in, slot_by, slot_of}
use Rattle.check_terms.specs.Fill.Templates.{at_place}

-- Texts of a table are the same exactly where their numbers are.

same_test : (texts : List Text) → AreDistinct texts → (k n : ℕ) (p x : Text) → slice_get texts k ≡ Some p → slice_get texts n ≡ Some x → is_same p x ≡ nat_eq k n
same_test texts distinct k n p x e h = by (nat_eq k n) refl (is_same p x) refl
  where
    by : (b : Bool) → nat_eq k n ≡ b → (c : Bool) → is_same p x ≡ c → c ≡ b
    by true f true g = refl
    by false f false g = refl
    by true f false g =
        let number = eqb-true k n f in
        let text : p ≡ x = same_Some p x (sym e ∙ ap (slice_get texts) number ∙ h) in
        sym g ∙ subst (λ (y : Text). is_same p y ≡ true) text (nat_list_eq_equiv.refl p)
    by false f true g =
        let text = same_text p x (sym g) in
        let number = distinct k n x (e ∙ ap Some text) h in
        sym (subst (λ m. nat_eq k m ≡ true) number (nat_eq_equiv.refl k)) ∙ f

no_argument : (o : Option ℕ) → None ≡ at_place {A = Tree} [] o
no_argument None = refl
no_argument (Some i) = refl

one_on : (y : Tree) (ys : List Tree) (o : Option ℕ) → at_place ys o ≡ at_place (y ∷ ys) (option_map suc o)
one_on y ys None = refl
one_on y ys (Some i) = refl

pub slots_are : (texts : List Text) → AreDistinct texts → (ks : List ℕ) (ps : List Text) → AreTexts texts ks ps → (n : ℕ) (x : Text) → slice_get texts n ≡ Some x → (ys : List Tree) → tree_argument ps ys x ≡ at_place ys (place_in ks n)
slots_are texts distinct [] [] no_texts n x e ys = refl
slots_are texts distinct [] (p ∷ ps) h n x e ys = elim h [ ]
slots_are texts distinct (k ∷ ks) [] h n x e ys = elim h [ ]
slots_are texts distinct (k ∷ ks) (p ∷ ps) (further_text f h) n x e [] = no_argument (if nat_eq k n then Some 0 else option_map suc (place_in ks n))
slots_are texts distinct (k ∷ ks) (p ∷ ps) (further_text f h) n x e (y ∷ ys) = subst (λ b. (if b then Some y else tree_argument ps ys x) ≡ at_place (y ∷ ys) (if nat_eq k n then Some 0 else option_map suc (place_in ks n))) (sym (same_test texts distinct k n p x f e)) (by (nat_eq k n) (slots_are texts distinct ks ps h n x e ys))
  where
    by : (b : Bool) → tree_argument ps ys x ≡ at_place ys (place_in ks n) → (if b then Some y else tree_argument ps ys x) ≡ at_place (y ∷ ys) (if b then Some 0 else option_map suc (place_in ks n))
    by true r = refl
    by false r = r ∙ one_on y ys (place_in ks n)

module _ (t : Table) (ps : List Text) (slots : ℕ → Option ℕ) (right : AreSlots t ps slots) (ys : List Tree) where
  called : (g : Form) (m : Option ℕ) (w v : Option Text) (a b c : Tree) → HoldsText t.texts m w → parameter ps ys (node F.Call w (node g v a b) c) ≡ at_place ys (look_up slots (name_by F.Call g m))
  called F.NoTerms m w v a b c no_text = refl
  called F.NoTerms m w v a b c (some_text {n = n} {x = x} e) = right n x e ys
  called g m w v a b c no_text = refl
  called g m w v a b c (some_text e) = refl

  by_name : (f g : Form) (m : Option ℕ) (w v : Option Text) (a b c : Tree) → HoldsText t.texts m w → parameter ps ys (node f w (node g v a b) c) ≡ at_place ys (look_up slots (name_by f g m))
  by_name F.Call g m w v a b c h = called g m w v a b c h
  by_name f g m w v a b c h = refl

  alone : (f : Form) (w : Option Text) (c : Tree) → parameter ps ys (node f w nothing c) ≡ None
  alone F.Call None c = refl
  alone F.Call (Some x) c = refl
  alone f w c = refl

  name_right : (o : Option ℕ) (a : Tree) → Holds t o a → parameter ps ys a ≡ at_place ys (look_up slots (name_in t.rows (at_place t.rows o)))
  name_right o a no_part = refl
  name_right o a (part {f = f} {m = m} {i = i} {j = j} {x = w} {a = u} {b = c} e d first second) = subst (λ (q : Option Row). parameter ps ys (node f w u c) ≡ at_place ys (look_up slots (name_in t.rows q))) (sym e) (inner i u first)
    where
      inner : (k : Option ℕ) (z : Tree) → Holds t k z → parameter ps ys (node f w z c) ≡ at_place ys (look_up slots (lone_name (record { form = f; text = m; first = i; second = j }) (at_place t.rows k)))
      inner k z no_part = alone f w c
      inner k z (part {f = g} {x = v} {a = a} {b = b} h d2 p q) = subst (λ (r : Option Row). parameter ps ys (node f w (node g v a b) c) ≡ at_place ys (look_up slots (lone_name (record { form = f; text = m; first = i; second = j }) r))) (sym h) (by_name f g m w v a b c d)

  by_form : (f : Form) (a : Tree) (o : Option ℕ) → parameter ps ys a ≡ at_place ys o → replaced ps ys f a ≡ at_place ys (slot_by f o)
  by_form F.Named a o e = e
  by_form F.Unwrapped a o e = e
  by_form f a o e = refl

  pub slot_right : (r : Row) (f : Form) (a : Tree) → r.form ≡ f → Holds t r.first a → replaced ps ys f a ≡ at_place ys (slot_of t.rows slots r)
  slot_right r f a e h = subst (λ (g : Form). replaced ps ys g a ≡ at_place ys (slot_of t.rows slots r)) e (by_form r.form a (look_up slots (name_in t.rows (at_place t.rows r.first))) (name_right r.first a h))
