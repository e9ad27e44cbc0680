-- What the type of an entry names or opens.
use Rattle.std.proofs.Common.{◌≡◌, Bool, true, false, if◌then◌else◌, List, Option, Some, None, refl, sym, ap, subst, ◌∙◌}
use Rattle.cddl_language.specs.Terms.{Term, literal, named, parens, map_of, array_of, unwrapped, choice_of, choice_of_name, tagged, tagged_by, simple_by, hash, range, control, or, Ref, Group, Definition, stripped, name_of}
use Rattle.cddl_language.specs.Kinds.{Opened, opens_group, opens_type, opened, is_group, asks_type, names_group, opens, opened_part, stripped_part, part_of}

asks_no_opening : (q : Ref) (g : Group) → asks_type ≡ opens q g → ⊥
asks_no_opening q g e = cc

names_no_opening : (b : Bool) (f q : Ref) (g : Group) → (if b then names_group f else asks_type) ≡ opens q g → ⊥
names_no_opening true f q g e = cc
names_no_opening false f q g e = cc

same_opening : (o : Option Opened) (f q : Ref) (g : Group) → opened_part f o ≡ opens q g → (f ≡ q) × (o ≡ Some (opens_group g))
same_opening None f q g e = absurd (asks_no_opening q g e)
same_opening (Some (opens_type x)) f q g e = absurd (asks_no_opening q g e)
same_opening (Some (opens_group p)) f q g e = (name, group)
  where
    name : f ≡ q
    name = cc

    same : p ≡ g
    same = cc

    group : Some (opens_group p) ≡ Some (opens_group g)
    group = ap (λ (x : Group). Some (opens_group x)) same

asks_no_name : (q : Ref) → asks_type ≡ names_group q → ⊥
asks_no_name q e = cc

same_name : (ds : List Definition) (f q : Ref) (b : Bool) → is_group ds (name_of f) ≡ b → (if b then names_group f else asks_type) ≡ names_group q → is_group ds (name_of q) ≡ true
same_name ds f q false k e = absurd (asks_no_name q e)
same_name ds f q true k e = subst (λ (x : Ref). is_group ds (name_of x) ≡ true) same k
  where
    same : f ≡ q
    same = cc

opens_no_name : (o : Option Opened) (f q : Ref) → opened_part f o ≡ names_group q → ⊥
opens_no_name None f q e = asks_no_name q e
opens_no_name (Some (opens_type x)) f q e = asks_no_name q e
opens_no_name (Some (opens_group p)) f q e = cc

module _ (ds : List Definition) where
  stripped_opening : (x : Term) (q : Ref) (g : Group) → stripped_part ds x ≡ opens q g → opened ds q ≡ Some (opens_group g)
  stripped_opening (named f) q g e = absurd (names_no_opening (is_group ds (name_of f)) f q g e)
  stripped_opening (unwrapped f) q g e = let h = same_opening (opened ds f) f q g e in ap (opened ds) (sym h.0) ∙ h.1
  stripped_opening (literal v) q g e = absurd (asks_no_opening q g e)
  stripped_opening (parens x) q g e = absurd (asks_no_opening q g e)
  stripped_opening (map_of p) q g e = absurd (asks_no_opening q g e)
  stripped_opening (array_of p) q g e = absurd (asks_no_opening q g e)
  stripped_opening (choice_of p) q g e = absurd (asks_no_opening q g e)
  stripped_opening (choice_of_name f) q g e = absurd (asks_no_opening q g e)
  stripped_opening (tagged a x) q g e = absurd (asks_no_opening q g e)
  stripped_opening (tagged_by a x) q g e = absurd (asks_no_opening q g e)
  stripped_opening (simple_by x) q g e = absurd (asks_no_opening q g e)
  stripped_opening (hash a) q g e = absurd (asks_no_opening q g e)
  stripped_opening (range a b x) q g e = absurd (asks_no_opening q g e)
  stripped_opening (control a b x) q g e = absurd (asks_no_opening q g e)
  stripped_opening (or a x) q g e = absurd (asks_no_opening q g e)

  pub opened_group : (x : Term) (q : Ref) (g : Group) → part_of ds x ≡ opens q g → opened ds q ≡ Some (opens_group g)
  opened_group x q g e = stripped_opening (stripped x) q g e

  stripped_name : (x : Term) (q : Ref) → stripped_part ds x ≡ names_group q → is_group ds (name_of q) ≡ true
  stripped_name (named f) q e = same_name ds f q (is_group ds (name_of f)) refl e
  stripped_name (unwrapped f) q e = absurd (opens_no_name (opened ds f) f q e)
  stripped_name (literal v) q e = absurd (asks_no_name q e)
  stripped_name (parens x) q e = absurd (asks_no_name q e)
  stripped_name (map_of p) q e = absurd (asks_no_name q e)
  stripped_name (array_of p) q e = absurd (asks_no_name q e)
  stripped_name (choice_of p) q e = absurd (asks_no_name q e)
  stripped_name (choice_of_name f) q e = absurd (asks_no_name q e)
  stripped_name (tagged a x) q e = absurd (asks_no_name q e)
  stripped_name (tagged_by a x) q e = absurd (asks_no_name q e)
  stripped_name (simple_by x) q e = absurd (asks_no_name q e)
  stripped_name (hash a) q e = absurd (asks_no_name q e)
  stripped_name (range a b x) q e = absurd (asks_no_name q e)
  stripped_name (control a b x) q e = absurd (asks_no_name q e)
  stripped_name (or a x) q e = absurd (asks_no_name q e)

  pub named_group : (x : Term) (q : Ref) → part_of ds x ≡ names_group q → is_group ds (name_of q) ≡ true
  named_group x q e = stripped_name (stripped x) q e
