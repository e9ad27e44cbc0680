-- What an entry without a key names or opens.
use Rattle.std.proofs.Common.{◌≡◌, Bool, true, false, if◌then◌else◌, List, Option, Some, None, refl, sym, ap, subst, ◌∙◌}
use Rattle.cddl_language.specs.Terms.{Term, named, unwrapped, Ref, Group, Definition, name_of, stripped}
use Rattle.cddl_language.specs.Kinds.{Opened, opens_group, opens_type, opened, is_group, asks_type, names_group, opens, opened_part, part_of, stripped_part}

module _ (ds : List Definition) where
  named_so : (f q : Ref) (b : Bool) → is_group ds (name_of f) ≡ b → (if b then names_group f else asks_type) ≡ names_group q → is_group ds (name_of q) ≡ true
  named_so f q true i e = subst (λ (r : Ref). is_group ds (name_of r) ≡ true) same i
    where
      same : f ≡ q
      same = cc
  named_so f q false i e = cc

  no_name : (f q : Ref) (o : Option Opened) → opened_part f o ≡ names_group q → ⊥
  no_name f q None e = cc
  no_name f q (Some (opens_group g)) e = cc
  no_name f q (Some (opens_type t)) e = cc

  stripped_name : (x : Term) (q : Ref) → stripped_part ds x ≡ names_group q → is_group ds (name_of q) ≡ true
  stripped_name (named f) q e = named_so f q (is_group ds (name_of f)) refl e
  stripped_name (unwrapped f) q e = absurd (no_name f q (opened ds f) e)
  stripped_name _ q e = cc

  pub named_group : (x : Term) (q : Ref) → part_of ds x ≡ names_group q → is_group ds (name_of q) ≡ true
  named_group x q e = stripped_name (stripped x) q e

  no_opening : (f q : Ref) (g : Group) (b : Bool) → (if b then names_group f else asks_type) ≡ opens q g → ⊥
  no_opening f q g true e = cc
  no_opening f q g false e = cc

  opened_so : (f q : Ref) (g : Group) (o : Option Opened) → opened ds f ≡ o → opened_part f o ≡ opens q g → opened ds q ≡ Some (opens_group g)
  opened_so f q g None i e = cc
  opened_so f q g (Some (opens_type t)) i e = cc
  opened_so f q g (Some (opens_group h)) i e = ap (opened ds) (sym name) ∙ i ∙ ap (λ (x : Group). Some (opens_group x)) group
    where
      name : f ≡ q
      name = cc

      group : h ≡ g
      group = cc

  stripped_opening : (x : Term) (q : Ref) (g : Group) → stripped_part ds x ≡ opens q g → opened ds q ≡ Some (opens_group g)
  stripped_opening (named f) q g e = absurd (no_opening f q g (is_group ds (name_of f)) e)
  stripped_opening (unwrapped f) q g e = opened_so f q g (opened ds f) refl e
  stripped_opening _ q g e = cc

  pub opened_group : (x : Term) (q : Ref) (g : Group) → part_of ds x ≡ opens q g → opened ds q ≡ Some (opens_group g)
  opened_group x q g e = stripped_opening (stripped x) q g e
