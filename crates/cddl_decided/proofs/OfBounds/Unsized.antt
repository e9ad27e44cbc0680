-- What opens a group has no sizes as a type.
use Rattle.std.proofs.Common.{◌≡◌, ℕ, zero, suc, Bool, true, false, if◌then◌else◌, ◌||◌, List, [], ◌∷◌, ◌++◌, map, Option, Some, None, is_some, refl, sym, ap, subst, ◌∙◌}
use Rattle.lists.proofs.Lemmas.{no_some, none_more}
use Rattle.cddl_language.specs.Controls.{Membership}
use Rattle.cddl_language.specs.Environment.{definitions_of, is_group_socket, is_in, is_same, most_names}
use Rattle.cddl_language.specs.Kinds.{Opened, opens_group, is_group, opened, opened_body, opened_by, opened_in, opened_term}
use Rattle.cddl_language.specs.Literals.{Values}
use Rattle.cddl_language.specs.Sizes.{Behind, a_type, Sizes, all_sizes, both_sizes, members_in, term_sizes}
use Rattle.cddl_language.specs.Substitution.{argument, argument_for, fill, fill_body, fill_ref, or_else, type_choices, types_in}
use Rattle.cddl_language.specs.Terms.{Body, of_entry, of_types, Definition, Group, Ref, call, Term, literal, named, parens, map_of, array_of, unwrapped, choice_of, choice_of_name, tagged, tagged_by, simple_by, hash, range, control, or, no_terms, term, Text, choices, name_of, stripped, term_list}

no_argument : (ps : List Text) (xs : List Term) (n : Text) → is_in ps n ≡ false → argument ps xs n ≡ None
no_argument [] xs n e = refl
no_argument (p ∷ ps) [] n e = refl
no_argument (p ∷ ps) (x ∷ xs) n e = by (is_same p n) (no_argument ps xs n) e
  where
    by : (b : Bool) → (is_in ps n ≡ false → argument ps xs n ≡ None) → b || is_in ps n ≡ false → (if b then Some x else argument ps xs n) ≡ None
    by true i e = cc
    by false i e = i e

no_argument_for : (ps : List Text) (xs : List Term) (r : Ref) → is_in ps (name_of r) ≡ false → argument_for ps xs r ≡ None
no_argument_for ps xs (call n no_terms) e = no_argument ps xs n e
no_argument_for ps xs (call n (term t ts)) e = refl

module _ (m : Membership) (worth : Values) (ds : List Definition) where
  -- through one name less
  abbrev pub sizes_before : ℕ → Behind → Option Sizes
  sizes_before zero b = None
  sizes_before (suc k) b = members_in m worth ds k b

  -- the type is one choice, without sizes
  abbrev IsUnsized : Term → Type 0
  IsUnsized y = (choices y ≡ y ∷ []) × ((k : ℕ) → is_some (term_sizes m worth ds (λ b. sizes_before k b) y) ≡ false)

  abbrev HasNone : List Term → Type 0
  HasNone ts = (k : ℕ) → is_some (all_sizes (λ b. sizes_before k b) ts) ≡ false

  name_unsized : (r : Ref) → HasNone (type_choices ds r) → IsUnsized (named r)
  name_unsized r none = (refl, λ k. by k (is_group ds (name_of r)))
    where
      by : (k : ℕ) (b : Bool) → is_some (if b then None else all_sizes (λ c. sizes_before k c) (type_choices ds r)) ≡ false
      by k true = refl
      by k false = none k

  only_unsized : (y : Term) → IsUnsized y → HasNone (choices y ++ [])
  only_unsized y h k = ap (λ ts. is_some (all_sizes (λ b. sizes_before k b) ts)) (none_more (choices y) ∙ h.0) ∙ by k
    where
      absent : (o : Option Sizes) → is_some o ≡ false → is_some (both_sizes o (Some [])) ≡ false
      absent (Some rs) e = e
      absent None e = refl

      told : (j : ℕ) → is_some (sizes_before (suc j) (a_type y)) ≡ false
      told zero = h.1 zero
      told (suc j) = h.1 (suc j)

      by : (j : ℕ) → is_some (both_sizes (sizes_before j (a_type y)) (Some [])) ≡ false
      by zero = refl
      by (suc j) = absent (sizes_before (suc j) (a_type y)) (told j)

  module _ (f : Ref → Option Opened) (g : Group) (again : (r : Ref) → f r ≡ Some (opens_group g) → HasNone (type_choices ds r)) (ps : List Text) (xs : List Term) where
    by_name : (r : Ref) (b : Bool) → is_in ps (name_of r) ≡ b → (if b then None else f (fill_ref ps xs r)) ≡ Some (opens_group g) → IsUnsized (or_else (argument_for ps xs r) (named (fill_ref ps xs r)))
    by_name r true i e = absurd (no_some e)
    by_name r false i e = subst (λ a. IsUnsized (or_else a (named (fill_ref ps xs r)))) (sym (no_argument_for ps xs r i)) (name_unsized (fill_ref ps xs r) (again (fill_ref ps xs r) e))

    type_unsized : (t : Term) → opened_term f ps xs (stripped t) ≡ Some (opens_group g) → IsUnsized (fill ps xs t)
    type_unsized (parens t) e = (refl, (type_unsized t e).1)
    type_unsized (named r) e = by_name r (is_in ps (name_of r)) refl e
    type_unsized (map_of h) e = (refl, λ k. refl)
    type_unsized (array_of h) e = (refl, λ k. refl)
    type_unsized (tagged n t) e = cc
    type_unsized (tagged_by z t) e = cc
    type_unsized (literal v) e = cc
    type_unsized (unwrapped r) e = cc
    type_unsized (choice_of h) e = cc
    type_unsized (choice_of_name r) e = cc
    type_unsized (simple_by z) e = cc
    type_unsized (hash n) e = cc
    type_unsized (range a c b) e = cc
    type_unsized (control a n b) e = cc
    type_unsized (or t u) e = cc

  unsized_in : (j : ℕ) (r : Ref) (g : Group) → opened_in j ds r ≡ Some (opens_group g) → HasNone (type_choices ds r)
  unsized_in zero r g e = absurd (no_some e)
  unsized_in (suc j) (call n ts) g e = not_socket (unsized_in j) (is_group_socket n) e
    where
      of_body : ((r : Ref) (h : Group) → opened_in j ds r ≡ Some (opens_group h) → HasNone (type_choices ds r)) → (d : Definition) (b : Body) → opened_body (λ r. opened_in j ds r) d.parameters (term_list ts) b ≡ Some (opens_group g) → HasNone (types_in (fill_body d.parameters (term_list ts) b ∷ []))
      of_body again d (of_types t) i = only_unsized (fill d.parameters (term_list ts) t) (type_unsized (λ r. opened_in j ds r) g (λ r h. again r g h) d.parameters (term_list ts) t i)
      of_body again d (of_entry x) i = absurd (no_some i)

      of_all : ((r : Ref) (h : Group) → opened_in j ds r ≡ Some (opens_group h) → HasNone (type_choices ds r)) → (es : List Definition) → opened_by (λ r. opened_in j ds r) (term_list ts) es ≡ Some (opens_group g) → HasNone (types_in (map (λ (d : Definition). fill_body d.parameters (term_list ts) d.body) es))
      of_all again [] i = absurd (no_some i)
      of_all again (d ∷ []) i = of_body again d d.body i
      of_all again (d ∷ c ∷ es) i = absurd (no_some i)

      not_socket : ((r : Ref) (h : Group) → opened_in j ds r ≡ Some (opens_group h) → HasNone (type_choices ds r)) → (b : Bool) → (if b then None else opened_by (λ r. opened_in j ds r) (term_list ts) (definitions_of ds n)) ≡ Some (opens_group g) → HasNone (type_choices ds (call n ts))
      not_socket again true i = absurd (no_some i)
      not_socket again false i = of_all again (definitions_of ds n) i

  pub opened_unsized : (r : Ref) (g : Group) → opened ds r ≡ Some (opens_group g) → HasNone (type_choices ds r)
  opened_unsized r g e = unsized_in (most_names ds) r g e
