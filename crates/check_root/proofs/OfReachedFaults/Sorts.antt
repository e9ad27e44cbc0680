-- What `~` of a name opens has one sort, whatever its arguments.
use Rattle.std.proofs.Common.{◌≡◌, ℕ, zero, suc, Bool, true, false, if◌then◌else◌, List, [], ◌∷◌, Option, None, refl}
use Rattle.tree_nodes.specs.Syntax.Syntax as S
use Rattle.cddl_language.specs.Environment.{definitions_of, is_group_socket, is_in, most_names}
use Rattle.cddl_language.specs.Faults.{Specification, definitions, opened_there}
use Rattle.cddl_language.specs.Kinds.{Opened, opened, opened_body, opened_by, opened_in, opened_term, way_through}
use Rattle.cddl_language.specs.Reading.{parameters_in, ref_of}
use Rattle.cddl_language.specs.Sites.{is_parameter, ref_name}
use Rattle.cddl_language.specs.Substitution.{fill_ref, fill_all}
use Rattle.cddl_language.specs.Terms.{Text, Term, literal, named, parens, map_of, array_of, unwrapped, choice_of, choice_of_name, tagged, tagged_by, simple_by, hash, range, control, or, Ref, call, Terms, no_terms, Body, of_types, of_entry, Definition, stripped, term_list, name_of}
use Rattle.check_names.specs.Kinds.Kinds.{sort_of}
use Rattle.check_text.specs.SiteFaults.Unwrapped.{sort_named}

module _ (next : Ref → Option Opened) (same : (n : Text) (ts us : Terms) → sort_of (next (call n ts)) ≡ sort_of (next (call n us))) where
  of_way : (ps : List Text) (xs ys : List Term) (r : Ref) → sort_of (way_through next ps xs r) ≡ sort_of (way_through next ps ys r)
  of_way ps xs ys (call n ts) = by (is_in ps n)
    where
      by : (b : Bool) → sort_of (if b then None else next (call n (fill_all ps xs ts))) ≡ sort_of (if b then None else next (call n (fill_all ps ys ts)))
      by true = refl
      by false = same n (fill_all ps xs ts) (fill_all ps ys ts)

  of_term : (ps : List Text) (xs ys : List Term) (t : Term) → sort_of (opened_term next ps xs t) ≡ sort_of (opened_term next ps ys t)
  of_term ps xs ys (named r) = of_way ps xs ys r
  of_term ps xs ys (literal v) = refl
  of_term ps xs ys (parens t) = refl
  of_term ps xs ys (map_of g) = refl
  of_term ps xs ys (array_of g) = refl
  of_term ps xs ys (unwrapped r) = refl
  of_term ps xs ys (choice_of g) = refl
  of_term ps xs ys (choice_of_name r) = refl
  of_term ps xs ys (tagged n t) = refl
  of_term ps xs ys (tagged_by h t) = refl
  of_term ps xs ys (simple_by h) = refl
  of_term ps xs ys (hash n) = refl
  of_term ps xs ys (range a c b) = refl
  of_term ps xs ys (control a n b) = refl
  of_term ps xs ys (or t u) = refl

  of_body : (ps : List Text) (xs ys : List Term) (b : Body) → sort_of (opened_body next ps xs b) ≡ sort_of (opened_body next ps ys b)
  of_body ps xs ys (of_types t) = of_term ps xs ys (stripped t)
  of_body ps xs ys (of_entry e) = refl

  of_definitions : (xs ys : List Term) (ds : List Definition) → sort_of (opened_by next xs ds) ≡ sort_of (opened_by next ys ds)
  of_definitions xs ys [] = refl
  of_definitions xs ys (d ∷ []) = of_body d.parameters xs ys d.body
  of_definitions xs ys (d ∷ e ∷ ds) = refl

of_name : (k : ℕ) (ds : List Definition) (n : Text) (ts us : Terms) → sort_of (opened_in k ds (call n ts)) ≡ sort_of (opened_in k ds (call n us))
of_name zero ds n ts us = refl
of_name (suc k) ds n ts us = by (is_group_socket n) (of_definitions (λ r. opened_in k ds r) (of_name k ds) (term_list ts) (term_list us) (definitions_of ds n))
  where
    by : (b : Bool) → sort_of (opened_by (λ r. opened_in k ds r) (term_list ts) (definitions_of ds n)) ≡ sort_of (opened_by (λ r. opened_in k ds r) (term_list us) (definitions_of ds n)) → sort_of (if b then None else opened_by (λ r. opened_in k ds r) (term_list ts) (definitions_of ds n)) ≡ sort_of (if b then None else opened_by (λ r. opened_in k ds r) (term_list us) (definitions_of ds n))
    by true e = refl
    by false e = e

of_reference : (ds : List Definition) (ps : List Text) (xs : List Term) (r : Ref) → sort_of (opened ds (call (name_of r) no_terms)) ≡ sort_of (opened ds (fill_ref ps xs r))
of_reference ds ps xs (call n ts) = of_name (most_names ds) ds n no_terms (fill_all ps xs ts)

pub one_sort : (s : Specification) (r : S.Rule) (xs : List Term) (f : S.Ref) → sort_named (definitions s) r (ref_name f) ≡ sort_of (opened_there s r xs f)
one_sort s r xs f = by (is_parameter r (ref_name f))
  where
    by : (b : Bool) → (if b then None else sort_of (opened (definitions s) (call (ref_name f) no_terms))) ≡ sort_of (if b then None else opened (definitions s) (fill_ref (parameters_in r) xs (ref_of f)))
    by true = refl
    by false = of_reference (definitions s) (parameters_in r) xs (ref_of f)
