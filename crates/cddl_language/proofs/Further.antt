-- Ways through more names come to the same.
use Rattle.std.specs.Prelude.{◌≡◌, ℕ, zero, suc, List, [], ◌∷◌, Option, Some, None, Bool, true, false, if◌then◌else◌, not, ◌&&◌}
use Rattle.std.proofs.lemmas.Bool.{false≢true}
use Rattle.lists.proofs.Lemmas.{no_some as none_is_some}
use Rattle.cddl_language.specs.Terms.{Text, Term, named, map_of, array_of, unwrapped, tagged, tagged_by, Ref, call, Body, of_types, of_entry, Definition, Sign, is, type_or, group_or, stripped, term_list, name_of}
use Rattle.cddl_language.specs.Environment.{is_in, definitions_of, named_so, is_socket, is_group_socket, is_in_prelude}
use Rattle.cddl_language.specs.Substitution.{fill_ref}
use Rattle.cddl_language.specs.Kinds.{Opened, opened_term, opened_body, opened_by, opened_in, is_group_type, is_group_body, defines_group, first_defines_group, is_group_in}

-- what the one opens the other opens too
abbrev Further : (Ref → Option Opened) → (Ref → Option Opened) → Type 0
Further f g = (r : Ref) (o : Opened) → f r ≡ Some o → g r ≡ Some o

module _ (f g : Ref → Option Opened) (further : Further f g) where
  through_if : (b : Bool) (r : Ref) (o : Opened) → (if b then None else f r) ≡ Some o → (if b then None else g r) ≡ Some o
  through_if true r o e = e
  through_if false r o e = further r o e

  of_term : (ps : List Text) (xs : List Term) (t : Term) (o : Opened) → opened_term f ps xs t ≡ Some o → opened_term g ps xs t ≡ Some o
  of_term ps xs (named r) o e = through_if (is_in ps (name_of r)) (fill_ref ps xs r) o e
  of_term ps xs (map_of h) o e = e
  of_term ps xs (array_of h) o e = e
  of_term ps xs (tagged n t) o e = e
  of_term ps xs (tagged_by h t) o e = e
  of_term ps xs _ o e = e

  of_body : (ps : List Text) (xs : List Term) (b : Body) (o : Opened) → opened_body f ps xs b ≡ Some o → opened_body g ps xs b ≡ Some o
  of_body ps xs (of_types t) o e = of_term ps xs (stripped t) o e
  of_body ps xs (of_entry x) o e = e

  of_definitions : (xs : List Term) (ds : List Definition) (o : Opened) → opened_by f xs ds ≡ Some o → opened_by g xs ds ≡ Some o
  of_definitions xs [] o e = e
  of_definitions xs (d ∷ []) o e = of_body d.parameters xs d.body o e
  of_definitions xs (d ∷ c ∷ ds) o e = e

  unless : (b : Bool) (xs : List Term) (ds : List Definition) (o : Opened) → (if b then None else opened_by f xs ds) ≡ Some o → (if b then None else opened_by g xs ds) ≡ Some o
  unless true xs ds o e = e
  unless false xs ds o e = of_definitions xs ds o e

pub opened_further : (ds : List Definition) (k : ℕ) (r : Ref) (o : Opened) → opened_in k ds r ≡ Some o → opened_in (suc k) ds r ≡ Some o
opened_further ds zero r o e = absurd (none_is_some e)
opened_further ds (suc k) (call n ts) o e = unless (λ r. opened_in k ds r) (λ r. opened_in (suc k) ds r) (λ r p h. opened_further ds k r p h) (is_group_socket n) (term_list ts) (definitions_of ds n) o e

-- what is a group for the one is a group for the other
abbrev Wider : (Text → Bool) → (Text → Bool) → Type 0
Wider f g = (n : Text) → f n ≡ true → g n ≡ true

module _ (f g : Text → Bool) (wider : Wider f g) (ds : List Definition) where
  both : (b : Bool) (n : Text) → (not b && f n) ≡ true → (not b && g n) ≡ true
  both true n e = e
  both false n e = wider n e

  of_stripped : (ps : List Text) (t : Term) → is_group_type f ds ps t ≡ true → is_group_type g ds ps t ≡ true
  of_stripped ps (named r) e = both (is_in ps (name_of r)) (name_of r) e
  of_stripped ps (unwrapped r) e = e
  of_stripped ps _ e = e

  of_group_body : (ps : List Text) (b : Body) → is_group_body f ds ps b ≡ true → is_group_body g ds ps b ≡ true
  of_group_body ps (of_types t) e = of_stripped ps (stripped t) e
  of_group_body ps (of_entry x) e = e

  if_socket : (b : Bool) (ps : List Text) (c : Body) → (if b then true else is_group_body f ds ps c) ≡ true → (if b then true else is_group_body g ds ps c) ≡ true
  if_socket true ps c e = e
  if_socket false ps c e = of_group_body ps c e

  of_definition : (d : Definition) (s : Sign) → defines_group f ds d s ≡ true → defines_group g ds d s ≡ true
  of_definition d is e = if_socket (is_group_socket d.name) d.parameters d.body e
  of_definition d type_or e = e
  of_definition d group_or e = e

  of_first : (es : List Definition) → first_defines_group f ds es ≡ true → first_defines_group g ds es ≡ true
  of_first [] e = e
  of_first (d ∷ es) e = of_definition d d.sign e

  by_name : (b c z : Bool) (es : List Definition) → (if b then z else (if c then false else first_defines_group f ds es)) ≡ true → (if b then z else (if c then false else first_defines_group g ds es)) ≡ true
  by_name true c z es e = e
  by_name false true z es e = e
  by_name false false z es e = of_first es e

pub group_further : (ds : List Definition) (k : ℕ) (n : Text) → is_group_in k ds n ≡ true → is_group_in (suc k) ds n ≡ true
group_further ds zero n e = absurd (false≢true e)
group_further ds (suc k) n e = by_name (λ m. is_group_in k ds m) (λ m. is_group_in (suc k) ds m) (λ m h. group_further ds k m h) ds (is_socket n) (is_in_prelude n) (is_group_socket n) (named_so n ds) e
