-- What `~` opens is found within as many names as there are definitions.
use Rattle.std.proofs.Common.{◌≡◌, ℕ, zero, suc, ◌<◌, ◌≤◌, Bool, true, false, if◌then◌else◌, List, [], ◌∷◌, length, Option, Some, None, is_some, refl, sym, ap, ◌∙◌, arith}
use Rattle.std.proofs.lemmas.Bool.{false≢true}
use Rattle.lists.proofs.Lemmas.{IsIn}
use Rattle.cddl_language.specs.Environment.{definitions_of, is_group_socket, is_in, most_names}
use Rattle.cddl_language.specs.Kinds.{Opened, opened, opened_body, opened_by, opened_in, opened_term}
use Rattle.cddl_language.specs.Substitution.{fill_all, fill_ref}
use Rattle.cddl_language.specs.Terms.{Body, of_entry, of_types, Definition, Ref, call, Term, named, map_of, array_of, tagged, tagged_by, Terms, no_terms, Text, name_of, stripped, term_list}
use Rattle.cddl_decided.proofs.Apart.{AreApart}
use Rattle.cddl_decided.proofs.OfBounds.Heights.{IsFirst, finds_more, is_found, is_low, is_told, no_more_than, upwards}
use Rattle.cddl_decided.proofs.OfBounds.Naming.{all_count, all_names, is_defined}

-- Whether `~` of a name opens something does not depend on the name's arguments.

module _ (f : Ref → Option Opened) (alike : (n : Text) (ts us : Terms) → is_some (f (call n ts)) ≡ is_some (f (call n us))) (xs ys : List Term) where
  through_alike : (b : Bool) (ps : List Text) (r : Ref) → is_some (if b then None else f (fill_ref ps xs r)) ≡ is_some (if b then None else f (fill_ref ps ys r))
  through_alike true ps r = refl
  through_alike false ps (call n ts) = alike n (fill_all ps xs ts) (fill_all ps ys ts)

  term_alike : (ps : List Text) (t : Term) → is_some (opened_term f ps xs t) ≡ is_some (opened_term f ps ys t)
  term_alike ps (named r) = through_alike (is_in ps (name_of r)) ps r
  term_alike ps _ = refl

  body_alike : (ps : List Text) (b : Body) → is_some (opened_body f ps xs b) ≡ is_some (opened_body f ps ys b)
  body_alike ps (of_types t) = term_alike ps (stripped t)
  body_alike ps (of_entry e) = refl

  all_alike : (b : Bool) (es : List Definition) → is_some (if b then None else opened_by f xs es) ≡ is_some (if b then None else opened_by f ys es)
  all_alike true es = refl
  all_alike false [] = refl
  all_alike false (d ∷ []) = body_alike d.parameters d.body
  all_alike false (d ∷ c ∷ es) = refl

opens_alike : (ds : List Definition) (k : ℕ) (n : Text) (ts us : Terms) → is_some (opened_in k ds (call n ts)) ≡ is_some (opened_in k ds (call n us))
opens_alike ds zero n ts us = refl
opens_alike ds (suc k) n ts us = all_alike (λ r. opened_in k ds r) (opens_alike ds k) (term_list ts) (term_list us) (is_group_socket n) (definitions_of ds n)

-- What is opened for the one and not for the other is so by a name.

module _ (p q : Ref → Option Opened) where
  abbrev IsBehind : Type 0
  IsBehind = (r : Ref) × IsFirst (p r) (q r)

  through : (b : Bool) (r : Ref) → IsFirst (if b then None else p r) (if b then None else q r) → IsBehind
  through true r h = absurd (false≢true h.1)
  through false r h = (r, h)

  in_term : (ps : List Text) (xs : List Term) (t : Term) → IsFirst (opened_term p ps xs t) (opened_term q ps xs t) → IsBehind
  in_term ps xs (named r) h = through (is_in ps (name_of r)) (fill_ref ps xs r) h
  in_term ps xs (map_of g) h = absurd (false≢true (sym h.0))
  in_term ps xs (array_of g) h = absurd (false≢true (sym h.0))
  in_term ps xs (tagged n t) h = absurd (false≢true (sym h.0))
  in_term ps xs (tagged_by z t) h = absurd (false≢true (sym h.0))
  in_term ps xs _ h = absurd (false≢true h.1)

  in_body : (ps : List Text) (xs : List Term) (b : Body) → IsFirst (opened_body p ps xs b) (opened_body q ps xs b) → IsBehind
  in_body ps xs (of_types t) h = in_term ps xs (stripped t) h
  in_body ps xs (of_entry e) h = absurd (false≢true h.1)

  in_all : (b : Bool) (xs : List Term) (es : List Definition) → IsFirst (if b then None else opened_by p xs es) (if b then None else opened_by q xs es) → IsBehind
  in_all true xs es h = absurd (false≢true h.1)
  in_all false xs [] h = absurd (false≢true h.1)
  in_all false xs (d ∷ []) h = in_body d.parameters xs d.body h
  in_all false xs (d ∷ c ∷ es) h = absurd (false≢true h.1)

abbrev pub MoreOpen : List Definition → Type 0
MoreOpen ds = (k : ℕ) (r : Ref) (o : Opened) → opened_in k ds r ≡ Some o → opened_in (suc k) ds r ≡ Some o

module _ (ds : List Definition) (more : MoreOpen ds) where
  further : (k n : ℕ) → k ≤ n → (r : Ref) (o : Opened) → opened_in k ds r ≡ Some o → opened_in n ds r ≡ Some o
  further k n l r o e = upwards (λ j. opened_in j ds r ≡ Some o) (λ j. more j r o) k n l e

  abbrev opens : ℕ → Text → Bool
  opens k n = is_some (opened_in k ds (call n no_terms))

  opens_more : (k : ℕ) (n : Text) → opens k n ≡ true → opens (suc k) n ≡ true
  opens_more k n h = finds_more (λ j r. opened_in j ds r) further k (call n no_terms) h

  is_name : (k : ℕ) (n : Text) → opens (suc k) n ≡ true → IsIn n (all_names ds)
  is_name k n h = by (is_group_socket n) (definitions_of ds n) refl h
    where
      by : (b : Bool) (es : List Definition) → definitions_of ds n ≡ es → is_some (if b then None else opened_by (λ r. opened_in k ds r) [] es) ≡ true → IsIn n (all_names ds)
      by true es e g = absurd (false≢true g)
      by false [] e g = absurd (false≢true g)
      by false (d ∷ es) e g = is_defined ds n d es e

  abbrev IsNewName : ℕ → Text → Type 0
  IsNewName k n = (opens k n ≡ false) × (opens (suc k) n ≡ true)

  step : (k : ℕ) (n : Text) → IsIn n (all_names ds) → IsNewName (suc k) n → (m : Text) × IsIn m (all_names ds) × IsNewName k m
  step k n i h = by s.0 s.1
    where
      s : (r : Ref) × IsFirst (opened_in k ds r) (opened_in (suc k) ds r)
      s = in_all (λ r. opened_in k ds r) (λ r. opened_in (suc k) ds r) (is_group_socket n) [] (definitions_of ds n) h

      by : (r : Ref) → IsFirst (opened_in k ds r) (opened_in (suc k) ds r) → (m : Text) × IsIn m (all_names ds) × IsNewName k m
      by (call m us) g = (m, is_name k m (opens_alike ds (suc k) m no_terms us ∙ g.1), (opens_alike ds k m no_terms us ∙ g.0, opens_alike ds (suc k) m no_terms us ∙ g.1))

  few : (ns : List Text) → ((n : Text) → IsIn n ns → IsIn n (all_names ds)) → AreApart ns → length ns ≤ most_names ds
  few ns all apart = let h = no_more_than (all_names ds) ns apart all in let c = all_count ds in omega (arith, h, c)

  low : (k : ℕ) (n : Text) → IsNewName k n → k < most_names ds
  low k n h = is_low opens opens_more (λ m. IsIn m (all_names ds)) (most_names ds) few step k n (is_name k n h.1) h

  pub opened_enough : (n : ℕ) (r : Ref) (o : Opened) → opened_in n ds r ≡ Some o → opened ds r ≡ Some o
  opened_enough n (call m us) o e = is_told (λ j r. opened_in j ds r) further n (most_names ds) (call m us) o e (opens_alike ds (most_names ds) m us no_terms ∙ is_found opens opens_more (most_names ds) m (λ k h. low k m h) n (opens_alike ds n m no_terms us ∙ ap is_some e))
