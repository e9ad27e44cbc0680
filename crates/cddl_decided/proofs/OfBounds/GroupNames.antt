-- That a name is a group's is found within as many names as there are definitions.
use Rattle.std.proofs.Common.{◌≡◌, ℕ, zero, suc, ◌<◌, ◌≤◌, Bool, true, false, if◌then◌else◌, not, ◌&&◌, List, [], ◌∷◌, length, refl, sym, ◌∙◌, arith}
use Rattle.std.proofs.lemmas.Bool.{false≢true}
use Rattle.lists.proofs.Lemmas.{IsIn}
use Rattle.cddl_language.specs.Environment.{is_group_socket, is_in, is_in_prelude, is_socket, most_names, named_so}
use Rattle.cddl_language.specs.Kinds.{defines_group, first_defines_group, is_group, is_group_body, is_group_in, is_group_type}
use Rattle.cddl_language.specs.Prelude.{prelude}
use Rattle.cddl_language.specs.Terms.{Body, of_entry, of_types, Definition, Sign, is, type_or, group_or, Term, named, unwrapped, Text, name_of, stripped}
use Rattle.cddl_decided.proofs.Apart.{AreApart}
use Rattle.cddl_decided.proofs.OfBounds.Heights.{is_found, is_low, no_more_than, upwards}
use Rattle.cddl_decided.proofs.OfBounds.Naming.{is_named, name_count, names}

-- it is so by the second, and not by the first
abbrev TurnsTrue : Bool → Bool → Type 0
TurnsTrue b c = (b ≡ false) × (c ≡ true)

never : (b : Bool) → TurnsTrue b b → ⊥
never b h = false≢true (sym h.0 ∙ h.1)

module _ (p q : Text → Bool) (ds : List Definition) where
  abbrev IsBehind : Type 0
  IsBehind = (n : Text) × TurnsTrue (p n) (q n)

  by_name : (b : Bool) (n : Text) → TurnsTrue (not b && p n) (not b && q n) → IsBehind
  by_name true n h = absurd (false≢true h.1)
  by_name false n h = (n, h)

  in_type : (ps : List Text) (t : Term) → TurnsTrue (is_group_type p ds ps t) (is_group_type q ds ps t) → IsBehind
  in_type ps (named r) h = by_name (is_in ps (name_of r)) (name_of r) h
  in_type ps (unwrapped r) h = absurd (never (is_group_type p ds ps (unwrapped r)) h)
  in_type ps _ h = absurd (false≢true h.1)

  in_body : (ps : List Text) (b : Body) → TurnsTrue (is_group_body p ds ps b) (is_group_body q ds ps b) → IsBehind
  in_body ps (of_types t) h = in_type ps (stripped t) h
  in_body ps (of_entry e) h = absurd (false≢true (sym h.0))

  unless_socket : (b : Bool) (ps : List Text) (c : Body) → TurnsTrue (if b then true else is_group_body p ds ps c) (if b then true else is_group_body q ds ps c) → IsBehind
  unless_socket true ps c h = absurd (false≢true (sym h.0))
  unless_socket false ps c h = in_body ps c h

  in_definition : (d : Definition) (s : Sign) → TurnsTrue (defines_group p ds d s) (defines_group q ds d s) → IsBehind
  in_definition d is h = unless_socket (is_group_socket d.name) d.parameters d.body h
  in_definition d type_or h = absurd (false≢true h.1)
  in_definition d group_or h = absurd (false≢true (sym h.0))

  in_first : (s g b : Bool) (es : List Definition) → TurnsTrue (if s then g else (if b then false else first_defines_group p ds es)) (if s then g else (if b then false else first_defines_group q ds es)) → IsBehind
  in_first true g b es h = absurd (never g h)
  in_first false g true es h = absurd (false≢true h.1)
  in_first false g false [] h = absurd (false≢true h.1)
  in_first false g false (d ∷ es) h = in_definition d d.sign h

abbrev pub MoreGroups : List Definition → Type 0
MoreGroups ds = (k : ℕ) (n : Text) → is_group_in k ds n ≡ true → is_group_in (suc k) ds n ≡ true

there_is_one : 1 ≤ length prelude
unfolding prelude
there_is_one = omega arith

module _ (ds : List Definition) (more : MoreGroups ds) where
  -- through one name at least: a socket is told by itself
  abbrev found : ℕ → Text → Bool
  found k n = is_group_in (suc k) ds n

  abbrev IsNewName : ℕ → Text → Type 0
  IsNewName k n = TurnsTrue (found k n) (found (suc k) n)

  is_name : (k : ℕ) (n : Text) → IsNewName k n → IsIn n (names ds)
  is_name k n h = by (is_socket n) (is_group_socket n) (is_in_prelude n) (named_so n ds) refl h
    where
      by : (s g b : Bool) (es : List Definition) → named_so n ds ≡ es → TurnsTrue (if s then g else (if b then false else first_defines_group (λ m. is_group_in k ds m) ds es)) (if s then g else (if b then false else first_defines_group (λ m. is_group_in (suc k) ds m) ds es)) → IsIn n (names ds)
      by true g b es e i = absurd (never g i)
      by false g true es e i = absurd (false≢true i.1)
      by false g false [] e i = absurd (false≢true i.1)
      by false g false (d ∷ es) e i = is_named n ds d es e

  step : (k : ℕ) (n : Text) → IsIn n (names ds) → IsNewName (suc k) n → (m : Text) × IsIn m (names ds) × IsNewName k m
  step k n i h = let b = in_first (λ m. found k m) (λ m. found (suc k) m) ds (is_socket n) (is_group_socket n) (is_in_prelude n) (named_so n ds) h in (b.0, is_name k b.0 b.1, b.1)

  few : (ns : List Text) → ((n : Text) → IsIn n ns → IsIn n (names ds)) → AreApart ns → length ns ≤ length ds
  few ns all apart = let h = no_more_than (names ds) ns apart all in let c = name_count ds in omega (arith, h, c)

  low : (k : ℕ) (n : Text) → IsNewName k n → k < length ds
  low k n h = is_low found (λ j. more (suc j)) (λ m. IsIn m (names ds)) (length ds) few step k n (is_name k n h) h

  pub group_enough : (n : ℕ) (t : Text) → is_group_in n ds t ≡ true → is_group ds t ≡ true
  group_enough zero t e = absurd (false≢true e)
  group_enough (suc n) t e = upwards (λ j. is_group_in j ds t ≡ true) (λ j. more j t) (suc (length ds)) (most_names ds) (let one = there_is_one in omega (arith, one)) (is_found found (λ j. more (suc j)) (length ds) t (λ k h. low k t h) n e)
