-- The way from a name to what `~` of it opens.
use Rattle.std.proofs.Common.{◌≡◌, ℕ, zero, suc, Bool, true, false, if◌then◌else◌, ◌||◌, List, [], ◌∷◌, ◌++◌, map, Option, Some, None, refl, sym, ap, subst, ◌∙◌, arith}
use Rattle.std.specs.Prelude.{Contains, flat_map}
use Rattle.cddl_language.specs.Terms.{Text, Term, literal, named, parens, map_of, array_of, unwrapped, choice_of, choice_of_name, tagged, tagged_by, simple_by, hash, range, control, or, Ref, call, no_terms, term, Body, of_types, of_entry, Definition, choices, stripped, term_list, name_of}
use Rattle.cddl_language.specs.Environment.{definitions_of, is_group_socket, is_in, is_same, most_names}
use Rattle.cddl_language.specs.Substitution.{argument, argument_for, bodies, fill, fill_body, fill_ref, or_else, type_choices, types_in}
use Rattle.cddl_language.specs.Kinds.{Opened, opens_group, opens_type, opened, opened_body, opened_by, opened_in, opened_term}
use Rattle.cddl_language.specs.Reach.{Point, Reaches, onward, at_name, body_points, group_points, points}
use Rattle.check_instances.specs.Closed.Closed.{AreReached}

-- what a type itself opens, out of its parentheses
abbrev pub held : Term → Option Opened
held (map_of g) = Some (opens_group g)
held (array_of g) = Some (opens_group g)
held (tagged n t) = Some (opens_type t)
held (tagged_by h t) = Some (opens_type t)
held _ = None

-- the one type that a reference means: it opens this itself, or it is a name of which `next` tells it
pub data LeadsBy (next : Ref → Option Opened) (o : Opened) (y : Term) : Type 0 where
  itself : held (stripped y) ≡ Some o → LeadsBy next o y
  through : (s : Ref) → stripped y ≡ named s → next s ≡ Some o → LeadsBy next o y

no_argument : (ps : List Text) (xs : List Term) (n : Text) → is_in ps n ≡ false → argument ps xs n ≡ None
no_argument [] xs n e = refl
no_argument (p ∷ ps) [] n e = refl
no_argument (p ∷ ps) (x ∷ xs) n e = by (is_same p n) (no_argument ps xs n) e
  where
    by : (b : Bool) → (is_in ps n ≡ false → argument ps xs n ≡ None) → b || is_in ps n ≡ false → (if b then Some x else argument ps xs n) ≡ None
    by true i e = cc
    by false i e = i e

pub no_argument_for : (ps : List Text) (xs : List Term) (r : Ref) → is_in ps (name_of r) ≡ false → argument_for ps xs r ≡ None
no_argument_for ps xs (call n no_terms) e = no_argument ps xs n e
no_argument_for ps xs (call n (term t ts)) e = refl

module _ (next : Ref → Option Opened) (ps : List Text) (xs : List Term) (o : Opened) where
  by_name : (r : Ref) (b : Bool) → is_in ps (name_of r) ≡ b → (if b then None else next (fill_ref ps xs r)) ≡ Some o → LeadsBy next o (or_else (argument_for ps xs r) (named (fill_ref ps xs r)))
  by_name r true i e = cc
  by_name r false i e = subst (λ a. LeadsBy next o (or_else a (named (fill_ref ps xs r)))) (sym (no_argument_for ps xs r i)) (through (fill_ref ps xs r) refl e)

  inside : (y : Term) → LeadsBy next o y → LeadsBy next o (parens y)
  inside y (itself e) = itself e
  inside y (through s e f) = through s e f

  -- the type, filled, leads to what it is said to open
  pub type_leads : (t : Term) → opened_term next ps xs (stripped t) ≡ Some o → LeadsBy next o (fill ps xs t)
  type_leads (parens t) e = inside (fill ps xs t) (type_leads t e)
  type_leads (named r) e = by_name r (is_in ps (name_of r)) refl e
  type_leads (map_of g) e = itself e
  type_leads (array_of g) e = itself e
  type_leads (tagged n t) e = itself e
  type_leads (tagged_by h t) e = itself e
  type_leads (literal v) e = cc
  type_leads (unwrapped r) e = cc
  type_leads (choice_of g) e = cc
  type_leads (choice_of_name r) e = cc
  type_leads (simple_by h) e = cc
  type_leads (hash n) e = cc
  type_leads (range a c b) e = cc
  type_leads (control a n b) e = cc
  type_leads (or t u) e = cc

-- such a type is one choice
one_choice : (next : Ref → Option Opened) (o : Opened) (y : Term) → LeadsBy next o y → choices y ≡ y ∷ []
one_choice next o (or t u) (itself e) = cc
one_choice next o (or t u) (through s e f) = absurd (apart e)
  where
    is_or : Term → Bool
    is_or (or t u) = true
    is_or _ = false

    apart : or t u ≡ named s → ⊥
    apart e = cc
one_choice next o (literal v) h = refl
one_choice next o (named r) h = refl
one_choice next o (parens t) h = refl
one_choice next o (map_of g) h = refl
one_choice next o (array_of g) h = refl
one_choice next o (unwrapped r) h = refl
one_choice next o (choice_of g) h = refl
one_choice next o (choice_of_name r) h = refl
one_choice next o (tagged n t) h = refl
one_choice next o (tagged_by z t) h = refl
one_choice next o (simple_by z) h = refl
one_choice next o (hash n) h = refl
one_choice next o (range a c b) h = refl
one_choice next o (control a n b) h = refl

-- where `~` of a reference opens something through so many names and one more, it means one type that leads to it
pub record Leads (k : ℕ) (ds : List Definition) (r : Ref) (o : Opened) : Type 0 where
  pub body : Term
  pub sole : bodies ds r ≡ of_types body ∷ []
  pub way : LeadsBy (λ s. opened_in k ds s) o body

pub leads : (k : ℕ) (ds : List Definition) (r : Ref) (o : Opened) → opened_in (suc k) ds r ≡ Some o → Leads k ds r o
leads k ds (call n ts) o e = not_socket (is_group_socket n) e
  where
    filled : List Definition → List Body
    filled es = map (λ (d : Definition). fill_body d.parameters (term_list ts) d.body) es

    of_body : (d : Definition) (b : Body) → d.body ≡ b → bodies ds (call n ts) ≡ fill_body d.parameters (term_list ts) d.body ∷ [] → opened_body (λ s. opened_in k ds s) d.parameters (term_list ts) b ≡ Some o → Leads k ds (call n ts) o
    of_body d (of_types t) i f g = record { body = fill d.parameters (term_list ts) t; sole = f ∙ ap (λ (b : Body). fill_body d.parameters (term_list ts) b ∷ []) i; way = type_leads (λ s. opened_in k ds s) d.parameters (term_list ts) o t g }
    of_body d (of_entry x) i f g = cc

    of_all : (es : List Definition) → definitions_of ds n ≡ es → opened_by (λ s. opened_in k ds s) (term_list ts) es ≡ Some o → Leads k ds (call n ts) o
    of_all [] i g = cc
    of_all (d ∷ []) i g = of_body d d.body refl (ap filled i) g
    of_all (d ∷ f ∷ es) i g = cc

    not_socket : (b : Bool) → (if b then None else opened_by (λ s. opened_in k ds s) (term_list ts) (definitions_of ds n)) ≡ Some o → Leads k ds (call n ts) o
    not_socket true g = cc
    not_socket false g = of_all (definitions_of ds n) refl g

pub sole_type : (k : ℕ) (ds : List Definition) (r : Ref) (o : Opened) (l : Leads k ds r o) → type_choices ds r ≡ l.body ∷ []
sole_type k ds r o l = ap types_in l.sole ∙ none_more (choices l.body) ∙ one_choice (λ s. opened_in k ds s) o l.body l.way
  where
    none_more : (ts : List Term) → ts ++ [] ≡ ts
    none_more [] = refl
    none_more (t ∷ ts) = ap (λ (us : List Term). t ∷ us) (none_more ts)

-- What is reached.

pub stripped_points : (t : Term) → points (stripped t) ≡ points t
stripped_points (parens t) = stripped_points t
stripped_points (literal v) = refl
stripped_points (named r) = refl
stripped_points (map_of g) = refl
stripped_points (array_of g) = refl
stripped_points (unwrapped r) = refl
stripped_points (choice_of g) = refl
stripped_points (choice_of_name r) = refl
stripped_points (tagged n t) = refl
stripped_points (tagged_by h t) = refl
stripped_points (simple_by h) = refl
stripped_points (hash n) = refl
stripped_points (range a c b) = refl
stripped_points (control a n b) = refl
stripped_points (or t u) = refl

abbrev pub opened_points : Opened → List Point
opened_points (opens_group g) = group_points g
opened_points (opens_type t) = points t

in_left : (xs ys : List Point) (p : Point) → Contains xs p → Contains (xs ++ ys) p
in_left [] ys p h = absurd (omega (arith, h.1))
in_left (x ∷ xs) ys p (zero, l, e) = (zero, omega arith, e)
in_left (x ∷ xs) ys p (suc k, l, e) = let r = in_left xs ys p (k, omega (arith, l), e) in (suc r.0, omega (arith, r.1), r.2)

in_right : (xs ys : List Point) (p : Point) → Contains ys p → Contains (xs ++ ys) p
in_right [] ys p h = h
in_right (x ∷ xs) ys p h = let r = in_right xs ys p h in (suc r.0, omega (arith, r.1), r.2)

-- the references of what a type itself opens are its own
held_points : (t : Term) (o : Opened) → held t ≡ Some o → (p : Point) → Contains (opened_points o) p → Contains (points t) p
held_points (map_of g) o e p h = subst (λ z. Contains (opened_points z) p) (same (opens_group g) e) h
  where
    same : (z : Opened) → Some z ≡ Some o → o ≡ z
    same z e = cc
held_points (array_of g) o e p h = subst (λ z. Contains (opened_points z) p) (same (opens_group g) e) h
  where
    same : (z : Opened) → Some z ≡ Some o → o ≡ z
    same z e = cc
held_points (tagged n t) o e p h = subst (λ z. Contains (opened_points z) p) (same (opens_type t) e) h
  where
    same : (z : Opened) → Some z ≡ Some o → o ≡ z
    same z e = cc
held_points (tagged_by z t) o e p h = in_right (points z) (points t) p (subst (λ w. Contains (opened_points w) p) (same (opens_type t) e) h)
  where
    same : (w : Opened) → Some w ≡ Some o → o ≡ w
    same w e = cc
held_points (literal v) o e p h = cc
held_points (named r) o e p h = cc
held_points (parens t) o e p h = cc
held_points (unwrapped r) o e p h = cc
held_points (choice_of g) o e p h = cc
held_points (choice_of_name r) o e p h = cc
held_points (simple_by z) o e p h = cc
held_points (hash n) o e p h = cc
held_points (range a c b) o e p h = cc
held_points (control a n b) o e p h = cc
held_points (or t u) o e p h = cc

-- what stands in the one type that an instance means is reached
pub body_reached : (ds : List Definition) (root : Text) (r : Ref) (y : Term) → bodies ds r ≡ of_types y ∷ [] → Reaches ds root r → AreReached ds root (points y)
body_reached ds root r y e h p c = onward h (subst (λ bs. Contains (flat_map body_points bs) p) (sym e) (in_left (points y) [] p c)) refl

pub name_reached : (ds : List Definition) (root : Text) (y : Term) (s : Ref) → stripped y ≡ named s → AreReached ds root (points y) → Reaches ds root s
name_reached ds root y s e h = h (at_name s) (subst (λ ps. Contains ps (at_name s)) (ap points (sym e) ∙ stripped_points y) (zero, omega arith, refl))

opened_reached_in : (k : ℕ) (ds : List Definition) (root : Text) (r : Ref) (o : Opened) → Reaches ds root r → opened_in k ds r ≡ Some o → AreReached ds root (opened_points o)
opened_reached_in zero ds root r o h e = cc
opened_reached_in (suc k) ds root r o h e = let l = leads k ds r o e in by l.body l.way (body_reached ds root r l.body l.sole h) (opened_reached_in k ds root)
  where
    by : (y : Term) → LeadsBy (λ s. opened_in k ds s) o y → AreReached ds root (points y) → ((s : Ref) (z : Opened) → Reaches ds root s → opened_in k ds s ≡ Some z → AreReached ds root (opened_points z)) → AreReached ds root (opened_points o)
    by y (itself f) g next = λ p c. g p (subst (λ ps. Contains ps p) (stripped_points y) (held_points (stripped y) o f p c))
    by y (through s f i) g next = next s o (name_reached ds root y s f g) i

pub opened_reached : (ds : List Definition) (root : Text) (r : Ref) (o : Opened) → Reaches ds root r → opened ds r ≡ Some o → AreReached ds root (opened_points o)
opened_reached ds root r o h e = opened_reached_in (most_names ds) ds root r o h e
