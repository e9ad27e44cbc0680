-- What stands in the choices of an instance are instances.
use Rattle.std.proofs.Common.{◌≡◌, ℕ, zero, suc, ◌<◌, ◌⊎◌, inl, inr, List, [], ◌∷◌, ◌++◌, refl, sym, subst, arith}
use Rattle.std.specs.Prelude.{Contains, flat_map}
use Rattle.std.proofs.lemmas.List.Elements.{Contains-append_cases, Contains-append_left, Contains-append_right}
use Rattle.cddl_language.specs.Terms.{Text, Term, literal, named, parens, map_of, array_of, unwrapped, choice_of, choice_of_name, tagged, tagged_by, simple_by, hash, range, control, or, Ref, Body, of_types, of_entry, Definition, choices}
use Rattle.cddl_language.specs.Substitution.{bodies, type_choices, types_in}
use Rattle.cddl_language.specs.Reach.{Reaches, onward, Point, points, body_points}
use Rattle.check_instances.specs.Closed.Closed.{AreReached}

sole : (t x : Term) → Contains (t ∷ []) x → t ≡ x
sole t x c = by c.0 c.1 c.2
  where
    by : (k : ℕ) → k < 1 → Rattle.std.proofs.Common.get_or (t ∷ []) k x ≡ x → t ≡ x
    by zero h e = e
    by (suc k) h e = absurd (omega (arith, h))

itself : (t x : Term) (p : Point) → Contains (t ∷ []) x → Contains (points x) p → Contains (points t) p
itself t x p c h = subst (λ y. Contains (points y) p) (sym (sole t x c)) h

in_choice : (t x : Term) (p : Point) → Contains (choices t) x → Contains (points x) p → Contains (points t) p
in_choice (or t u) x p c h = by (Contains-append_cases (choices t) (u ∷ []) x c) (in_choice t x p)
  where
    by : Contains (choices t) x ⊎ Contains (u ∷ []) x → (Contains (choices t) x → Contains (points x) p → Contains (points t) p) → Contains (points t ++ points u) p
    by (inl g) first = Contains-append_left (points t) (points u) p (first g h)
    by (inr g) first = Contains-append_right (points t) (points u) p (itself u x p g h)
in_choice (literal v) x p c h = itself (literal v) x p c h
in_choice (named r) x p c h = itself (named r) x p c h
in_choice (parens t) x p c h = itself (parens t) x p c h
in_choice (map_of g) x p c h = itself (map_of g) x p c h
in_choice (array_of g) x p c h = itself (array_of g) x p c h
in_choice (unwrapped r) x p c h = itself (unwrapped r) x p c h
in_choice (choice_of g) x p c h = itself (choice_of g) x p c h
in_choice (choice_of_name r) x p c h = itself (choice_of_name r) x p c h
in_choice (tagged n t) x p c h = itself (tagged n t) x p c h
in_choice (tagged_by s t) x p c h = itself (tagged_by s t) x p c h
in_choice (simple_by t) x p c h = itself (simple_by t) x p c h
in_choice (hash n) x p c h = itself (hash n) x p c h
in_choice (range a b d) x p c h = itself (range a b d) x p c h
in_choice (control a b d) x p c h = itself (control a b d) x p c h

in_types : (bs : List Body) (x : Term) (p : Point) → Contains (types_in bs) x → Contains (points x) p → Contains (flat_map body_points bs) p
in_types [] x p c h = absurd (omega (arith, c.1))
in_types (of_types t ∷ bs) x p c h = by (Contains-append_cases (choices t) (types_in bs) x c) (in_types bs x p)
  where
    by : Contains (choices t) x ⊎ Contains (types_in bs) x → (Contains (types_in bs) x → Contains (points x) p → Contains (flat_map body_points bs) p) → Contains (points t ++ flat_map body_points bs) p
    by (inl g) rest = Contains-append_left (points t) (flat_map body_points bs) p (in_choice t x p g h)
    by (inr g) rest = Contains-append_right (points t) (flat_map body_points bs) p (rest g h)
in_types (of_entry e ∷ bs) x p c h = Contains-append_right (body_points (of_entry e)) (flat_map body_points bs) p (in_types bs x p c h)

pub choice_reached : (xs : List Definition) (root : Text) (r : Ref) (x : Term) → Reaches xs root r → Contains (type_choices xs r) x → AreReached xs root (points x)
choice_reached xs root r x h c p g = onward h (in_types (bodies xs r) x p c g) refl
