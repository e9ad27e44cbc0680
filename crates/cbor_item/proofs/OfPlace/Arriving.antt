-- How walks end, one after the other.
use Rattle.std.proofs.Common.{◌≡◌, ℕ, List, [], ◌∷◌, ◌++◌, Some, None, Result, Ok, Err, reverse, sym, ap, ◌∙◌, subst, refl, append_assoc}
use Rattle.std.proofs.lemmas.List.{reverse-append, reverse-reverse}
use Rattle.std.specs.Prelude.{codes}
use Rattle.std.specs.Option.{option_map}
use Rattle.std.specs.Result.{result_ok, result_map_both}
use Rattle.cbor_data.specs.Value.{Value}
use Rattle.cbor_item.specs.Place.Paths.{after, path, paths}
use Rattle.cbor_item.specs.Place.Elements.{element_or_rest}
use Rattle.cbor_item.specs.Place.Walked.{Ends}
use Rattle.cbor_item.specs.declared.place.path.Walk.TheVariants.{Arrived, Passed}
use Rattle.cbor_item.proofs.OfPlace.Searching.{element_in, element_after, element-get, element-map}

arrived_at : (r : Result (List ℕ) ℕ) (step old mid new : List ℕ) → Ends r old mid Arrived → new ≡ mid ++ reverse step →
    Ends (result_map_both (λ path. step ++ path) (λ n. n) r) old new Arrived
arrived_at (Ok path) step old mid new h e =
    e ∙ ap (λ l. l ++ reverse step) h ∙ append_assoc old (reverse path) (reverse step) ∙ ap (λ l. old ++ l) (sym (reverse-append step path))
arrived_at (Err n) step old mid new h e = h

passed_at : (r : Result (List ℕ) ℕ) (step old new : List ℕ) (left : ℕ) → Ends r old new (Passed left) →
    Ends (result_map_both (λ path. step ++ path) (λ n. n) r) old new (Passed left)
passed_at (Ok path) step old new left h = h
passed_at (Err n) step old new left h = h

-- the step before the paths is put down after what a walk that arrived put down
pub arrived_after : (step : List ℕ) (ps : List (List ℕ)) (i : ℕ) (old mid new : List ℕ) → Ends (element_or_rest ps i) old mid Arrived → new ≡ mid ++ reverse step →
    Ends (element_or_rest (after step ps) i) old new Arrived
arrived_after step ps i old mid new h e =
    subst (λ r. Ends r old new Arrived) (sym (element-map (λ path. step ++ path) ps i)) (arrived_at (element_or_rest ps i) step old mid new h e)

pub passed_after : (step : List ℕ) (ps : List (List ℕ)) (i : ℕ) (old new : List ℕ) (left : ℕ) → Ends (element_or_rest ps i) old new (Passed left) →
    Ends (element_or_rest (after step ps) i) old new (Passed left)
passed_after step ps i old new left h =
    subst (λ r. Ends r old new (Passed left)) (sym (element-map (λ path. step ++ path) ps i)) (passed_at (element_or_rest ps i) step old new left h)

arrives_in : (xs ys : List (List ℕ)) (i : ℕ) (old new : List ℕ) (r : Result (List ℕ) ℕ) → element_or_rest xs i ≡ r → Ends r old new Arrived →
    Ends (element_or_rest (xs ++ ys) i) old new Arrived
arrives_in xs ys i old new (Ok path) e h = subst (λ r. Ends r old new Arrived) (sym (element_in xs ys i path e)) h
arrives_in xs ys i old new (Err n) e h = absurd h

passes_on : (xs ys : List (List ℕ)) (i : ℕ) (old new : List ℕ) (left : ℕ) (r : Result (List ℕ) ℕ) → element_or_rest xs i ≡ r → Ends r old new (Passed left) →
    (element_or_rest (xs ++ ys) i ≡ element_or_rest ys left) × (new ≡ old)
passes_on xs ys i old new left (Ok path) e h = absurd h
passes_on xs ys i old new left (Err n) e h = (element_after xs ys i n e ∙ ap (element_or_rest ys) (sym h.0), h.1)

-- a walk that arrived among the first paths arrived among all
pub arrived_in : (xs ys : List (List ℕ)) (i : ℕ) (old new : List ℕ) → Ends (element_or_rest xs i) old new Arrived → Ends (element_or_rest (xs ++ ys) i) old new Arrived
arrived_in xs ys i old new h = arrives_in xs ys i old new (element_or_rest xs i) refl h

-- after the first paths the search goes on
pub passed_on : (xs ys : List (List ℕ)) (i : ℕ) (old new : List ℕ) (left : ℕ) → Ends (element_or_rest xs i) old new (Passed left) →
    (element_or_rest (xs ++ ys) i ≡ element_or_rest ys left) × (new ≡ old)
passed_on xs ys i old new left h = passes_on xs ys i old new left (element_or_rest xs i) refl h

told : (r : Result (List ℕ) ℕ) (new : List ℕ) → Ends r [] new Arrived →
    Some (reverse (new ++ 36 ∷ [])) ≡ option_map (λ steps. codes "$" ++ steps) (result_ok r)
told (Ok path) new h = ap Some (reverse-append new (36 ∷ []) ∙ ap (λ l. 36 ∷ l) (ap reverse h ∙ reverse-reverse path))
told (Err n) new h = absurd h

missed : (r : Result (List ℕ) ℕ) (old new : List ℕ) (left : ℕ) → Ends r old new (Passed left) → None ≡ option_map (λ steps. codes "$" ++ steps) (result_ok r)
missed (Ok path) old new left h = absurd h
missed (Err n) old new left h = refl

-- what a walk that arrived put down is the path, when `$` is put down after it and all is turned round
pub told_path : (x : Value) (i : ℕ) (new : List ℕ) → Ends (element_or_rest (paths x) i) [] new Arrived → Some (reverse (new ++ 36 ∷ [])) ≡ path x i
told_path x i new h = told (element_or_rest (paths x) i) new h ∙ ap (option_map (λ steps. codes "$" ++ steps)) (element-get (paths x) i)

pub missed_path : (x : Value) (i : ℕ) (old new : List ℕ) (left : ℕ) → Ends (element_or_rest (paths x) i) old new (Passed left) → None ≡ path x i
missed_path x i old new left h = missed (element_or_rest (paths x) i) old new left h ∙ ap (option_map (λ steps. codes "$" ++ steps)) (element-get (paths x) i)
