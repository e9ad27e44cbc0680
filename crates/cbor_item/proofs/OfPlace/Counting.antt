-- An item has as many paths as places.
use Rattle.std.proofs.Common.{◌≡◌, ℕ, suc, List, ◌++◌, length, refl, ap, ◌∙◌, arith, length-append}
use Rattle.std.proofs.lemmas.List.{length-map}
use Rattle.cbor_data.specs.Value.{Value, uint, nint, bytes, text, array, pairs, tag, simple, float, Values, no_values, value, Pairs, no_pairs, pair, places, values_places, pairs_places, place_count, values_place_count, pairs_place_count}
use Rattle.cbor_item.specs.Place.Paths.{paths, members_paths, pairs_paths, after, member_step, key_step, value_step, content_step}

mutual
  pub paths_alike : (x : Value) → length (paths x) ≡ length (places x)
  paths_alike (uint n) = refl
  paths_alike (nint n) = refl
  paths_alike (bytes bs) = refl
  paths_alike (text bs) = refl
  paths_alike (array xs) = ap suc (members_paths_alike 0 xs)
  paths_alike (pairs ps) = ap suc (pairs_paths_alike ps)
  paths_alike (tag n x) = ap suc (length-map (paths x) (λ path. content_step ++ path) ∙ paths_alike x)
  paths_alike (simple n) = refl
  paths_alike (float w n) = refl

  pub members_paths_alike : (i : ℕ) (xs : Values) → length (members_paths i xs) ≡ length (values_places xs)
  members_paths_alike i no_values = refl
  members_paths_alike i (value x xs) =
      omega (arith, length-append (after (member_step i) (paths x)) (members_paths (suc i) xs), length-map (paths x) (λ path. member_step i ++ path), paths_alike x, members_paths_alike (suc i) xs, length-append (places x) (values_places xs))

  pub pairs_paths_alike : (ps : Pairs) → length (pairs_paths ps) ≡ length (pairs_places ps)
  pairs_paths_alike no_pairs = refl
  pairs_paths_alike (pair k v ps) =
      let keys : length (after (key_step k) (paths k)) ≡ length (places k) = length-map (paths k) (λ path. key_step k ++ path) ∙ paths_alike k in
      let values : length (after (value_step k) (paths v)) ≡ length (places v) = length-map (paths v) (λ path. value_step k ++ path) ∙ paths_alike v in
      omega (arith, length-append (after (key_step k) (paths k)) (after (value_step k) (paths v) ++ pairs_paths ps), length-append (after (value_step k) (paths v)) (pairs_paths ps), pairs_paths_alike ps, length-append (places k) (places v ++ pairs_places ps), length-append (places v) (pairs_places ps))

mutual
  pub places_counted : (x : Value) → length (places x) ≡ place_count x
  places_counted (uint n) = refl
  places_counted (nint n) = refl
  places_counted (bytes bs) = refl
  places_counted (text bs) = refl
  places_counted (array xs) = ap suc (values_places_counted xs)
  places_counted (pairs ps) = ap suc (pairs_places_counted ps)
  places_counted (tag n x) = ap suc (places_counted x)
  places_counted (simple n) = refl
  places_counted (float w n) = refl

  pub values_places_counted : (xs : Values) → length (values_places xs) ≡ values_place_count xs
  values_places_counted no_values = refl
  values_places_counted (value x xs) = omega (arith, length-append (places x) (values_places xs), places_counted x, values_places_counted xs)

  pub pairs_places_counted : (ps : Pairs) → length (pairs_places ps) ≡ pairs_place_count ps
  pairs_places_counted no_pairs = refl
  pairs_places_counted (pair k v ps) =
      omega (arith, length-append (places k) (places v ++ pairs_places ps), length-append (places v) (pairs_places ps), places_counted k, places_counted v, pairs_places_counted ps)

-- a step before each path leaves as many
pub after_alike : (step : List ℕ) (x : Value) → length (after step (paths x)) ≡ length (places x)
after_alike step x = length-map (paths x) (λ path. step ++ path) ∙ paths_alike x
