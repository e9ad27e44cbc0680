-- The paths of an item's places, as text: `$`, and a step for each level.
use Rattle.std.specs.Prelude.{ℕ, suc, List, [], ◌∷◌, ◌++◌, map, codes, decimal, Option, slice_get}
use Rattle.std.specs.Option.{option_map}
use Rattle.cbor_data.specs.Notation.{notation}
use Rattle.cbor_data.specs.Value.{Value, uint, nint, bytes, text, array, pairs, tag, simple, float, Values, no_values, value, Pairs, no_pairs, pair}

-- `[0]`, to the member of an array at this index
abbrev pub member_step : ℕ → List ℕ
member_step i = codes "[" ++ (decimal i ++ codes "]")

-- `<"a">`, to this key of a map
abbrev pub key_step : Value → List ℕ
key_step k = codes "<" ++ (notation k ++ codes ">")

-- `{"a"}`, to the value at this key
abbrev pub value_step : Value → List ℕ
value_step k = codes "{" ++ (notation k ++ codes "}")

-- `()`, to the content of a tag
abbrev pub content_step : List ℕ
content_step = codes "()"

-- the same paths, with a step before each
abbrev pub after : List ℕ → List (List ℕ) → List (List ℕ)
after step paths = map (λ path. step ++ path) paths

-- the steps to each place, in the places' order; `members_paths i` is of the members of an array from index i on
abbrev mutual
  pub paths : Value → List (List ℕ)
  paths (uint n) = [] ∷ []
  paths (nint n) = [] ∷ []
  paths (bytes bs) = [] ∷ []
  paths (text bs) = [] ∷ []
  paths (array xs) = [] ∷ members_paths 0 xs
  paths (pairs ps) = [] ∷ pairs_paths ps
  paths (tag n x) = [] ∷ after content_step (paths x)
  paths (simple n) = [] ∷ []
  paths (float w n) = [] ∷ []

  pub members_paths : ℕ → Values → List (List ℕ)
  members_paths i no_values = []
  members_paths i (value x xs) = after (member_step i) (paths x) ++ members_paths (suc i) xs

  pub pairs_paths : Pairs → List (List ℕ)
  pairs_paths no_pairs = []
  pairs_paths (pair k v ps) = after (key_step k) (paths k) ++ (after (value_step k) (paths v) ++ pairs_paths ps)

-- the path of a place, if there is one
abbrev pub path : Value → ℕ → Option (List ℕ)
path x place = option_map (λ steps. codes "$" ++ steps) (slice_get (paths x) place)
