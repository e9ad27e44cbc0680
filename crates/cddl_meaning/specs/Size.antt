-- How large an item is: one for itself, and as much as all that is in it, where each byte of a string counts one.
use Rattle.std.specs.Prelude.{ℕ, suc, ◌+◌, length, List, [], ◌∷◌}
use Rattle.cbor_data.specs.Value.{Value, uint, nint, bytes, text, array, pairs, tag, simple, float, Values, no_values, value, Pairs, no_pairs, pair}
use Rattle.cddl_meaning.specs.Moves.{Question, OfType, OfGroup, OfAlternative}

abbrev mutual
  pub size : Value → ℕ
  size (uint n) = 1
  size (nint n) = 1
  size (bytes bs) = suc (length bs)
  size (text bs) = suc (length bs)
  size (array xs) = suc (values_size xs)
  size (pairs ps) = suc (pairs_size ps)
  size (tag n x) = suc (size x)
  size (simple n) = 1
  size (float w n) = 1

  pub values_size : Values → ℕ
  values_size no_values = 0
  values_size (value x xs) = size x + values_size xs

  pub pairs_size : Pairs → ℕ
  pairs_size no_pairs = 0
  pairs_size (pair k v ps) = size k + (size v + pairs_size ps)

-- A list counts one more than its items, as an array does.
abbrev pub list_size : List Value → ℕ
list_size [] = 1
list_size (x ∷ xs) = size x + list_size xs

-- The size of what is asked about. An alternative's pairs count as their map does.
abbrev pub size_of : {N G : Type 0} → Question N G → ℕ
size_of (OfType n p x) = size x
size_of (OfGroup g base q xs) = list_size xs
size_of (OfAlternative es base ps) = suc (pairs_size ps)
