-- Whether two values are equal, pairs in the same order too, as a test.
use Rattle.std.specs.Prelude.{ℕ, List, [], ◌∷◌, Bool, true, false, ◌&&◌, ◌==◌}
use Rattle.cbor_data.specs.declared.Width.{Width}
use Rattle.cbor_data.specs.declared.Width.TheVariants.{W16, W32, W64}
use Rattle.cbor_data.specs.Value.{Value, uint, nint, bytes, text, array, pairs, tag, simple, float, Values, no_values, value, Pairs, no_pairs, pair}

abbrev pub same_list : List ℕ → List ℕ → Bool
same_list [] [] = true
same_list (x ∷ xs) (y ∷ ys) = (x == y) && same_list xs ys
same_list _ _ = false

abbrev pub same_width : Width → Width → Bool
same_width W16 W16 = true
same_width W32 W32 = true
same_width W64 W64 = true
same_width _ _ = false

abbrev mutual
  pub same_value : Value → Value → Bool
  same_value (uint m) (uint n) = m == n
  same_value (nint m) (nint n) = m == n
  same_value (bytes s) (bytes t) = same_list s t
  same_value (text s) (text t) = same_list s t
  same_value (array xs) (array ys) = same_values xs ys
  same_value (pairs ps) (pairs qs) = same_pairs ps qs
  same_value (tag m x) (tag n y) = (m == n) && same_value x y
  same_value (simple m) (simple n) = m == n
  same_value (float v m) (float w n) = same_width v w && (m == n)
  same_value _ _ = false

  pub same_values : Values → Values → Bool
  same_values no_values no_values = true
  same_values (value x xs) (value y ys) = same_value x y && same_values xs ys
  same_values _ _ = false

  pub same_pairs : Pairs → Pairs → Bool
  same_pairs no_pairs no_pairs = true
  same_pairs (pair k v ps) (pair l w qs) = same_value k l && (same_value v w && same_pairs ps qs)
  same_pairs _ _ = false
