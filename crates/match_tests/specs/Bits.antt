-- The bits of a part of an item.
use Rattle.std.specs.Prelude.{ℕ, ◌+◌, ◌*◌, ◌/◌, ◌%◌, Bool, List, Option, Some, None, filter, get_or, length, map}
use Rattle.cbor_data.specs.Value.{Value, bytes, uint}
use Rattle.cddl_meaning.specs.Forms.{has_bit, numbers_below}

-- the numbers of the bits that are set among the lowest ones of a word, so many, where the lowest has this number
unfoldable pub bits_of : (first word width : ℕ) → List ℕ
bits_of first word width = map (λ k. first + k) (filter (has_bit word) (numbers_below width))

-- those that are set in the first bytes of a string, so many
abbrev pub string_bit : List ℕ → ℕ → Bool
string_bit s k = has_bit (get_or s (k / 8) 0) (k % 8)

unfoldable pub bits_in_first : List ℕ → (count : ℕ) → List ℕ
bits_in_first s count = filter (string_bit s) (numbers_below (8 * count))

-- those that are set in an item, a word after the other
abbrev pub bits_in : Value → Option (List ℕ)
bits_in (uint n) = Some (bits_of 0 n 64)
bits_in (bytes s) = Some (bits_in_first s (length s))
bits_in _ = None
