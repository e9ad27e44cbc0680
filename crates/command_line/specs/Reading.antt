-- How much is read of a specification's file.
use Rattle.std.specs.Prelude.{ℕ, ◌≤◌, List, length, Option}
use Rattle.std.specs.Io.KnownBytes as bytes

-- one byte more than a specification may have
abbrev pub most_read : ℕ
most_read = 1048577

-- At most n bytes were read, whatever came of it.
abbrev pub IsReadWithin : ℕ → Option (List ℕ) → Option (List ℕ) → Type 0
IsReadWithin n before after = (read : List ℕ) × bytes.Consumes before after read × (length read ≤ n)
