-- Numbers for values: of whole numbers and of strings. All others are in one bucket, after those of a code.
use Rattle.std.specs.Prelude.{ℕ, zero, suc, ◌+◌, ◌-◌, ◌*◌, ◌/◌, ◌%◌, ◌^◌, List, [], ◌∷◌, Option, Some, None, drop, length}
use Rattle.cbor_data.specs.Value.{Value, uint, nint, bytes, text}

-- digits that depend on all those of a number
unfoldable pub mixed : ℕ → ℕ
mixed n = n * 11400714819323198485 % 2 ^ 64 / 2 ^ 32

-- the code of bytes that come after some with this one, and of the last bytes of a string
abbrev pub string_code : ℕ → List ℕ → ℕ
string_code before [] = before
string_code before (b ∷ bs) = string_code ((before * 31 % 2 ^ 64 + b) % 2 ^ 64) bs

abbrev pub tail_code : ℕ → List ℕ → ℕ
tail_code before bs = string_code before (drop (length bs - 64) bs)

-- the code of a value
abbrev pub code_of : Value → Option ℕ
code_of (uint n) = Some (mixed n)
code_of (nint n) = Some (mixed (18446744073709551615 - n))
code_of (bytes s) = Some (mixed (tail_code 0 s))
code_of (text s) = Some (mixed (tail_code 1 s))
code_of _ = None

-- the bucket, of so many, of a code
abbrev pub bucket_by : ℕ → ℕ → ℕ
bucket_by zero code = 0
bucket_by (suc k) code = code % suc k

abbrev pub coded_bucket : ℕ → Option ℕ → ℕ
coded_bucket buckets None = buckets
coded_bucket buckets (Some code) = bucket_by buckets code

-- the bucket of a value
abbrev pub bucket_of : ℕ → Value → ℕ
bucket_of buckets x = coded_bucket buckets (code_of x)
