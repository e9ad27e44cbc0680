-- How many bytes may be read in byte strings, in proportion to the size of an item, and what else counts as such.
use Rattle.std.specs.Prelude.{ℕ, ◌+◌, ◌*◌, ◌/◌, Bool, false, nat_lt, Some, None, length}
use Rattle.cbor_data.specs.Value.{Value, bytes, text, array, pairs, tag, Pairs, no_pairs, pair}
use Rattle.cddl_meaning.specs.Moves.{plus}
use Rattle.cddl_meaning.specs.Size.{size}
use Rattle.item_nodes.specs.View.{view}
use Rattle.match_held.specs.declared.allowance.Allowance.{Allowance}

-- how many bytes may be read in all: an item, while its size is not counted, allows 64 for each of that beside what any item allows
abbrev pub most_in : Allowance → ℕ
most_in a = plus a.most (elim a.item as (λ _. ℕ) [ None ↦ 0 | Some x ↦ 64 * size (view x.now) ])

-- how many bytes a string has
abbrev pub string_length : Value → ℕ
string_length (bytes s) = length s
string_length (text s) = length s
string_length _ = 0

-- whether it has one place, and is no long string
abbrev pub is_small : Value → Bool
is_small (array xs) = false
is_small (pairs ps) = false
is_small (tag n x) = false
is_small x = nat_lt (string_length x) 1024

-- how much work it may be to pass over one entry with each of the keys
abbrev pub work_of_keys : Pairs → ℕ
work_of_keys no_pairs = 0
work_of_keys (pair k v ps) = 1 + string_length k / 64 + work_of_keys ps
