-- Forms of types and groups (RFC 8610 sections 2 and 3), whose parts are named in some way: by numbers of a table, or by
-- the trees of a specification themselves.
use Rattle.std.specs.Prelude.{ℕ, zero, suc, ◌*◌, ◌/◌, ◌%◌, ◌^◌, length, List, [], ◌∷◌, filter, get_or, Option, Some, None, Bool, true, false, nat_lt, nat_le, nat_eq, ◌&&◌, ◌||◌, not, bit_and}
use Rattle.cbor_data.specs.declared.Width.{Width}
use Rattle.cbor_data.specs.Same.{same_value, same_width}
use Rattle.cbor_data.specs.Value.{Value, uint, nint, bytes, text, array, pairs, tag, simple, float, Values, no_values, value, Pairs}

-- What is asked of an item by itself (RFC 8610 sections 2.2.1, 2.2.2.1 and 2.2.3): `any` and `#`, a major type, a simple
-- value, a float of one width, a value, or a range; and what the controls `.ne`, `.lt`, `.le`, `.gt`, `.ge`, `.size` and
-- `.bits` ask (section 3.8; `.eq` asks for a value).
pub data Test : Type 0 where
  anything : Test
  of_major : ℕ → Test
  simple_value : ℕ → Test
  float_of : Width → Test
  equals : Value → Test
  -- from one whole number to another, with the last in `a..b`, without it in `a...b`
  between : (least last : Value) → (closed : Bool) → Test
  differs_from : Value → Test
  -- a whole number that is less than this one; this one or less; greater; this one or greater
  less_than : Value → Test
  at_most_number : Value → Test
  greater_than : Value → Test
  at_least_number : Value → Test
  -- as many bytes as a member of these ranges says, each a first and a last number
  sized : List (ℕ × ℕ) → Test
  -- each bit that is set has a number that is a member of these ranges; it stands only as the test of a control
  bits_among : List (ℕ × ℕ) → Test

-- the major type (RFC 8949 section 3.1)
abbrev pub major_of : Value → ℕ
major_of (uint n) = 0
major_of (nint n) = 1
major_of (bytes b) = 2
major_of (text b) = 3
major_of (array xs) = 4
major_of (pairs ps) = 5
major_of (tag n x) = 6
major_of (simple n) = 7
major_of (float w n) = 7

-- The first whole number is less than the second. Other items have no part in this order.
abbrev pub is_below : Value → Value → Bool
is_below (uint m) (uint n) = nat_lt m n
is_below (nint m) (uint n) = true
is_below (nint m) (nint n) = nat_lt n m
is_below _ _ = false

-- the first whole number is the second or less
abbrev pub is_up_to : Value → Value → Bool
is_up_to (uint m) (uint n) = nat_le m n
is_up_to (nint m) (uint n) = true
is_up_to (nint m) (nint n) = nat_le n m
is_up_to _ _ = false

-- the simple value of this number (RFC 8949 section 3.3)
abbrev pub is_simple : ℕ → Value → Bool
is_simple n (simple m) = nat_eq m n
is_simple n _ = false

-- a float written with this width; its value does not count
abbrev pub is_float : Width → Value → Bool
is_float w (float v n) = same_width v w
is_float w _ = false

-- the number lies in one of the ranges
abbrev pub is_member : ℕ → List (ℕ × ℕ) → Bool
is_member n [] = false
is_member n (r ∷ rs) = (nat_le r.0 n && nat_le n r.1) || is_member n rs

-- The unsigned number is less than 256^m for a member m of the ranges, and so for their greatest member.
abbrev pub fits_in : ℕ → List (ℕ × ℕ) → Bool
fits_in n [] = false
fits_in n (r ∷ rs) = (nat_le r.0 r.1 && nat_lt n (256 ^ r.1)) || fits_in n rs

-- The size of a text is the number of its bytes, not of its characters. Items of other kinds have no size (section 3.8.1).
abbrev pub has_size : List (ℕ × ℕ) → Value → Bool
has_size rs (uint n) = fits_in n rs
has_size rs (bytes b) = is_member (length b) rs
has_size rs (text b) = is_member (length b) rs
has_size rs _ = false

-- the bit of value 2^k is set in the number n
abbrev pub has_bit : (n k : ℕ) → Bool
has_bit n k = not (nat_eq (bit_and n (2 ^ k)) 0)

abbrev pub numbers_below : ℕ → List ℕ
numbers_below zero = []
numbers_below (suc n) = n ∷ numbers_below n

-- The numbers of the bits that are set (section 3.8.2): of an unsigned number bit k is the one of value 2^k; bit k of a byte
-- string s is set where `s[k >> 3] & (1 << (k & 7))` is not 0, so bit 0 is the lowest of the first byte. Items of other kinds
-- have no bits.
unfoldable pub bits_set : Value → Option (List ℕ)
bits_set (uint n) = Some (filter (has_bit n) (numbers_below 64))
bits_set (bytes s) = Some (filter (λ k. has_bit (get_or s (k / 8) 0) (k % 8)) (numbers_below (8 * length s)))
bits_set _ = None

abbrev pub are_members : List ℕ → List (ℕ × ℕ) → Bool
are_members [] rs = true
are_members (n ∷ ns) rs = is_member n rs && are_members ns rs

abbrev pub are_bits_among : List (ℕ × ℕ) → Option (List ℕ) → Bool
are_bits_among rs (Some ns) = are_members ns rs
are_bits_among rs None = false

-- An item passes a test. A value is matched by the same value alone: numbers of other kinds, and floats of other widths,
-- differ.
abbrev pub passes : Test → Value → Bool
passes anything x = true
passes (of_major m) x = nat_eq (major_of x) m
passes (simple_value n) x = is_simple n x
passes (float_of w) x = is_float w x
passes (equals v) x = same_value x v
passes (between least last true) x = is_up_to least x && is_up_to x last
passes (between least last false) x = is_up_to least x && is_below x last
passes (differs_from v) x = not (same_value x v)
passes (less_than v) x = is_below x v
passes (at_most_number v) x = is_up_to x v
passes (greater_than v) x = is_below v x
passes (at_least_number v) x = is_up_to v x
passes (sized rs) x = has_size rs x
passes (bits_among rs) x = are_bits_among rs (bits_set x)

abbrev pub bit_count : Option (List ℕ) → ℕ
bit_count (Some ns) = length ns
bit_count None = 0

-- how many bits of an item a test is about: those that are set, members or not
abbrev pub bits_asked : Test → Value → ℕ
bits_asked (bits_among rs) x = bit_count (bits_set x)
bits_asked _ x = 0

-- the members as a list
abbrev pub list_of : Values → List Value
list_of no_values = []
list_of (value x xs) = x ∷ list_of xs

-- the members of an array, in their order
abbrev pub members_in : Value → Option (List Value)
members_in (array xs) = Some (list_of xs)
members_in _ = None

-- the pairs of a map, in their order
abbrev pub pairs_in : Value → Option Pairs
pairs_in (pairs ps) = Some ps
pairs_in _ = None

-- the bytes of a byte string
abbrev pub bytes_in : Value → Option (List ℕ)
bytes_in (bytes b) = Some b
bytes_in _ = None

-- the number and the content of a tag
abbrev pub tag_in : Value → Option (ℕ × Value)
tag_in (tag n x) = Some (n, x)
tag_in _ = None

-- the number of a simple value
abbrev pub simple_in : Value → Option ℕ
simple_in (simple n) = Some n
simple_in _ = None

-- Which tag numbers are meant (RFC 8610 section 3.6): any, one, or those that a type says yes to, as unsigned items.
pub data TagNumber (N : Type 0) : Type 0 where
  any_number : TagNumber N
  exactly : ℕ → TagNumber N
  such_as : N → TagNumber N

-- What a control reads in a byte string (section 3.8.4): one item, `.cbor`; or a CBOR sequence, `.cborseq`.
pub data Content : Type 0 where
  one_item : Content
  sequence_of_items : Content

-- how often at most: `a*b`, or `a*` with no end (section 3.2)
pub data Most : Type 0 where
  at_most : ℕ → Most
  any_number_of : Most

-- An entry of a map (section 3.5): how many pairs may belong to it, which keys they have, and what their values are to be.
-- Where it cuts, a pair whose key it takes belongs to it and to no later entry, whatever the value.
pub record MapEntry (N : Type 0) : Type 0 where
  pub least : ℕ
  pub most : Most
  pub key_type : N
  pub cuts : Bool
  pub value_type : N

-- A node is a type whose parts are types named by N and groups named by G.
pub data Node (N G : Type 0) : Type 0 where
  Plain : Test → Node N G
  -- what another type says
  Ref : N → Node N G
  -- `a / b / ..` (section 2.2.2): the first that says yes
  Choice : List N → Node N G
  -- `[ group ]` (section 3.4)
  ArrayOf : G → Node N G
  -- `#6.n(type)` (section 3.6)
  TagOf : TagNumber N → N → Node N G
  -- `#7.<type>`: the simple values to whose number the type says yes
  SimpleBy : N → Node N G
  -- `{ group }`: the alternatives that the group stands for, each a list of entries
  MapOf : List (List (MapEntry N)) → Node N G
  -- `.and` and `.within` (section 3.8.5): what both say yes to
  Both : N → N → Node N G
  -- a control by a test (section 3.8): what the type says yes to, if it passes
  Such : N → Test → Node N G
  -- `.cbor` and `.cborseq`: the byte strings to which the first type says yes, and the second one to what they hold
  Holding : N → Content → N → Node N G

-- A group, asked of a list of items: the members of an array from one of them on.
pub data Group (N G : Type 0) : Type 0 where
  -- one item, of this type
  Entry : N → Group N G
  -- what another group does
  GroupRef : G → Group N G
  -- `a, b, ..` (section 2.1): each with what the one before left
  Sequence : List G → Group N G
  -- `a // b // ..` (section 2.2.2): the first that does not fail
  Alternatives : List G → Group N G
  -- an occurrence (section 3.2)
  Repeat : (least : ℕ) → Most → G → Group N G

-- What is counted where a pair of a map is tried with the entries of an alternative: every entry, asked or not; or those that
-- are asked, where an entry is passed over whose key type is known to be one value, and the pair's key is another.
pub data Counting (N : Type 0) : Type 0 where
  every_entry : Counting N
  by_keys : (N → Option Value) → Counting N

-- the key is another than the one value that is known
abbrev pub is_other : Option Value → Value → Bool
is_other None k = false
is_other (Some v) k = not (same_value k v)

-- An entry with this key type is passed over by a pair with this key.
abbrev pub is_passed_over : {N : Type 0} → Counting N → N → Value → Bool
is_passed_over every_entry n k = false
is_passed_over (by_keys f) n k = is_other (f n) k

-- what a pair counts that is tried with so many entries, and what each entry counts that is asked about it
abbrev pub pair_cost : {N : Type 0} → Counting N → ℕ → ℕ
pair_cost every_entry n = suc n
pair_cost (by_keys f) n = 1

abbrev pub entry_cost : {N : Type 0} → Counting N → ℕ
entry_cost every_entry = 0
entry_cost (by_keys f) = 1

-- The one value that a type is, by its form: a value, or what a name stands for, or a choice of one. (`next`: of the types
-- that it names.)
abbrev pub key_by : {N G : Type 0} → (N → Option Value) → Node N G → Option Value
key_by next (Plain (equals v)) = Some v
key_by next (Ref m) = next m
key_by next (Choice (m ∷ [])) = next m
key_by next _ = None

-- through so many of them
unfoldable pub key_in : {N G : Type 0} → (N → Node N G) → ℕ → N → Option Value
key_in type_at zero n = key_by (λ m. None) (type_at n)
key_in type_at (suc k) n = key_by (λ m. key_in type_at k m) (type_at n)

-- so many forms are gone through to find the value of a key, and one more
unfoldable pub most_forms : ℕ
most_forms = 16

-- what is counted by the keys that forms show
abbrev pub by_forms : {N G : Type 0} → (N → Node N G) → Counting N
by_forms type_at = by_keys (key_in type_at most_forms)

-- what each name stands for, and what is counted
pub record Language (N G : Type 0) : Type 0 where
  pub type_at : N → Node N G
  pub group_at : G → Group N G
  pub counting : Counting N
