-- The bits that are set, a word after the other.
use Rattle.std.proofs.Common.{◌≡◌, ℕ, zero, suc, ◌+◌, ◌-◌, ◌*◌, ◌/◌, ◌%◌, ◌^◌, ◌<◌, ◌≤◌, List, [], ◌∷◌, ◌++◌, map, filter, get_or, length, Bool, true, false, Some, cond, count_ones, nat_eq, inl, inr, ◌⊎◌, refl, sym, ap, ap₂, subst, ◌∙◌, arith}
use Rattle.std.specs.Prelude.{not, ◌&&◌, ◌||◌}
use Rattle.std.specs.Int.{bit_at}
use Rattle.std.proofs.lemmas.Nat.{div-add-mod', ones_le_self, ones_cat, pow_pos}
use native.Mathlib.Nat.{mod-lt}
use lib.Pow.{shr_lt}
use lib.Count.{ones_step}
use Rattle.std.proofs.lemmas.Nat.Bits.{and_pow, bit_at_cat_high, bit_at_cat_low, bit_at_lowest}
use Rattle.lists.proofs.Lemmas.{and_false, same_or_not, unequal_number}
use Rattle.cddl_meaning.specs.Forms.{are_members, bits_set, has_bit, is_member, numbers_below}
use Rattle.cbor_data.specs.Value.{Value, bytes, uint}
use Rattle.match_tests.specs.Bits.{bits_in, bits_in_first, bits_of, string_bit}

and_later : (a b c : Bool) → (a && (b && c)) ≡ ((a && b) && c)
and_later true b c = refl
and_later false b c = refl

members_both : (rs : List (ℕ × ℕ)) (ns ms : List ℕ) → are_members (ns ++ ms) rs ≡ (are_members ns rs && are_members ms rs)
members_both rs [] ms = refl
members_both rs (n ∷ ns) ms = ap (λ b. is_member n rs && b) (members_both rs ns ms) ∙ and_later (is_member n rs) (are_members ns rs) (are_members ms rs)

length_both : (ns ms : List ℕ) → length (ns ++ ms) ≡ length ns + length ms
length_both [] ms = omega arith
length_both (n ∷ ns) ms = omega (arith, length_both ns ms)

length_map : (f : ℕ → ℕ) (ns : List ℕ) → length (map f ns) ≡ length ns
length_map f [] = refl
length_map f (n ∷ ns) = ap suc (length_map f ns)

map_none : (ns : List ℕ) → map (λ k. 0 + k) ns ≡ ns
map_none [] = refl
map_none (n ∷ ns) = ap₂ (λ m ms. m ∷ ms) (let e : 0 + n ≡ n = omega arith in e) (map_none ns)

-- Numbers that pass a test, below a sum: those from the first summand on, and those below it.
below_sum : (p : ℕ → Bool) (a w : ℕ) → filter p (numbers_below (a + w)) ≡ map (λ k. a + k) (filter (λ k. p (a + k)) (numbers_below w)) ++ filter p (numbers_below a)
below_sum p a zero = ap (λ n. filter p (numbers_below n)) (let e : a + 0 ≡ a = omega arith in e)
below_sum p a (suc w) = ap (λ n. filter p (numbers_below n)) (let e : a + suc w ≡ suc (a + w) = omega arith in e) ∙ with_last (p (a + w)) _ _ _ (below_sum p a w)
  where
    with_last : (b : Bool) (ns ms ks : List ℕ) → ns ≡ map (λ k. a + k) ms ++ ks → cond b ((a + w) ∷ ns) ns ≡ map (λ k. a + k) (cond b (w ∷ ms) ms) ++ ks
    with_last true ns ms ks e = ap (λ ns. (a + w) ∷ ns) e
    with_last false ns ms ks e = e

pass_alike : (p q : ℕ → Bool) (w : ℕ) → ((k : ℕ) → k < w → p k ≡ q k) → filter p (numbers_below w) ≡ filter q (numbers_below w)
pass_alike p q zero h = refl
pass_alike p q (suc w) h = ap₂ (λ b ns. cond b (w ∷ ns) ns) (h w (omega arith)) (pass_alike p q w (λ k l. h k (omega (arith, l))))

bit_of_byte : (s : List ℕ) (i k : ℕ) → k < 8 → string_bit s (8 * i + k) ≡ has_bit (get_or s i 0) k
bit_of_byte s i k h = ap₂ (λ j m. has_bit (get_or s j 0) m) (let e : (8 * i + k) / 8 ≡ i = omega (arith, h) in e) (let e : (8 * i + k) % 8 ≡ k = omega (arith, h) in e)

pub next_byte : (s : List ℕ) (i : ℕ) → bits_in_first s (i + 1) ≡ bits_of (8 * i) (get_or s i 0) 8 ++ bits_in_first s i
unfolding bits_of bits_in_first
next_byte s i =
    ap (λ n. filter (string_bit s) (numbers_below n)) (let e : 8 * (i + 1) ≡ 8 * i + 8 = omega arith in e)
    ∙ below_sum (string_bit s) (8 * i) 8
    ∙ ap (λ ns. map (λ k. 8 * i + k) ns ++ bits_in_first s i) (pass_alike (λ k. string_bit s (8 * i + k)) (has_bit (get_or s i 0)) 8 (bit_of_byte s i))

pub later_bytes : (s : List ℕ) (i j : ℕ) → i ≤ j → (ns : List ℕ) × (bits_in_first s j ≡ ns ++ bits_in_first s i)
unfolding bits_in_first
later_bytes s i j h =
    let e : 8 * j ≡ 8 * i + (8 * j - 8 * i) = omega (arith, h) in
    (_, ap (λ n. filter (string_bit s) (numbers_below n)) e ∙ below_sum (string_bit s) (8 * i) (8 * j - 8 * i))

-- The bits of the next byte are members or not.
pub next_members : (rs : List (ℕ × ℕ)) (s : List ℕ) (i : ℕ) → are_members (bits_in_first s (i + 1)) rs ≡ (are_members (bits_of (8 * i) (get_or s i 0) 8) rs && are_members (bits_in_first s i) rs)
next_members rs s i = ap (λ ns. are_members ns rs) (next_byte s i) ∙ members_both rs (bits_of (8 * i) (get_or s i 0) 8) (bits_in_first s i)

pub never_members : (rs : List (ℕ × ℕ)) (s : List ℕ) (i j : ℕ) → i ≤ j → are_members (bits_in_first s i) rs ≡ false → are_members (bits_in_first s j) rs ≡ false
never_members rs s i j h e =
    let l = later_bytes s i j h in
    ap (λ ns. are_members ns rs) l.1 ∙ members_both rs l.0 (bits_in_first s i) ∙ ap (λ b. are_members l.0 rs && b) e ∙ and_false (are_members l.0 rs)

none_of : (rs : List (ℕ × ℕ)) (first : ℕ) → true ≡ are_members (bits_of first 0 8) rs
unfolding bits_of
none_of rs first = refl

pub none_set : (rs : List (ℕ × ℕ)) (first byte : ℕ) → byte ≡ 0 → true ≡ are_members (bits_of first byte 8) rs
none_set rs first byte e = none_of rs first ∙ ap (λ b. are_members (bits_of first b 8) rs) (sym e)

-- one bit more of a word
pub next_bit : (rs : List (ℕ × ℕ)) (first word k : ℕ) → are_members (bits_of first word (k + 1)) rs ≡ ((not (has_bit word k) || is_member (first + k) rs) && are_members (bits_of first word k) rs)
unfolding bits_of
next_bit rs first word k = ap (λ n. are_members (map (λ j. first + j) (filter (has_bit word) (numbers_below n))) rs) (let e : k + 1 ≡ suc k = omega arith in e) ∙ by_bit (has_bit word k) (filter (has_bit word) (numbers_below k))
  where
    by_bit : (b : Bool) (ns : List ℕ) → are_members (map (λ j. first + j) (cond b (k ∷ ns) ns)) rs ≡ ((not b || is_member (first + k) rs) && are_members (map (λ j. first + j) ns) rs)
    by_bit true ns = refl
    by_bit false ns = refl

not_with : (rs : List (ℕ × ℕ)) (first word k w : ℕ) → (not (has_bit word k) || is_member (first + k) rs) ≡ false → (k ≡ w) ⊎ ((k ≡ w → ⊥) × (are_members (bits_of first word w) rs ≡ false)) → ((not (has_bit word w) || is_member (first + w) rs) && are_members (bits_of first word w) rs) ≡ false
not_with rs first word k w m (inl e) = ap (λ n. (not (has_bit word n) || is_member (first + n) rs) && are_members (bits_of first word w) rs) (sym e) ∙ ap (λ b. b && are_members (bits_of first word w) rs) m
not_with rs first word k w m (inr n) = ap (λ b. (not (has_bit word w) || is_member (first + w) rs) && b) n.1 ∙ and_false _

or_apart : {A B : Type 0} → A ⊎ (A → ⊥) → ((A → ⊥) → B) → A ⊎ ((A → ⊥) × B)
or_apart (inl a) f = inl a
or_apart (inr n) f = inr (n, f n)

pub not_all : (rs : List (ℕ × ℕ)) (first word k w : ℕ) → k < w → (not (has_bit word k) || is_member (first + k) rs) ≡ false → are_members (bits_of first word w) rs ≡ false
not_all rs first word k zero h m = absurd (omega (arith, h))
not_all rs first word k (suc w) h m = ap (λ n. are_members (bits_of first word n) rs) (let e : suc w ≡ w + 1 = omega arith in e) ∙ next_bit rs first word w ∙ not_with rs first word k w m (or_apart (same_or_not k w) (λ n. not_all rs first word k w (omega (arith, h, n)) m))

pub no_bit : (rs : List (ℕ × ℕ)) (first word : ℕ) → are_members (bits_of first word 0) rs ≡ true
unfolding bits_of
no_bit rs first word = refl

-- from number 0 on
pub word_bits : (word w : ℕ) → bits_of 0 word w ≡ filter (has_bit word) (numbers_below w)
unfolding bits_of
word_bits word w = map_none (filter (has_bit word) (numbers_below w))

-- how many bits are set
one_digit : (a : ℕ) → a < 2 → count_ones a ≡ a
one_digit zero h = omega (arith, ones_le_self 0)
one_digit (suc zero) h = ones_step 1 ∙ (let e : 1 % 2 + count_ones (1 / 2) ≡ 1 = omega (arith, ones_le_self (1 / 2)) in e)
one_digit (suc (suc a)) h = absurd (omega (arith, h))

alike_bit : (n m k : ℕ) → bit_at n k ≡ bit_at m k → has_bit n k ≡ has_bit m k
alike_bit n m k e = ap (λ x. not (nat_eq x 0)) (and_pow n k ∙ ap (λ b. b * 2 ^ k) e ∙ sym (and_pow m k))

has_digit : (a x : ℕ) → a < 2 → 0 < x → not (nat_eq (a * x) 0) ≡ nat_eq a 1
has_digit zero x h p = ap (λ y. not (nat_eq y 0)) (let e : 0 * x ≡ 0 = omega arith in e)
has_digit (suc zero) x h p = ap not (unequal_number (1 * x) 0 (λ e. absurd (omega (arith, p, e))))
has_digit (suc (suc a)) x h p = absurd (omega (arith, h))

has_top : (w a r : ℕ) → a < 2 → r < 2 ^ w → has_bit (a * 2 ^ w + r) w ≡ nat_eq a 1
has_top w a r h l =
    let top : bit_at (a * 2 ^ w + r) w ≡ a = bit_at_cat_high a w r w l (omega arith) ∙ ap (λ k. bit_at a k) (let e : w - w ≡ 0 = omega arith in e) ∙ bit_at_lowest a ∙ (let e : a % 2 ≡ a = omega (arith, h) in e) in
    ap (λ x. not (nat_eq x 0)) (and_pow (a * 2 ^ w + r) w ∙ ap (λ b. b * 2 ^ w) top) ∙ has_digit a (2 ^ w) h (pow_pos w)

length_top : (a w : ℕ) (ns : List ℕ) → a < 2 → length (cond (nat_eq a 1) (w ∷ ns) ns) ≡ a + length ns
length_top zero w ns h = omega arith
length_top (suc zero) w ns h = omega arith
length_top (suc (suc a)) w ns h = absurd (omega (arith, h))

with_top : (w a r : ℕ) → a < 2 → r < 2 ^ w → length (filter (has_bit r) (numbers_below w)) ≡ count_ones r → length (filter (has_bit (a * 2 ^ w + r)) (numbers_below (suc w))) ≡ count_ones (a * 2 ^ w + r)
with_top w a r h l e =
    let low = pass_alike (has_bit (a * 2 ^ w + r)) (has_bit r) w (λ k i. alike_bit (a * 2 ^ w + r) r k (bit_at_cat_low a w r k i)) in
    ap₂ (λ b ns. length (cond b (w ∷ ns) ns)) (has_top w a r h l) low ∙ length_top a w (filter (has_bit r) (numbers_below w)) h ∙ (omega (arith, e, one_digit a h, ones_cat w a r l))

pub all_counted : (w n : ℕ) → n < 2 ^ w → length (filter (has_bit n) (numbers_below w)) ≡ count_ones n
all_counted zero n h = omega (arith, h, ones_le_self n)
all_counted (suc w) n h =
    let parts : n / 2 ^ w * 2 ^ w + n % 2 ^ w ≡ n = div-add-mod' n (2 ^ w) in
    let low = mod-lt n (pow_pos w) in
    ap (λ m. length (filter (has_bit m) (numbers_below (suc w)))) (sym parts) ∙ with_top w (n / 2 ^ w) (n % 2 ^ w) (shr_lt 1 w (subst (λ k. n < 2 ^ k) (let e : suc w ≡ 1 + w = omega arith in e) h)) low (all_counted w (n % 2 ^ w) low) ∙ ap count_ones parts

-- those of a byte, and of a string with one byte more
pub byte_count : (first byte : ℕ) → byte < 2 ^ 8 → length (bits_of first byte 8) ≡ count_ones byte
unfolding bits_of
byte_count first byte h = length_map (λ k. first + k) (filter (has_bit byte) (numbers_below 8)) ∙ all_counted 8 byte h

pub next_count : (s : List ℕ) (i : ℕ) → get_or s i 0 < 2 ^ 8 → length (bits_in_first s (i + 1)) ≡ count_ones (get_or s i 0) + length (bits_in_first s i)
next_count s i h = ap length (next_byte s i) ∙ length_both (bits_of (8 * i) (get_or s i 0) 8) (bits_in_first s i) ∙ ap (λ n. n + length (bits_in_first s i)) (byte_count (8 * i) (get_or s i 0) h)

pub more_counted : (s : List ℕ) (i j : ℕ) → i ≤ j → length (bits_in_first s i) ≤ length (bits_in_first s j)
more_counted s i j h = let l = later_bytes s i j h in omega (arith, ap length l.1, length_both l.0 (bits_in_first s i))

-- where the next bits are members, all so far are
pub one_bit_more : (rs : List (ℕ × ℕ)) (first word k : ℕ) → (not (has_bit word k) || is_member (first + k) rs) ≡ true → are_members (bits_of first word k) rs ≡ true → are_members (bits_of first word (k + 1)) rs ≡ true
one_bit_more rs first word k e h = next_bit rs first word k ∙ ap₂ (λ a b. a && b) e h

pub one_byte_more : (rs : List (ℕ × ℕ)) (s : List ℕ) (i byte : ℕ) → byte ≡ get_or s i 0 → are_members (bits_of (8 * i) byte 8) rs ≡ true → are_members (bits_in_first s i) rs ≡ true → are_members (bits_in_first s (i + 1)) rs ≡ true
one_byte_more rs s i byte b e h = next_members rs s i ∙ ap₂ (λ a b. a && b) (ap (λ b. are_members (bits_of (8 * i) b 8) rs) (sym b) ∙ e) h

pub no_byte : (rs : List (ℕ × ℕ)) (s : List ℕ) (i byte : ℕ) → i < length s → byte ≡ get_or s i 0 → are_members (bits_of (8 * i) byte 8) rs ≡ false → are_members (bits_in_first s (length s)) rs ≡ false
no_byte rs s i byte h b e = never_members rs s (i + 1) (length s) (omega (arith, h)) (next_members rs s i ∙ ap (λ a. a && are_members (bits_in_first s i) rs) (ap (λ b. are_members (bits_of (8 * i) b 8) rs) (sym b) ∙ e))

pub none_first : (rs : List (ℕ × ℕ)) (s : List ℕ) → are_members (bits_in_first s 0) rs ≡ true
unfolding bits_in_first
none_first rs s = refl

pub none_counted : (s : List ℕ) → length (bits_in_first s 0) ≡ 0
unfolding bits_in_first
none_counted s = refl

pub number_count : (n : ℕ) → n < 2 ^ 64 → length (bits_of 0 n 64) ≡ count_ones n
number_count n h = ap length (word_bits n 64) ∙ all_counted 64 n h

-- the bits of an item, a word after the other, are those of the definition
pub same_bits : (x : Value) → bits_in x ≡ bits_set x
unfolding bits_set bits_in_first
same_bits (uint n) = ap Some (word_bits n 64)
same_bits (bytes s) = refl
same_bits _ = refl
