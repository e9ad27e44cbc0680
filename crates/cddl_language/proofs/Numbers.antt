-- The numbers that are read in texts are those that the texts spell.
use Rattle.std.proofs.Common.{◌≡◌, ◌≢◌, ℕ, zero, suc, ◌+◌, ◌-◌, ◌<◌, ◌≤◌, ◌⊎◌, inl, inr, Bool, true, false, if◌then◌else◌, List, [], ◌∷◌, take, drop, length, get_or, slice_index, refl, sym, ap, ◌∙◌, subst, arith, add-one, drop-cons, length-drop}
use Rattle.std.specs.Prelude.{slice_range}
use Rattle.std.proofs.Math.Seq.{take-length}
use Rattle.std.proofs.lemmas.List.{take_all, drop_all, get_or-drop, get_or_past}
use Rattle.std.proofs.lemmas.Bool.{cases_lt, false≢true}
use Rattle.std.proofs.lemmas.Bool.Decides.{nat_tests}
use Rattle.lists.proofs.Lemmas.{beyond_zero as below_zero, test_equal as same_byte, unequal_number as other_byte}
use Rattle.hex.specs.Hex.{is_hex_digit}
use Rattle.cddl_literal.specs.Bytes.{IsAt, IsRun, is_decimal_digit, is_binary_digit, is_x, is_b}
use Rattle.cddl_literal.specs.Numbers.{number_after, IsUint, decimal, hexadecimal, binary}
use Rattle.cddl_token.specs.Numbers.{IsBound, IsStar, IsHashNumber, IsTagNumberOpen}
use Rattle.cddl_meaning.specs.Forms.{at_most, any_number_of, exactly}
use Rattle.cddl_language.proofs.Basics.{beyond_one, beyond_two}
use Rattle.cddl_language.specs.Terms.{Text}
use Rattle.cddl_language.specs.Numbers.{before, after, uint_in, is_byte, least_in, most_behind, most_in, number_or_any, tag_number, numbered, numbered_or_not, hash_form}

-- Parts of a list.

range_more : (s : List ℕ) (i b : ℕ) → i < b → i < length s → slice_range s i b ≡ get_or s i 0 ∷ slice_range s (i + 1) b
range_more s i b lt in_source =
    let n : b - i ≡ suc (b - (i + 1)) = omega arith in
    ap (λ k. take k (drop i s)) n ∙ ap (take (suc (b - (i + 1)))) (drop-cons s i 0 in_source) ∙ ap (λ k. get_or s i 0 ∷ take (b - (i + 1)) (drop k s)) (sym (add-one i))

range_two : (s : List ℕ) (i b : ℕ) → i + 1 < b → b ≤ length s → slice_range s i b ≡ get_or s i 0 ∷ get_or s (i + 1) 0 ∷ slice_range s (i + 2) b
range_two s i b lt in_source =
    let two : i + 1 + 1 ≡ i + 2 = omega arith in
    range_more s i b (omega arith) (omega arith) ∙ ap (λ r. get_or s i 0 ∷ r) (range_more s (i + 1) b lt (omega arith) ∙ ap (λ k. get_or s (i + 1) 0 ∷ slice_range s k b) two)

-- Digits.

digit_no_x : (c : ℕ) → is_decimal_digit c ≡ true → is_x c ≡ false
digit_no_x c h = grind (arith, nat_tests)

digit_no_b : (c : ℕ) → is_decimal_digit c ≡ true → is_b c ≡ false
digit_no_b c h = grind (arith, nat_tests)

b_no_x : (c : ℕ) → is_b c ≡ true → is_x c ≡ false
b_no_x c h = grind (arith, nat_tests)

-- two bytes or more, by what the second is

by_decimal : (x y : ℕ) (ds : List ℕ) → is_x y ≡ false → is_b y ≡ false → uint_in (x ∷ y ∷ ds) ≡ number_after 10 0 (x ∷ y ∷ ds)
by_decimal x y ds h k = ap (λ c. if c then number_after 16 0 ds else (if is_b y then number_after 2 0 ds else number_after 10 0 (x ∷ y ∷ ds))) h ∙ ap (λ c. if c then number_after 2 0 ds else number_after 10 0 (x ∷ y ∷ ds)) k

by_hexadecimal : (x y : ℕ) (ds : List ℕ) → is_x y ≡ true → uint_in (x ∷ y ∷ ds) ≡ number_after 16 0 ds
by_hexadecimal x y ds h = ap (λ c. if c then number_after 16 0 ds else (if is_b y then number_after 2 0 ds else number_after 10 0 (x ∷ y ∷ ds))) h

by_binary : (x y : ℕ) (ds : List ℕ) → is_b y ≡ true → uint_in (x ∷ y ∷ ds) ≡ number_after 2 0 ds
by_binary x y ds h = ap (λ c. if c then number_after 16 0 ds else (if is_b y then number_after 2 0 ds else number_after 10 0 (x ∷ y ∷ ds))) (b_no_x y h) ∙ ap (λ c. if c then number_after 2 0 ds else number_after 10 0 (x ∷ y ∷ ds)) h

-- a uint in a part of a text
pub uint_part : (s : List ℕ) (a b n : ℕ) → b ≤ length s → IsUint s a b n → uint_in (slice_range s a b) ≡ n
uint_part s a b n within (decimal run z e) = elim (cases_lt (a + 1) b) [ inl more ↦ long more | inr one ↦ short one ]
  where
    long : a + 1 < b → uint_in (slice_range s a b) ≡ n
    long more =
        let digit = run.holds (a + 1) (omega arith) more in
        let parts = range_two s a b more within in
        ap uint_in parts ∙ by_decimal (get_or s a 0) (get_or s (a + 1) 0) (slice_range s (a + 2) b) (digit_no_x (get_or s (a + 1) 0) digit) (digit_no_b (get_or s (a + 1) 0) digit) ∙ sym (ap (number_after 10 0) parts) ∙ sym e

    short : b ≤ a + 1 → uint_in (slice_range s a b) ≡ n
    short one =
        let some = run.nonempty in
        let left : b - (a + 1) ≡ 0 = omega arith in
        let nothing : slice_range s (a + 1) b ≡ [] = ap (λ k. take k (drop (a + 1) s)) left in
        let parts = range_more s a b some (omega arith) ∙ ap (λ r. get_or s a 0 ∷ r) nothing in
        ap uint_in parts ∙ sym (ap (number_after 10 0) parts) ∙ sym e
uint_part s a b n within (hexadecimal o x run e) =
    let some = run.nonempty in
    ap uint_in (range_two s a b (omega arith) within) ∙ by_hexadecimal (get_or s a 0) (get_or s (a + 1) 0) (slice_range s (a + 2) b) x ∙ sym e
uint_part s a b n within (binary o x run e) =
    let some = run.nonempty in
    ap uint_in (range_two s a b (omega arith) within) ∙ by_binary (get_or s a 0) (get_or s (a + 1) 0) (slice_range s (a + 2) b) x ∙ sym e

pub uint_is : (s : List ℕ) (n : ℕ) → IsUint s 0 (length s) n → uint_in s ≡ n
uint_is s n h = ap uint_in (sym whole) ∙ uint_part s 0 (length s) n (omega arith) h
  where
    whole : slice_range s 0 (length s) ≡ s
    whole = let all : length s - 0 ≡ length s = omega arith in ap (λ k. take k s) all ∙ take-length s

-- A text in two, at the first byte of a sort.

before_first : (c : ℕ) (s : List ℕ) (k : ℕ) → k < length s → slice_index s k ≡ c → ((i : ℕ) → i < k → slice_index s i ≢ c) → before c s ≡ take k s
before_first c [] k h e f = absurd (below_zero k h)
before_first c (x ∷ xs) zero h e f = ap (λ b. if b then [] else x ∷ before c xs) (same_byte x c e)
before_first c (x ∷ xs) (suc k) h e f = ap (λ b. if b then [] else x ∷ before c xs) (other_byte x c (f 0 (omega arith))) ∙ ap (λ r. x ∷ r) (before_first c xs k (omega arith) e (λ i g. f (suc i) (omega arith)))

behind_first : (c : ℕ) (s : List ℕ) (k : ℕ) → k < length s → slice_index s k ≡ c → ((i : ℕ) → i < k → slice_index s i ≢ c) → after c s ≡ drop (suc k) s
behind_first c [] k h e f = absurd (below_zero k h)
behind_first c (x ∷ xs) zero h e f = ap (λ b. if b then xs else after c xs) (same_byte x c e)
behind_first c (x ∷ xs) (suc k) h e f = ap (λ b. if b then xs else after c xs) (other_byte x c (f 0 (omega arith))) ∙ behind_first c xs k (omega arith) e (λ i g. f (suc i) (omega arith))

-- No `*` and no `(` stands in a uint.

abbrev IsSign : ℕ → Type 0
IsSign c = (c ≡ 42) ⊎ (c ≡ 40)

in_neither : (p : ℕ → Bool) (c : ℕ) → p 42 ≡ false → p 40 ≡ false → IsSign c → p c ≡ false
in_neither p c h k (inl e) = ap p e ∙ h
in_neither p c h k (inr e) = ap p e ∙ k

sign_no_zero : (c : ℕ) → IsSign c → 48 ≢ c
sign_no_zero c (inl e) f = omega arith
sign_no_zero c (inr e) f = omega arith

run_without : (p : ℕ → Bool) (s : List ℕ) (a b c i : ℕ) → IsRun p s a b → p c ≡ false → a ≤ i → i < b → slice_index s i ≢ c
run_without p s a b c i run other low high e = false≢true (sym other ∙ ap p (sym e) ∙ run.holds i low high)

other_letter : (p : ℕ → Bool) (x c : ℕ) → p x ≡ true → p c ≡ false → x ≢ c
other_letter p x c h other e = false≢true (sym other ∙ ap p (sym e) ∙ h)

prefix_without : (s : List ℕ) (a c i : ℕ) → IsAt "0" s a → 48 ≢ c → slice_index s (a + 1) ≢ c → a ≤ i → i < a + 2 → slice_index s i ≢ c
prefix_without s a c i o other second low high e = elim (cases_lt a i) [ inl past ↦ second (ap (slice_index s) (at_second past) ∙ e) | inr at ↦ other (sym o ∙ sym (ap (slice_index s) (at_first at)) ∙ e) ]
  where
    at_second : a < i → a + 1 ≡ i
    at_second past = omega arith

    at_first : i ≤ a → i ≡ a
    at_first at = omega arith

uint_without : (s : List ℕ) (a b n c i : ℕ) → IsSign c → IsUint s a b n → a ≤ i → i < b → slice_index s i ≢ c
uint_without s a b n c i sign (decimal run z h) low high = run_without is_decimal_digit s a b c i run (in_neither is_decimal_digit c refl refl sign) low high
uint_without s a b n c i sign (hexadecimal o x run h) low high = elim (cases_lt i (a + 2)) [ inl short ↦ prefix_without s a c i o (sign_no_zero c sign) (other_letter is_x (slice_index s (a + 1)) c x (in_neither is_x c refl refl sign)) low short | inr long ↦ run_without is_hex_digit s (a + 2) b c i run (in_neither is_hex_digit c refl refl sign) long high ]
uint_without s a b n c i sign (binary o x run h) low high = elim (cases_lt i (a + 2)) [ inl short ↦ prefix_without s a c i o (sign_no_zero c sign) (other_letter is_b (slice_index s (a + 1)) c x (in_neither is_b c refl refl sign)) low short | inr long ↦ run_without is_binary_digit s (a + 2) b c i run (in_neither is_binary_digit c refl refl sign) long high ]

-- `#d.n`, of which the text has four bytes at least

uint_some : (s : List ℕ) (a b n : ℕ) → IsUint s a b n → a < b
uint_some s a b n (decimal run z h) = run.nonempty
uint_some s a b n (hexadecimal o x run h) = let some = run.nonempty in omega arith
uint_some s a b n (binary o x run h) = let some = run.nonempty in omega arith

some_number : (d : ℕ) (t : Text) (n : ℕ) → (t ≡ [] → ⊥) → uint_in t ≡ n → numbered_or_not d t ≡ numbered d n
some_number d [] n some e = absurd (some refl)
some_number d (b ∷ bs) n some e = ap (numbered d) e

not_empty : (t : Text) → 0 < length t → t ≡ [] → ⊥
not_empty t h e = let k : length t ≡ 0 = ap length e in omega arith

rest_number : (s : List ℕ) (n : ℕ) → IsUint s 3 (length s) n → uint_in (drop 3 s) ≡ n
rest_number s n h = ap uint_in (sym all) ∙ uint_part s 3 (length s) n (omega arith) h
  where
    all : slice_range s 3 (length s) ≡ drop 3 s
    all = take_all (length s - 3) (drop 3 s) (subst (λ k. k ≤ length s - 3) (sym (length-drop 3 s)) (omega arith))

hash_of : (x d y : ℕ) (ds : List ℕ) (n : ℕ) → y ≡ 46 → (ds ≡ [] → ⊥) → uint_in ds ≡ n → hash_form (x ∷ d ∷ y ∷ ds) ≡ numbered (number_after 10 0 (d ∷ [])) n
hash_of x d y ds n dot some e = ap (λ b. numbered_or_not (number_after 10 0 (d ∷ [])) (if b then ds else after 46 ds)) (same_byte y 46 dot) ∙ some_number (number_after 10 0 (d ∷ [])) ds n some e

pub hash_is : (s : List ℕ) (n : ℕ) → IsHashNumber s 0 (length s) n → hash_form s ≡ numbered (number_after 10 0 (slice_index s 1 ∷ [])) n
hash_is [] n h = absurd (let k = uint_some [] 3 0 n h.number in omega arith)
hash_is (x ∷ []) n h = absurd (let k = uint_some (x ∷ []) 3 1 n h.number in omega arith)
hash_is (x ∷ d ∷ []) n h = absurd (let k = uint_some (x ∷ d ∷ []) 3 2 n h.number in omega arith)
hash_is (x ∷ d ∷ y ∷ ds) n h = hash_of x d y ds n h.dot (not_empty ds (let k = uint_some (x ∷ d ∷ y ∷ ds) 3 (length (x ∷ d ∷ y ∷ ds)) n h.number in omega arith)) (rest_number (x ∷ d ∷ y ∷ ds) n h.number)

-- `n*m`

in_front : (s : List ℕ) (a b n : ℕ) → IsBound s a b n → (c i : ℕ) → IsSign c → a ≤ i → i < b → slice_index s i ≢ c
in_front s a b n (inl (e, f)) c i sign low high = λ g. omega arith
in_front s a b n (inr h) c i sign low high = uint_without s a b n c i sign h low high

bound_part : (s : List ℕ) (a b n : ℕ) → b ≤ length s → IsBound s a b n → uint_in (slice_range s a b) ≡ n
bound_part s a b n within (inl (e, f)) = ap uint_in nothing ∙ sym f
  where
    left : b - a ≡ 0
    left = omega arith

    nothing : slice_range s a b ≡ []
    nothing = ap (λ k. take k (drop a s)) left
bound_part s a b n within (inr h) = uint_part s a b n within h

sign_within : (s : List ℕ) (k c : ℕ) → 0 < c → slice_index s k ≡ c → k < length s
sign_within s k c some e = elim (cases_lt k (length s)) [ inl h ↦ h | inr past ↦ absurd (let z = get_or_past s k 0 past in omega arith) ]

no_other_byte : (b : ℕ) (s : List ℕ) (k : ℕ) → k < length s → slice_index s k ≡ 42 → 42 ≢ b → is_byte b s ≡ false
no_other_byte b [] k h e other = refl
no_other_byte b (c ∷ []) zero h e other = other_byte c b (λ f. other (sym e ∙ f))
no_other_byte b (c ∷ []) (suc k) h e other = absurd (beyond_one k h)
no_other_byte b (c ∷ d ∷ ds) k h e other = refl

at_most_of : (t : Text) (n : ℕ) → (t ≡ [] → ⊥) → uint_in t ≡ n → most_behind t ≡ at_most n
at_most_of [] n some e = absurd (some refl)
at_most_of (b ∷ bs) n some e = ap at_most e

module _ (s : List ℕ) (low high : ℕ) (h : IsStar s 0 (length s) low high) where
  within : h.star < length s
  within = sign_within s h.star 42 (omega arith) h.sign

  first : (i : ℕ) → i < h.star → slice_index s i ≢ 42
  first i less = in_front s 0 h.star low h.before 42 i (inl refl) (omega arith) less

  no_question : is_byte 63 s ≡ false
  no_question = no_other_byte 63 s h.star within h.sign (λ e. omega arith)

  no_plus : is_byte 43 s ≡ false
  no_plus = no_other_byte 43 s h.star within h.sign (λ e. omega arith)

  front : before 42 s ≡ slice_range s 0 h.star
  front = let all : h.star ≡ h.star - 0 = omega arith in before_first 42 s h.star within h.sign first ∙ ap (λ k. take k s) all

  back : after 42 s ≡ drop (suc h.star) s
  back = behind_first 42 s h.star within h.sign first

  pub least_is : least_in s ≡ low
  least_is = ap (λ b. if b then 0 else (if is_byte 43 s then 1 else uint_in (before 42 s))) no_question ∙ ap (λ b. if b then 1 else uint_in (before 42 s)) no_plus ∙ ap uint_in front ∙ bound_part s 0 h.star low (omega (arith, within)) h.before

  by_rest : most_in s ≡ most_behind (after 42 s)
  by_rest = ap (λ b. if b then at_most 1 else (if is_byte 43 s then any_number_of else most_behind (after 42 s))) no_question ∙ ap (λ b. if b then any_number_of else most_behind (after 42 s)) no_plus

  pub no_most : h.star + 1 ≡ length s → most_in s ≡ any_number_of
  no_most end = by_rest ∙ ap most_behind (back ∙ drop_all (suc h.star) s (omega arith))

  pub most_is : h.star + 1 ≢ length s → most_in s ≡ at_most high
  most_is more = by_rest ∙ at_most_of (after 42 s) high (λ e. some (ap length (sym back ∙ e))) (ap uint_in (back ∙ ap (λ k. drop k s) (sym (add-one h.star)) ∙ sym all) ∙ bound_part s (h.star + 1) (length s) high (omega arith) h.after)
    where
      some : length (drop (suc h.star) s) ≡ 0 → ⊥
      some e = let k = length-drop (suc h.star) s in let w = within in omega arith

      all : slice_range s (h.star + 1) (length s) ≡ drop (h.star + 1) s
      all = take_all (length s - (h.star + 1)) (drop (h.star + 1) s) (subst (λ k. k ≤ length s - (h.star + 1)) (sym (length-drop (h.star + 1) s)) (omega arith))

-- `#6.n(`

exact : (t : Text) (n : ℕ) → (t ≡ [] → ⊥) → uint_in (before 40 t) ≡ n → number_or_any t {N = Text} ≡ exactly n
exact [] n some e = absurd (some refl)
exact (b ∷ bs) n some e = ap exactly e

module _ (s : List ℕ) (n : ℕ) (h : IsTagNumberOpen s 0 (length s) n) where
  longer : 3 < h.paren
  longer = uint_some s 3 h.paren n h.number.number

  to_end : length s ≡ h.paren + 1
  to_end = h.ends

  no_dot : (i : ℕ) → i < 2 → slice_index s i ≢ 46
  no_dot zero less e = let x = h.number.hash in omega arith
  no_dot (suc zero) less e = let x = h.tag in omega arith
  no_dot (suc (suc i)) less e = beyond_two i less

  rest : after 46 s ≡ drop 3 s
  rest = let l = longer in let e = to_end in behind_first 46 s 2 (omega arith) h.number.dot no_dot

  there : (i : ℕ) → slice_index (drop 3 s) i ≡ slice_index s (3 + i)
  there i = get_or-drop 3 s i 0

  opening : slice_index (drop 3 s) (h.paren - 3) ≡ 40
  opening = let l = longer in let same : 3 + (h.paren - 3) ≡ h.paren = omega arith in there (h.paren - 3) ∙ ap (slice_index s) same ∙ h.opens

  no_opening : (i : ℕ) → i < h.paren - 3 → slice_index (drop 3 s) i ≢ 40
  no_opening i less e = uint_without s 3 h.paren n 40 (3 + i) (inr refl) h.number.number (omega arith) (omega arith) (sym (there i) ∙ e)

  digits : before 40 (drop 3 s) ≡ slice_range s 3 h.paren
  digits = before_first 40 (drop 3 s) (h.paren - 3) (sign_within (drop 3 s) (h.paren - 3) 40 (omega arith) opening) opening no_opening

  pub tag_is : tag_number s {N = Text} ≡ exactly n
  tag_is = exact (after 46 s) n (λ e. some (ap length (sym rest ∙ e))) (ap (λ t. uint_in (before 40 t)) rest ∙ ap uint_in digits ∙ uint_part s 3 h.paren n (let e = to_end in omega arith) h.number.number)
    where
      some : length (drop 3 s) ≡ 0 → ⊥
      some e = let k = length-drop 3 s in let l = longer in let f = to_end in omega arith
