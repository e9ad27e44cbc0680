-- A string with spaces less, read byte by byte.
use Rattle.std.proofs.Common.{◌≡◌, ℕ, zero, suc, ◌+◌, ◌-◌, ◌<◌, ◌≤◌, min, Bool, true, false, List, [], ◌∷◌, map, length, drop, get_or, if◌then◌else◌, refl, sym, ap, ◌∙◌, arith, drop-cons, ◌++◌, append_assoc}
use Rattle.std.proofs.lemmas.Bool.{eqb-true}
use Rattle.std.proofs.lemmas.List.{drop_all}
use Rattle.std.specs.List.{join_with_byte, onto_first}
use Rattle.std.proofs.lemmas.List.Splits.{slice_split-cons_no, join_with_byte-slice_split}
use Rattle.cddl_literal.specs.Operators.Dedent.{is_line_feed, is_space, lines, spaces, without, shifted}

-- the first line with so many spaces less, and each later one with n less
abbrev pub first_without : ℕ → ℕ → List (List ℕ) → List (List ℕ)
first_without left n [] = []
first_without left n (l ∷ ls) = without left l ∷ map (without n) ls

-- what is left of a string, in whose first line so many spaces may still go
abbrev pub rest : ℕ → ℕ → List ℕ → List ℕ
rest left n bs = join_with_byte 10 (first_without left n (lines bs))

without_none : (l : List ℕ) → without 0 l ≡ l
without_none l = ap (λ k. drop k l) (let e : min 0 (spaces l) ≡ 0 = omega arith in e)

without_nil : (n : ℕ) → without n [] ≡ []
without_nil n = ap (λ k. drop {A = ℕ} k []) (let e : min n 0 ≡ 0 = omega arith in e)

without_kept : (left b : ℕ) (l : List ℕ) → is_space b ≡ false → without left (b ∷ l) ≡ b ∷ l
without_kept left b l h = rw h (ap (λ k. drop k (b ∷ l)) (let e : min left 0 ≡ 0 = omega arith in e))

without_space : (left : ℕ) (l : List ℕ) → without (suc left) (32 ∷ l) ≡ without left l
without_space left l = ap (λ k. drop k (32 ∷ l)) (let e : min (suc left) (1 + spaces l) ≡ suc (min left (spaces l)) = omega arith in e)

join_cons : (b : ℕ) (l : List ℕ) (ls : List (List ℕ)) → join_with_byte 10 ((b ∷ l) ∷ ls) ≡ b ∷ join_with_byte 10 (l ∷ ls)
join_cons b l [] = refl
join_cons b l (x ∷ xs) = refl

-- the whole is what is left before the first byte
pub whole : (n : ℕ) (s : List ℕ) → rest n n s ≡ shifted n s
whole n s = elim (lines s) as (λ ls. join_with_byte 10 (first_without n n ls) ≡ join_with_byte 10 (map (without n) ls)) [ [] ↦ refl | l ∷ ls ↦ refl ]

kept_onto : (left n b : ℕ) (ls : List (List ℕ)) → ((l : List ℕ) → without left (b ∷ l) ≡ b ∷ l) → join_with_byte 10 (first_without left n (onto_first b ls)) ≡ b ∷ join_with_byte 10 (first_without 0 n ls)
kept_onto left n b [] h = h []
kept_onto left n b (l ∷ ls) h = ap (λ x. join_with_byte 10 (x ∷ map (without n) ls)) (h l) ∙ join_cons b l (map (without n) ls) ∙ ap (λ x. b ∷ join_with_byte 10 (x ∷ map (without n) ls)) (sym (without_none l))

dropped_onto : (left n : ℕ) (ls : List (List ℕ)) → join_with_byte 10 (first_without (suc left) n (onto_first 32 ls)) ≡ join_with_byte 10 (first_without left n ls)
dropped_onto left n [] = without_space left [] ∙ without_nil left
dropped_onto left n (l ∷ ls) = ap (λ x. join_with_byte 10 (x ∷ map (without n) ls)) (without_space left l)

-- one byte: a space that goes, a line feed, and another that stays

pub space_goes : (left n : ℕ) (bs : List ℕ) → rest (suc left) n (32 ∷ bs) ≡ rest left n bs
space_goes left n bs = dropped_onto left n (lines bs)

after_feed : (n b : ℕ) (v : Bool) (ls : List (List ℕ)) → let all = if v then [] ∷ ls else onto_first b ls in join_with_byte 10 ([] ∷ map (without n) all) ≡ 10 ∷ join_with_byte 10 (first_without n n all)
after_feed n b true ls = refl
after_feed n b false [] = refl
after_feed n b false (l ∷ ls) = refl

line_after : (n : ℕ) (bs : List ℕ) → join_with_byte 10 ([] ∷ map (without n) (lines bs)) ≡ 10 ∷ rest n n bs
line_after n [] = refl
line_after n (b ∷ bs) = after_feed n b (is_line_feed b) (lines bs)

pub line_feed_stays : (left n : ℕ) (bs : List ℕ) → rest left n (10 ∷ bs) ≡ 10 ∷ rest n n bs
line_feed_stays left n bs = ap (λ x. join_with_byte 10 (x ∷ map (without n) (lines bs))) (without_nil left) ∙ line_after n bs

pub other_stays : (left n b : ℕ) (bs : List ℕ) → is_line_feed b ≡ false → is_space b ≡ false → rest left n (b ∷ bs) ≡ b ∷ rest 0 n bs
other_stays left n b bs line space = ap (λ x. join_with_byte 10 (first_without left n x)) (slice_split-cons_no is_line_feed b bs line) ∙ kept_onto left n b (lines bs) (λ l. without_kept left b l space)

pub space_stays : (n b : ℕ) (bs : List ℕ) → is_line_feed b ≡ false → rest 0 n (b ∷ bs) ≡ b ∷ rest 0 n bs
space_stays n b bs line = ap (λ x. join_with_byte 10 (first_without 0 n x)) (slice_split-cons_no is_line_feed b bs line) ∙ kept_onto 0 n b (lines bs) (λ l. without_none (b ∷ l))

-- nothing less is all
map_none : (ls : List (List ℕ)) → map (without 0) ls ≡ ls
map_none [] = refl
map_none (l ∷ ls) = ap (λ x. x ∷ map (without 0) ls) (without_none l) ∙ ap (λ xs. l ∷ xs) (map_none ls)

pub shifted_none : (s : List ℕ) → shifted 0 s ≡ s
shifted_none s = ap (join_with_byte 10) (map_none (lines s)) ∙ join_with_byte-slice_split 10 s

-- one byte of a string

pub step_goes : (s : List ℕ) (i left n : ℕ) → i < length s → get_or s i 0 ≡ 32 → 0 < left → rest left n (drop i s) ≡ rest (left - 1) n (drop (i + 1) s)
step_goes s i zero n inside space some = absurd (omega arith)
step_goes s i (suc left) n inside space some =
    rw (drop-cons s i 0, space) (space_goes left n (drop (suc i) s)
    ∙ ap (λ k. rest k n (drop (suc i) s)) (let e : left ≡ suc left - 1 = omega arith in e)
    ∙ ap (λ k. rest (suc left - 1) n (drop k s)) (let e : suc i ≡ i + 1 = omega arith in e))

stays : (left n b : ℕ) (bs : List ℕ) → (b ≡ 32 → left ≡ 0) → (v w : Bool) → is_line_feed b ≡ v → is_space b ≡ w → rest left n (b ∷ bs) ≡ b ∷ rest (if v then n else 0) n bs
stays left n b bs h true w line space = let e : b ≡ 10 = eqb-true b 10 line in rw e (line_feed_stays left n bs)
stays left n b bs h false false line space = other_stays left n b bs line space
stays left n b bs h false true line space = let e : left ≡ 0 = h (eqb-true b 32 space) in rw e (space_stays n b bs line)

pub step_stays : (s : List ℕ) (i left n : ℕ) → i < length s → (get_or s i 0 ≡ 32 → left ≡ 0) → rest left n (drop i s) ≡ get_or s i 0 ∷ rest (if is_line_feed (get_or s i 0) then n else 0) n (drop (i + 1) s)
step_stays s i left n inside kept =
    ap (rest left n) (drop-cons s i 0 inside)
    ∙ stays left n (get_or s i 0) (drop (suc i) s) kept (is_line_feed (get_or s i 0)) (is_space (get_or s i 0)) refl refl
    ∙ ap (λ k. get_or s i 0 ∷ rest (if is_line_feed (get_or s i 0) then n else 0) n (drop k s)) (let e : suc i ≡ i + 1 = omega arith in e)

-- a string whose bytes are all read has no rest

rest_none : (left n : ℕ) → rest left n [] ≡ []
rest_none left n = without_nil left

pub rest_end : (s : List ℕ) (i left n : ℕ) → length s ≤ i → rest left n (drop i s) ≡ []
rest_end s i left n end = ap (rest left n) (drop_all i s end) ∙ rest_none left n

-- what a loop keeps when a space goes, and when a byte stays

pub pushed_none : (all out out2 s : List ℕ) (i left left2 n : ℕ) → out ++ rest left n (drop i s) ≡ all → i < length s → get_or s i 0 ≡ 32 → 0 < left → out2 ≡ out → left2 ≡ left - 1 → out2 ++ rest left2 n (drop (i + 1) s) ≡ all
pushed_none all out out2 s i left left2 n before inside space some same less =
    rw (same, less) (ap (λ x. out ++ x) (sym (step_goes s i left n inside space some)) ∙ before)

pub pushed_byte : (all out out2 s : List ℕ) (i left left2 n : ℕ) → out ++ rest left n (drop i s) ≡ all → i < length s → (get_or s i 0 ≡ 32 → left ≡ 0) → out2 ≡ out ++ (get_or s i 0 ∷ []) → left2 ≡ (if is_line_feed (get_or s i 0) then n else 0) → out2 ++ rest left2 n (drop (i + 1) s) ≡ all
pushed_byte all out out2 s i left left2 n before inside kept more next =
    rw (more, next) (append_assoc out (get_or s i 0 ∷ []) _ ∙ ap (λ x. out ++ x) (sym (step_stays s i left n inside kept)) ∙ before)

pub counted_none : (all len len2 : ℕ) (s : List ℕ) (i left left2 n : ℕ) → len + length (rest left n (drop i s)) ≡ all → i < length s → get_or s i 0 ≡ 32 → 0 < left → len2 ≡ len → left2 ≡ left - 1 → len2 + length (rest left2 n (drop (i + 1) s)) ≡ all
counted_none all len len2 s i left left2 n before inside space some same less =
    rw (same, less) (ap (λ x. len + length x) (sym (step_goes s i left n inside space some)) ∙ before)

pub counted_byte : (all len len2 : ℕ) (s : List ℕ) (i left left2 n : ℕ) → len + length (rest left n (drop i s)) ≡ all → i < length s → (get_or s i 0 ≡ 32 → left ≡ 0) → len2 ≡ len + 1 → left2 ≡ (if is_line_feed (get_or s i 0) then n else 0) → len2 + length (rest left2 n (drop (i + 1) s)) ≡ all
counted_byte all len len2 s i left left2 n before inside kept more next =
    let e : len + length (rest left n (drop i s)) ≡ len + 1 + length (rest (if is_line_feed (get_or s i 0) then n else 0) n (drop (i + 1) s)) = ap (λ x. len + length x) (step_stays s i left n inside kept) ∙ omega arith in
    rw (more, next) (sym e ∙ before)
