-- The two counts: the open containers are no more than the bound, and what is held no more than the bytes.
use Rattle.std.proofs.Common.{◌≡◌, ℕ, zero, suc, ◌+◌, ◌*◌, ◌/◌, ◌%◌, ◌<◌, ◌≤◌, List, [], ◌∷◌, ◌++◌, length, nat_lt, nat_le, ◌==◌, ◌&&◌, cond, Bool, true, false, Option, Some, None, option_and_then, refl, ap, ◌∙◌, subst, arith, length-append}
use Rattle.std.proofs.lemmas.Bool.Decides.{nat_tests}
use Rattle.cbor_data.specs.Value.{Value, uint, nint, array, pairs, tag, simple, float, Values, no_values, value, Pairs, no_pairs, pair}
use Rattle.cbor_data.specs.Machine.Machine.{Info, given, more, indefinite, reserved, info_of, opens_container}
use Rattle.read_building.specs.Building.{Frame, member, until, content, key, worth, until_key, until_worth, State, item, argument, string, bits, chunk, chunk_argument, chunk_string, simple_value, done, string_of, with_value, with_pair, give, ask, ask_pairs, await_string, await_chunk_string, after, break, wide, open_indefinite, start, start_chunk, step, Text, ended, step_in, steps_in}
use Rattle.read_building.specs.Counts.{held_in, held_in_values, held_in_pairs, held_in_frames, held, open_in, opened}

held-with_value : (xs : Values) (x : Value) → held_in_values (with_value xs x) ≡ held_in_values xs + held_in x
held-with_value no_values x = omega arith
held-with_value (value y ys) x = omega (arith, held-with_value ys x)

held-with_pair : (ps : Pairs) (k v : Value) → held_in_pairs (with_pair ps k v) ≡ held_in_pairs ps + (held_in k + held_in v)
held-with_pair no_pairs k v = omega arith
held-with_pair (pair j u ps) k v = omega (arith, held-with_pair ps k v)

-- an item that is given is held where it goes, and nothing else
pub held-give : (x : Value) (K : List Frame) → held (give x K) ≡ held_in x + held_in_frames K
held-give x [] = omega arith
held-give x (member zero xs ∷ K) = held-give (array (with_value xs x)) K ∙ omega (arith, held-with_value xs x)
held-give x (member (suc n) xs ∷ K) = omega (arith, held-with_value xs x)
held-give x (until xs ∷ K) = omega (arith, held-with_value xs x)
held-give x (content n ∷ K) = held-give (tag n x) K ∙ omega arith
held-give x (key n ps ∷ K) = omega arith
held-give x (worth zero ps k ∷ K) = held-give (pairs (with_pair ps k x)) K ∙ omega (arith, held-with_pair ps k x)
held-give x (worth (suc n) ps k ∷ K) = omega (arith, held-with_pair ps k x)
held-give x (until_key ps ∷ K) = omega arith
held-give x (until_worth ps k ∷ K) = omega (arith, held-with_pair ps k x)

held-string_of : (m : ℕ) (s : List ℕ) → held_in (string_of m s) ≡ suc (length s)
held-string_of zero s = refl
held-string_of (suc zero) s = refl
held-string_of (suc (suc zero)) s = refl
held-string_of (suc (suc (suc m))) s = refl

held-give_string : (m : ℕ) (s : List ℕ) (K : List Frame) → held (give (string_of m s) K) ≡ suc (length s + held_in_frames K)
held-give_string m s K = held-give (string_of m s) K ∙ (let e = held-string_of m s in omega arith)

held-ask : (n : ℕ) (K : List Frame) → held (ask n no_values K) ≤ suc (held_in_frames K)
held-ask zero K = let e = held-give (array no_values) K in omega arith
held-ask (suc n) K = omega arith

held-ask_pairs : (n : ℕ) (K : List Frame) → held (ask_pairs n no_pairs K) ≤ suc (held_in_frames K)
held-ask_pairs zero K = let e = held-give (pairs no_pairs) K in omega arith
held-ask_pairs (suc n) K = omega arith

held-await_string : (from m n : ℕ) (K : List Frame) → held (await_string from m n K) ≤ suc (held_in_frames K)
held-await_string from m zero K = let e = held-give_string m [] K in omega arith
held-await_string from m (suc n) K = omega arith

held-await_chunk : (from m n : ℕ) (s : List ℕ) (K : List Frame) → held (await_chunk_string from m n s K) ≤ suc (length s + held_in_frames K)
held-await_chunk from m zero s K = omega arith
held-await_chunk from m (suc n) s K = omega arith

held-after : (from m n : ℕ) (K : List Frame) → held (after from m n K) ≤ suc (held_in_frames K)
held-after from zero n K = let e = held-give (uint n) K in omega arith
held-after from (suc zero) n K = let e = held-give (nint n) K in omega arith
held-after from (suc (suc zero)) n K = held-await_string from 2 n K
held-after from (suc (suc (suc zero))) n K = held-await_string from 3 n K
held-after from (suc (suc (suc (suc zero)))) n K = held-ask n K
held-after from (suc (suc (suc (suc (suc zero))))) n K = held-ask_pairs n K
held-after from (suc (suc (suc (suc (suc (suc zero)))))) n K = omega arith
held-after from (suc (suc (suc (suc (suc (suc (suc m))))))) n K = let e = held-give (simple n) K in omega arith

held-wide : (from m k : ℕ) (K : List Frame) → held (wide from m k K) ≤ suc (held_in_frames K)
held-wide from zero k K = omega arith
held-wide from (suc zero) k K = omega arith
held-wide from (suc (suc zero)) k K = omega arith
held-wide from (suc (suc (suc zero))) k K = omega arith
held-wide from (suc (suc (suc (suc zero)))) k K = omega arith
held-wide from (suc (suc (suc (suc (suc zero))))) k K = omega arith
held-wide from (suc (suc (suc (suc (suc (suc zero)))))) k K = omega arith
held-wide from (suc (suc (suc (suc (suc (suc (suc m))))))) zero K = omega arith
held-wide from (suc (suc (suc (suc (suc (suc (suc m))))))) (suc k) K = omega arith

-- at most so much is held in the state, if there is one
abbrev HoldsAtMost : ℕ → Option State → Type 0
HoldsAtMost n o = (t : State) → o ≡ Some t → held t ≤ n

some_holds : (n : ℕ) (s : State) → held s ≤ n → HoldsAtMost n (Some s)
some_holds n s h t e = let same : s ≡ t = cc in subst (λ u. held u ≤ n) same h

none_holds : (n : ℕ) → HoldsAtMost n None
none_holds n t e = absurd (cc)

cond_holds : (n : ℕ) (c : Bool) (o u : Option State) → HoldsAtMost n o → HoldsAtMost n u → HoldsAtMost n (cond c o u)
cond_holds n true o u f g = f
cond_holds n false o u f g = g

held-break : (K : List Frame) → HoldsAtMost (suc (held_in_frames K)) (break K)
held-break [] = none_holds _
held-break (member n xs ∷ K) = none_holds _
held-break (until xs ∷ K) = some_holds _ _ (let e = held-give (array xs) K in omega arith)
held-break (content n ∷ K) = none_holds _
held-break (key n ps ∷ K) = none_holds _
held-break (worth n ps k ∷ K) = none_holds _
held-break (until_key ps ∷ K) = some_holds _ _ (let e = held-give (pairs ps) K in omega arith)
held-break (until_worth ps k ∷ K) = none_holds _

held-open : (m : ℕ) (K : List Frame) → HoldsAtMost (suc (held_in_frames K)) (open_indefinite m K)
held-open zero K = none_holds _
held-open (suc zero) K = none_holds _
held-open (suc (suc zero)) K = some_holds _ _ (omega arith)
held-open (suc (suc (suc zero))) K = some_holds _ _ (omega arith)
held-open (suc (suc (suc (suc zero)))) K = some_holds _ _ (omega arith)
held-open (suc (suc (suc (suc (suc zero))))) K = some_holds _ _ (omega arith)
held-open (suc (suc (suc (suc (suc (suc zero)))))) K = none_holds _
held-open (suc (suc (suc (suc (suc (suc (suc m))))))) K = held-break K

held-start : (at m : ℕ) (i : Info) (K : List Frame) → HoldsAtMost (suc (held_in_frames K)) (start at m i K)
held-start at m (given n) K = some_holds _ _ (held-after at m n K)
held-start at m (more k) K = some_holds _ _ (held-wide at m k K)
held-start at m indefinite K = held-open m K
held-start at m reserved K = none_holds _

held-start_chunk : (at m : ℕ) (i : Info) (s : List ℕ) (K : List Frame) → HoldsAtMost (suc (length s + held_in_frames K)) (start_chunk at m i s K)
held-start_chunk at m (given n) s K = some_holds _ _ (held-await_chunk at m n s K)
held-start_chunk at m (more k) s K = some_holds _ _ (omega arith)
held-start_chunk at m indefinite s K = none_holds _
held-start_chunk at m reserved s K = none_holds _

wider : (n m : ℕ) (o : Option State) → n ≤ m → HoldsAtMost n o → HoldsAtMost m o
wider n m o h f t e = let g : held t ≤ n = f t e in omega arith

-- a byte adds one at most
pub held-step : (at : ℕ) (s : State) (b : ℕ) → HoldsAtMost (suc (held s)) (step at s b)
held-step at (item K) b = held-start at (b / 32) (info_of (b % 32)) K
held-step at (argument from m zero n K) b = some_holds _ _ (let e = held-after from m (n * 256 + b) K in omega arith)
held-step at (argument from m (suc k) n K) b = some_holds _ _ (omega arith)
held-step at (string from m zero s K) b = some_holds _ _ (omega (arith, held-give_string m (s ++ b ∷ []) K, length-append s (b ∷ [])))
held-step at (string from m (suc k) s K) b = some_holds _ _ (omega (arith, length-append s (b ∷ [])))
held-step at (bits w zero n K) b = some_holds _ _ (let e = held-give (float w (n * 256 + b)) K in omega arith)
held-step at (bits w (suc k) n K) b = some_holds _ _ (omega arith)
held-step at (chunk m s K) b =
    cond_holds _ (b == 255) _ _ (some_holds _ _ (omega (arith, held-give_string m s K)))
    (cond_holds _ (b / 32 == m) _ _ (wider _ _ _ (omega arith) (held-start_chunk at m (info_of (b % 32)) s K)) (none_holds _))
held-step at (chunk_argument from m zero n s K) b = some_holds _ _ (let e = held-await_chunk from m (n * 256 + b) s K in omega arith)
held-step at (chunk_argument from m (suc k) n s K) b = some_holds _ _ (omega arith)
held-step at (chunk_string from m zero s c K) b = some_holds _ _ (omega (arith, length-append s (c ++ b ∷ []), length-append c (b ∷ [])))
held-step at (chunk_string from m (suc k) s c K) b = some_holds _ _ (omega (arith, length-append c (b ∷ [])))
held-step at (simple_value K) b = cond_holds _ (nat_lt b 32) _ _ (none_holds _) (some_holds _ _ (let e = held-give (simple b) K in omega arith))
held-step at (done x) b = none_holds _

-- the bounded machine's step is the other's, or none
pub restricts : (d at : ℕ) (s t : State) (b : ℕ) → step_in d at s b ≡ Some t → step at s b ≡ Some t
restricts d at (item K) t b e = cut (opens_container b && nat_le d (length K)) e
  where
    cut : (c : Bool) → cond c None (step at (item K) b) ≡ Some t → step at (item K) b ≡ Some t
    cut true e = absurd (cc)
    cut false e = e
restricts d at (argument from m k n K) t b e = e
restricts d at (string from m k s K) t b e = e
restricts d at (bits w k n K) t b e = e
restricts d at (chunk m s K) t b e = e
restricts d at (chunk_argument from m k n s K) t b e = e
restricts d at (chunk_string from m k s c K) t b e = e
restricts d at (simple_value K) t b e = e
restricts d at (done x) t b e = absurd (cc)

-- what is held after some bytes
pub held-steps_in : (d : ℕ) (b : List ℕ) (at : ℕ) (T U : List Text) (s t : State) → steps_in d at T s b ≡ Some (U, t) → held t ≤ held s + length b
held-steps_in d [] at T U s t e = let same : s ≡ t = ap (λ (r : Option (List Text × State)). state_or r) e in subst (λ u. held u ≤ held s + 0) same (omega arith)
  where
    state_or : Option (List Text × State) → State
    state_or None = s
    state_or (Some r) = r.1
held-steps_in d (x ∷ b) at T U s t e = on (step_in d at s x) refl e (λ u. held-steps_in d b (suc at) (ended s x T) U u t)
  where
    on : (o : Option State) → step_in d at s x ≡ o → option_and_then (λ u. steps_in d (suc at) (ended s x T) u b) o ≡ Some (U, t) → ((u : State) → steps_in d (suc at) (ended s x T) u b ≡ Some (U, t) → held t ≤ held u + length b) → held t ≤ held s + length (x ∷ b)
    on None f h rest = absurd (cc)
    on (Some u) f h rest =
        let all = rest u h in
        let one : held u ≤ suc (held s) = held-step at s x u (restricts d at s u x f) in
        omega arith

-- the containers that are open

abbrev AtMostOpen : ℕ → Option State → Type 0
AtMostOpen n o = (t : State) → o ≡ Some t → open_in t ≤ n

some_open : (n : ℕ) (s : State) → open_in s ≤ n → AtMostOpen n (Some s)
some_open n s h t e = let same : s ≡ t = cc in subst (λ u. open_in u ≤ n) same h

none_open : (n : ℕ) → AtMostOpen n None
none_open n t e = absurd (cc)

cond_open : (n : ℕ) (c : Bool) (o u : Option State) → AtMostOpen n o → AtMostOpen n u → AtMostOpen n (cond c o u)
cond_open n true o u f g = f
cond_open n false o u f g = g

open-give : (x : Value) (K : List Frame) → open_in (give x K) ≤ length K
open-give x [] = omega arith
open-give x (member zero xs ∷ K) = let h = open-give (array (with_value xs x)) K in omega arith
open-give x (member (suc n) xs ∷ K) = omega arith
open-give x (until xs ∷ K) = omega arith
open-give x (content n ∷ K) = let h = open-give (tag n x) K in omega arith
open-give x (key n ps ∷ K) = omega arith
open-give x (worth zero ps k ∷ K) = let h = open-give (pairs (with_pair ps k x)) K in omega arith
open-give x (worth (suc n) ps k ∷ K) = omega arith
open-give x (until_key ps ∷ K) = omega arith
open-give x (until_worth ps k ∷ K) = omega arith

open-await_string : (from m n : ℕ) (K : List Frame) → open_in (await_string from m n K) ≤ length K
open-await_string from m zero K = open-give (string_of m []) K
open-await_string from m (suc n) K = omega arith

open-await_chunk : (from m n : ℕ) (s : List ℕ) (K : List Frame) → open_in (await_chunk_string from m n s K) ≤ length K
open-await_chunk from m zero s K = omega arith
open-await_chunk from m (suc n) s K = omega arith

open-ask : (n : ℕ) (K : List Frame) → open_in (ask n no_values K) ≤ suc (length K)
open-ask zero K = let h = open-give (array no_values) K in omega arith
open-ask (suc n) K = omega arith

open-ask_pairs : (n : ℕ) (K : List Frame) → open_in (ask_pairs n no_pairs K) ≤ suc (length K)
open-ask_pairs zero K = let h = open-give (pairs no_pairs) K in omega arith
open-ask_pairs (suc n) K = omega arith

open-after : (from m n : ℕ) (K : List Frame) → open_in (after from m n K) ≤ opened m (length K)
open-after from zero n K = open-give (uint n) K
open-after from (suc zero) n K = open-give (nint n) K
open-after from (suc (suc zero)) n K = open-await_string from 2 n K
open-after from (suc (suc (suc zero))) n K = open-await_string from 3 n K
open-after from (suc (suc (suc (suc zero)))) n K = open-ask n K
open-after from (suc (suc (suc (suc (suc zero))))) n K = open-ask_pairs n K
open-after from (suc (suc (suc (suc (suc (suc zero)))))) n K = omega arith
open-after from (suc (suc (suc (suc (suc (suc (suc m))))))) n K = open-give (simple n) K

open-wide : (from m k : ℕ) (K : List Frame) → open_in (wide from m k K) ≤ opened m (length K)
open-wide from zero k K = omega arith
open-wide from (suc zero) k K = omega arith
open-wide from (suc (suc zero)) k K = omega arith
open-wide from (suc (suc (suc zero))) k K = omega arith
open-wide from (suc (suc (suc (suc zero)))) k K = omega arith
open-wide from (suc (suc (suc (suc (suc zero))))) k K = omega arith
open-wide from (suc (suc (suc (suc (suc (suc zero)))))) k K = omega arith
open-wide from (suc (suc (suc (suc (suc (suc (suc m))))))) zero K = omega arith
open-wide from (suc (suc (suc (suc (suc (suc (suc m))))))) (suc k) K = omega arith

open-break : (K : List Frame) → AtMostOpen (length K) (break K)
open-break [] = none_open _
open-break (member n xs ∷ K) = none_open _
open-break (until xs ∷ K) = some_open _ _ (let h = open-give (array xs) K in omega arith)
open-break (content n ∷ K) = none_open _
open-break (key n ps ∷ K) = none_open _
open-break (worth n ps k ∷ K) = none_open _
open-break (until_key ps ∷ K) = some_open _ _ (let h = open-give (pairs ps) K in omega arith)
open-break (until_worth ps k ∷ K) = none_open _

open-open : (m : ℕ) (K : List Frame) → AtMostOpen (opened m (length K)) (open_indefinite m K)
open-open zero K = none_open _
open-open (suc zero) K = none_open _
open-open (suc (suc zero)) K = some_open _ _ (omega arith)
open-open (suc (suc (suc zero))) K = some_open _ _ (omega arith)
open-open (suc (suc (suc (suc zero)))) K = some_open _ _ (omega arith)
open-open (suc (suc (suc (suc (suc zero))))) K = some_open _ _ (omega arith)
open-open (suc (suc (suc (suc (suc (suc zero)))))) K = none_open _
open-open (suc (suc (suc (suc (suc (suc (suc m))))))) K = open-break K

open-start : (at m : ℕ) (i : Info) (K : List Frame) → AtMostOpen (opened m (length K)) (start at m i K)
open-start at m (given n) K = some_open _ _ (open-after at m n K)
open-start at m (more k) K = some_open _ _ (open-wide at m k K)
open-start at m indefinite K = open-open m K
open-start at m reserved K = none_open _

open-start_chunk : (at m : ℕ) (i : Info) (s : List ℕ) (K : List Frame) → AtMostOpen (length K) (start_chunk at m i s K)
open-start_chunk at m (given n) s K = some_open _ _ (open-await_chunk at m n s K)
open-start_chunk at m (more k) s K = some_open _ _ (omega arith)
open-start_chunk at m indefinite s K = none_open _
open-start_chunk at m reserved s K = none_open _

open-step : (at : ℕ) (s : State) (b n : ℕ) → ((K : List Frame) → s ≡ item K → opened (b / 32) (length K) ≤ n) → open_in s ≤ n → AtMostOpen n (step at s b)
open-step at (item K) b n room h = λ t e. let one = open-start at (b / 32) (info_of (b % 32)) K t e in let two = room K refl in omega arith
open-step at (argument from m zero k K) b n room h = some_open _ _ (let one = open-after from m (k * 256 + b) K in omega arith)
open-step at (argument from m (suc l) k K) b n room h = some_open _ _ h
open-step at (string from m zero s K) b n room h = some_open _ _ (let one = open-give (string_of m (s ++ b ∷ [])) K in omega arith)
open-step at (string from m (suc k) s K) b n room h = some_open _ _ h
open-step at (bits w zero k K) b n room h = some_open _ _ (let one = open-give (float w (k * 256 + b)) K in omega arith)
open-step at (bits w (suc l) k K) b n room h = some_open _ _ h
open-step at (chunk m s K) b n room h =
    cond_open _ (b == 255) _ _ (some_open _ _ (let one = open-give (string_of m s) K in omega arith))
    (cond_open _ (b / 32 == m) _ _ (λ t e. let one = open-start_chunk at m (info_of (b % 32)) s K t e in omega arith) (none_open _))
open-step at (chunk_argument from m zero k s K) b n room h = some_open _ _ (let one = open-await_chunk from m (k * 256 + b) s K in omega arith)
open-step at (chunk_argument from m (suc l) k s K) b n room h = some_open _ _ h
open-step at (chunk_string from m zero s c K) b n room h = some_open _ _ h
open-step at (chunk_string from m (suc k) s c K) b n room h = some_open _ _ h
open-step at (simple_value K) b n room h = cond_open _ (nat_lt b 32) _ _ (none_open _) (some_open _ _ (let one = open-give (simple b) K in omega arith))
open-step at (done x) b n room h = none_open _

-- a container that the bound lets open has room
opened_room : (d m n : ℕ) → n ≤ d → ((nat_lt 3 m && nat_lt m 7) && nat_le d n) ≡ false → opened m n ≤ d
opened_room d zero n h e = h
opened_room d (suc zero) n h e = h
opened_room d (suc (suc zero)) n h e = h
opened_room d (suc (suc (suc zero))) n h e = h
opened_room d (suc (suc (suc (suc zero)))) n h e = let full : nat_le d n ≡ false = e in let less : n < d = grind (arith, nat_tests) in omega arith
opened_room d (suc (suc (suc (suc (suc zero))))) n h e = let full : nat_le d n ≡ false = e in let less : n < d = grind (arith, nat_tests) in omega arith
opened_room d (suc (suc (suc (suc (suc (suc zero)))))) n h e = let full : nat_le d n ≡ false = e in let less : n < d = grind (arith, nat_tests) in omega arith
opened_room d (suc (suc (suc (suc (suc (suc (suc m))))))) n h e = h

pub open-step_in : (d at : ℕ) (s : State) (b : ℕ) → open_in s ≤ d → AtMostOpen d (step_in d at s b)
open-step_in d at (item K) b h = on (opens_container b && nat_le d (length K)) refl
  where
    on : (c : Bool) → (opens_container b && nat_le d (length K)) ≡ c → AtMostOpen d (cond c None (step at (item K) b))
    on true e = none_open _
    on false e = open-step at (item K) b d (λ L same. subst (λ (s : State). opened (b / 32) (open_in s) ≤ d) same (opened_room d (b / 32) (length K) h e)) h
open-step_in d at (argument from m k n K) b h = open-step at (argument from m k n K) b d (λ L e. absurd (cc)) h
open-step_in d at (string from m k s K) b h = open-step at (string from m k s K) b d (λ L e. absurd (cc)) h
open-step_in d at (bits w k n K) b h = open-step at (bits w k n K) b d (λ L e. absurd (cc)) h
open-step_in d at (chunk m s K) b h = open-step at (chunk m s K) b d (λ L e. absurd (cc)) h
open-step_in d at (chunk_argument from m k n s K) b h = open-step at (chunk_argument from m k n s K) b d (λ L e. absurd (cc)) h
open-step_in d at (chunk_string from m k s c K) b h = open-step at (chunk_string from m k s c K) b d (λ L e. absurd (cc)) h
open-step_in d at (simple_value K) b h = open-step at (simple_value K) b d (λ L e. absurd (cc)) h
open-step_in d at (done x) b h = none_open _

pub open-steps_in : (d : ℕ) (b : List ℕ) (at : ℕ) (T U : List Text) (s t : State) → open_in s ≤ d → steps_in d at T s b ≡ Some (U, t) → open_in t ≤ d
open-steps_in d [] at T U s t h e = let same : s ≡ t = ap (λ (r : Option (List Text × State)). state_or r) e in subst (λ u. open_in u ≤ d) same h
  where
    state_or : Option (List Text × State) → State
    state_or None = s
    state_or (Some r) = r.1
open-steps_in d (x ∷ b) at T U s t h e = on (step_in d at s x) refl e (λ u. open-steps_in d b (suc at) (ended s x T) U u t)
  where
    on : (o : Option State) → step_in d at s x ≡ o → option_and_then (λ u. steps_in d (suc at) (ended s x T) u b) o ≡ Some (U, t) → ((u : State) → open_in u ≤ d → steps_in d (suc at) (ended s x T) u b ≡ Some (U, t) → open_in t ≤ d) → open_in t ≤ d
    on None f g rest = absurd (cc)
    on (Some u) f g rest = rest u (open-step_in d at s x h u f) g
