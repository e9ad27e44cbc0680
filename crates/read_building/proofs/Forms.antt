-- What the machine that builds leads to is what the machine of forms leads to.
use Rattle.std.proofs.Common.{◌≡◌, ℕ, zero, suc, ◌+◌, ◌*◌, ◌/◌, ◌%◌, List, [], ◌∷◌, ◌++◌, length, nat_le, nat_lt, ◌==◌, ◌&&◌, cond, Bool, true, false, Option, Some, None, option_and_then, refl, sym, ap, ◌∙◌}
use Rattle.cbor_data.specs.Value.{Value, array, pairs, tag, Values, Pairs, no_values, no_pairs}
use Rattle.cbor_data.specs.Machine.Machine as machine
use Rattle.cbor_data.specs.Machine.Machine.{Info, given, more, indefinite, reserved, info_of, opens_container, twice}
use Rattle.read_building.specs.Building.{Frame, member, until, content, key, worth, until_key, until_worth, State, item, argument, string, bits, chunk, chunk_argument, chunk_string, simple_value, done, string_of, with_value, with_pair, give, ask, ask_pairs, await_string, await_chunk_string, after, break, wide, open_indefinite, start, start_chunk, step, Text, ended, steps, step_in, steps_in, frames_of, form_of, form_next, form_reached}

pub form_of-give : (x : Value) (K : List Frame) → form_of (give x K) ≡ machine.give (frames_of K)
form_of-give x [] = refl
form_of-give x (member zero xs ∷ K) = form_of-give (array (with_value xs x)) K
form_of-give x (member (suc n) xs ∷ K) = refl
form_of-give x (until xs ∷ K) = refl
form_of-give x (content n ∷ K) = form_of-give (tag n x) K
form_of-give x (key n ps ∷ K) = refl
form_of-give x (worth zero ps k ∷ K) = form_of-give (pairs (with_pair ps k x)) K
form_of-give x (worth (suc n) ps k ∷ K) = refl
form_of-give x (until_key ps ∷ K) = refl
form_of-give x (until_worth ps k ∷ K) = refl

pub form_of-ask : (n : ℕ) (xs : Values) (K : List Frame) → form_of (ask n xs K) ≡ machine.ask n (frames_of K)
form_of-ask zero xs K = form_of-give (array xs) K
form_of-ask (suc n) xs K = refl

pub form_of-ask_pairs : (n : ℕ) (ps : Pairs) (K : List Frame) → form_of (ask_pairs n ps K) ≡ machine.ask (twice n) (frames_of K)
form_of-ask_pairs zero ps K = form_of-give (pairs ps) K
form_of-ask_pairs (suc n) ps K = refl

form_of-await_string : (from m n : ℕ) (K : List Frame) → form_of (await_string from m n K) ≡ machine.await_content n (frames_of K)
form_of-await_string from m zero K = form_of-give (string_of m []) K
form_of-await_string from m (suc n) K = refl

form_of-await_chunk : (from m n : ℕ) (s : List ℕ) (K : List Frame) → form_of (await_chunk_string from m n s K) ≡ machine.await_chunk_content m n (frames_of K)
form_of-await_chunk from m zero s K = refl
form_of-await_chunk from m (suc n) s K = refl

form_of-after : (from m n : ℕ) (K : List Frame) → form_of (after from m n K) ≡ machine.after m n (frames_of K)
form_of-after from zero n K = form_of-give _ K
form_of-after from (suc zero) n K = form_of-give _ K
form_of-after from (suc (suc zero)) n K = form_of-await_string from 2 n K
form_of-after from (suc (suc (suc zero))) n K = form_of-await_string from 3 n K
form_of-after from (suc (suc (suc (suc zero)))) n K = form_of-ask n no_values K
form_of-after from (suc (suc (suc (suc (suc zero))))) n K = form_of-ask_pairs n no_pairs K
form_of-after from (suc (suc (suc (suc (suc (suc zero)))))) n K = refl
form_of-after from (suc (suc (suc (suc (suc (suc (suc m))))))) n K = form_of-give _ K

form_of-wide : (from m k : ℕ) (K : List Frame) → form_of (wide from m k K) ≡ machine.wide m k (frames_of K)
form_of-wide from zero k K = refl
form_of-wide from (suc zero) k K = refl
form_of-wide from (suc (suc zero)) k K = refl
form_of-wide from (suc (suc (suc zero))) k K = refl
form_of-wide from (suc (suc (suc (suc zero)))) k K = refl
form_of-wide from (suc (suc (suc (suc (suc zero))))) k K = refl
form_of-wide from (suc (suc (suc (suc (suc (suc zero)))))) k K = refl
form_of-wide from (suc (suc (suc (suc (suc (suc (suc m))))))) zero K = refl
form_of-wide from (suc (suc (suc (suc (suc (suc (suc m))))))) (suc k) K = refl

form_of-break : (K : List Frame) → form_next (break K) ≡ machine.break (frames_of K)
form_of-break [] = refl
form_of-break (member n xs ∷ K) = refl
form_of-break (until xs ∷ K) = ap Some (form_of-give (array xs) K)
form_of-break (content n ∷ K) = refl
form_of-break (key n ps ∷ K) = refl
form_of-break (worth n ps k ∷ K) = refl
form_of-break (until_key ps ∷ K) = ap Some (form_of-give (pairs ps) K)
form_of-break (until_worth ps k ∷ K) = refl

form_of-open : (m : ℕ) (K : List Frame) → form_next (open_indefinite m K) ≡ machine.open_indefinite m (frames_of K)
form_of-open zero K = refl
form_of-open (suc zero) K = refl
form_of-open (suc (suc zero)) K = refl
form_of-open (suc (suc (suc zero))) K = refl
form_of-open (suc (suc (suc (suc zero)))) K = refl
form_of-open (suc (suc (suc (suc (suc zero))))) K = refl
form_of-open (suc (suc (suc (suc (suc (suc zero)))))) K = refl
form_of-open (suc (suc (suc (suc (suc (suc (suc m))))))) K = form_of-break K

form_of-start : (at m : ℕ) (i : Info) (K : List Frame) → form_next (start at m i K) ≡ machine.start m i (frames_of K)
form_of-start at m (given n) K = ap Some (form_of-after at m n K)
form_of-start at m (more k) K = ap Some (form_of-wide at m k K)
form_of-start at m indefinite K = form_of-open m K
form_of-start at m reserved K = refl

form_of-start_chunk : (at m : ℕ) (i : Info) (s : List ℕ) (K : List Frame) → form_next (start_chunk at m i s K) ≡ machine.start_chunk m i (frames_of K)
form_of-start_chunk at m (given n) s K = ap Some (form_of-await_chunk at m n s K)
form_of-start_chunk at m (more k) s K = refl
form_of-start_chunk at m indefinite s K = refl
form_of-start_chunk at m reserved s K = refl

form_next-cond : (c : Bool) (a b : Option State) → form_next (cond c a b) ≡ cond c (form_next a) (form_next b)
form_next-cond true a b = refl
form_next-cond false a b = refl

pub form_of-step : (at : ℕ) (s : State) (b : ℕ) → form_next (step at s b) ≡ machine.step (form_of s) b
form_of-step at (item K) b = form_of-start at (b / 32) (info_of (b % 32)) K
form_of-step at (argument from m zero n K) b = ap Some (form_of-after from m (n * 256 + b) K)
form_of-step at (argument from m (suc k) n K) b = refl
form_of-step at (string from m zero s K) b = ap Some (form_of-give (string_of m (s ++ b ∷ [])) K)
form_of-step at (string from m (suc k) s K) b = refl
form_of-step at (bits w zero n K) b = ap Some (form_of-give _ K)
form_of-step at (bits w (suc k) n K) b = refl
form_of-step at (chunk m s K) b =
    form_next-cond (b == 255) _ _
    ∙ (ap (λ o. cond (b == 255) (Some o) (form_next (cond (b / 32 == m) (start_chunk at m (info_of (b % 32)) s K) None))) (form_of-give (string_of m s) K)
    ∙ ap (cond (b == 255) (Some (machine.give (frames_of K)))) (form_next-cond (b / 32 == m) _ _ ∙ ap (λ o. cond (b / 32 == m) o None) (form_of-start_chunk at m (info_of (b % 32)) s K)))
form_of-step at (chunk_argument from m zero n s K) b = ap Some (form_of-await_chunk from m (n * 256 + b) s K)
form_of-step at (chunk_argument from m (suc k) n s K) b = refl
form_of-step at (chunk_string from m zero s c K) b = refl
form_of-step at (chunk_string from m (suc k) s c K) b = refl
form_of-step at (simple_value K) b = form_next-cond (nat_lt b 32) _ _ ∙ ap (λ o. cond (nat_lt b 32) None (Some o)) (form_of-give _ K)
form_of-step at (done x) b = refl

pub frames_of-length : (K : List Frame) → length (frames_of K) ≡ length K
frames_of-length [] = refl
frames_of-length (f ∷ K) = ap suc (frames_of-length K)

pub form_of-step_in : (d at : ℕ) (s : State) (b : ℕ) → form_next (step_in d at s b) ≡ machine.step_in d (form_of s) b
form_of-step_in d at (item K) b =
    form_next-cond (opens_container b && nat_le d (length K)) None (step at (item K) b)
    ∙ (ap (cond (opens_container b && nat_le d (length K)) None) (form_of-step at (item K) b)
    ∙ ap (λ k. cond (opens_container b && nat_le d k) None (machine.step (form_of (item K)) b)) (sym (frames_of-length K)))
form_of-step_in d at (argument from m k n K) b = form_of-step at (argument from m k n K) b
form_of-step_in d at (string from m k s K) b = form_of-step at (string from m k s K) b
form_of-step_in d at (bits w k n K) b = form_of-step at (bits w k n K) b
form_of-step_in d at (chunk m s K) b = form_of-step at (chunk m s K) b
form_of-step_in d at (chunk_argument from m k n s K) b = form_of-step at (chunk_argument from m k n s K) b
form_of-step_in d at (chunk_string from m k s c K) b = form_of-step at (chunk_string from m k s c K) b
form_of-step_in d at (simple_value K) b = form_of-step at (simple_value K) b
form_of-step_in d at (done x) b = refl

-- one step, and then the others
chained : (o : Option State) (f : State → Option (List Text × State)) (g : machine.State → Option machine.State) → ((t : State) → form_reached (f t) ≡ g (form_of t)) → form_reached (option_and_then f o) ≡ option_and_then g (form_next o)
chained None f g e = refl
chained (Some t) f g e = e t

pub form_of-steps : (at : ℕ) (T : List Text) (s : State) (b : List ℕ) → form_reached (steps at T s b) ≡ machine.steps (form_of s) b
form_of-steps at T s [] = refl
form_of-steps at T s (x ∷ b) =
    chained (step at s x) (λ t. steps (suc at) (ended s x T) t b) (λ t. machine.steps t b) (λ t. form_of-steps (suc at) (ended s x T) t b)
    ∙ ap (option_and_then (λ t. machine.steps t b)) (form_of-step at s x)

pub form_of-steps_in : (d at : ℕ) (T : List Text) (s : State) (b : List ℕ) → form_reached (steps_in d at T s b) ≡ machine.steps_in d (form_of s) b
form_of-steps_in d at T s [] = refl
form_of-steps_in d at T s (x ∷ b) =
    chained (step_in d at s x) (λ t. steps_in d (suc at) (ended s x T) t b) (λ t. machine.steps_in d t b) (λ t. form_of-steps_in d (suc at) (ended s x T) t b)
    ∙ ap (option_and_then (λ t. machine.steps_in d t b)) (form_of-step_in d at s x)
