-- What the machine does with a head, for any numbers that meet a test.
use Rattle.std.proofs.Common.{◌≡◌, ◌≢◌, ℕ, zero, suc, ◌-◌, ◌*◌, ◌/◌, ◌%◌, ◌<◌, List, ◌∷◌, true, false, ◌==◌, Some, None, ◌⊎◌, inl, inr, refl, ap, arith}
use Rattle.std.proofs.lemmas.Bool.Decides.{nat_tests}
use Rattle.cbor_data.specs.Machine.Machine.{Frame, rest, item, chunk, ask, twice, open_indefinite, info_of, start_chunk, break, give, step}
use Rattle.read_items.specs.Form.Stages.{frame_of}
use Rattle.read_items.specs.declared.form.frame.Frame as declared
use Rattle.read_items.specs.declared.form.frame.Frame.TheVariants.{Rest, Until, UntilKey, UntilValue}

pub twice_is : (n : ℕ) → twice n ≡ 2 * n
twice_is zero = refl
twice_is (suc n) = let e : twice n ≡ 2 * n = twice_is n in omega arith

pub ask_some : (n : ℕ) (K : List Frame) → 0 < n → ask n K ≡ item (rest (n - 1) ∷ K)
ask_some zero K h = absurd (omega arith)
ask_some (suc n) K h = ap (λ k. item (rest k ∷ K)) (omega arith)

pub opened_none : (m : ℕ) (K : List Frame) → m < 8 → m ≢ 2 → m ≢ 3 → m ≢ 4 → m ≢ 5 → m ≢ 7 → open_indefinite m K ≡ None
opened_none zero K h a b c d e = refl
opened_none (suc zero) K h a b c d e = refl
opened_none (suc (suc zero)) K h a b c d e = absurd (omega arith)
opened_none (suc (suc (suc zero))) K h a b c d e = absurd (omega arith)
opened_none (suc (suc (suc (suc zero)))) K h a b c d e = absurd (omega arith)
opened_none (suc (suc (suc (suc (suc zero))))) K h a b c d e = absurd (omega arith)
opened_none (suc (suc (suc (suc (suc (suc zero)))))) K h a b c d e = refl
opened_none (suc (suc (suc (suc (suc (suc (suc m))))))) K h a b c d e = absurd (omega arith)

pub chunk_other : (m b : ℕ) (K : List Frame) → b ≢ 255 → b / 32 ≢ m → step (chunk m K) b ≡ None
chunk_other m b K h g =
    let t : (b == 255) ≡ false = grind (arith, nat_tests) in
    let u : (b / 32 == m) ≡ false = grind (arith, nat_tests) in
    rw (t, u) refl

pub chunk_begins : (m b : ℕ) (K : List Frame) → b ≢ 255 → b / 32 ≡ m → step (chunk m K) b ≡ start_chunk m (info_of (b % 32)) K
chunk_begins m b K h g =
    let t : (b == 255) ≡ false = grind (arith, nat_tests) in
    let u : (b / 32 == m) ≡ true = grind (arith, nat_tests) in
    rw (t, u) refl

-- the break ends an indefinite container that awaits no value
pub break_ends : (f : declared.Frame) (K : List Frame) → (f ≡ Until) ⊎ (f ≡ UntilKey) → break (frame_of f ∷ K) ≡ Some (give K)
break_ends f K (inl e) = ap (λ g. break (frame_of g ∷ K)) e
break_ends f K (inr e) = ap (λ g. break (frame_of g ∷ K)) e

pub break_stays : (f : declared.Frame) (K : List Frame) → ((n : ℕ) × (f ≡ Rest n)) ⊎ (f ≡ UntilValue) → break (frame_of f ∷ K) ≡ None
break_stays f K (inl (n, e)) = ap (λ g. break (frame_of g ∷ K)) e
break_stays f K (inr e) = ap (λ g. break (frame_of g ∷ K)) e
