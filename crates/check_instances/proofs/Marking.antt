-- Marks that are set.
use Rattle.std.proofs.Common.{◌≡◌, ℕ, zero, suc, ◌-◌, ◌<◌, ◌≤◌, ◌⊎◌, inl, inr, Bool, true, false, true≢false, not, List, [], ◌∷◌, ◌++◌, length, take, replicate, get_or, slice_set, refl, sym, ap, arith}
use Rattle.std.proofs.Common.{length-append, length-take}
use Rattle.std.proofs.lemmas.List.{length-replicate}
use Rattle.check_instances.specs.Marks.{is_marked, is_new, widened, with_mark}

-- what reading and writing tell

pub new_read : (ms : List Bool) (k : ℕ) (m : Bool) → k < length ms → m ≡ get_or ms k m → not m ≡ is_new ms k
new_read [] k m l e = absurd (omega (arith, l))
new_read (b ∷ ms) zero m l e = ap not e
new_read (b ∷ ms) (suc k) m l e = new_read ms k m (omega (arith, l)) e

pub mark_written : (ms : List Bool) (k : ℕ) (m : Bool) → k < length ms → m ≡ true → slice_set ms k m ≡ with_mark ms k
mark_written [] k m l e = absurd (omega (arith, l))
mark_written (b ∷ ms) zero m l e = ap (λ (c : Bool). c ∷ ms) e
mark_written (b ∷ ms) (suc k) m l e = ap (λ (cs : List Bool). b ∷ cs) (mark_written ms k m (omega (arith, l)) e)

pub none_new : (ms : List Bool) (k : ℕ) → length ms ≤ k → false ≡ is_new ms k
none_new [] k l = refl
none_new (b ∷ ms) zero l = absurd (omega (arith, l))
none_new (b ∷ ms) (suc k) l = none_new ms k (omega (arith, l))

pub none_marked : (ms : List Bool) (k : ℕ) → length ms ≤ k → ms ≡ with_mark ms k
none_marked [] k l = refl
none_marked (b ∷ ms) zero l = absurd (omega (arith, l))
none_marked (b ∷ ms) (suc k) l = ap (λ (cs : List Bool). b ∷ cs) (none_marked ms k (omega (arith, l)))

-- with a further mark

pub marks_kept : (ms : List Bool) (k n : ℕ) → is_marked ms n ≡ true → is_marked (with_mark ms k) n ≡ true
marks_kept [] k n h = h
marks_kept (b ∷ ms) zero zero h = refl
marks_kept (b ∷ ms) zero (suc n) h = h
marks_kept (b ∷ ms) (suc k) zero h = h
marks_kept (b ∷ ms) (suc k) (suc n) h = marks_kept ms k n h

pub mark_set : (ms : List Bool) (k : ℕ) → is_new ms k ≡ true → is_marked (with_mark ms k) k ≡ true
mark_set [] k h = h
mark_set (b ∷ ms) zero h = refl
mark_set (b ∷ ms) (suc k) h = mark_set ms k h

pub mark_cases : (ms : List Bool) (k n : ℕ) → is_marked (with_mark ms k) n ≡ true → (is_marked ms n ≡ true) ⊎ (n ≡ k)
mark_cases [] k n h = inl h
mark_cases (b ∷ ms) zero zero h = inr refl
mark_cases (b ∷ ms) zero (suc n) h = inl h
mark_cases (b ∷ ms) (suc k) zero h = inl h
mark_cases (b ∷ ms) (suc k) (suc n) h = by (mark_cases ms k n h)
  where
    by : (is_marked ms n ≡ true) ⊎ (n ≡ k) → (is_marked ms n ≡ true) ⊎ (suc n ≡ suc k)
    by (inl g) = inl g
    by (inr e) = inr (ap suc e)

pub old_same : (ms : List Bool) (k : ℕ) → is_new ms k ≡ false → with_mark ms k ≡ ms
old_same [] k h = refl
old_same (true ∷ ms) zero h = refl
old_same (false ∷ ms) zero h = absurd (true≢false h)
old_same (b ∷ ms) (suc k) h = ap (λ (cs : List Bool). b ∷ cs) (old_same ms k h)

pub old_marked : (ms : List Bool) (k : ℕ) → is_new ms k ≡ false → k < length ms → is_marked ms k ≡ true
old_marked [] k h l = absurd (omega (arith, l))
old_marked (true ∷ ms) zero h l = refl
old_marked (false ∷ ms) zero h l = absurd (true≢false h)
old_marked (b ∷ ms) (suc k) h l = old_marked ms k h (omega (arith, l))

pub new_unmarked : (ms : List Bool) (k : ℕ) → is_new ms k ≡ true → is_marked ms k ≡ true → ⊥
new_unmarked [] k h g = true≢false (sym h)
new_unmarked (true ∷ ms) zero h g = true≢false (sym h)
new_unmarked (false ∷ ms) zero h g = true≢false (sym g)
new_unmarked (b ∷ ms) (suc k) h g = new_unmarked ms k h g

pub as_many_marks : (ms : List Bool) (k : ℕ) → length (with_mark ms k) ≡ length ms
as_many_marks [] k = refl
as_many_marks (b ∷ ms) zero = refl
as_many_marks (b ∷ ms) (suc k) = ap suc (as_many_marks ms k)

pub marked_within : (ms : List Bool) (n : ℕ) → is_marked ms n ≡ true → n < length ms
marked_within [] n h = absurd (true≢false (sym h))
marked_within (b ∷ ms) zero h = omega arith
marked_within (b ∷ ms) (suc n) h = let l = marked_within ms n h in omega (arith, l)

-- how many marks are not set
abbrev pub unmarked : List Bool → ℕ
unmarked [] = 0
unmarked (true ∷ ms) = unmarked ms
unmarked (false ∷ ms) = suc (unmarked ms)

pub one_fewer : (ms : List Bool) (k : ℕ) → is_new ms k ≡ true → suc (unmarked (with_mark ms k)) ≡ unmarked ms
one_fewer [] k h = absurd (true≢false (sym h))
one_fewer (true ∷ ms) zero h = absurd (true≢false (sym h))
one_fewer (false ∷ ms) zero h = refl
one_fewer (true ∷ ms) (suc k) h = one_fewer ms k h
one_fewer (false ∷ ms) (suc k) h = ap suc (one_fewer ms k h)

-- further marks that are not set

unset : (k n : ℕ) → is_marked (replicate k false) n ≡ false
unset zero n = refl
unset (suc k) zero = refl
unset (suc k) (suc n) = unset k n

same_front : (ms : List Bool) (n k m : ℕ) → length ms ≤ n → is_marked (take n ms ++ replicate k false) m ≡ is_marked ms m
same_front [] zero k m l = unset k m
same_front [] (suc n) k m l = unset k m
same_front (b ∷ ms) zero k m l = absurd (omega (arith, l))
same_front (b ∷ ms) (suc n) k zero l = refl
same_front (b ∷ ms) (suc n) k (suc m) l = same_front ms n k m (omega (arith, l))

pub same_marks : (ms : List Bool) (n m : ℕ) → length ms ≤ n → is_marked (widened ms n) m ≡ is_marked ms m
same_marks ms n m l = same_front ms n (n - length ms) m l

pub so_wide : (ms : List Bool) (n : ℕ) → length ms ≤ n → length (widened ms n) ≡ n
so_wide ms n l =
    let a = length-append (take n ms) (replicate (n - length ms) false) in
    let b = length-take n ms in
    let c = length-replicate (n - length ms) false in
    omega (arith, a, b, c, l)
