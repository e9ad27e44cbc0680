-- Pairs that belong to the first entries of an alternative belong to the same ones in each alternative that begins with these.
use Rattle.std.proofs.Common.{◌≡◌, ℕ, zero, suc, ◌+◌, ◌-◌, ◌<◌, ◌≤◌, ◌⊎◌, inl, inr, nat_eq, List, [], ◌∷◌, length, get_or, drop, Bool, true, false, cond, ⊎_elim, refl, sym, ap, ◌∙◌, subst, arith}
use Rattle.std.proofs.lemmas.Bool.Decides.{nat_tests}
use Rattle.lists.proofs.Lemmas.{before_or_not}
use Rattle.cbor_data.specs.Value.{Value, Pairs, pair, place_count}
use Rattle.cddl_meaning.specs.Forms.{Language, MapEntry, is_passed_over, pair_cost}
use Rattle.cddl_meaning.specs.Judges.{Says, Yes, No, Fate, BelongsTo, Stray, count_of, Sorts, all_sorted, sort, Belongs, nowhere, passed_over, asked, BelongsAsked, other_key, here, cut_here, handed_on}
use Rattle.tape_match.specs.Says.{AreFates, AskTheSame, BeginSame, PairTaken, PairsSorted, is_fallen}

-- The alternatives begin with entries that ask the same, after which each has its own.
data BeginBoth {N : Type 0} (own its : List (MapEntry N)) : List (MapEntry N) → List (MapEntry N) → Type 0 where
  behind : BeginBoth own its own its
  same : {e f : MapEntry N} {es fs : List (MapEntry N)} → AskTheSame e f → BeginBoth own its es fs → BeginBoth own its (e ∷ es) (f ∷ fs)

both_begin : {N : Type 0} (n : ℕ) (es fs : List (MapEntry N)) → BeginSame n es fs → BeginBoth (drop n es) (drop n fs) es fs
both_begin zero es fs b = behind
both_begin (suc n) [] fs b = absurd (omega (arith, b.some))
both_begin (suc n) (a ∷ es) [] b = absurd (omega (arith, b.others))
both_begin (suc n) (a ∷ es) (c ∷ fs) b = same (b.same 0 a c (omega arith) refl refl) (both_begin n es fs (record { some = omega (arith, b.some); others = omega (arith, b.others); same = λ i e f less is at. b.same (suc i) e f (omega (arith, less)) is at }))

as_far : {N : Type 0} {own its es fs : List (MapEntry N)} → BeginBoth own its es fs → (length own ≤ length es) × (length es + length its ≡ length fs + length own)
as_far behind = (omega arith, omega arith)
as_far (same a b) = let h = as_far b in (omega (arith, h.0), omega (arith, h.1))

-- a pair belongs to an entry with so many after it, or with more, and its value is as this says
abbrev InFront : ℕ → Fate → Type 0
InFront d (BelongsTo n Yes) = d ≤ n
InFront d (BelongsTo n (No far)) = ⊥
InFront d (Stray q) = ⊥

abbrev AreInFront : ℕ → List Fate → Type 0
AreInFront d [] = Unit {0}
AreInFront d (f ∷ fs) = InFront d f × AreInFront d fs

-- the fate in the other alternative
abbrev moved : (own its : ℕ) → Fate → Fate
moved d c (BelongsTo n a) = BelongsTo (n - d + c) a
moved d c (Stray q) = Stray q

abbrev all_moved : (own its : ℕ) → List Fate → List Fate
all_moved d c [] = []
all_moved d c (f ∷ fs) = moved d c f ∷ all_moved d c fs

-- a pair belongs to one of the entries
abbrev IsInside : ℕ → Fate → Type 0
IsInside m (BelongsTo n a) = n < m
IsInside m (Stray q) = Unit {0}

wider : (f : Fate) (m : ℕ) → IsInside m f → IsInside (suc m) f
wider (BelongsTo n a) m h = omega (arith, h)
wider (Stray q) m h = tt

not_both : (f : Fate) (m : ℕ) → InFront m f → IsInside m f → ⊥
not_both (BelongsTo n Yes) m h i = absurd (omega (arith, h, i))
not_both (BelongsTo n (No far)) m h i = h
not_both (Stray q) m h i = h

module _ {N G : Type 0} (l : Language N G) where
  mutual
    belongs_inside : {es : List (MapEntry N)} {q w : ℕ} {k x : Value} {f : Fate} → Belongs l es q k x f w → IsInside (length es) f
    belongs_inside nowhere = tt
    belongs_inside {f = f} (passed_over {es = es} h b) = wider f (length es) (belongs_inside b)
    belongs_inside (asked h b) = asked_inside b

    asked_inside : {e : MapEntry N} {es : List (MapEntry N)} {q w : ℕ} {k x : Value} {f : Fate} → BelongsAsked l e es q k x f w → IsInside (suc (length es)) f
    asked_inside {es = es} {f = f} (other_key d b) = wider f (length es) (belongs_inside b)
    asked_inside (here d b) = omega arith
    asked_inside (cut_here c d b) = omega arith
    asked_inside {es = es} {f = f} (handed_on c d b t) = wider f (length es) (belongs_inside t)

  mutual
    belongs_again : {own its es fs : List (MapEntry N)} {q w : ℕ} {k x : Value} {f : Fate} → Belongs l es q k x f w → BeginBoth own its es fs → InFront (length own) f → Belongs l fs q k x (moved (length own) (length its) f) w
    belongs_again {own = own} {f = f} b behind h = absurd (not_both f (length own) h (belongs_inside b))
    belongs_again {k = k} (passed_over i b) (same a r) h = passed_over (subst (λ n. is_passed_over l.counting n k ≡ true) a.key i) (belongs_again b r h)
    belongs_again {k = k} (asked i b) (same a r) h = asked (subst (λ n. is_passed_over l.counting n k ≡ false) a.key i) (asked_again b a r h)

    asked_again : {own its es fs : List (MapEntry N)} {e g : MapEntry N} {q w : ℕ} {k x : Value} {f : Fate} → BelongsAsked l e es q k x f w → AskTheSame e g → BeginBoth own its es fs → InFront (length own) f → BelongsAsked l g fs q k x (moved (length own) (length its) f) w
    asked_again {q = q} {k = k} (other_key {far = far} {v = v} d b) a r h = other_key (subst (λ n. Says l (l.type_at n) q k (No far) v) a.key d) (belongs_again b r h)
    asked_again {own = own} {its = its} {es = es} {fs = fs} {g = g} {q = q} {k = k} {x = x} (here {v = v} {w = w} d b) a r h =
        let far = as_far r in
        let at : length fs ≡ length es - length own + length its = omega (arith, far.0, far.1) in
        subst (λ n. BelongsAsked l g fs q k x (BelongsTo n Yes) (v + w)) at (here (subst (λ n. Says l (l.type_at n) q k Yes v) a.key d) (subst (λ n. Says l (l.type_at n) (q + place_count k) x Yes w) a.value b))
    asked_again (cut_here c d b) a r h = absurd h
    asked_again {q = q} {k = k} {x = x} (handed_on {far = far} {u = u} {v = v} c d b t) a r h = handed_on (sym a.cuts ∙ c) (subst (λ n. Says l (l.type_at n) q k Yes u) a.key d) (subst (λ n. Says l (l.type_at n) (q + place_count k) x (No far) v) a.value b) (belongs_again t r h)

  sorts_again : {own its es fs : List (MapEntry N)} {q w : ℕ} {ps : Pairs} {gs : List Fate} → ((m n : ℕ) → pair_cost l.counting m ≡ pair_cost l.counting n) → Sorts l es q ps gs w → BeginBoth own its es fs → AreInFront (length own) gs → Sorts l fs q ps (all_moved (length own) (length its) gs) w
  sorts_again cost all_sorted r h = all_sorted
  sorts_again {own = own} {its = its} {es = es} {fs = fs} cost (sort {q = q} {v = v} {w = w} {k = k} {x = x} {ps = ps} {f = f} {fs = gs} d s) r h =
      subst (λ n. Sorts l fs q (pair k x ps) (moved (length own) (length its) f ∷ all_moved (length own) (length its) gs) (n + v + w)) (cost (length fs) (length es)) (sort (belongs_again d r h.0) (sorts_again cost s r h.1))

-- how many belong to an entry

plus : Bool → ℕ → ℕ
plus b k = cond b (suc k) k

-- no pair belongs to the last entries: each belongs to one of the first
in_front : (d : ℕ) (fs : List Fate) → is_fallen fs ≡ false → ((n : ℕ) → n < d → count_of n fs ≡ 0) → AreInFront d fs
in_front d [] e h = tt
in_front d (BelongsTo m Yes ∷ fs) e h = (here_is (before_or_not m d), in_front d fs e (λ n less. none (nat_eq m n) (count_of n fs) (h n less)))
  where
    none : (b : Bool) (k : ℕ) → cond b (suc k) k ≡ 0 → k ≡ 0
    none true k f = absurd (omega (arith, f))
    none false k f = f

    itself : nat_eq m m ≡ true
    itself = grind (arith, nat_tests)

    here_is : (m < d) ⊎ (d ≤ m) → d ≤ m
    here_is (inl less) = absurd (omega (arith, sym (ap (λ b. cond b (suc (count_of m fs)) (count_of m fs)) itself) ∙ h m less))
    here_is (inr i) = i
in_front d (BelongsTo m (No far) ∷ fs) e h = let never : true ≡ false = e in absurd (cc)
in_front d (Stray q ∷ fs) e h = let never : true ≡ false = e in absurd (cc)

not_fallen_again : (d c : ℕ) (fs : List Fate) → is_fallen fs ≡ false → is_fallen (all_moved d c fs) ≡ false
not_fallen_again d c [] e = refl
not_fallen_again d c (BelongsTo m Yes ∷ fs) e = not_fallen_again d c fs e
not_fallen_again d c (BelongsTo m (No far) ∷ fs) e = e
not_fallen_again d c (Stray q ∷ fs) e = e

counted_again : (d c n : ℕ) (fs : List Fate) → AreInFront d fs → count_of (n + c) (all_moved d c fs) ≡ count_of (n + d) fs
counted_again d c n [] h = refl
counted_again d c n (BelongsTo m Yes ∷ fs) h =
    ap (λ b. cond b (suc (count_of (n + c) (all_moved d c fs))) (count_of (n + c) (all_moved d c fs))) (alike m h.0) ∙ ap (λ k. cond (nat_eq m (n + d)) (suc k) k) (counted_again d c n fs h.1)
  where
    alike : (m : ℕ) → d ≤ m → nat_eq (m - d + c) (n + c) ≡ nat_eq m (n + d)
    alike m i = grind (arith, nat_tests, i)
counted_again d c n (BelongsTo m (No far) ∷ fs) h = absurd h.0
counted_again d c n (Stray q ∷ fs) h = absurd h.0

none_again : (d c n : ℕ) (fs : List Fate) → n < c → AreInFront d fs → count_of n (all_moved d c fs) ≡ 0
none_again d c n [] less h = refl
none_again d c n (BelongsTo m Yes ∷ fs) less h =
    ap (λ b. cond b (suc (count_of n (all_moved d c fs))) (count_of n (all_moved d c fs))) other ∙ none_again d c n fs less h.1
  where
    other : nat_eq (m - d + c) n ≡ false
    other = grind (arith, nat_tests, less)
none_again d c n (BelongsTo m (No far) ∷ fs) less h = absurd h.0
none_again d c n (Stray q ∷ fs) less h = absurd h.0

-- Pairs that belong to the first entries, so many, of an alternative, are sorted so to each that begins with these.
pub sorted_again : {N G : Type 0} (l : Language N G) (reach : ℕ) (es fs : List (MapEntry N)) (ps : Pairs) (counts : List ℕ) (k : ℕ) → ((m n : ℕ) → pair_cost l.counting m ≡ pair_cost l.counting n) → reach ≤ length es → ((i : ℕ) → reach ≤ i → get_or counts i 0 ≡ 0) → BeginSame reach es fs → PairsSorted l es ps counts false k → PairsSorted l fs ps counts false k
sorted_again l reach es fs ps counts k cost within none alike s q = (all_moved d c gs, (not_fallen_again d c gs a.0, counted), sorts_again l cost (s q).2 both front)
  where
    gs : List Fate
    gs = (s q).0

    a : AreFates false (length es) counts gs
    a = (s q).1

    d : ℕ
    d = length (drop reach es)

    c : ℕ
    c = length (drop reach fs)

    both : BeginBoth (drop reach es) (drop reach fs) es fs
    both = both_begin reach es fs alike

    mine : length es ≡ reach + d
    mine = parts es reach within
      where
        parts : {A : Type 0} (xs : List A) (n : ℕ) → n ≤ length xs → length xs ≡ n + length (drop n xs)
        parts xs zero h = omega arith
        parts [] (suc n) h = absurd (omega (arith, h))
        parts (x ∷ xs) (suc n) h = omega (arith, parts xs n (omega (arith, h)))

    others : length fs ≡ reach + c
    others = let far = as_far both in omega (arith, mine, far.0, far.1)

    front : AreInFront d gs
    front = in_front d gs a.0 (λ n less. a.1 n (length es - suc n) (omega (arith, less, mine)) ∙ none (length es - suc n) (omega (arith, less, mine)))

    counted : (n i : ℕ) → i + suc n ≡ length fs → count_of n (all_moved d c gs) ≡ get_or counts i 0
    counted n i e = ⊎_elim (λ (less : n < c). none_again d c n gs less front ∙ sym (none i (omega (arith, less, e, others)))) (λ (h : c ≤ n). at_least h) (before_or_not n c)
      where
        at_least : c ≤ n → count_of n (all_moved d c gs) ≡ get_or counts i 0
        at_least h =
            let is : n ≡ (n - c) + c = omega (arith, h) in
            ap (λ m. count_of m (all_moved d c gs)) is ∙ (counted_again d c (n - c) gs front ∙ a.1 ((n - c) + d) i (omega (arith, h, e, others, mine)))

-- A pair that belongs to one of the first entries, so many, of an alternative, belongs to the same one in each that begins with entries that ask the same.
pub taken_again : {N G : Type 0} (l : Language N G) (n number : ℕ) (es fs : List (MapEntry N)) (k x : Value) (w : ℕ) → BeginSame n es fs → number < n → PairTaken l es k x (length es - 1 - number) w → PairTaken l fs k x (length fs - 1 - number) w
taken_again l n number es fs k x w b less h q =
    let both = both_begin n es fs b in
    let far = as_far both in
    let own = split n es b.some in
    let its = split n fs b.others in
    let at : (length es - 1 - number) - length (drop n es) + length (drop n fs) ≡ length fs - 1 - number = omega (arith, own, its, less) in
    subst (λ m. Belongs l fs q k x (BelongsTo m Yes) w) at (belongs_again l (h q) both (omega (arith, own, less)))
  where
    split : {A : Type 0} (m : ℕ) (xs : List A) → m ≤ length xs → length xs ≡ m + length (drop m xs)
    split zero xs h = omega arith
    split (suc m) [] h = absurd (omega (arith, h))
    split (suc m) (x ∷ xs) h = omega (arith, split m xs (omega (arith, h)))
