-- A tally that walks along the pairs of an alternative tells what their fates do.
use Rattle.std.proofs.Common.{◌≡◌, ℕ, suc, ◌+◌, ◌<◌, ◌≤◌, ◌^◌, length, List, [], ◌∷◌, Option, Some, None, true, false, nat_eq, nat_le, ◌&&◌, refl, sym, ap, ◌∙◌, arith, Bool, if◌then◌else◌}
use Rattle.std.proofs.lemmas.Bool.Decides.{nat_tests}
use Rattle.lists.proofs.Lemmas.{is_equal}
use Rattle.cddl_meaning.specs.Forms.{MapEntry}
use Rattle.cddl_meaning.specs.Judges.{Yes, No, is_up_to_most, Fate, BelongsTo, Stray, count_of, are_enough, first_stray, first_failing, alternative_says, Answer}
use Rattle.cddl_meaning.specs.Moves.{plus, Tally, no_counts, fresh, counted, first_of, tallied, enough_of, tally_says}

-- the tally after these pairs
abbrev pub all_tallied : Tally → List Fate → Tally
all_tallied t [] = t
all_tallied t (f ∷ fs) = all_tallied (tallied t f) fs

abbrev or_first : Option ℕ → Option ℕ → Option ℕ
or_first (Some p) o = Some p
or_first None o = o

first_kept : (o : Option ℕ) (q : ℕ) (m : Option ℕ) → or_first (first_of o q) m ≡ or_first o (Some q)
first_kept (Some p) q m = refl
first_kept None q m = refl

stray_of : (t : Tally) (fs : List Fate) → (all_tallied t fs).stray ≡ or_first t.stray (first_stray fs)
stray_of t [] = by t.stray
  where
    by : (o : Option ℕ) → o ≡ or_first o None
    by (Some p) = refl
    by None = refl
stray_of t (BelongsTo j Yes ∷ fs) = stray_of (tallied t (BelongsTo j Yes)) fs
stray_of t (BelongsTo j (No far) ∷ fs) = stray_of (tallied t (BelongsTo j (No far))) fs
stray_of t (Stray q ∷ fs) = stray_of (tallied t (Stray q)) fs ∙ first_kept t.stray q (first_stray fs)

failing_of : (t : Tally) (fs : List Fate) → (all_tallied t fs).failing ≡ or_first t.failing (first_failing fs)
failing_of t [] = by t.failing
  where
    by : (o : Option ℕ) → o ≡ or_first o None
    by (Some p) = refl
    by None = refl
failing_of t (BelongsTo j Yes ∷ fs) = failing_of (tallied t (BelongsTo j Yes)) fs
failing_of t (BelongsTo j (No far) ∷ fs) = failing_of (tallied t (BelongsTo j (No far))) fs ∙ first_kept t.failing far (first_failing fs)
failing_of t (Stray q ∷ fs) = failing_of (tallied t (Stray q)) fs

-- these counts, which are the last of an alternative, with those of more pairs
abbrev added : List ℕ → List Fate → List ℕ
added [] fs = []
added (n ∷ ns) fs = (n + count_of (length ns) fs) ∷ added ns fs

added_none : (ns : List ℕ) → added ns [] ≡ ns
added_none [] = refl
added_none (n ∷ ns) = cc (add_zero n, added_none ns)
  where
    add_zero : (n : ℕ) → n + 0 ≡ n
    add_zero n = omega arith

added_stray : (q : ℕ) (ns : List ℕ) (fs : List Fate) → added ns (Stray q ∷ fs) ≡ added ns fs
added_stray q [] fs = refl
added_stray q (n ∷ ns) fs = ap (λ ms. (n + count_of (length ns) fs) ∷ ms) (added_stray q ns fs)

higher : (m n : ℕ) → n < m → nat_eq m n ≡ false
higher m n h = grind (arith, nat_tests)

-- a pair of an entry before these
added_before : (m : ℕ) (a : Answer) (ns : List ℕ) (fs : List Fate) → length ns ≤ m → added ns (BelongsTo m a ∷ fs) ≡ added ns fs
added_before m a [] fs h = refl
added_before m a (n ∷ ns) fs h = rw (higher m (length ns) (omega (arith, h))) (ap (λ ms. (n + count_of (length ns) fs) ∷ ms) (added_before m a ns fs (omega (arith, h))))

-- so many pairs more can be counted
abbrev AllFit : ℕ → List ℕ → Type 0
AllFit k [] = Unit {0}
AllFit k (n ∷ ns) = (n + k < 2 ^ 64) × AllFit k ns

one_less_fits : (k : ℕ) (ns : List ℕ) → AllFit (suc k) ns → AllFit k ns
one_less_fits k [] h = tt
one_less_fits k (n ∷ ns) h = (omega (arith, h.0), one_less_fits k ns h.1)

one_more : (n k : ℕ) → n + suc k < 2 ^ 64 → plus n 1 ≡ n + 1
one_more n k h = grind (arith)

counted_fits : (k m : ℕ) (ns : List ℕ) → AllFit (suc k) ns → AllFit k (counted m ns)
counted_fits k m [] h = tt
counted_fits k m (n ∷ ns) h = by (counted_fits k m ns h.1) (nat_eq m (length ns))
  where
    by : AllFit k (counted m ns) → (b : Bool) → AllFit k (if b then plus n 1 ∷ ns else n ∷ counted m ns)
    by f true = (omega (arith, one_more n k h.0, h.0), one_less_fits k ns h.1)
    by f false = (omega (arith, h.0), f)

none_fit : {N : Type 0} (k : ℕ) (es : List (MapEntry N)) → k < 2 ^ 64 → AllFit k (no_counts es)
none_fit k [] h = tt
none_fit k (e ∷ es) h = (omega (arith, h), none_fit k es h)

as_long : (m : ℕ) (ns : List ℕ) → length (counted m ns) ≡ length ns
as_long m [] = refl
as_long m (n ∷ ns) = by (as_long m ns) (nat_eq m (length ns))
  where
    by : length (counted m ns) ≡ length ns → (b : Bool) → length (if b then plus n 1 ∷ ns else n ∷ counted m ns) ≡ suc (length ns)
    by e true = refl
    by e false = ap suc e

-- a pair of one of these, or of an entry before them
added_one : (k m : ℕ) (a : Answer) (ns : List ℕ) (fs : List Fate) → AllFit (suc k) ns → added (counted m ns) fs ≡ added ns (BelongsTo m a ∷ fs)
added_one k m a [] fs f = refl
added_one k m a (n ∷ ns) fs f = by (added_one k m a ns fs f.1) (nat_eq m (length ns)) refl
  where
    shifted : (c : ℕ) → plus n 1 + c ≡ n + suc c
    shifted c = omega (arith, one_more n k f.0)

    by : added (counted m ns) fs ≡ added ns (BelongsTo m a ∷ fs) → (b : Bool) → nat_eq m (length ns) ≡ b → added (if b then plus n 1 ∷ ns else n ∷ counted m ns) fs ≡ (n + (if b then suc (count_of (length ns) fs) else count_of (length ns) fs)) ∷ added ns (BelongsTo m a ∷ fs)
    by i true e = cc (shifted (count_of (length ns) fs), sym (added_before m a ns fs (omega (arith, is_equal m (length ns) e))))
    by i false e = rw (as_long m ns) (ap (λ ms. (n + count_of (length ns) fs) ∷ ms) i)

counts_of : (t : Tally) (fs : List Fate) → AllFit (length fs) t.counts → (all_tallied t fs).counts ≡ added t.counts fs
counts_of t [] h = sym (added_none t.counts)
counts_of t (BelongsTo m Yes ∷ fs) h = counts_of (tallied t (BelongsTo m Yes)) fs (counted_fits (length fs) m t.counts h) ∙ added_one (length fs) m Yes t.counts fs h
counts_of t (BelongsTo m (No far) ∷ fs) h = counts_of (tallied t (BelongsTo m (No far))) fs (counted_fits (length fs) m t.counts h) ∙ added_one (length fs) m (No far) t.counts fs h
counts_of t (Stray q ∷ fs) h = counts_of (tallied t (Stray q)) fs (one_less_fits (length fs) t.counts h) ∙ sym (added_stray q t.counts fs)

module _ {N : Type 0} where
  none_as_long : (es : List (MapEntry N)) → length (no_counts es) ≡ length es
  none_as_long [] = refl
  none_as_long (e ∷ es) = ap suc (none_as_long es)

  enough_is : (es : List (MapEntry N)) (fs : List Fate) → enough_of es (added (no_counts es) fs) ≡ are_enough es fs
  enough_is [] fs = refl
  enough_is (e ∷ es) fs = rw (begins (count_of (length (no_counts es)) fs), none_as_long es) (ap (λ b. (nat_le e.least (count_of (length es) fs) && is_up_to_most (count_of (length es) fs) e.most) && b) (enough_is es fs))
    where
      begins : (c : ℕ) → 0 + c ≡ c
      begins c = omega arith

  pub tally_is : (es : List (MapEntry N)) (p : ℕ) (fs : List Fate) → length fs < 2 ^ 64 → tally_says es p (all_tallied (fresh es) fs) ≡ alternative_says es p fs
  tally_is es p fs h = rw (stray_of (fresh es) fs, failing_of (fresh es) fs, counts_of (fresh es) fs (none_fit (length fs) es h), enough_is es fs) refl
