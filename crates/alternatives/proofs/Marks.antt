-- What members are closed, and which alternatives may occur so: by their sorts.
use Rattle.std.proofs.Common.{◌≡◌, ℕ, zero, suc, List, [], ◌∷◌, ◌++◌, map, Bool, true, false, not, ◌&&◌, ◌||◌, if◌then◌else◌, refl, sym, ap, ◌∙◌, nat_eq, nat_le, arith}
use Rattle.std.specs.List.{list_all}
use Rattle.std.proofs.lemmas.Bool.Decides.{nat_tests}
use Rattle.std.proofs.lemmas.List.Concat.{flat_map-append}
use Rattle.alternatives.specs.declared.Member.{Member}
use Rattle.alternatives.specs.Splices.{Alternatives, members, behind, ways, is_optional, is_open, is_single, is_needed, may_repeat, from}
use Rattle.alternatives.specs.Sorts.{Sort, empty, optional, needed, other, sort, only, joined, sorts_of, is_closed, any_closed}

pub members_append : (mss nss : Alternatives) → members (mss ++ nss) ≡ members mss ++ members nss
members_append mss nss = flat_map-append (λ ms. ms) mss nss

pub closed_append : (ms ns : List Member) → any_closed (ms ++ ns) ≡ any_closed ms || any_closed ns
closed_append [] ns = refl
closed_append (m ∷ ms) ns = ap (λ b. is_closed m || b) (closed_append ms ns) ∙ or_or (is_closed m) (any_closed ms) (any_closed ns)
  where
    or_or : (a b c : Bool) → a || (b || c) ≡ (a || b) || c
    or_or true b c = refl
    or_or false b c = refl

pub closed_both : (mss nss : Alternatives) → any_closed (members (mss ++ nss)) ≡ any_closed (members mss) || any_closed (members nss)
closed_both mss nss = ap any_closed (members_append mss nss) ∙ closed_append (members mss) (members nss)

abbrev pub some : Alternatives → Bool
some [] = false
some (ms ∷ mss) = true

same_or : {a b c d : Bool} → a ≡ b → c ≡ d → (a || c) ≡ (b || d)
same_or p q = cc

closed_behind : (ms : List Member) (nss : Alternatives) → any_closed (members (behind ms nss)) ≡ (any_closed ms && some nss) || any_closed (members nss)
closed_behind ms [] = none (any_closed ms)
  where
    none : (a : Bool) → false ≡ (a && false) || false
    none true = refl
    none false = refl
closed_behind ms (ns ∷ nss) =
    closed_append (ms ++ ns) (members (behind ms nss)) ∙ (same_or (closed_append ms ns) (closed_behind ms nss) ∙ (more (any_closed ms) (any_closed ns) (some nss) (any_closed (members nss)) ∙ ap (λ b. (any_closed ms && true) || b) (sym (closed_append ns (members nss)))))
  where
    more : (a b s r : Bool) → (a || b) || ((a && s) || r) ≡ (a && true) || (b || r)
    more true b s r = refl
    more false b s r = refl

pub closed_ways : (mss nss : Alternatives) → any_closed (members (ways mss nss)) ≡ (any_closed (members mss) && some nss) || (some mss && any_closed (members nss))
closed_ways [] nss = refl
closed_ways (ms ∷ mss) nss =
    closed_both (behind ms nss) (ways mss nss) ∙ (same_or (closed_behind ms nss) (closed_ways mss nss) ∙ (more (any_closed ms) (some nss) (any_closed (members nss)) (any_closed (members mss)) (some mss) ∙ ap (λ b. (b && some nss) || (true && any_closed (members nss))) (sym (closed_append ms (members mss)))))
  where
    more : (a s r b t : Bool) → ((a && s) || r) || ((b && s) || (t && r)) ≡ ((a || b) && s) || (true && r)
    more true true r b t = refl
    more true false true b t = refl
    more true false false true true = refl
    more true false false true false = refl
    more true false false false true = refl
    more true false false false false = refl
    more false true true true t = refl
    more false false true true t = refl
    more false s true false t = refl
    more false true false true t = refl
    more false false false true true = refl
    more false false false true false = refl
    more false s false false true = refl
    more false s false false false = refl

-- with `from`, no member is closed

pub closed_from : (k : ℕ) (ms : List Member) → any_closed (map (from k) ms) ≡ false
closed_from k [] = refl
closed_from k (m ∷ ms) = closed_from k ms

-- one member

abbrev pub by_minimum : Bool → Bool → Sort
by_minimum zero_is one_is = if (zero_is && true) then optional else (if one_is then needed else other)

pub only_one : (k : Sort) → joined (only k) (sorts_of []) ≡ only k
only_one empty = refl
only_one optional = refl
only_one needed = refl
only_one other = refl

-- a minimum above 1

pub not_none : (n : ℕ) → nat_eq (suc (suc n)) 0 ≡ false
not_none n = grind (arith, nat_tests)

pub not_one : (n : ℕ) → nat_eq (suc (suc n)) 1 ≡ false
not_one n = grind (arith, nat_tests)

not_at_most_one : (n : ℕ) → nat_le (suc (suc n)) 1 ≡ false
not_at_most_one n = grind (arith, nat_tests)

-- which may have `*`

open_is : (ms : List Member) → list_all (λ (m : Member). is_open m.bounds.most) ms ≡ not (any_closed ms)
open_is [] = refl
open_is (m ∷ ms) = ap (λ b. is_open m.bounds.most && b) (open_is ms) ∙ by (is_open m.bounds.most) (any_closed ms)
  where
    by : (a b : Bool) → a && not b ≡ not (not a || b)
    by true b = refl
    by false b = refl

shape_is : (ms : List Member) → (is_single ms || list_all is_optional ms) ≡ not (only (sort ms)).other
shape_is [] = refl
shape_is (m ∷ []) = by m.bounds.least
  where
    by : (n : ℕ) → nat_le n 1 || (nat_eq n 0 && true) ≡ not (only (by_minimum (nat_eq n 0) (nat_eq n 1))).other
    by zero = refl
    by (suc zero) = refl
    by (suc (suc n)) = above _ _ _ (not_at_most_one n) (not_none n) (not_one n)
      where
        above : (a b c : Bool) → a ≡ false → b ≡ false → c ≡ false → a || (b && true) ≡ not (only (by_minimum b c)).other
        above a b c p q r = rw (p, q, r)
shape_is (m ∷ n ∷ ms) = by (is_optional m && (is_optional n && list_all is_optional ms))
  where
    by : (a : Bool) → a ≡ not (only (if a then optional else other)).other
    by true = refl
    by false = refl

repeats : (ms : List Member) → may_repeat ms ≡ not (any_closed ms || (only (sort ms)).other)
repeats ms = both (shape_is ms) (open_is ms) ∙ by (only (sort ms)).other (any_closed ms)
  where
    both : {a b c d : Bool} → a ≡ b → c ≡ d → (a && c) ≡ (b && d)
    both p q = cc

    by : (a b : Bool) → not a && not b ≡ not (b || a)
    by true true = refl
    by true false = refl
    by false true = refl
    by false false = refl

same_and : {a b c d : Bool} → a ≡ b → c ≡ d → (a && c) ≡ (b && d)
same_and p q = cc

pub all_repeat : (mss : Alternatives) → list_all may_repeat mss ≡ not (any_closed (members mss) || (sorts_of mss).other)
all_repeat [] = refl
all_repeat (ms ∷ mss) =
    same_and (repeats ms) (all_repeat mss) ∙ (by (any_closed ms) (only (sort ms)).other (any_closed (members mss)) (sorts_of mss).other ∙ ap (λ b. not (b || ((only (sort ms)).other || (sorts_of mss).other))) (sym (closed_append ms (members mss))))
  where
    by : (a x b y : Bool) → not (a || x) && not (b || y) ≡ not ((a || b) || (x || y))
    by true x b y = refl
    by false true true y = refl
    by false true false y = refl
    by false false true y = refl
    by false false false true = refl
    by false false false false = refl

-- which may have `+`

need_is : (ms : List Member) → is_needed ms ≡ not ((only (sort ms)).empty || ((only (sort ms)).optional || (only (sort ms)).other))
need_is [] = refl
need_is (m ∷ []) = by m.bounds.least
  where
    by : (n : ℕ) → nat_eq n 1 ≡ not ((only (by_minimum (nat_eq n 0) (nat_eq n 1))).empty || ((only (by_minimum (nat_eq n 0) (nat_eq n 1))).optional || (only (by_minimum (nat_eq n 0) (nat_eq n 1))).other))
    by zero = refl
    by (suc zero) = refl
    by (suc (suc n)) = above _ _ (not_none n) (not_one n)
      where
        above : (b c : Bool) → b ≡ false → c ≡ false → c ≡ not ((only (by_minimum b c)).empty || ((only (by_minimum b c)).optional || (only (by_minimum b c)).other))
        above b c q r = rw (q, r)
need_is (m ∷ n ∷ ms) = by (is_optional m && (is_optional n && list_all is_optional ms))
  where
    by : (a : Bool) → false ≡ not ((only (if a then optional else other)).empty || ((only (if a then optional else other)).optional || (only (if a then optional else other)).other))
    by true = refl
    by false = refl

pub all_needed : (mss : Alternatives) → list_all is_needed mss ≡ not ((sorts_of mss).empty || ((sorts_of mss).optional || (sorts_of mss).other))
all_needed [] = refl
all_needed (ms ∷ mss) =
    same_and (need_is ms) (all_needed mss) ∙ by (only (sort ms)).empty (only (sort ms)).optional (only (sort ms)).other (sorts_of mss).empty (sorts_of mss).optional (sorts_of mss).other
  where
    by : (a b c d e f : Bool) → not (a || (b || c)) && not (d || (e || f)) ≡ not ((a || d) || ((b || e) || (c || f)))
    by true b c d e f = refl
    by false true c true e f = refl
    by false true c false e f = refl
    by false false true true e f = refl
    by false false true false true f = refl
    by false false true false false f = refl
    by false false false true e f = refl
    by false false false false true f = refl
    by false false false false false true = refl
    by false false false false false false = refl
