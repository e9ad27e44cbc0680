-- What is put after ranges in order, or joined to the last of them.
use Rattle.std.proofs.Common.{◌≡◌, ℕ, ◌+◌, ◌<◌, ◌≤◌, max, List, [], ◌∷◌, ◌++◌, drop, length, slice_index_or, Bool, true, false, refl, sym, ap, subst, ◌∙◌, add-one, arith}
use Rattle.std.specs.Prelude.{nat_le, ◌&&◌, ◌||◌}
use Rattle.std.specs.List.Sorted.{IsNonDecreasingBy}
use Rattle.std.proofs.Math.Bool.{or_assoc}
use Rattle.std.proofs.Math.Seq.{drop-cons}
use Rattle.std.proofs.lemmas.List.{get_or_default}
use Rattle.std.proofs.lemmas.Bool.Decides.{nat_tests}
use Rattle.cddl_meaning.specs.Forms.{is_member}
use Rattle.table_nodes.specs.declared.sizes.NumberRange.{NumberRange}
use Rattle.table_nodes.specs.Sizes.{AreInOrder, BeginBy, IsGap, size_view, sizes_view}

-- the order

gap_again : (m : ℕ) (xs : List NumberRange) (r s : NumberRange) → s.least ≡ r.least → IsGap m (xs ++ r ∷ []) → IsGap m (xs ++ s ∷ [])
gap_again m [] r s e h = subst (λ n. m + 1 < n) (sym e) h
gap_again m (x ∷ xs) r s e h = h

gap_before_more : (m : ℕ) (xs : List NumberRange) (r s : NumberRange) → IsGap m (xs ++ r ∷ []) → IsGap m ((xs ++ r ∷ []) ++ s ∷ [])
gap_before_more m [] r s h = h
gap_before_more m (x ∷ xs) r s h = h

pub order_joined : (xs : List NumberRange) (r s : NumberRange) → AreInOrder (xs ++ r ∷ []) → s.least ≡ r.least → s.least ≤ s.last → AreInOrder (xs ++ s ∷ [])
order_joined [] r s h e l = (l, (tt, tt))
order_joined (x ∷ xs) r s h e l = (h.0, (gap_again x.last xs r s e h.1.0, order_joined xs r s h.1.1 e l))

pub order_more : (xs : List NumberRange) (r s : NumberRange) → AreInOrder (xs ++ r ∷ []) → r.last + 1 < s.least → s.least ≤ s.last → AreInOrder ((xs ++ r ∷ []) ++ s ∷ [])
order_more [] r s h g l = (h.0, (g, (l, (tt, tt))))
order_more (x ∷ xs) r s h g l = (h.0, (gap_before_more x.last xs r s h.1.0, order_more xs r s h.1.1 g l))

pub last_some : (xs : List NumberRange) (r : NumberRange) → AreInOrder (xs ++ r ∷ []) → r.least ≤ r.last
last_some [] r h = h.0
last_some (x ∷ xs) r h = last_some xs r h.1.1

-- where they begin

pub begin_more : (n : ℕ) (xs : List NumberRange) (r : NumberRange) → BeginBy n xs → r.least ≤ n → BeginBy n (xs ++ r ∷ [])
begin_more n [] r h l = (l, tt)
begin_more n (x ∷ xs) r h l = (h.0, begin_more n xs r h.1 l)

pub begin_last : (n : ℕ) (xs : List NumberRange) (r : NumberRange) → BeginBy n (xs ++ r ∷ []) → r.least ≤ n
begin_last n [] r h = h.0
begin_last n (x ∷ xs) r h = begin_last n xs r h.1

pub begin_front : (n : ℕ) (xs : List NumberRange) (r : NumberRange) → BeginBy n (xs ++ r ∷ []) → BeginBy n xs
begin_front n [] r h = tt
begin_front n (x ∷ xs) r h = (h.0, begin_front n xs r h.1)

-- which numbers they have

pub members_more : (n : ℕ) (xs : List NumberRange) (r : NumberRange) → is_member n (sizes_view (xs ++ r ∷ [])) ≡ (is_member n (sizes_view xs) || is_member n (size_view r ∷ []))
members_more n [] r = refl
members_more n (x ∷ xs) r = ap (λ (b : Bool). (nat_le x.least n && nat_le n x.last) || b) (members_more n xs r) ∙ sym (or_assoc (nat_le x.least n && nat_le n x.last) (is_member n (sizes_view xs)) (is_member n (size_view r ∷ [])))

one_range : (a b c d n : ℕ) → a ≤ c → c ≤ b + 1 → c ≤ d → (nat_le a n && nat_le n (max b d)) ≡ ((nat_le a n && nat_le n b) || (nat_le c n && nat_le n d))
one_range a b c d n h i j = grind (arith, nat_tests)

with_false : (a b : Bool) → ((a || false) || (b || false)) ≡ ((a || b) || false)
with_false true b = refl
with_false false b = refl

members_of_both : (n : ℕ) (r s j : NumberRange) → r.least ≤ s.least → s.least ≤ r.last + 1 → s.least ≤ s.last → j.least ≡ r.least → j.last ≡ max r.last s.last → is_member n (size_view j ∷ []) ≡ (is_member n (size_view r ∷ []) || is_member n (size_view s ∷ []))
members_of_both n r s j a b c e f = ap (λ (m : ℕ). (nat_le m n && nat_le n j.last) || false) e ∙ (ap (λ (m : ℕ). (nat_le r.least n && nat_le n m) || false) f ∙ (ap (λ (t : Bool). t || false) (one_range r.least r.last s.least s.last n a b c) ∙ sym (with_false (nat_le r.least n && nat_le n r.last) (nat_le s.least n && nat_le n s.last))))

pub members_joined : (n : ℕ) (xs : List NumberRange) (r s j : NumberRange) → r.least ≤ s.least → s.least ≤ r.last + 1 → s.least ≤ s.last → j.least ≡ r.least → j.last ≡ max r.last s.last → is_member n (sizes_view (xs ++ j ∷ [])) ≡ (is_member n (sizes_view (xs ++ r ∷ [])) || is_member n (size_view s ∷ []))
members_joined n xs r s j a b c e f = members_more n xs j ∙ (ap (λ (t : Bool). is_member n (sizes_view xs) || t) (members_of_both n r s j a b c e f) ∙ (sym (or_assoc (is_member n (sizes_view xs)) (is_member n (size_view r ∷ [])) (is_member n (size_view s ∷ []))) ∙ ap (λ (t : Bool). t || is_member n (size_view s ∷ [])) (sym (members_more n xs r))))

-- a step along ranges that begin later and later: the numbers of those so far and of those that are left are all

pub members_step : (n : ℕ) (xs old new : List NumberRange) (i : ℕ) (d : NumberRange) → i < length xs → is_member n (sizes_view new) ≡ (is_member n (sizes_view old) || is_member n (size_view (slice_index_or xs i d) ∷ [])) → (is_member n (sizes_view old) || is_member n (sizes_view (drop i xs))) ≡ is_member n (sizes_view xs) → (is_member n (sizes_view new) || is_member n (sizes_view (drop (i + 1) xs))) ≡ is_member n (sizes_view xs)
members_step n xs old new i d l e h = ap (λ (b : Bool). b || is_member n (sizes_view (drop (i + 1) xs))) e ∙ (or_assoc (is_member n (sizes_view old)) (is_member n (size_view (slice_index_or xs i d) ∷ [])) (is_member n (sizes_view (drop (i + 1) xs))) ∙ (ap (λ (b : Bool). is_member n (sizes_view old) || b) (sym next) ∙ h))
  where
    cut : drop i xs ≡ slice_index_or xs i d ∷ drop (i + 1) xs
    cut = drop-cons xs i d l ∙ ap (λ (j : ℕ). slice_index_or xs i d ∷ drop j xs) (sym (add-one i))

    without_false : (a b : Bool) → (a || b) ≡ ((a || false) || b)
    without_false true b = refl
    without_false false b = refl

    next : is_member n (sizes_view (drop i xs)) ≡ (is_member n (size_view (slice_index_or xs i d) ∷ []) || is_member n (sizes_view (drop (i + 1) xs)))
    next = ap (λ (rs : List NumberRange). is_member n (sizes_view rs)) cut ∙ without_false (nat_le (slice_index_or xs i d).least n && nat_le n (slice_index_or xs i d).last) (is_member n (sizes_view (drop (i + 1) xs)))

pub begins_later : (xs : List NumberRange) (i k : ℕ) (d e : NumberRange) → IsNonDecreasingBy (λ (r : NumberRange). r.least) xs → i ≤ k → k < length xs → (slice_index_or xs i e).least ≤ (slice_index_or xs k d).least
begins_later xs i k d e h l w = subst (λ (r : NumberRange). r.least ≤ (slice_index_or xs k d).least) (get_or_default xs i d e (omega (arith, l, w))) (h i k d l w)
