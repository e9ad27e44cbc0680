-- `r = a<int>` and `a<t> = [t, ? a<[t]>]` have endless instances.
use Rattle.std.specs.Prelude.{◌≡◌, ◌≢◌, ℕ, zero, suc, ◌<◌, ◌-◌, length, List, [], ◌∷◌, ◌++◌, slice_index_or, Contains, AllPairs, None, codes}
use Rattle.std.proofs.Common.{refl, sym, ap, subst, arith}
use Rattle.lists.proofs.Lemmas.{beyond_zero as below_zero}
use Rattle.cddl_token.specs.declared.Code.TheVariants as C
use Rattle.cddl_language.specs.Terms.{Term, array_of, Ref, call, no_terms, term, sole, entries, no_entries, typed}
use Rattle.cddl_language.specs.Prelude.{prelude}
use Rattle.cddl_language.specs.Reach.{Point, Reaches, at_root, onward, at_name, most_instances, points, points_in}
use Rattle.cddl_language.specs.Literals.{Values}
use Rattle.cddl_language.specs.Examples as E
use Rattle.cddl_language.specs.Faults.{IsFaultAt, definitions}
use Rattle.cddl_language.specs.Texts as T

-- `int` in so many arrays
abbrev nested : ℕ → Term
nested zero = E.int
nested (suc k) = E.array_with (typed None (nested k))

abbrev use_of : ℕ → Ref
use_of k = call (codes "a") (term (nested k) no_terms)

one_name : (k : ℕ) → points (nested k) ≡ at_name (E.a_ref (codes "int")) ∷ []
one_name zero = refl
one_name (suc k) = one_name k

second : (ps : List Point) (p q : Point) → ps ≡ q ∷ [] → Contains (((ps) ++ p ∷ []) ++ []) p
second ps p q e = subst (λ us. Contains ((us ++ p ∷ []) ++ []) p) (sym e) (1, omega arith, refl)

next : (k : ℕ) → Contains (points_in (definitions T.endless) (use_of k)) (at_name (use_of (suc k)))
unfolding prelude
next k = second (points (nested k)) (at_name (use_of (suc k))) (at_name (E.a_ref (codes "int"))) (one_name k)

reached : (k : ℕ) → Reaches (definitions T.endless) (codes "r") (use_of k)
unfolding prelude
reached zero = onward at_root (0, omega arith, refl) refl
reached (suc k) = onward (reached k) (next k) refl

-- from the deepest on
abbrev down : ℕ → List Ref
down zero = []
down (suc n) = use_of n ∷ down n

as_long : (n : ℕ) → length (down n) ≡ n
as_long zero = refl
as_long (suc n) = ap suc (as_long n)

all_reached : (n : ℕ) (r : Ref) → Contains (down n) r → Reaches (definitions T.endless) (codes "r") r
all_reached zero r (k, h, e) = absurd (below_zero k h)
all_reached (suc n) r (zero, h, e) = subst (Reaches (definitions T.endless) (codes "r")) e (reached n)
all_reached (suc n) r (suc k, h, e) = all_reached n r (k, omega arith, e)

abbrev depth_of : Term → ℕ
depth_of (array_of (sole (entries no_entries (typed None t) c))) = suc (depth_of t)
depth_of _ = 0

abbrev depth_in : Ref → ℕ
depth_in (call n no_terms) = 0
depth_in (call n (term t ts)) = depth_of t

as_deep : (k : ℕ) → depth_of (nested k) ≡ k
as_deep zero = refl
as_deep (suc k) = ap suc (as_deep k)

at_front : (a n : ℕ) → a ≡ n → suc a ≡ suc n - 0
at_front a n e = omega arith

after : (a n i : ℕ) → suc a ≡ n - i → suc a ≡ suc n - suc i
after a n i e = omega arith

deep_at : (n i : ℕ) (d : Ref) → i < n → suc (depth_in (slice_index_or (down n) i d)) ≡ n - i
deep_at zero i d h = absurd (below_zero i h)
deep_at (suc n) zero d h = at_front (depth_of (nested n)) n (as_deep n)
deep_at (suc n) (suc i) d h = after _ n i (deep_at n i d (omega arith))

distinct : (n : ℕ) → AllPairs (λ (q r : Ref). q ≢ r) (down n)
distinct n i j d h k e = other (n) i j _ _ h (subst (λ m. j < m) (as_long n) k) (deep_at n i d (before i j n h (subst (λ m. j < m) (as_long n) k))) (deep_at n j d (subst (λ m. j < m) (as_long n) k)) (ap depth_in e)
  where
    before : (i j n : ℕ) → i < j → j < n → i < n
    before i j n h k = omega arith

    other : (n i j a b : ℕ) → i < j → j < n → suc a ≡ n - i → suc b ≡ n - j → a ≡ b → ⊥
    other n i j a b h k e f g = omega arith

pub too_many : (worth : Values) → IsFaultAt T.endless worth C.TooManyInstances 0
too_many worth = record { instances = down 4097; reached = all_reached 4097; distinct = distinct 4097; many = subst (λ n. most_instances < n) (sym (as_long 4097)) (omega arith); offset = refl }
