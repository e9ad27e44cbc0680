-- What groups in maps stand for (RFC 8610 section 3.5): parts that are known by numbers, and the alternatives that each has.
use Rattle.std.specs.Prelude.{◌≡◌, ℕ, zero, suc, nat_eq, nat_le, Bool, true, false, if◌then◌else◌, ◌&&◌, ◌||◌, List, [], ◌∷◌, ◌++◌, map, flat_map, Option, Some, None, slice_get}
use Rattle.std.specs.List.{list_all}
use Rattle.alternatives.specs.declared.Bounds.{Bounds}
use Rattle.alternatives.specs.declared.Member.{Member}
use Rattle.alternatives.specs.declared.Part.{Part}
use Rattle.alternatives.specs.declared.Part.TheVariants.{Entry, Empty, Nothing, Same, Both, Either, Occurs}

-- each alternative is a list of entries with keys
abbrev pub Alternatives : Type 0
Alternatives = List (List Member)

-- all members of the alternatives, in order
abbrev pub members : Alternatives → List Member
members mss = flat_map (λ ms. ms) mss

-- each of these after the members
abbrev pub behind : List Member → Alternatives → Alternatives
behind ms nss = map (λ ns. ms ++ ns) nss

-- all ways to take one of the first and one of the second, the first slowest
abbrev pub ways : Alternatives → Alternatives → Alternatives
ways mss nss = flat_map (λ ms. behind ms nss) mss

-- Groups with an occurrence (section 3.2). RFC 8610 leaves open what one means of a whole group in a map; it is taken where
-- it can be said of the group's entries.

abbrev pub is_optional : Member → Bool
is_optional m = nat_eq m.bounds.least 0

-- its maximum is at least 1
abbrev pub is_open : Option ℕ → Bool
is_open (Some n) = nat_le 1 n
is_open None = true

-- one member, of minimum at most 1; or of minimum 1
abbrev pub is_single : List Member → Bool
is_single (m ∷ []) = nat_le m.bounds.least 1
is_single _ = false

abbrev pub is_needed : List Member → Bool
is_needed (m ∷ []) = nat_eq m.bounds.least 1
is_needed _ = false

-- one member of minimum at most 1, or only members of minimum 0; and every maximum is at least 1
abbrev pub may_repeat : List Member → Bool
may_repeat ms = (is_single ms || list_all is_optional ms) && list_all (λ (m : Member). is_open m.bounds.most) ms

-- the member so often at least, without an end
abbrev pub from : ℕ → Member → Member
from n m = record { entry = m.entry; bounds = record { least = n; most = None } }

-- for each of these members one alternative of them all, in which it is needed and the others are not
abbrev pub each_needed : (before : List Member) → List Member → Alternatives
each_needed before [] = []
each_needed before (m ∷ ms) = (before ++ from 1 m ∷ map (from 0) ms) ∷ each_needed (before ++ from 0 m ∷ []) ms

-- What a group with these alternatives has, where it occurs so: exactly once, `?`, `*`, `+`; it may not occur otherwise.
abbrev pub occurring : ℕ → Option ℕ → Alternatives → Option Alternatives
occurring (suc zero) (Some (suc zero)) mss = Some mss
occurring zero (Some (suc zero)) mss = Some (mss ++ [] ∷ [])
occurring zero None mss = if list_all may_repeat mss then Some (map (from 0) (members mss) ∷ []) else None
occurring (suc zero) None mss = if list_all is_needed mss then Some (each_needed [] (members mss)) else None
occurring _ _ mss = None

-- the one member that the entry of this number is
abbrev pub entry_of : ℕ → Bounds → Alternatives
entry_of n b = (record { entry = n; bounds = b } ∷ []) ∷ []

-- What the part of a number stands for. What comes back to itself stands for nothing, since a derivation is finite.
mutual
  pub data HasAlternatives (parts : List Part) : ℕ → Alternatives → Type 0 where
    stands : {n : ℕ} {p : Part} {mss : Alternatives} → slice_get parts n ≡ Some p → Splices parts n p mss → HasAlternatives parts n mss

  pub data Splices (parts : List Part) : ℕ → Part → Alternatives → Type 0 where
    entry : {n : ℕ} {b : Bounds} → Splices parts n (Entry b) (entry_of n b)
    empty : {n : ℕ} → Splices parts n Empty ([] ∷ [])
    nothing : {n : ℕ} → Splices parts n Nothing []
    same : {n a : ℕ} {mss : Alternatives} → HasAlternatives parts a mss → Splices parts n (Same a) mss
    both : {n a b : ℕ} {mss nss : Alternatives} → HasAlternatives parts a mss → HasAlternatives parts b nss → Splices parts n (Both a b) (ways mss nss)
    either : {n a b : ℕ} {mss nss : Alternatives} → HasAlternatives parts a mss → HasAlternatives parts b nss → Splices parts n (Either a b) (mss ++ nss)
    occurs : {n a : ℕ} {b : Bounds} {mss nss : Alternatives} → HasAlternatives parts a mss → occurring b.least b.most mss ≡ Some nss → Splices parts n (Occurs b a) nss

-- the one part has the other
pub data Has : Part → ℕ → Type 0 where
  has_same : {a : ℕ} → Has (Same a) a
  has_first : {a b : ℕ} → Has (Both a b) a
  has_second : {a b : ℕ} → Has (Both a b) b
  has_one : {a b : ℕ} → Has (Either a b) a
  has_other : {a b : ℕ} → Has (Either a b) b
  has_group : {b : Bounds} {a : ℕ} → Has (Occurs b a) a

pub record LeadsTo (parts : List Part) (x y : ℕ) : Type 0 where
  pub part : Part
  pub there : slice_get parts x ≡ Some part
  pub has : Has part y
