-- What holds of each question, if it holds of those below, holds of all: by the size of what is asked, and by rank.
use Rattle.std.proofs.Common.{ℕ, zero, suc, ◌<◌, ◌≤◌, ◌⊎◌, inl, inr, List, arith}
use Rattle.cbor_data.specs.Value.{Value}
use Rattle.cddl_meaning.specs.Size.{size, list_size}

-- smaller, or no larger and of a lower rank
abbrev pub IsLess : ℕ → ℕ → ℕ → ℕ → Type 0
IsLess s r S R = (s < S) ⊎ ((s ≤ S) × (r < R))

-- P is said of types and items, Q of groups and lists, at a place (and the place of the array)
module _ {N G : Type 0} (type_rank : N → ℕ) (group_rank : G → ℕ) (P : N → ℕ → Value → Type 0) (Q : G → ℕ → ℕ → List Value → Type 0) where
  abbrev TypesBelow : ℕ → ℕ → Type 0
  TypesBelow S R = (m : N) (p : ℕ) (y : Value) → IsLess (size y) (type_rank m) S R → P m p y

  abbrev GroupsBelow : ℕ → ℕ → Type 0
  GroupsBelow S R = (g : G) (base q : ℕ) (ys : List Value) → IsLess (list_size ys) (group_rank g) S R → Q g base q ys

  -- all of a smaller size
  record AllUnder (S : ℕ) : Type 0 where
    of_types : (m : N) (p : ℕ) (y : Value) → size y < S → P m p y
    of_groups : (g : G) (base q : ℕ) (ys : List Value) → list_size ys < S → Q g base q ys

  -- all of at most this size and of a lower rank
  record AllRanked (S R : ℕ) : Type 0 where
    of_types : (m : N) (p : ℕ) (y : Value) → size y ≤ S → type_rank m < R → P m p y
    of_groups : (g : G) (base q : ℕ) (ys : List Value) → list_size ys ≤ S → group_rank g < R → Q g base q ys

  less_types : (S R s r : ℕ) → s ≤ S → r ≤ R → AllUnder S → AllRanked S R → TypesBelow s r
  less_types S R s r h k u a m p y (inl i) = u.of_types m p y (omega (arith, h, i))
  less_types S R s r h k u a m p y (inr i) = a.of_types m p y (omega (arith, h, i.0)) (omega (arith, k, i.1))

  less_groups : (S R s r : ℕ) → s ≤ S → r ≤ R → AllUnder S → AllRanked S R → GroupsBelow s r
  less_groups S R s r h k u a g base q ys (inl i) = u.of_groups g base q ys (omega (arith, h, i))
  less_groups S R s r h k u a g base q ys (inr i) = a.of_groups g base q ys (omega (arith, h, i.0)) (omega (arith, k, i.1))

  module _ (of_type : (m : N) (p : ℕ) (y : Value) → TypesBelow (size y) (type_rank m) → GroupsBelow (size y) (type_rank m) → P m p y) (of_group : (g : G) (base q : ℕ) (ys : List Value) → TypesBelow (list_size ys) (group_rank g) → GroupsBelow (list_size ys) (group_rank g) → Q g base q ys) where
    by_rank : (S : ℕ) → AllUnder S → (R : ℕ) → AllRanked S R
    by_rank S u zero = record { of_types = λ m p y h k. absurd (omega (arith, k)); of_groups = λ g base q ys h k. absurd (omega (arith, k)) }
    by_rank S u (suc R) =
        let a = by_rank S u R in
        record {
          of_types = λ m p y h k. let i : type_rank m ≤ R = omega (arith, k) in of_type m p y (less_types S R (size y) (type_rank m) h i u a) (less_groups S R (size y) (type_rank m) h i u a);
          of_groups = λ g base q ys h k. let i : group_rank g ≤ R = omega (arith, k) in of_group g base q ys (less_types S R (list_size ys) (group_rank g) h i u a) (less_groups S R (list_size ys) (group_rank g) h i u a);
        }

    by_size : (S : ℕ) → AllUnder S
    by_size zero = record { of_types = λ m p y h. absurd (omega (arith, h)); of_groups = λ g base q ys h. absurd (omega (arith, h)) }
    by_size (suc S) =
        let u = by_size S in
        record {
          of_types = λ m p y h. (by_rank S u (suc (type_rank m))).of_types m p y (omega (arith, h)) (omega arith);
          of_groups = λ g base q ys h. (by_rank S u (suc (group_rank g))).of_groups g base q ys (omega (arith, h)) (omega arith);
        }

    pub for_types : (m : N) (p : ℕ) (y : Value) → P m p y
    for_types m p y = (by_size (suc (size y))).of_types m p y (omega arith)

    pub for_groups : (g : G) (base q : ℕ) (ys : List Value) → Q g base q ys
    for_groups g base q ys = (by_size (suc (list_size ys))).of_groups g base q ys (omega arith)
