-- Which position has a number next, and what links positions with the same number.
use Rattle.std.specs.Prelude.{◌≡◌, ℕ, suc, ◌<◌, ◌≤◌, List, length, Some, slice_get}
use Rattle.std.specs.Coded.{Coded-set, ×_prop, Π_prop, le_prop, coded_ℕ, coded_option}

-- From a position on, the first one that has the number is this; or none has it, and this is the length of the list.
abbrev pub IsNext : List ℕ → (number from next : ℕ) → Type 0
IsNext ns n from next = (from ≤ next) × ((next ≤ length ns) × (((i : ℕ) → from ≤ i → i < next → slice_get ns i ≡ Some n → ⊥) × (next < length ns → slice_get ns next ≡ Some n)))

-- All numbers are below a bound.
abbrev pub AreBelow : ℕ → List ℕ → Type 0
AreBelow bound ns = (i n : ℕ) → slice_get ns i ≡ Some n → n < bound

-- Each of these is the first position of its number, from a position on.
abbrev pub AreHeads : List ℕ → (from : ℕ) → (heads : List ℕ) → Type 0
AreHeads ns from heads = (n first : ℕ) → slice_get heads n ≡ Some first → IsNext ns n from first

-- From a position on, each of these is the next one with the same number.
abbrev pub AreLinks : List ℕ → (from : ℕ) → (links : List ℕ) → Type 0
AreLinks ns from links = (i n next : ℕ) → from ≤ i → slice_get ns i ≡ Some n → slice_get links i ≡ Some next → IsNext ns n (suc i) next

-- That has one proof at most, so what holds links may hold it.
pub is_next_once : (ns : List ℕ) (n from next : ℕ) → IsProp (IsNext ns n from next)
is_next_once ns n from next = ×_prop le_prop (×_prop le_prop (×_prop (Π_prop (λ i. Π_prop (λ a. Π_prop (λ b. Π_prop (λ e. λ x y. absurd x))))) (Π_prop (λ h. Coded-set (coded_option coded_ℕ) _ _))))

pub are_linked_once : (ns heads links : List ℕ) → IsProp ((length links ≡ length ns) × (AreBelow (length heads) ns × (AreHeads ns 0 heads × AreLinks ns 0 links)))
are_linked_once ns heads links = ×_prop (Coded-set coded_ℕ _ _) (×_prop (Π_prop (λ i. Π_prop (λ n. Π_prop (λ e. le_prop)))) (×_prop (Π_prop (λ n. Π_prop (λ first. Π_prop (λ e. is_next_once ns n 0 first)))) (Π_prop (λ i. Π_prop (λ n. Π_prop (λ next. Π_prop (λ a. Π_prop (λ e. Π_prop (λ f. is_next_once ns n (suc i) next)))))))))
