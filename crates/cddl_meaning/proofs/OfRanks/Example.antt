-- The example is ranked.
use Rattle.std.proofs.Common.{ℕ, zero, suc, ◌≤◌, arith}
use Rattle.cddl_meaning.specs.Forms.{Entry}
use Rattle.cddl_meaning.specs.Ranks.Flags.{IsTypeRanked}
use Rattle.cddl_meaning.specs.Ranks.Ranked.{MayBeEmpty, IsRanked}
use Rattle.cddl_meaning.specs.Ranks.Example.{example, example_type, example_group, example_rank}
use Rattle.cddl_meaning.proofs.OfRanks.ByForm.{IsGroupRanked, types_by, groups_by, from_forms}

abbrev of_types : ℕ → ℕ
of_types = types_by example example_rank

abbrev of_groups : ℕ → ℕ
of_groups = groups_by example example_rank

entry_takes_one : MayBeEmpty example (Entry 0) → ⊥
entry_takes_one h = elim h [ ]

type_ranked : (n : ℕ) → IsTypeRanked of_types of_groups (of_types n) (example_type n)
type_ranked zero = omega arith
type_ranked (suc n) = tt

group_ranked : (n : ℕ) → IsGroupRanked example of_groups (of_groups n) (example_group n)
group_ranked zero = tt
group_ranked (suc zero) = (omega arith, λ h. absurd (entry_takes_one h))
group_ranked (suc (suc n)) = omega arith

type_bound : (n : ℕ) → of_types n ≤ 2
type_bound zero = omega arith
type_bound (suc n) = omega arith

group_bound : (n : ℕ) → of_groups n ≤ 2
group_bound zero = omega arith
group_bound (suc zero) = omega arith
group_bound (suc (suc n)) = omega arith

pub example_ranked : IsRanked example example_rank 2
example_ranked = from_forms example example_rank (record { types = type_ranked; groups = group_ranked; type_bound = type_bound; group_bound = group_bound })
