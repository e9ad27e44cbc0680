-- The rows that a body is made of.
use Rattle.std.specs.Prelude.{◌≡◌, ◌⊎◌, ℕ, List, [], ◌∷◌, Option, Some, None, IfSome, slice_get}
use Rattle.std.specs.BTreeSet.{insert_key}
use Rattle.std.specs.Ordering.{nat_cmp}
use Rattle.check_terms.specs.declared.row.Row.{Row}
use Rattle.check_terms.specs.Table.{Table}

abbrev pub IsAmong : ℕ → List ℕ → Type 0
IsAmong n [] = ⊥
IsAmong n (m ∷ ms) = (n ≡ m) ⊎ IsAmong n ms

-- each part of the row of this number is such
abbrev pub PartsAre : Table → (ℕ → Type 0) → ℕ → Type 0
PartsAre t P n = (r : Row) → slice_get t.rows n ≡ Some r → IfSome r.first P × IfSome r.second P

-- each part of each of these rows is one of those after it, or is such
abbrev pub PartsFollow : Table → (ℕ → Type 0) → List ℕ → Type 0
PartsFollow t P [] = Unit {0}
PartsFollow t P (n ∷ ns) = PartsAre t (λ m. IsAmong m ns ⊎ P m) n × PartsFollow t P ns

-- the body is among these rows, and each part of each of them
pub record IsUnfolded (t : Table) (body : ℕ) (ns : List ℕ) : Type 0 where
  pub begins : IsAmong body ns
  pub parts_follow : PartsFollow t (λ m. ⊥) ns

-- with a part, in order
abbrev pub with_part : List ℕ → Option ℕ → List ℕ
with_part ns None = ns
with_part ns (Some n) = insert_key nat_cmp ns n

abbrev pub with_parts_of : List ℕ → Option Row → List ℕ
with_parts_of ns None = ns
with_parts_of ns (Some r) = with_part (with_part ns r.first) r.second

abbrev pub with_parts : List Row → List ℕ → ℕ → List ℕ
with_parts rows ns n = with_parts_of ns (slice_get rows n)
