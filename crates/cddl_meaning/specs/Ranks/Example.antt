-- A language that leads back to itself, but not before an item is taken: `a = [g]` and `g = (a, ? g)`.
use Rattle.std.specs.Prelude.{ℕ, zero, suc, [], ◌∷◌}
use Rattle.cddl_meaning.specs.Forms.{anything, Node, Plain, ArrayOf, at_most, Group, Entry, Sequence, Repeat, Language, every_entry}
use Rattle.cddl_meaning.specs.Ranks.Ranked.{Name, a_type, a_group}

-- type 0 is `a`, and no other is used
abbrev pub example_type : ℕ → Node ℕ ℕ
example_type zero = ArrayOf 1
example_type (suc n) = Plain anything

-- group 0 is the entry of an `a`, group 1 is `g`, and group 2 is `? g`
abbrev pub example_group : ℕ → Group ℕ ℕ
example_group zero = Entry 0
example_group (suc zero) = Sequence (0 ∷ 2 ∷ [])
example_group (suc (suc n)) = Repeat 0 (at_most 1) 1

abbrev pub example : Language ℕ ℕ
example = record { type_at = example_type; group_at = example_group; counting = every_entry }

-- `a` is above `g`, `? g` is above `g`, and `g` is above the entry that it begins with
abbrev pub example_rank : Name ℕ ℕ → ℕ
example_rank (a_type zero) = 2
example_rank (a_type (suc n)) = 0
example_rank (a_group zero) = 0
example_rank (a_group (suc zero)) = 1
example_rank (a_group (suc (suc n))) = 2
