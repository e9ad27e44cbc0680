-- A table as a language: what each number stands for, its ranks, and what the root type says.
use Rattle.std.specs.Prelude.{ℕ, max, Bool, Option}
use Rattle.cbor_data.specs.Value.{Value}
use Rattle.cddl_meaning.specs.Forms as F
use Rattle.cddl_meaning.specs.Forms.{Language}
use Rattle.cddl_meaning.specs.Judges.{Answer, Says}
use Rattle.cddl_meaning.specs.Ranks.Ranked.{Name}
use Rattle.table_nodes.specs.Majors.{most_shown, shows, told_in, types_in}
use Rattle.table_nodes.specs.Nodes.{language_in}
use Rattle.table_nodes.specs.Ranks.{greatest, rank_in}
use Rattle.table_nodes.specs.declared.nodes.TypeId.{TypeId}
use Rattle.table_nodes.specs.declared.nodes.GroupId.{GroupId}
use Rattle.table_nodes.specs.declared.table.Table.{Table}

-- what contracts see of a table
abbrev pub language_of : Table → Language TypeId GroupId
language_of t = language_in t.types.items t.groups.items

abbrev pub root_of : Table → TypeId
root_of t = t.root

-- the rank of each type and group
abbrev pub rank_of : Table → Name TypeId GroupId → ℕ
rank_of t = rank_in t.type_ranks.items t.group_ranks.items

-- the greatest rank
abbrev pub ranks_of : Table → ℕ
ranks_of t = max (greatest t.type_ranks.items) (greatest t.group_ranks.items)

-- what forms show that a type says by the major type alone, and what is kept of that
abbrev pub shown_of : Table → TypeId → ℕ → Option (Bool × ℕ)
shown_of t n m = shows (types_in t.types.items) most_shown n m

abbrev pub told_of : Table → TypeId → ℕ → Option (Bool × ℕ)
told_of t n m = told_in t.told.items n m

-- the form of the root type
abbrev pub root_form : Table → F.Node TypeId GroupId
root_form t = (language_of t).type_at (root_of t)

-- The root type says this of the item, in so many judgements.
abbrev pub RootSays : Table → Value → Answer → ℕ → Type 0
RootSays t x a w = Says (language_of t) (root_form t) 0 x a w
