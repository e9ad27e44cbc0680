-- The implications of groups. Those below the count are facts by their numbers: that the group may take no item.
use Rattle.std.specs.Prelude.{ℕ, zero, suc, ◌+◌, min, cond, List, [], ◌∷◌, ◌++◌, length, Option, Some, None}
use Rattle.graphs.specs.declared.implications.Implication.{Implication}
use Rattle.cddl_meaning.specs.Forms as F
use Rattle.cddl_meaning.specs.Judges.{is_over}
use Rattle.table_nodes.specs.Nodes.{group_view}
use Rattle.table_nodes.specs.declared.nodes.TypeId.{TypeId}
use Rattle.table_nodes.specs.declared.nodes.GroupId.{GroupId}
use Rattle.table_nodes.specs.declared.nodes.Group.{Group}

abbrev pub rule : ℕ → Option ℕ → Option ℕ → Implication
rule n a b = record { then = n; first = a; second = b }

-- the fact of a group; groups that are not there have one fact, the count, which nothing concludes
abbrev pub fact_of : ℕ → GroupId → ℕ
fact_of count g = min g.number count

-- the fact that the implication of this place concludes, if it is of a part of a sequence: that the parts so far may take
-- no item
abbrev pub link_at : ℕ → ℕ → ℕ
link_at count place = count + 1 + place

-- of the group of this number, a sequence, the implications from a place on, by the link before and the parts that are left
abbrev pub chain : ℕ → ℕ → ℕ → Option ℕ → List GroupId → List Implication
chain count number place before [] = rule number before None ∷ []
chain count number place before (g ∷ gs) = rule (link_at count place) before (Some (fact_of count g)) ∷ chain count number (place + 1) (Some (link_at count place)) gs

abbrev pub choices : ℕ → ℕ → List GroupId → List Implication
choices count number [] = []
choices count number (g ∷ gs) = rule number (Some (fact_of count g)) None ∷ choices count number gs

abbrev pub rules_by : ℕ → ℕ → ℕ → F.Group TypeId GroupId → List Implication
rules_by count number place (F.Entry m) = []
rules_by count number place (F.GroupRef g) = rule number (Some (fact_of count g)) None ∷ []
rules_by count number place (F.Sequence gs) = chain count number place None gs
rules_by count number place (F.Alternatives gs) = choices count number gs
rules_by count number place (F.Repeat zero most g) = rule number None None ∷ []
rules_by count number place (F.Repeat (suc least) most g) = rule number (cond (is_over most) None (Some (fact_of count g))) None ∷ []

-- those of these groups, from a number and a place on
abbrev pub all_rules : ℕ → ℕ → ℕ → List Group → List Implication
all_rules count number place [] = []
all_rules count number place (g ∷ gs) = rules_by count number place (group_view g) ++ all_rules count (number + 1) (place + length (rules_by count number place (group_view g))) gs
