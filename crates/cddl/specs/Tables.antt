-- What a table has to do with the root rule of a text.
use Rattle.std.specs.Prelude.{ℕ, List, ◌↔◌}
use Rattle.cbor_data.specs.Faults.{Bounds}
use Rattle.cbor_data.specs.Sequence.{Found}
use Rattle.cbor_data.specs.Value.{Value}
use Rattle.cddl_language.specs.StandsFor.{StandsFor}
use Rattle.cddl_meaning.specs.Judges.{Answer}
use Rattle.table_nodes.specs.Language.{RootSays, language_of, rank_of, ranks_of, root_of}
use Rattle.table_nodes.specs.declared.table.Table.{Table}
use Rattle.seq_run.specs.Ends as by_table
use Rattle.seq_run.specs.Judge.{judge_of}
use Rattle.seq_run.specs.declared.end.End.{End}
use Rattle.cddl.specs.Rules.{Ends, Rule, Says}

-- The table stands for the text of the rule; it says of each item what the rule says, in as many judgements; and a stream has by
-- both the same items and the same end.
pub record SpeaksFor (rule : Rule) (table : Table) : Type 0 where
  pub stands : StandsFor rule.values rule.definitions rule.name (language_of table) (root_of table) (rank_of table) (ranks_of table)
  pub item : (x : Value) (a : Answer) (w : ℕ) → RootSays table x a w ↔ Says rule x a w
  pub stream : (steps : ℕ) (l : Bounds) (stream : List ℕ) (items : List Found) (end : End) → by_table.Ends (judge_of table steps) l stream items end ↔ Ends rule steps l stream items end
