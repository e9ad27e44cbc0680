use Rattle.table_nodes.specs.Language.{language_of, rank_of, ranks_of, root_of}
use Rattle.seq_run.proofs.meaning.same_by_table.Goals as goal

pub returns-clause-yes : goal.returns-clause-yes
returns-clause-yes c = λ worth ds root table s x y w d h. c.same_by_text.ensures.yes worth ds root (language_of table) (root_of table) (rank_of table) (ranks_of table) s x y w d h

pub returns-clause-no : goal.returns-clause-no
returns-clause-no c = λ worth ds root table s x y far w d h. c.same_by_text.ensures.no worth ds root (language_of table) (root_of table) (rank_of table) (ranks_of table) s x y far w d h
