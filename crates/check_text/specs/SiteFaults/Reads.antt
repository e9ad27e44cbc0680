-- What is known where a word is looked at.
use Rattle.std.specs.Prelude.{List}
use Rattle.tree_nodes.specs.declared.tree.Tree.{Tree}
use Rattle.check_terms.specs.Table.{Table}
use Rattle.check_reading.specs.Survey.Survey.{IsSurvey}
use Rattle.check_reading.specs.declared.survey.survey.Survey.{Survey}
use Rattle.check_text.specs.SiteFaults.Marks.{AreMarks}
use Rattle.check_text.specs.declared.site_faults.marks.Mark.{Mark}

pub record IsRead (t : Table) (tree : Tree) (s : Survey) (ms : List Mark) : Type 0 where
  pub survey : IsSurvey t tree s
  pub marked : AreMarks s.definitions.items ms
