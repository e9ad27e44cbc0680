use Rattle.std.proofs.Common.{List, ◌∷◌, length}
use Rattle.cddl_meaning.specs.Forms as F
use Rattle.cddl_meaning.specs.Judges as J
use Rattle.cddl_meaning.specs.Moves as M
use Rattle.cddl_reasons.specs.Opened.{StandsAt}
use Rattle.cddl_reasons.specs.Told.{AreSome, EndIn, IsEntryOf}
use Rattle.match_moves.specs.Views.{question_view}
use Rattle.table_nodes.specs.Language.{language_of}
use Rattle.table_nodes.specs.Nodes.{entries_view}
use Rattle.table_nodes.specs.declared.nodes.GroupId.{GroupId}
use Rattle.table_nodes.specs.declared.nodes.TypeId.{TypeId}
use Rattle.cddl_reasons.proofs.telling.tell_entries.Given as goal

abbrev pub invariant-each : goal.invariant-each
invariant-each l = record {
  end : EndIn (entries_view l.fn.entries) (entries_view l.left);
  found : (first : M.Question TypeId GroupId) → ((e : F.MapEntry TypeId) (es : List (F.MapEntry TypeId)) → EndIn (entries_view l.fn.entries) (e ∷ es) → IsEntryOf (question_view l.fn.run.last.question) l.fn.far e es) → StandsAt (language_of l.fn.table) first l.fn.run.below.items l.fn.run.last (M.Answered (J.Fails l.fn.far)) → AreSome (language_of l.fn.table) first l.fn.aim.most l.fn.found.list.items → AreSome (language_of l.fn.table) first l.fn.aim.most l.found.list.items;
}

abbrev pub decreases-each : goal.decreases-each
decreases-each l = length l.left
