use Rattle.std.proofs.Common.{ℕ, ◌+◌, ◌*◌, ◌≤◌, Bool, drop}
use Rattle.cddl_match.specs.Ahead.{AreTold}
use Rattle.match_tests.specs.Views.{subject_view}
use Rattle.table_nodes.specs.Language.{language_of}
use Rattle.cddl_match.proofs.telling.+telling.Given as goal

abbrev pub decreases-form_tells : goal.decreases-form_tells
decreases-form_tells l = 3 * l.depth

abbrev pub decreases-one_tells : goal.decreases-one_tells
decreases-one_tells l = 3 * l.depth + 2

abbrev pub decreases-type_tells : goal.decreases-type_tells
decreases-type_tells l = 3 * l.depth + 1

-- those so far said no
abbrev pub invariant-one_tells-loop-member : goal.invariant-one_tells-loop-member
invariant-one_tells-loop-member l = record {
  within : l.asked ≤ l.fn.most;
  told : (says : Bool) (k : ℕ) → AreTold (language_of l.fn.table) (drop l.member-index l.fn.members) (subject_view l.fn.subject) says k → AreTold (language_of l.fn.table) l.fn.members (subject_view l.fn.subject) says (l.asked + k);
}
