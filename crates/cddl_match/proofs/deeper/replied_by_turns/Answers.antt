use Rattle.std.proofs.Common.{refl, arith}
use Rattle.table_nodes.specs.Language.{language_of}
use Rattle.match_moves.specs.Views.{question_view}
use Rattle.cddl_match.proofs.Running.{at_begin, turns_left}
use Rattle.cddl_match.proofs.deeper.replied_by_turns.Goals as goal

pub turns-init : goal.turns-init
turns-init c = record {
  run = record {
    at = rw c.new.ensures.items (at_begin (language_of c.args.table.now) (question_view c.args.question));
    owes = λ more. absurd (omega (arith, more));
  };
  within = omega arith;
}

pub turns-smaller : goal.turns-smaller
turns-smaller c = turns_left (language_of c.args.table.now) (question_view c.args.question) c.args.means.now.left c.turns.run c.step.new.run (c.in-GoesOn.ensures.goes refl (question_view c.args.question) c.turns.invariant.run c.turns.invariant.within)

pub turns-preserved : goal.turns-preserved
turns-preserved c =
    let s = c.in-GoesOn.ensures.goes refl (question_view c.args.question) c.turns.invariant.run c.turns.invariant.within in
    record { run = s.run; within = s.within }

pub returns-in-Replied : goal.returns-in-Replied
returns-in-Replied c =
    let told = c.in-Replied.ensures.told refl in
    let found = rw told.1 at (c.in-Replied.ensures.finds (question_view c.args.question) c.turns.invariant.run c.turns.invariant.within) in
    rw (c.in-Replied.ensures.taken (λ e. cc e), c.reply_of.ensures told.0 told.1) found

pub returns-in-Spent : goal.returns-in-Spent
returns-in-Spent c = c.in-Spent.ensures.finds (question_view c.args.question) c.turns.invariant.run c.turns.invariant.within
