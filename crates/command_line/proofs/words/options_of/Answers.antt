use Rattle.std.proofs.Common.{◌∙◌, refl, ap, codes}
use Rattle.clap.specs.Words.{found_of}
use Rattle.clap.proofs.WalkLemmas.{first_value-rows, one_text-rows}
use Rattle.command_line.specs.Chosen.{is_set}
use Rattle.command_line.proofs.Meeting.{unread}
use Rattle.command_line.proofs.words.options_of.Goals as goal

pub returns-in_default-clause-misuse : goal.returns-in_default-clause-misuse
returns-in_default-clause-misuse c =
    unread _ _ c.range_error.result (λ o r. c.in_default.ensures.none o.depth (rw (one_text-rows (found_of c.args.given.now) (codes "depth")) r.depth))

pub returns-in_default-stream_number-clause-misuse :
    goal.returns-in_default-stream_number-clause-misuse
returns-in_default-stream_number-clause-misuse c =
    unread _ _ c.range_error-in_default-stream_number.result (λ o r. c.in_default-stream_number.ensures.none o.item_bytes (rw (one_text-rows (found_of c.args.given.now) (codes "item-bytes")) r.item_bytes))

pub returns-in_default-task_steps-clause-misuse :
    goal.returns-in_default-task_steps-clause-misuse
returns-in_default-task_steps-clause-misuse c =
    unread _ _ c.range_error-in_default-task_steps.result (λ o r. c.in_default-task_steps.ensures.none o.steps (rw (one_text-rows (found_of c.args.given.now) (codes "steps")) r.steps))

pub returns-clause-read : goal.returns-clause-read
returns-clause-read c = record {
  task_is = refl;
  code = c.in_ok-code.ensures ∙ first_value-rows (found_of c.args.given.now) (codes "code");
  spec = c.in_ok-spec.ensures ∙ first_value-rows (found_of c.args.given.now) (codes "spec");
  root = c.in_ok-root.ensures ∙ first_value-rows (found_of c.args.given.now) (codes "root");
  file = c.in_ok-file.ensures ∙ first_value-rows (found_of c.args.given.now) (codes "file");
  steps = rw (one_text-rows (found_of c.args.given.now) (codes "steps")) at c.in-Some-task_steps.ensures.some;
  depth = rw (one_text-rows (found_of c.args.given.now) (codes "depth")) at c.in-Some.ensures.some;
  item_bytes = rw (one_text-rows (found_of c.args.given.now) (codes "item-bytes")) at c.in-Some-stream_number.ensures.some;
  quiet = c.is_given.ensures ∙ ap is_set (first_value-rows (found_of c.args.given.now) (codes "quiet"));
  deterministic = c.is_given-2.ensures ∙ ap is_set (first_value-rows (found_of c.args.given.now) (codes "deterministic"));
  explain = c.is_given-3.ensures ∙ ap is_set (first_value-rows (found_of c.args.given.now) (codes "explain"));
  no_progress = c.is_given-4.ensures ∙ ap is_set (first_value-rows (found_of c.args.given.now) (codes "no-progress"));
}
