use Rattle.std.proofs.Common.{◌++◌, reverse, ap, ◌∙◌}
use Rattle.cddl_reasons.specs.Greedy.{is_greedy}
use Rattle.cddl_reasons.specs.Opened.{asked_in, waits_in}
use Rattle.cddl_reasons.specs.Told.{links_of, strings_of, type_of}
use Rattle.cddl_reasons.proofs.Tellings.{open_replies}
use Rattle.match_moves.specs.Views.{question_view}
use Rattle.table_nodes.specs.Language.{language_of}
use Rattle.cddl_reasons.proofs.telling.reason_of.Goals as goal

pub returns : goal.returns
returns c = λ first cause at needed.
    let run = c.args.run.now in
    record {
      before = asked_in run.below.items;
      waits = waits_in run.below.items;
      last = question_view run.last.question;
      next = _;
      opened = at;
      fails = open_replies (language_of c.args.table.now) at;
      links = c.in_ok-push_type.ensures ∙ ap (λ ts. ts ++ type_of (question_view run.last.question)) (c.in_ok-links.ensures ∙ ap (λ os. links_of (asked_in os) (waits_in os)) c.as_slice-below.ensures.value);
      strings = c.in_ok-strings.ensures ∙ ap (λ os. strings_of (language_of c.args.table.now) (asked_in os) (waits_in os)) c.as_slice-below.ensures.value;
      cause = cause;
      greedy = c.is_greedy-greedy.ensures ∙ ap (λ os. is_greedy (language_of c.args.table.now) (reverse (asked_in os)) (reverse (waits_in os))) c.as_slice-below.ensures.value;
      needed = needed;
    }
