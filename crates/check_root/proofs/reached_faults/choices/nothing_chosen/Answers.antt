use Rattle.std.proofs.Common.{sym, subst}
use Rattle.cddl_language.specs.Faults.{definitions}
use Rattle.lists.specs.Least.{IsLeast}
use Rattle.check_root.specs.ReachedFaults.Choices.{ChoosesFromNone}
use Rattle.check_root.proofs.OfReachedFaults.Choosing.{Laws, least_unchosen}
use Rattle.check_root.proofs.reached_faults.choices.nothing_chosen.Goals as goal

pub returns : goal.returns
returns c = λ s root refs clear closed choosable asked.
    let t = c.args.terms.now in
    let laws : Laws s root refs t c.args.closed.now = record {
      reference = c.reached_parts.ensures.reference s root clear;
      group = λ r xs u g p h d. c.reached_parts.ensures.group s root clear r xs u g p h d;
      place = λ n r h k. c.place_of.ensures (definitions s) root refs c.args.closed.now n r closed h k;
      meaning = λ k r e. c.meaning_at.ensures (definitions s) root refs t c.args.closed.now k r closed e;
      alternatives_reach = λ r g h e. c.meanings_are_reached.ensures.group (definitions s) root r g h e;
    } in
    subst (IsLeast (ChoosesFromNone s root)) (sym c.least_unchosen.ensures) (least_unchosen s root refs t c.args.closed.now c.args.choosable.now laws choosable c.args.asked.now asked)
