use Rattle.std.proofs.lemmas.Result.{IfOk-weaker}
use Rattle.cddl_language.specs.Faults.{definitions}
use Rattle.check_root.proofs.OfReachedFaults.Choosing.{Laws, all_unchosen}
use Rattle.check_root.proofs.reached_faults.choices.all_nothing_chosen.Goals as goal

pub returns : goal.returns
returns c =
    IfOk-weaker c.all_unchosen.result _ _
    (λ v are s root refs clear closed choosable asked.
    let t = c.args.terms.now in
    let laws : Laws s root refs t c.args.closed.now = record {
      reference = c.reached_parts.ensures.reference s root clear;
      group = λ r xs u g p h d. c.reached_parts.ensures.group s root clear r xs u g p h d;
      place = λ n r h k. c.place_of.ensures (definitions s) root refs c.args.closed.now n r closed h k;
      meaning = λ k r e. c.meaning_at.ensures (definitions s) root refs t c.args.closed.now k r closed e;
      alternatives_reach = λ r g h e. c.meanings_are_reached.ensures.group (definitions s) root r g h e;
    } in
    all_unchosen s root refs t c.args.closed.now c.args.choosable.now laws choosable c.args.asked.now asked v.items are)
    c.all_unchosen.ensures
