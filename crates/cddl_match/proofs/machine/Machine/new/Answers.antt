use Rattle.std.proofs.Common.{arith}
use Rattle.table_nodes.specs.Language.{language_of}
use Rattle.cddl_match.specs.Machine.{root_question}
use Rattle.cddl_match.proofs.Running.{at_begin}
use Rattle.cddl_match.proofs.machine.Machine.new.Goals as goal

pub invariant_of-result : goal.invariant_of-result
invariant_of-result c = record {
  sound = c.item-whole.ensures.sound;
  parts = record {
    at = rw (c.in_ok-waiting.ensures.items, c.root.ensures, c.item-whole.ensures.same) (at_begin (language_of c.args.table.now) (root_question c.args.table.now c.args.item.now));
    owes = λ h. absurd (omega (arith, h));
  };
  within = omega arith;
  least = λ a w d. omega arith;
  room_kept = omega (arith, c.in_ok-waiting.ensures.exact);
}
