use Rattle.std.proofs.Common.{refl}
use Rattle.table_nodes.specs.Language.{language_of}
use Rattle.cddl_match.proofs.Ways.{further, itself, there_or_not}
use Rattle.cddl_match.proofs.behind.type_behind.Goals as goal

pub loop-behind-init : goal.loop-behind-init
loop-behind-init c = record {
  passed = λ p x h. itself (language_of c.args.table.now) _;
  form = there_or_not _ _ c.node.result c.node.ensures.none c.node.ensures.found;
}

pub loop-behind-preserved : goal.loop-behind-preserved
loop-behind-preserved c =
    let l = language_of c.args.table.now in
    let found = rw c.in-Some.is at c.loop-behind.invariant.form in
    record {
      passed = λ p x h. further l (c.loop-behind.invariant.passed p x h) (c.in-Some-next_type.ensures l c.loop-behind.behind.node found p x h) refl;
      form = there_or_not _ _ c.node-in-loop-behind.result c.node-in-loop-behind.ensures.none c.node-in-loop-behind.ensures.found;
    }
