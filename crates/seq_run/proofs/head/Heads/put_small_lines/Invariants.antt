use Rattle.std.proofs.Common.{◌≤◌, ◌+◌, ◌-◌, ◌*◌, length, suc, take}
use Rattle.seq_run.specs.Output.{items_output}
use Rattle.seq_run.specs.Smalls.{smalls_from}
use Rattle.seq_run.specs.declared.output.Mode.TheVariants.{Report}
use Rattle.tape_notation.specs.Put.{IsPut}
use Rattle.seq_run.proofs.head.Heads.put_small_lines.Given as goal

abbrev pub invariant-loop-done : goal.invariant-loop-done
invariant-loop-done l =
    IsPut l.initial.out l.out l.fn.at (items_output Report (suc l.fn.before) (smalls_from l.fn.offset (take l.done l.numbers))) l.end × ((l.end ≤ l.fn.at + 64 * l.done) × (l.done ≤ length l.numbers))

abbrev pub decreases-loop-done : goal.decreases-loop-done
decreases-loop-done l = length l.numbers - l.done
