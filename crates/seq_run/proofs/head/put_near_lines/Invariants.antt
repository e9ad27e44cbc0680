use Rattle.std.proofs.Common.{◌≡◌, ◌≤◌, ◌+◌, ◌*◌, ◌%◌, ℕ, length, take}
use Rattle.seq_run.specs.Heads.{AreNear, IsTemplate}
use Rattle.seq_run.specs.Output.{items_output}
use Rattle.seq_run.specs.Smalls.{smalls_from}
use Rattle.seq_run.specs.declared.output.Mode.TheVariants.{Report}
use Rattle.tape_notation.specs.Put.{IsPut}
use Rattle.seq_run.proofs.head.put_near_lines.Given as goal

abbrev pub invariant-loop-i : goal.invariant-loop-i
invariant-loop-i l =
    ((m p n o : ℕ) → IsTemplate l.fn.template m p → AreNear m n → AreNear p o → l.fn.number_last ≡ n % 100 → l.fn.offset_last ≡ o % 100 → IsPut l.initial.out l.out l.fn.at (items_output Report n (smalls_from o (take l.i l.numbers))) l.end)
    × ((l.end ≤ l.fn.at + 64 * l.i) × (length l.out ≡ length l.initial.out))
