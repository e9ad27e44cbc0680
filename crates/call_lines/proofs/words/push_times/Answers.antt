use Rattle.std.proofs.Common.{◌++◌, ◌∙◌, sym, ap}
use Rattle.std.proofs.lemmas.List.{append_assoc}
use Rattle.std.specs.List.{repeat}
use Rattle.call_lines.proofs.Pieces.{repeat_more}
use Rattle.call_lines.proofs.words.push_times.Goals as goal

pub loop-time-preserved : goal.loop-time-preserved
loop-time-preserved c =
    let before = c.args.out.now.items in
    let bytes = c.args.bytes.now in
    c.in_ok-extend_from_slice.ensures.items ∙ (ap (λ xs. xs ++ bytes) c.loop-time.invariant
    ∙ (append_assoc before (repeat c.loop-time.time bytes) bytes ∙ ap (λ xs. before ++ xs) (sym (repeat_more c.loop-time.time bytes))))
