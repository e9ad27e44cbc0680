use Rattle.std.proofs.Common.{sym, ap₂, ◌∙◌}
use Rattle.std.specs.Cmp.Lexicographic.{slice_cmp}
use Rattle.std.specs.Ordering.{nat_cmp}
use Rattle.cbor_tape.specs.Keys.{mark_of}
use Rattle.cbor_tape.proofs.Marks.{one_mark}
use Rattle.cbor_tape.proofs.parts.order.Goals as goal

pub returns-in-Some-Some : goal.returns-in-Some-Some
returns-in-Some-Some c = λ m n k l differ.
    let b = c.args.bytes.now in
    let both = c.in-Some-Some in
    ap₂ (slice_cmp nat_cmp) (one_mark b c.args.at m (mark_of both.key) k both.ensures) (one_mark b c.args.other n (mark_of both.other_key) l both.ensures') ∙ sym c.compare.ensures
