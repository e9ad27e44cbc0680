use Rattle.std.proofs.Common.{◌≤◌, List, ℕ}
use Rattle.cbor_tape.specs.Contents.{content_size, HasContent}
use Rattle.cbor_tape.proofs.strings.filled.Given as goal

abbrev pub invariant-loop-at : goal.invariant-loop-at
invariant-loop-at l = record {
  kept : (s : List ℕ) → HasContent l.bytes l.fn.content s → HasContent l.bytes l.content s;
  smaller : content_size l.bytes l.content ≤ content_size l.bytes l.fn.content;
}

abbrev pub decreases-loop-at : goal.decreases-loop-at
decreases-loop-at l = content_size l.bytes l.content
