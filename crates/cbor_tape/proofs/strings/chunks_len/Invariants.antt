use Rattle.std.proofs.Common.{◌≤◌, length}
use Rattle.cbor_tape.proofs.Contents.{AreCounted}
use Rattle.cbor_tape.proofs.strings.chunks_len.Given as goal

abbrev pub invariant-loop : goal.invariant-loop
invariant-loop l = record {
  counted : AreCounted l.bytes l.start l.at l.len;
  few : l.len ≤ l.at;
  on : l.start ≤ l.at;
  within : l.at ≤ length l.bytes;
}
