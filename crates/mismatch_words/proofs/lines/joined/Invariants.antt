use Rattle.std.proofs.Common.{◌≡◌, flat_map, string_bytes, take}
use Rattle.mismatch_words.proofs.lines.joined.Given as goal

abbrev pub invariant-loop-line : goal.invariant-loop-line
invariant-loop-line l = string_bytes l.text ≡ flat_map string_bytes (take l.line-index l.lines)
