use Rattle.std.proofs.Common.{◌≡◌, ◌*◌, ◌++◌, take, drop, length}
use Rattle.hex.specs.Hex.{encode_lower}
use Rattle.item_nodes.proofs.notation.push_hex_run.Given as goal

-- the digits that are put with those of the bytes that are left are all
abbrev pub invariant-loop-i : goal.invariant-loop-i
invariant-loop-i l = record {
  room : length l.buffer ≡ 32;
  put : take (2 * l.i) l.buffer ++ encode_lower (drop l.i l.run) ≡ encode_lower l.run;
}
