use Rattle.std.proofs.Common.{◌≡◌, ◌≤◌, ◌-◌, ◌++◌, [], ◌∷◌, take, length}
use Rattle.std.specs.Prelude.{flat_map}
use Rattle.cbor_data.specs.Notation.{shown_byte}
use Rattle.item_nodes.proofs.notation.push_text.Given as goal

-- the first quote and the bytes before `at` are pushed
abbrev pub invariant-loop-at : goal.invariant-loop-at
invariant-loop-at l = record {
  within : l.at ≤ length l.bytes;
  pushed : l.out.items ≡ (l.fn.out.items ++ 34 ∷ []) ++ flat_map shown_byte (take l.at l.bytes);
}

abbrev pub decreases-loop-at : goal.decreases-loop-at
decreases-loop-at l = length l.bytes - l.at
