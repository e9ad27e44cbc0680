use Rattle.std.proofs.Common.{◌≡◌, ℕ, ◌+◌, ◌-◌, ◌≤◌, Some}
use Rattle.cbor_data.specs.Value.{Value}
use Rattle.cddl_meaning.specs.Forms.{key_in}
use Rattle.table_nodes.specs.Language.{language_of}
use Rattle.tape_match.specs.Says.{SaysAs}
use Rattle.tape_match.proofs.asking.behind_names.Given as goal

abbrev pub invariant-loop-names : goal.invariant-loop-names
invariant-loop-names l = record {
  few : l.names ≤ 16;
  stands : SaysAs (language_of l.fn.table) ((language_of l.fn.table).type_at l.fn.node) ((language_of l.fn.table).type_at l.at) l.names;
  keyed : (k : ℕ) (v : Value) → k + l.names ≤ 16 → key_in (language_of l.fn.table).type_at k l.at ≡ Some v → key_in (language_of l.fn.table).type_at (k + l.names) l.fn.node ≡ Some v;
}

abbrev pub decreases-loop-names : goal.decreases-loop-names
decreases-loop-names l = 16 - l.names
