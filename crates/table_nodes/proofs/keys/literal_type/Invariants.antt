use Rattle.std.proofs.Common.{◌≡◌}
use Rattle.cddl_meaning.specs.Forms.{key_in, most_forms}
use Rattle.table_nodes.specs.Choices.{type_in}
use Rattle.table_nodes.proofs.keys.literal_type.Given as goal

-- The value of the first type is that of the one that it has led to.
abbrev pub invariant-loop-left : goal.invariant-loop-left
invariant-loop-left l = key_in (type_in l.fn.types) most_forms l.fn.node ≡ key_in (type_in l.fn.types) l.left l.node

abbrev pub decreases-loop-left : goal.decreases-loop-left
decreases-loop-left l = l.left
