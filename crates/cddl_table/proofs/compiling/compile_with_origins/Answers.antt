use Rattle.tree_nodes.specs.View.{view}
use Rattle.cddl_table.specs.Text.{sense}
use Rattle.cddl_table.proofs.compiling.compile_with_origins.Goals as goal

pub returns-in-Ok-clause-stands : goal.returns-in-Ok-clause-stands
returns-in-Ok-clause-stands c = λ tree root spec worth right.
    let x = view tree in
    let found = spec.found worth right in
    c.in-Ok.ensures.stands (sense x worth root found.0) (c.source_of-source.ensures x worth root found.0 right found.1) spec.number found.1.is_type found.1.ranked

pub returns-in-Ok-clause-traced : goal.returns-in-Ok-clause-traced
returns-in-Ok-clause-traced c = λ tree root spec worth right.
    let x = view tree in
    let found = spec.found worth right in
    (found.0, found.1, c.in-Ok.ensures.traced (sense x worth root found.0) (c.source_of-source.ensures x worth root found.0 right found.1) spec.number found.1.is_type)

pub unreachable-requires : goal.unreachable-requires
unreachable-requires c =
    let x = view c.requires.0 in
    let root = c.requires.1 in
    let spec = c.requires.2 in
    let some = c.one_table_of_values.ensures.some x spec.tokens in
    let found = spec.found some.0 some.1 in
    c.in-Err-NotRanked.ensures.ranked c.in-Err-NotRanked.field-0-is (sense x some.0 root found.0) (c.source_of-source.ensures x some.0 root found.0 some.1 found.1) spec.number found.1.is_type found.1.ranked
