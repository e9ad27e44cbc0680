use Rattle.cddl_table.proofs.compiling.compile.Goals as goal

pub compile_with_origins-requires : goal.compile_with_origins-requires
compile_with_origins-requires c = (c.args.spec.now.tree, c.args.spec.now.root, c.findings.ensures)

pub returns-clause-stands : goal.returns-clause-stands
returns-clause-stands c = c.in_ok-traced.ensures.stands c.args.spec.now.tree c.args.spec.now.root c.findings.ensures
