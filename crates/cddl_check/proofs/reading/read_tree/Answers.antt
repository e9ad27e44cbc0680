use Rattle.cddl_check.proofs.reading.read_tree.Goals as goal

pub returns-clause-read : goal.returns-clause-read
returns-clause-read c s worth given =
    let b = c.in_ok-begun.ensures.begun s worth given in
    (b.0, b.1, c.in_ok-reading.ensures.read s worth c.args.tree.now b.0 b.1 given.tree given.right b.2 b.3)
