use Rattle.cddl_language.specs.Prelude.{prelude}
use Rattle.check_instances.proofs.found.instances.Goals as goal

pub returns-in-Ok-clause-found : goal.returns-in-Ok-clause-found
returns-in-Ok-clause-found c = λ xs n count known own are e.
    let keeps = c.growing_keeps.ensures in
    let old = c.args.terms.now in
    let mid = c.root_call.new.terms in
    let grows = c.in_ok-call.ensures.grows in
    c.in-Ok.ensures.found xs n count (keeps.definitions old mid grows c.args.known.now prelude known) (keeps.definitions old mid grows c.args.definitions.now xs own) are (c.in_ok-call.ensures.stands n e)
