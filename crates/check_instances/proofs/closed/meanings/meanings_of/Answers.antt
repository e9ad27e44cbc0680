use Rattle.std.proofs.Common.{◌≤◌, ◌+◌, List, drop, drop_of_length-le, length, sym, subst, arith}
use Rattle.cddl_meaning.specs.Alike.{AlikeAll}
use Rattle.check_instances.specs.declared.closed.closed.Meaning.{Meaning}
use Rattle.check_instances.specs.Closed.Closed.{IsMeaning}
use Rattle.check_instances.proofs.OfClosed.Alike.{all_done}
use Rattle.check_instances.proofs.OfClosed.Groups.{AreMade, InstanceOf, next_made, none_made}
use Rattle.check_instances.proofs.closed.meanings.meanings_of.Goals as goal

pub loop-instance-init : goal.loop-instance-init
loop-instance-init c =
    let t = c.args.terms.now in
    let found = c.args.found.now in
    subst (λ (ms : List Meaning). AreMade t t found found ms) (sym c.new-meanings.ensures.items) (none_made t found (c.growing_keeps.ensures.same t))

pub loop-instance-preserved : goal.loop-instance-preserved
loop-instance-preserved c =
    let old = c.args.terms.now in
    let now = c.loop-instance.terms in
    let new = c.meaning_of.new.terms in
    let found = c.args.found.now in
    let i = c.loop-instance.instance-index in
    let keeps = c.growing_keeps.ensures in
    let so = c.loop-instance.invariant in
    let one = c.in_ok-meaning.ensures in
    let grows = keeps.further old now new so.grows one.grows in
    subst (λ (ms : List Meaning). AreMade old new found (drop (i + 1) found) ms) (sym c.in_ok-push.ensures) (next_made old now new (keeps.tree old now so.grows) (keeps.tree now new one.grows) (keeps.body old now so.grows) grows one.texts found i c.loop-instance.meanings.items c.instance-item.result c.in_ok-meaning.meaning c.loop-instance-test.true c.instance-item.is one.means so)

pub returns-clause-means : goal.returns-clause-means
returns-clause-means c = λ xs refs h.
    let found = c.args.found.now in
    let i = c.loop-instance.instance-index in
    let short : length found ≤ i = omega (arith, c.loop-instance-test.false) in
    all_done (InstanceOf xs c.args.terms.now) (λ done. AlikeAll (IsMeaning xs c.loop-instance.terms) done c.loop-instance.meanings.items) refs (drop i found) (drop_of_length-le found short) (c.loop-instance.invariant.mean xs refs h)
