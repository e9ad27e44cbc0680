use Rattle.std.proofs.Common.{ℕ, List, ◌≤◌, ◌++◌, Some, get_or, drop, drop_of_length-le, length, sym, subst, arith}
use Rattle.check_instances.specs.Closed.Closed.{AreAlternatives, EntriesRow}
use Rattle.check_instances.proofs.OfClosed.Alike.{all_done, read_so}
use Rattle.check_instances.proofs.OfClosed.Groups.{AreJoined, next_joined, none_joined}
use Rattle.check_instances.proofs.closed.joining.joined.Goals as goal

pub loop-row-init : goal.loop-row-init
loop-row-init c =
    let t = c.args.terms.now in
    subst (λ (rows : List ℕ). AreJoined t t c.args.group c.args.further rows c.args.group) (sym c.deref-row-items.ensures.value) (none_joined t c.args.group c.args.further c.in-Ok.rows.items (c.growing_keeps.ensures.same t) c.in-Ok.ensures)

pub loop-row-preserved : goal.loop-row-preserved
loop-row-preserved c =
    let old = c.args.terms.now in
    let now = c.loop-row.terms in
    let new = c.add.new.terms in
    let keeps = c.growing_keeps.ensures in
    let rows = c.deref-row-items.result.now in
    let i = c.loop-row.row-index in
    let so = c.loop-row.invariant in
    let grows = c.in_ok-whole.ensures.grows in
    next_joined old now new (keeps.tree old now so.grows) (keeps.further old now new so.grows grows) c.in_ok-whole.ensures.texts c.args.group c.args.further rows i c.loop-row.whole (get_or rows i 0) c.in_ok-whole.whole c.loop-row-test.true (read_so rows i 0 c.loop-row-test.true) c.in_ok-whole.ensures.stands so

pub returns-clause-stands : goal.returns-clause-stands
returns-clause-stands c = λ es fs h k.
    let rows = c.deref-row-items.result.now in
    let i = c.loop-row.row-index in
    let short : length rows ≤ i = omega (arith, c.loop-row-test.false) in
    all_done (EntriesRow c.args.terms.now) (λ done. AreAlternatives c.loop-row.terms (es ++ done) (Some c.loop-row.whole)) fs (drop i rows) (drop_of_length-le rows short) (c.loop-row.invariant.stands es fs h k)

pub returns-clause-grows : goal.returns-clause-grows
returns-clause-grows c = c.loop-row.invariant.grows

pub returns-clause-texts : goal.returns-clause-texts
returns-clause-texts c = c.loop-row.invariant.texts
