use Rattle.std.proofs.Common.{◌+◌, ap, arith, length}
use Rattle.table_nodes.specs.Choices.{buckets_in}
use Rattle.table_nodes.proofs.Lemmas.{as_many}
use Rattle.cddl_match.specs.Choosing.{first_at}
use Rattle.cddl_match.proofs.Passed.{led_on, not_led}
use Rattle.cddl_match.proofs.choosing.Members.after.Goals.{in-Some, in-None}
use Rattle.cddl_match.proofs.choosing.Members.after.Goals as goal

pub returns-clause-asking : goal.returns-clause-asking
returns-clause-asking c = λ l x h is.
    let m = c.args.self.now in
    let ms = m.members.now in (
      h.0,
      (
        omega (arith, c.requires),
        elim c.match-self.branch [
          | in-Some w ↦ led_on l x ms m.from c.args.first m.index c.match-self.index w.in-Some.index w.in-Some.next w.after.result w.in-Some.is w.index-is h.1.1 is (λ a b. w.after.ensures (buckets_in l.type_at ms) (length ms) x m.from a b (omega (arith, is, ap (λ o. first_at o m.from) w.in-Some.is, c.requires, as_many l.type_at ms)))
          | in-None w ↦ not_led l x ms (c.args.first + 1) c.match-self.index w.index-is
        ],
      ),
    )
