use Rattle.std.proofs.Common.{arith}
use Rattle.std.proofs.lemmas.List.{length-map}
use Rattle.cddl_match.specs.Machine.{asked_in, noted}
use Rattle.cddl_match.proofs.Machines.{open_few, opened_so}
use Rattle.cddl_match.proofs.machine.Machine.frames.Goals as goal

pub returns-clause-opened : goal.returns-clause-opened
returns-clause-opened c =
    let i = c.self.inside in
    rw (← c.self.view_is) (opened_so i.table.now i.item.now i.steps i.room i.run i.end c.self.invariant)

pub returns-clause-few : goal.returns-clause-few
returns-clause-few c =
    let i = c.self.inside in
    let few = open_few i.table.now i.item.now (asked_in i.run.waiting.items) c.self.invariant.sound (opened_so i.table.now i.item.now i.steps i.room i.run i.end c.self.invariant) in
    let many = length-map i.run.waiting.items (λ w. noted w.asked) in
    rw (c.len.ensures, ← c.self.view_is) (omega (arith, few, many))
