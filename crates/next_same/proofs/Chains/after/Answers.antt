use Rattle.std.proofs.Common.{refl, arith}
use Rattle.std.proofs.lemmas.Option.{slice_get_read}
use Rattle.lists.proofs.Lemmas.{within}
use Rattle.next_same.proofs.Chains.after.Goals as goal

pub returns-in-Some : goal.returns-in-Some
returns-in-Some c = λ ns n chains e.
    let read = rw c.deref.ensures.value at c.in-Some.ensures.lookup in
    let there = slice_get_read c.args.self.now.links.items _ c.args.position c.in-Some.next.now refl (omega (arith, c.in-Some.ensures.lookup, c.deref.ensures.len)) read.1 in
    chains.1.1.1 c.args.position n c.in-Some.next.now (omega arith) e there

pub returns-in-None : goal.returns-in-None
returns-in-None c = λ ns n chains e. absurd (omega (arith, within ns c.args.position n e, chains.0, c.in-None.ensures.lookup))
