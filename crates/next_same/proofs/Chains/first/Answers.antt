use Rattle.std.proofs.Common.{refl, arith}
use Rattle.std.proofs.lemmas.Option.{slice_get_read}
use Rattle.next_same.proofs.Chains.first.Goals as goal

pub returns-in-Some : goal.returns-in-Some
returns-in-Some c = λ ns chains.
    let read = rw c.deref.ensures.value at c.in-Some.ensures.lookup in
    let there = slice_get_read c.args.self.now.heads.items _ c.args.number c.in-Some.first.now refl (omega (arith, c.in-Some.ensures.lookup, c.deref.ensures.len)) read.1 in
    chains.1.1.0 c.args.number c.in-Some.first.now there
