use Rattle.std.proofs.Common.{arith}
use Rattle.std.proofs.lemmas.Fmt.{length-decimal-le}
use Rattle.seq_run.proofs.head.put_rest.Goals as goal

pub put_number-end-requires : goal.put_number-end-requires
put_number-end-requires c = omega (arith, c.requires.room, length-decimal-le 2 c.from.result (omega arith) (omega arith) (omega (arith, c.from.ensures, c.requires.small)))

pub put_byte-requires : goal.put_byte-requires
put_byte-requires c = omega (arith, c.requires.room, c.put_number-end.ensures.placed, c.put_number-end.ensures.long, length-decimal-le 2 c.from.result (omega arith) (omega arith) (omega (arith, c.from.ensures, c.requires.small)))

pub returns-clause-short : goal.returns-clause-short
returns-clause-short c = omega (arith, c.put_number-end.ensures.placed, c.put_byte.ensures.placed, length-decimal-le 2 c.from.result (omega arith) (omega arith) (omega (arith, c.from.ensures, c.requires.small)))
