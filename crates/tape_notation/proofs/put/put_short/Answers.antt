use Rattle.std.proofs.Common.{◌+◌, [], ◌∷◌, length, decimal, ap, sym, arith}
use Rattle.std.proofs.lemmas.Fmt.{decimal_digit}
use Rattle.tape_notation.specs.Put.{two_digits}
use Rattle.tape_notation.proofs.Decimals.{just_two}
use Rattle.tape_notation.proofs.Puts.{same_put}
use Rattle.tape_notation.proofs.put.put_short.Goals as goal

pub put_byte-requires : goal.put_byte-requires
put_byte-requires c = omega (arith, c.requires.room, ap length (decimal_digit c.args.n c.if-n-lt10.true))

pub returns-then-n-lt10 : goal.returns-then-n-lt10
returns-then-n-lt10 c = same_put ((48 + c.args.n) ∷ []) (decimal c.args.n) (sym (decimal_digit c.args.n c.if-n-lt10.true)) c.put_byte.ensures

pub put_pair-requires-clause-room : goal.put_pair-requires-clause-room
put_pair-requires-clause-room c = omega (arith, c.requires.room, ap length (just_two c.args.n c.if-n-lt10.false c.requires.short))

pub returns : goal.returns
returns c = same_put (two_digits c.args.n) (decimal c.args.n) (sym (just_two c.args.n c.if-n-lt10.false c.requires.short)) c.put_pair.ensures.put
