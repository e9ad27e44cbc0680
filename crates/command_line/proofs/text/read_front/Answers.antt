use Rattle.std.proofs.Common.{◌≡◌, take, arith, length-take}
use Rattle.command_line.specs.Reading.{most_read}
use Rattle.command_line.proofs.Taking.{at_end, full, one_more, read_none, within}
use Rattle.command_line.proofs.text.read_front.Goals as goal

pub returns-then-count-eq0-clause-front : goal.returns-then-count-eq0-clause-front
returns-then-count-eq0-clause-front g c =
    let none : c.in_ok-count.count ≡ 0 = omega (arith, c.if-count-eq0.true) in
    (at_end most_read (g.R.Read.remaining c.args.file.now) (g.R.Read.remaining c.read.new.self) c.pieces.text.items
    (read_none most_read (g.R.Read.remaining c.args.file.now) (g.R.Read.remaining c.pieces.file) (g.R.Read.remaining c.read.new.self) c.pieces.text.items c.read.new.buf c.in_ok-count.count c.pieces.invariant c.in_ok-count.ensures.bytes.0 none)
    (c.in_ok-count.ensures.bytes.1 none (omega (arith, c.read.auto.buf, length-take c.min-room.result c.pieces.buffer, c.pieces-test.true, c.min-room.ensures, c.len-in-pieces.ensures, c.len.ensures)))).front

pub returns-then-count-eq0-clause-behind : goal.returns-then-count-eq0-clause-behind
returns-then-count-eq0-clause-behind g c =
    let none : c.in_ok-count.count ≡ 0 = omega (arith, c.if-count-eq0.true) in
    (at_end most_read (g.R.Read.remaining c.args.file.now) (g.R.Read.remaining c.read.new.self) c.pieces.text.items
    (read_none most_read (g.R.Read.remaining c.args.file.now) (g.R.Read.remaining c.pieces.file) (g.R.Read.remaining c.read.new.self) c.pieces.text.items c.read.new.buf c.in_ok-count.count c.pieces.invariant c.in_ok-count.ensures.bytes.0 none)
    (c.in_ok-count.ensures.bytes.1 none (omega (arith, c.read.auto.buf, length-take c.min-room.result c.pieces.buffer, c.pieces-test.true, c.min-room.ensures, c.len-in-pieces.ensures, c.len.ensures)))).behind

pub returns-in_err-extend_from_slice-clause-within :
    goal.returns-in_err-extend_from_slice-clause-within
returns-in_err-extend_from_slice-clause-within g c =
    within most_read (g.R.Read.remaining c.args.file.now) (g.R.Read.remaining c.read.new.self) _
    (one_more most_read (g.R.Read.remaining c.args.file.now) (g.R.Read.remaining c.pieces.file) (g.R.Read.remaining c.read.new.self) c.pieces.text.items (take c.in_ok-count.count c.read.new.buf) c.pieces.invariant c.in_ok-count.ensures.bytes.0
    (omega (arith, length-take c.in_ok-count.count c.read.new.buf, c.read.auto.buf, length-take c.min-room.result c.pieces.buffer, c.min-room.ensures, c.len-in-pieces.ensures, c.pieces-test.true, c.pieces.invariant.few)))

pub returns-clause-front : goal.returns-clause-front
returns-clause-front g c =
    (full most_read (g.R.Read.remaining c.args.file.now) (g.R.Read.remaining c.pieces.file) c.pieces.text.items c.pieces.invariant (omega (arith, c.pieces-test.false, c.len.ensures))).front

pub returns-clause-behind : goal.returns-clause-behind
returns-clause-behind g c =
    (full most_read (g.R.Read.remaining c.args.file.now) (g.R.Read.remaining c.pieces.file) c.pieces.text.items c.pieces.invariant (omega (arith, c.pieces-test.false, c.len.ensures))).behind
