use Rattle.std.proofs.Common.{◌≡◌, take, None, refl, sym, arith, length-take}
use Rattle.std.proofs.lemmas.List.{length-take-le}
use Rattle.item_nodes.specs.Counted.{device_of, failures_of}
use Rattle.seq_run.specs.Judge.{judge_of}
use Rattle.seq_run.specs.Running.{change_of}
use Rattle.seq_run.proofs.RunLoop.{begin_run, shown_last, read_by_pieces, read_failed, read_no_more, no_memory, write_failed, reported_all, goes_on, no_bytes}
use Rattle.seq_run.proofs.Told.{begin_watch, consumed_fits, told_by_pieces, told_no_more, watched_more}
use Rattle.seq_run.proofs.Rereading.{read_back}
use Rattle.seq_run.proofs.running.run_watched.Goals as goal

pub pieces-init : goal.pieces-init
pieces-init g c = (
  begin_run c.args.mode (judge_of c.args.table.now c.args.steps) c.args.limits (g.R.Read.remaining (device_of c.args.input.now)) (g.W.Write.contents (device_of c.args.output.now)) (failures_of c.args.input.now) (failures_of c.args.output.now) c.new-session.result c.new-session.ensures,
  begin_watch (judge_of c.args.table.now c.args.steps) c.args.limits (g.P.Watch.told c.args.watch.now) c.new-session.result c.new-session.ensures,
)

pub returns-in_default-clause-fault : goal.returns-in_default-clause-fault
returns-in_default-clause-fault g c =
    read_failed c.args.mode (judge_of c.args.table.now c.args.steps) c.args.limits (g.R.Read.remaining (device_of c.args.input.now)) (g.R.Read.remaining (device_of c.pieces.input)) (g.W.Write.contents (device_of c.args.output.now)) (g.W.Write.contents (device_of c.pieces.output))
    (failures_of c.args.input.now) (failures_of c.pieces.input) (failures_of c.args.output.now) (failures_of c.pieces.output) c.pieces.session c.pieces.reported c.pieces.written c.pieces.invariant.0
    (g.R.Read.remaining (device_of c.read.new.self)) (failures_of c.read.new.self) c.in_default.ensures.bytes c.in_default.ensures.count

pub returns-in_default-take_piece-clause-fault :
    goal.returns-in_default-take_piece-clause-fault
returns-in_default-take_piece-clause-fault g c =
    no_memory c.args.mode (judge_of c.args.table.now c.args.steps) c.args.limits (g.R.Read.remaining (device_of c.args.input.now)) (g.R.Read.remaining (device_of c.pieces.input)) (g.W.Write.contents (device_of c.args.output.now)) (g.W.Write.contents (device_of c.pieces.output))
    (failures_of c.args.input.now) (failures_of c.pieces.input) (failures_of c.args.output.now) (failures_of c.pieces.output) c.pieces.session c.pieces.reported c.pieces.written c.pieces.invariant.0
    (g.R.Read.remaining (device_of c.read.new.self)) (failures_of c.read.new.self) (take c.in-Ok.count c.read.new.buf) c.in-Ok.ensures.count c.in-Ok.ensures.bytes.0

pub returns-in-Err-clause-fault : goal.returns-in-Err-clause-fault
returns-in-Err-clause-fault g c =
    write_failed c.args.mode (judge_of c.args.table.now c.args.steps) c.args.limits (g.R.Read.remaining (device_of c.args.input.now)) (g.R.Read.remaining (device_of c.pieces.input)) (g.W.Write.contents (device_of c.args.output.now)) (g.W.Write.contents (device_of c.pieces.output))
    (failures_of c.args.input.now) (failures_of c.pieces.input) (failures_of c.args.output.now) (failures_of c.pieces.output) c.pieces.session c.pieces.reported c.pieces.written c.pieces.invariant.0
    (g.R.Read.remaining (device_of c.read.new.self)) (take c.in-Ok.count c.read.new.buf) c.in-Ok.ensures.bytes.0
    (λ e. c.in-Ok.ensures.bytes.1 (no_bytes c.in-Ok.count c.read.new.buf (take c.in-Ok.count c.read.new.buf) c.in-Ok.ensures.bound.0 refl e) (omega arith))
    c.in-Ok-take_piece.end c.take_piece.new.session c.take_piece.new.bytes c.in-Ok-take_piece.ensures
    (g.W.Write.contents (device_of c.write_bytes.new.out)) c.in-Err.fault.written (failures_of c.write_bytes.new.out) (rw c.as_slice.ensures at c.in-Err.ensures.short) (rw c.as_slice.ensures at c.in-Err.ensures.part) c.in-Err.ensures.failed

pub returns-in-Some-clause-reported : goal.returns-in-Some-clause-reported
returns-in-Some-clause-reported g c =
    reported_all c.args.mode (judge_of c.args.table.now c.args.steps) c.args.limits (g.R.Read.remaining (device_of c.args.input.now)) (g.R.Read.remaining (device_of c.pieces.input)) (g.W.Write.contents (device_of c.args.output.now)) (g.W.Write.contents (device_of c.pieces.output))
    (failures_of c.args.input.now) (failures_of c.pieces.input) (failures_of c.args.output.now) (failures_of c.pieces.output) c.pieces.session c.pieces.reported c.pieces.written c.pieces.invariant.0
    (g.R.Read.remaining (device_of c.read.new.self)) (take c.in-Ok.count c.read.new.buf) c.in-Ok.ensures.bytes.0
    (λ e. c.in-Ok.ensures.bytes.1 (no_bytes c.in-Ok.count c.read.new.buf (take c.in-Ok.count c.read.new.buf) c.in-Ok.ensures.bound.0 refl e) (omega arith))
    c.in-Ok-take_piece.end c.take_piece.new.session c.take_piece.new.bytes c.in-Ok-take_piece.ensures
    c.in-Some.end c.into_rejected.result (g.W.Write.contents (device_of c.write_bytes.new.out)) (failures_of c.write_bytes.new.out) c.in-Some.is (rw c.as_slice.ensures at c.in_default-write_bytes.ensures.all) c.into_rejected.ensures

pub returns-in-Some-clause-shown : goal.returns-in-Some-clause-shown
returns-in-Some-clause-shown g c =
    shown_last c.shows_inside.ensures c.args.mode c.pieces.session (take c.in-Ok.count c.read.new.buf) c.in-Ok-take_piece.end c.take_piece.new.session c.take_piece.new.bytes c.in-Ok-take_piece.ensures
    c.in-Some.end c.into_rejected.result c.in-Some.is c.into_rejected.ensures

pub returns-in-Some-clause-read_back : goal.returns-in-Some-clause-read_back
returns-in-Some-clause-read_back g c =
    read_back c.written_is_read_back.ensures.freely c.decisive_end.ensures c.args.mode (judge_of c.args.table.now c.args.steps) c.args.limits (g.R.Read.remaining (device_of c.args.input.now)) (change_of g.W.Write.contents c.args.output.now c.write_bytes.new.out)
    c.in-Some.end c.into_rejected.result (returns-in-Some-clause-reported g c)

pub pieces-preserved : goal.pieces-preserved
pieces-preserved g c =
    let none : c.in-Ok-take_piece.end ≡ None = c.in_default-end.is in
    let next = goes_on c.args.mode (judge_of c.args.table.now c.args.steps) c.args.limits (g.R.Read.remaining (device_of c.args.input.now)) (g.R.Read.remaining (device_of c.pieces.input)) (g.W.Write.contents (device_of c.args.output.now)) (g.W.Write.contents (device_of c.pieces.output))
    (failures_of c.args.input.now) (failures_of c.pieces.input) (failures_of c.args.output.now) (failures_of c.pieces.output) c.pieces.session c.pieces.reported c.pieces.written c.pieces.invariant.0
    (g.R.Read.remaining (device_of c.read.new.self)) (take c.in-Ok.count c.read.new.buf) c.in-Ok.ensures.bytes.0
    (λ e. c.in-Ok.ensures.bytes.1 (no_bytes c.in-Ok.count c.read.new.buf (take c.in-Ok.count c.read.new.buf) c.in-Ok.ensures.bound.0 refl e) (omega arith))
    c.in-Ok-take_piece.end c.take_piece.new.session c.take_piece.new.bytes c.in-Ok-take_piece.ensures
    (g.W.Write.contents (device_of c.write_bytes.new.out)) (failures_of c.read.new.self) (failures_of c.write_bytes.new.out) c.in-Ok.ensures.count none (rw c.as_slice.ensures at c.in_default-write_bytes.ensures.all) c.in_default-write_bytes.ensures.count
    c.len.result c.len.ensures c.len.type_inv c.taken-reported.result.0 (λ e. c.taken-reported.ensures.items_is) in (
      next.1,
      watched_more c.args.mode c.pieces.session (take c.in-Ok.count c.read.new.buf) c.in-Ok-take_piece.end c.take_piece.new.session c.take_piece.new.bytes c.in-Ok-take_piece.ensures none
          c.pieces.consumed c.in-Ok.count c.pieces.invariant.1.consumed_is (sym (length-take-le c.in-Ok.count c.read.new.buf c.in-Ok.ensures.bound.0))
          (judge_of c.args.table.now c.args.steps) c.args.limits (g.P.Watch.told c.args.watch.now) (g.P.Watch.told c.pieces.watch) (g.P.Watch.told c.tell.new.self) c.pieces.invariant.1 next.1.judge_is next.1.limits_is
          (omega (arith, length-take c.in-Ok.count c.read.new.buf, c.read.auto.buf)) c.taken-reported.result.0 next.1.reported_is c.tell.ensures,
    )

pub returns-in_default-clause-reads : goal.returns-in_default-clause-reads
returns-in_default-clause-reads g c =
    read_no_more c.args.mode (judge_of c.args.table.now c.args.steps) c.args.limits (g.R.Read.remaining (device_of c.args.input.now)) (g.R.Read.remaining (device_of c.pieces.input)) (g.W.Write.contents (device_of c.args.output.now)) (g.W.Write.contents (device_of c.pieces.output))
    (failures_of c.args.input.now) (failures_of c.pieces.input) (failures_of c.args.output.now) (failures_of c.pieces.output) c.pieces.session c.pieces.reported c.pieces.written c.pieces.invariant.0
    (g.R.Read.remaining (device_of c.read.new.self)) (failures_of c.read.new.self) c.in_default.ensures.bytes

pub returns-in_default-take_piece-clause-reads :
    goal.returns-in_default-take_piece-clause-reads
returns-in_default-take_piece-clause-reads g c =
    read_by_pieces c.args.mode (judge_of c.args.table.now c.args.steps) c.args.limits (g.R.Read.remaining (device_of c.args.input.now)) (g.R.Read.remaining (device_of c.pieces.input)) (g.W.Write.contents (device_of c.args.output.now)) (g.W.Write.contents (device_of c.pieces.output))
    (failures_of c.args.input.now) (failures_of c.pieces.input) (failures_of c.args.output.now) (failures_of c.pieces.output) c.pieces.session c.pieces.reported c.pieces.written c.pieces.invariant.0
    (g.R.Read.remaining (device_of c.read.new.self)) (failures_of c.read.new.self) (take c.in-Ok.count c.read.new.buf) c.in-Ok.ensures.bytes.0 (omega (arith, length-take c.in-Ok.count c.read.new.buf, c.read.auto.buf))

pub returns-in-Err-clause-reads :
    goal.returns-in-Err-clause-reads
returns-in-Err-clause-reads g c =
    read_by_pieces c.args.mode (judge_of c.args.table.now c.args.steps) c.args.limits (g.R.Read.remaining (device_of c.args.input.now)) (g.R.Read.remaining (device_of c.pieces.input)) (g.W.Write.contents (device_of c.args.output.now)) (g.W.Write.contents (device_of c.pieces.output))
    (failures_of c.args.input.now) (failures_of c.pieces.input) (failures_of c.args.output.now) (failures_of c.pieces.output) c.pieces.session c.pieces.reported c.pieces.written c.pieces.invariant.0
    (g.R.Read.remaining (device_of c.read.new.self)) (failures_of c.read.new.self) (take c.in-Ok.count c.read.new.buf) c.in-Ok.ensures.bytes.0 (omega (arith, length-take c.in-Ok.count c.read.new.buf, c.read.auto.buf))

pub returns-in-Some-clause-reads :
    goal.returns-in-Some-clause-reads
returns-in-Some-clause-reads g c =
    read_by_pieces c.args.mode (judge_of c.args.table.now c.args.steps) c.args.limits (g.R.Read.remaining (device_of c.args.input.now)) (g.R.Read.remaining (device_of c.pieces.input)) (g.W.Write.contents (device_of c.args.output.now)) (g.W.Write.contents (device_of c.pieces.output))
    (failures_of c.args.input.now) (failures_of c.pieces.input) (failures_of c.args.output.now) (failures_of c.pieces.output) c.pieces.session c.pieces.reported c.pieces.written c.pieces.invariant.0
    (g.R.Read.remaining (device_of c.read.new.self)) (failures_of c.read.new.self) (take c.in-Ok.count c.read.new.buf) c.in-Ok.ensures.bytes.0 (omega (arith, length-take c.in-Ok.count c.read.new.buf, c.read.auto.buf))

pub overflow_add-consumed : goal.overflow_add-consumed
overflow_add-consumed g c =
    omega (
      arith,
      consumed_fits c.args.mode c.pieces.session (take c.in-Ok.count c.read.new.buf) c.in-Ok-take_piece.end c.take_piece.new.session c.take_piece.new.bytes c.in-Ok-take_piece.ensures c.in_default-end.is
          c.pieces.consumed c.in-Ok.count c.pieces.invariant.1.consumed_is (sym (length-take-le c.in-Ok.count c.read.new.buf c.in-Ok.ensures.bound.0)),
    )

pub returns-in_default-clause-told :
    goal.returns-in_default-clause-told
returns-in_default-clause-told g c =
    told_no_more (judge_of c.args.table.now c.args.steps) c.args.limits (g.R.Read.remaining (device_of c.args.input.now)) (g.R.Read.remaining (device_of c.pieces.input)) (g.R.Read.remaining (device_of c.read.new.self)) (failures_of c.args.input.now) (failures_of c.read.new.self)
    (g.P.Watch.told c.args.watch.now) (g.P.Watch.told c.pieces.watch) c.pieces.session.fed c.pieces.consumed c.pieces.invariant.0.consumed c.pieces.invariant.1 c.in_default.ensures.bytes

pub returns-in_default-take_piece-clause-told :
    goal.returns-in_default-take_piece-clause-told
returns-in_default-take_piece-clause-told g c =
    told_by_pieces (judge_of c.args.table.now c.args.steps) c.args.limits (g.R.Read.remaining (device_of c.args.input.now)) (g.R.Read.remaining (device_of c.pieces.input)) (g.R.Read.remaining (device_of c.read.new.self)) (failures_of c.args.input.now) (failures_of c.read.new.self)
    (g.P.Watch.told c.args.watch.now) (g.P.Watch.told c.pieces.watch) c.pieces.session.fed c.pieces.consumed c.pieces.invariant.0.consumed c.pieces.invariant.1 (take c.in-Ok.count c.read.new.buf) c.in-Ok.ensures.bytes.0 (omega (arith, length-take c.in-Ok.count c.read.new.buf, c.read.auto.buf))

pub returns-in-Err-clause-told :
    goal.returns-in-Err-clause-told
returns-in-Err-clause-told g c =
    told_by_pieces (judge_of c.args.table.now c.args.steps) c.args.limits (g.R.Read.remaining (device_of c.args.input.now)) (g.R.Read.remaining (device_of c.pieces.input)) (g.R.Read.remaining (device_of c.read.new.self)) (failures_of c.args.input.now) (failures_of c.read.new.self)
    (g.P.Watch.told c.args.watch.now) (g.P.Watch.told c.pieces.watch) c.pieces.session.fed c.pieces.consumed c.pieces.invariant.0.consumed c.pieces.invariant.1 (take c.in-Ok.count c.read.new.buf) c.in-Ok.ensures.bytes.0 (omega (arith, length-take c.in-Ok.count c.read.new.buf, c.read.auto.buf))

pub returns-in-Some-clause-told :
    goal.returns-in-Some-clause-told
returns-in-Some-clause-told g c =
    told_by_pieces (judge_of c.args.table.now c.args.steps) c.args.limits (g.R.Read.remaining (device_of c.args.input.now)) (g.R.Read.remaining (device_of c.pieces.input)) (g.R.Read.remaining (device_of c.read.new.self)) (failures_of c.args.input.now) (failures_of c.read.new.self)
    (g.P.Watch.told c.args.watch.now) (g.P.Watch.told c.pieces.watch) c.pieces.session.fed c.pieces.consumed c.pieces.invariant.0.consumed c.pieces.invariant.1 (take c.in-Ok.count c.read.new.buf) c.in-Ok.ensures.bytes.0 (omega (arith, length-take c.in-Ok.count c.read.new.buf, c.read.auto.buf))
