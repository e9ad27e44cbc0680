use Rattle.std.proofs.Common.{refl}
use Rattle.cddlseq_c.specs.Answers.{bad_number}
use Rattle.cddlseq_c.proofs.Streams.{all_by, none_by}
use Rattle.cddlseq_c.proofs.cddlseq_validate_many.Goals as goal

pub returns-then-not-fits : goal.returns-then-not-fits
returns-then-not-fits c = bad_number (λ fitting. let fits = c.fits.ensures.1 fitting in absurd (cc)) refl refl refl

pub returns-in-Ok : goal.returns-in-Ok
returns-in-Ok c =
    all_by c.args.text.now c.args.root.now c.args.bytes.now c.args.offsets.now c.args.limits.now _ c.in-Ok.ready c.args.ends.now c.tell_many.new.ends c.tell_many.new.done c.tell_many.result c.in-Ok.ensures.ready
    (c.fits.ensures.0 c.if-not-fits.false) refl c.tell_many.ensures

pub returns-in-Err : goal.returns-in-Err
returns-in-Err c =
    none_by c.args.text.now c.args.root.now c.args.bytes.now c.args.offsets.now c.args.limits.now c.tell_stop.new.told c.in-Err.why c.args.ends.now c.tell_stop.result c.in-Err.ensures.stop c.tell_stop.ensures.status c.tell_stop.ensures.told
