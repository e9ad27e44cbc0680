use Rattle.std.proofs.Common.{arith}
use Rattle.seq_run.proofs.Appending.{few_digits}
use Rattle.seq_run.proofs.Heads.{template_put}
use Rattle.seq_run.proofs.head.template_of.Goals as goal

pub put_number-number_end-requires : goal.put_number-number_end-requires
put_number-number_end-requires c = omega (arith, few_digits c.args.number (omega (arith, c.ranges.number.fits)), c.put-start.ensures.placed, c.put-start.auto.out)

pub put-place-requires : goal.put-place-requires
put-place-requires c = omega (arith, few_digits c.args.number (omega (arith, c.ranges.number.fits)), c.put-start.ensures.placed, c.put_number-number_end.ensures.placed, c.put_number-number_end.auto.out)

pub put_number-offset_end-requires : goal.put_number-offset_end-requires
put_number-offset_end-requires c =
    omega (
      arith,
      few_digits c.args.number (omega (arith, c.ranges.number.fits)),
      few_digits c.args.offset (omega (arith, c.ranges.offset.fits)),
      c.put-start.ensures.placed,
      c.put_number-number_end.ensures.placed,
      c.put-place.ensures.placed,
      c.put-place.auto.out,
    )

pub put-end-requires : goal.put-end-requires
put-end-requires c =
    omega (
      arith,
      few_digits c.args.number (omega (arith, c.ranges.number.fits)),
      few_digits c.args.offset (omega (arith, c.ranges.offset.fits)),
      c.put-start.ensures.placed,
      c.put_number-number_end.ensures.placed,
      c.put-place.ensures.placed,
      c.put_number-offset_end.ensures.placed,
      c.put_number-offset_end.auto.out,
    )

pub returns : goal.returns
returns c =
    template_put c.put-end.new.out c.args.number c.args.offset (omega (arith, c.ranges.number.fits)) (omega (arith, c.ranges.offset.fits)) (omega (arith, c.put-end.auto.out))
    c.put-start.ensures c.put_number-number_end.ensures c.put-place.ensures c.put_number-offset_end.ensures c.put-end.ensures
