use Rattle.std.proofs.Common.{◌+◌, ◌∙◌, ap, length, refl, arith}
use Rattle.std.proofs.lemmas.Option.{slice_get_read}
use Rattle.lists.proofs.Lemmas.{push_length}
use Rattle.table_nodes.proofs.Rowing.{all_rows, one_row_more}
use Rattle.table_nodes.proofs.majors.further.Goals as goal

pub loop-form-preserved : goal.loop-form-preserved
loop-form-preserved c =
    let there = slice_get_read c.args.types.now _ c.loop-form.form-index c.form-item.result refl c.loop-form-test.true c.form-item.is in
    record {
      many = ap length c.in_ok-push.ensures.items ∙ push_length c.loop-form.rows.items c.row_of.result ∙ ap (λ k. k + 1) c.loop-form.invariant.many;
      each = rw c.in_ok-push.ensures.items (one_row_more c.args.types.now c.args.known.now c.loop-form.rows.items c.loop-form.form-index c.form-item.result c.row_of.result c.loop-form.invariant.many there c.row_of.ensures c.loop-form.invariant.each);
    }

pub returns : goal.returns
returns c = all_rows c.args.types.now c.args.known.now c.loop-form.rows.items (omega (arith, c.loop-form.invariant.many, c.loop-form-test.false, c.loop-form.auto.form-index-end)) (λ j m h. c.loop-form.invariant.each j m (omega (arith, h, c.loop-form-test.false)))
