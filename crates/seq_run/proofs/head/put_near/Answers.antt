use Rattle.std.proofs.Common.{arith}
use Rattle.seq_run.proofs.Heads.{near_put, template_len}
use Rattle.seq_run.proofs.head.put_near.Goals as goal

pub overflow_add-at : goal.overflow_add-at
overflow_add-at c =
    let w = c.requires.near in
    omega (arith, w.4.place, w.4.short, template_len c.args.template.now w.0 w.1 w.4, c.requires.room, c.put-after.ensures.placed, c.put-after.type_inv, w.4.long)

pub put_pair-number-requires-clause-room : goal.put_pair-number-requires-clause-room
put_pair-number-requires-clause-room c =
    let w = c.requires.near in
    omega (arith, w.4.place, w.4.short, template_len c.args.template.now w.0 w.1 w.4, c.put-after.ensures.placed, c.put-after.ensures.within, w.4.long)

pub overflow_sub-at-2 : goal.overflow_sub-at-2
overflow_sub-at-2 c =
    let w = c.requires.near in
    omega (arith, template_len c.args.template.now w.0 w.1 w.4)

pub returns-clause-put : goal.returns-clause-put
returns-clause-put c = λ m p n o h near_n near_o k j.
    near_put c.args.template.now m p n o c.args.number_last c.args.offset_last h near_n near_o k j c.put-after.ensures c.put_pair-number.ensures.put c.put_pair-number.ensures.after c.put_pair-offset.ensures.put c.put_pair-offset.ensures.after
