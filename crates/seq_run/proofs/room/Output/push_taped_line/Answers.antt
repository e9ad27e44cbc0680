use Rattle.std.proofs.Common.{◌≡◌, ◌++◌, take, ap, ◌∙◌}
use Rattle.seq_run.specs.Report.{item_line}
use Rattle.seq_run.proofs.Appending.{whole_slice}
use Rattle.seq_run.proofs.room.Output.push_taped_line.Goals as goal

pub returns : goal.returns
returns c = λ depth whole.
    let put = c.put_taped_line-self-inside.ensures.put depth whole in
    let line = item_line c.args.number (record { offset = c.args.offset; item = whole.value }) in
    let len = c.self.inside.len in
    let slice = whole_slice c.as_mut_slice-out.result.now c.make_room.new.bytes.items c.put_taped_line-self-inside.new.out c.make_room.new.bytes.len put.long c.as_mut_slice-out.ensures.len in
    let front : take len c.as_mut_slice-out.result.now ≡ c.args.self.now = ap (take len) c.as_mut_slice-out.ensures.value ∙ (c.make_room.ensures.kept ∙ c.self.view_is) in
    ap (take c.put_taped_line-self-inside.result) slice ∙ (put.is ∙ ap (λ r. r ++ line) front)
