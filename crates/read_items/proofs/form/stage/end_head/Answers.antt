use Rattle.std.proofs.Common.{◌≡◌, ◌*◌, sym, ap, ◌∙◌}
use Rattle.std.proofs.lemmas.Result.{IfOk-weaker}
use Rattle.cbor_data.specs.Machine.Machine as machine
use Rattle.read_items.specs.Form.Stages.{stack_of, state_of}
use Rattle.read_items.specs.declared.form.stage.Stage.{Stage}
use Rattle.read_items.proofs.OfForm.Heads.{twice_is}
use Rattle.read_items.proofs.form.stage.end_head.Goals as goal

pub returns-in-5 : goal.returns-in-5
returns-in-5 c =
    let K = stack_of c.args.frames.now.items in
    let K' = stack_of c.await_items-in-5.new.frames.items in
    let n = c.args.argument in
    let from : c.from-in-5.result ≡ n = c.from-in-5.ensures in
    let count : 2 * c.from-in-5.result ≡ machine.twice n = ap (λ k. 2 * k) from ∙ sym (twice_is n) in
    IfOk-weaker c.await_items-in-5.result (λ (stage : Stage). state_of stage K' ≡ machine.ask (2 * c.from-in-5.result) K) (λ (stage : Stage). state_of stage K' ≡ machine.after c.args.major n K)
    (λ stage is. is ∙ (ap (λ k. machine.ask k K) count ∙ ap (λ m. machine.after m n K) (sym c.in-5.is))) c.await_items-in-5.ensures
