use Rattle.std.proofs.lemmas.Result.{IfOk-weaker}
use Rattle.item_nodes.specs.View.{view}
use Rattle.cddl_reasons.specs.Told.{holder_view}
use Rattle.cddl_mismatch.proofs.Reading.{held_there, no_string, nothing_there}
use Rattle.cddl_mismatch.proofs.places.held_at.Goals as goal

pub returns-in_default : goal.returns-in_default
returns-in_default c = nothing_there (view c.args.item.now) (holder_view c.args.holder) (rw c.in_default.is at c.item_at.ensures)

pub returns-in_default-bytes_of : goal.returns-in_default-bytes_of
returns-in_default-bytes_of c = no_string (view c.args.item.now) (holder_view c.args.holder) (view c.in-Some.string.now) (rw c.in-Some.is at c.item_at.ensures) (rw c.in_default-bytes_of.is at c.bytes_of.ensures)

pub returns : goal.returns
returns c =
    let at = rw c.in-Some.is at c.item_at.ensures in
    let is = rw c.in-Some-bytes_of.is at c.bytes_of.ensures in
    IfOk-weaker c.held_in.result _ _ (λ held h. held_there (view c.args.item.now) (holder_view c.args.holder) (view c.in-Some.string.now) c.in-Some-bytes_of.bytes.now held at is h) c.held_in.ensures
