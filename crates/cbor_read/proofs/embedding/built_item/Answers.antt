use Rattle.std.proofs.Common.{[], take, refl, subst, arith}
use Rattle.item_nodes.specs.View.{view}
use Rattle.cbor_data.proofs.OfMachine.Lemmas.{whole}
use Rattle.read_building.specs.Working.{IsTaken}
use Rattle.cbor_read.specs.Outcomes.{IsOutcome}
use Rattle.cbor_read.proofs.Firsts.{none_first, enough, reads_first, value_first, item_first, wrong_first}
use Rattle.cbor_read.proofs.Valued.{settled, sound_but_keys}
use Rattle.cbor_read.proofs.embedding.built_item.Goals as goal

pub returns-in_default : goal.returns-in_default
returns-in_default c = none_first c.args.bytes.now c.in_ok-used.field-0 c.take.new.self (omega arith) (c.in_ok-used.ensures 0 [] refl (c.new-work.ensures 256 0)) c.in_default.not-Item

pub sound_of-requires : goal.sound_of-requires
sound_of-requires c =
    let b = c.args.bytes.now in
    let used = c.in-Item.used in
    let x = view c.in-Item.item in
    let h = subst (λ s. IsTaken 256 0 [] b s c.take.new.self) c.in-Item.is (c.in_ok-used.ensures 0 [] refl (c.new-work.ensures 256 0)) in
    sound_but_keys (enough used) 0 (take used b) x (reads_first b used x _ _ _ (omega arith) h) (omega arith) (value_first b used x _ _ _ h)

pub returns-in-Item-2 : goal.returns-in-Item-2
returns-in-Item-2 c =
    let b = c.args.bytes.now in
    let used = c.in-Item.used in
    let x = view c.in-Item.item in
    let h = subst (λ s. IsTaken 256 0 [] b s c.take.new.self) c.in-Item.is (c.in_ok-used.ensures 0 [] refl (c.new-work.ensures 256 0)) in
    let out = settled (enough used) 0 (take used b) x _ (reads_first b used x _ _ _ (omega arith) h) (value_first b used x _ _ _ h) c.in_ok-item.ensures in
    item_first b used c.in-Item-2.item h.some h.within (subst (IsOutcome (enough used) 0 (take used b)) c.in-Item-2.is out)

pub returns : goal.returns
returns c =
    let b = c.args.bytes.now in
    let used = c.in-Item.used in
    let x = view c.in-Item.item in
    let h = subst (λ s. IsTaken 256 0 [] b s c.take.new.self) c.in-Item.is (c.in_ok-used.ensures 0 [] refl (c.new-work.ensures 256 0)) in
    let reads = reads_first b used x _ _ _ (omega arith) h in
    let out = settled (enough used) 0 (take used b) x _ reads (value_first b used x _ _ _ h) c.in_ok-item.ensures in
    wrong_first b used c.in-Fault.field-0 (whole (enough used) 0 (take used b) reads) (subst (IsOutcome (enough used) 0 (take used b)) c.in-Fault.is out)
