use Rattle.std.proofs.Common.{◌+◌, [], take, drop, arith, sym, subst, length-drop}
use Rattle.cbor_data.specs.Value.{values_of}
use Rattle.cbor_data.specs.Embedded.{EmbedsAll, none}
use Rattle.cbor_read.specs.Firsts.{IsFirst, IsFirstItem}
use Rattle.cbor_read.proofs.Joined.{rest_is, none_held, more_held}
use Rattle.cbor_read.proofs.embedding.embedded.Goals as goal

pub loop-start-init : goal.loop-start-init
loop-start-init c = record {
  within = omega arith;
  held = subst (λ xs. EmbedsAll [] (values_of xs)) (sym c.new-items.ensures.items) none;
}

pub returns-in_default-clause-none : goal.returns-in_default-clause-none
returns-in_default-clause-none c =
    let b = c.args.bytes.now in
    let start = c.loop-start.start in
    none_held b start (values_of c.loop-start.items.items) c.loop-start-test.true c.loop-start.invariant.held (subst (IsFirst (drop start b)) c.in_default.is (subst (λ r. IsFirst r c.in_ok-length.field-0) (rest_is b start) c.in_ok-length.ensures))

pub loop-start-preserved : goal.loop-start-preserved
loop-start-preserved c =
    let b = c.args.bytes.now in
    let start = c.loop-start.start in
    let n = c.in-Some.length in
    let begun : IsFirst (drop start b) c.in_ok-length.field-0 = subst (λ r. IsFirst r c.in_ok-length.field-0) (rest_is b start) c.in_ok-length.ensures in
    let first : IsFirstItem (drop start b) n c.in-Some.item = subst (IsFirst (drop start b)) c.in-Some.is begun in
    record {
      within = omega (arith, first.within, length-drop start b);
      held = subst (λ xs. EmbedsAll (take (start + n) b) (values_of xs)) (sym c.in_ok-push.ensures.items) (more_held b start n c.loop-start.items.items c.in-Some.item c.loop-start.invariant.held first);
    }
