use Rattle.std.proofs.Common.{◌<◌, length, arith}
use Rattle.std.proofs.lemmas.Option.{slice_get_within}
use Rattle.lists.proofs.Lemmas.{there as there_within}
use Rattle.check_instances.specs.Closed.Closed.{IsMeaning}
use Rattle.table_making.specs.Numbers.{keys_of}
use Rattle.table_making.proofs.Listing.{alike_length}
use Rattle.table_making.proofs.Numbering.{further_keys, same_keys}
use Rattle.table_making.proofs.Searching.{numbers_on}
use Rattle.table_making.proofs.instances.number_instances.Goals as goal

pub loop-place-init : goal.loop-place-init
loop-place-init c = record { grows = same_keys (keys_of c.args.numbers.now); named = λ s src so. so; numbered = λ s k r src h e. absurd (omega (arith, h)) }

pub loop-place-preserved : goal.loop-place-preserved
loop-place-preserved c =
    let w = c.loop-place.invariant in
    let step = c.in_ok-number_instance.ensures in
    record {
      grows = further_keys (keys_of c.args.numbers.now) (keys_of c.loop-place.numbers) (keys_of c.number_instance.new.numbers) w.grows step.grows;
      named = λ s src so. (
          let same = alike_length (IsMeaning s.definitions c.args.terms.now) s.refs c.args.source.now.closed.now.meanings.items src.closed.meanings in
          let within : c.loop-place.place < length s.refs = omega (arith, same, c.loop-place-test.true, c.in-Ok.ensures.1, c.len.ensures, c.args.source.now.closed.now.meanings.ok.0) in
          let r = there_within s.refs c.loop-place.place within in
          step.named s r.0 src r.1 (w.named s src so));
      numbered = λ s k r src h e. numbers_on s c.args.terms.now (keys_of c.loop-place.numbers) (keys_of c.number_instance.new.numbers) c.loop-place.place step.grows (λ j q i f. w.numbered s j q src i f) (λ q f. step.numbered s q src f) k r h e;
    }

pub returns-clause-grows : goal.returns-clause-grows
returns-clause-grows c = c.loop-place.invariant.grows

pub returns-clause-named : goal.returns-clause-named
returns-clause-named c = c.loop-place.invariant.named

pub returns-clause-numbered : goal.returns-clause-numbered
returns-clause-numbered c = λ s k r src e.
    let same = alike_length (IsMeaning s.definitions c.args.terms.now) s.refs c.args.source.now.closed.now.meanings.items src.closed.meanings in
    let inside = slice_get_within s.refs k r e in
    let within : k < c.loop-place.place = omega (arith, same, inside, c.loop-place-test.false, c.in-Ok.ensures.1, c.len.ensures, c.args.source.now.closed.now.meanings.ok.0) in
    c.loop-place.invariant.numbered s k r src within e
