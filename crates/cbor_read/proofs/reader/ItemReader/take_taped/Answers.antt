use Rattle.std.proofs.Common.{◌≡◌, ◌+◌, ◌<◌, ◌^◌, [], length, ap, arith, ◌∙◌}
use Rattle.cbor_read.specs.Reading.{Reading}
use Rattle.cbor_read.proofs.Taped.{tape_fits, tape_taken}
use Rattle.cbor_read.proofs.Turned.{kept_moved}
use Rattle.cbor_read.proofs.reader.ItemReader.take_taped.Goals as goal

pub overflow_add-self : goal.overflow_add-self
overflow_add-self c = omega (arith, tape_fits c.args.self.now c.requires.0 c.args.end c.requires.1 c.requires.2, ap (λ (q : Reading). q.offset) c.self.view_is)

pub invariant_of-self : goal.invariant_of-self
invariant_of-self c =
    let r = c.self.inside in
    let fit : r.offset + c.args.end < 2 ^ 64 = omega (arith, tape_fits c.args.self.now c.requires.0 c.args.end c.requires.1 c.requires.2, ap (λ (q : Reading). q.offset) c.self.view_is) in
    let nothing : r.fed ≡ [] = ap (λ (q : Reading). q.fed) c.self.view_is ∙ c.requires.2.between in
    λ live. let k = c.self.invariant live in
    kept_moved r.limits r.offset (r.offset + c.args.end) r.fed r.count r.work fit k (k.same ∙ ap length nothing)

pub returns : goal.returns
returns c =
    let r = c.self.inside in
    λ piece tape. tape_taken r.limits r.offset r.fed r.stopped c.args.self.now c.self.view_is piece c.args.end tape
