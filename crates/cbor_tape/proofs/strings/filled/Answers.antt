use Rattle.std.proofs.Common.{◌≡◌, [], refl, ap, arith}
use Rattle.cbor_tape.specs.Contents.{chunks_size}
use Rattle.cbor_tape.proofs.Contents.{empty, next_piece, no_chunks, none_behind}
use Rattle.cbor_tape.proofs.strings.filled.Goals as goal

pub returns-in_default-clause-there : goal.returns-in_default-clause-there
returns-in_default-clause-there c = λ s h.
    let content = c.loop-at.content in
    let k = c.loop-at.invariant.kept s h in
    (k, λ none. no_chunks c.args.bytes.now content.chunks content.front.now s none c.in_default.is k)

pub returns-then-is_break-clause-there : goal.returns-then-is_break-clause-there
returns-then-is_break-clause-there c = λ s h.
    let content = c.loop-at.content in
    let k = c.loop-at.invariant.kept s h in
    let is : s ≡ [] = none_behind c.args.bytes.now c.in-Some.at content.chunks content.front.now s (empty content.front.now c.loop-at-test.ensures) c.in-Some.is (c.if-is_break.ensures refl) k in
    (([], refl, is), λ _. is)

pub loop-at-preserved : goal.loop-at-preserved
loop-at-preserved c =
    let b = c.args.bytes.now in
    let content = c.loop-at.content in
    let p = c.in_ok-front in
    record {
      kept = λ s h. next_piece b c.in-Some.at p.end content.chunks content.front.now p.front.now s (empty content.front.now c.loop-at-test.ensures) c.in-Some.is p.ensures.there (c.loop-at.invariant.kept s h);
      smaller = omega (arith, p.ensures.on, p.ensures.within, c.loop-at.invariant.smaller, ap (chunks_size b) c.in-Some.is);
    }
