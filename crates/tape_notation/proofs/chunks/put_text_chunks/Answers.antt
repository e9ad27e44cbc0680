use Rattle.std.proofs.Common.{◌≡◌, ◌+◌, ◌-◌, ◌≤◌, [], ◌++◌, length, take, drop, refl, sym, ap, ◌∙◌, subst, arith, append-nil}
use Rattle.std.proofs.lemmas.Grind.{flat_map-append}
use Rattle.std.specs.Prelude.{flat_map}
use Rattle.cbor_data.specs.Forms.{joined}
use Rattle.cbor_data.specs.Notation.{shown_byte}
use Rattle.tape_notation.specs.Put.{IsPut}
use Rattle.tape_notation.proofs.Puts.{none_put, same_put}
use Rattle.tape_notation.proofs.Strings.{chunk_first, chunk_head, chunk_here, chunk_content, chunk_room, none_left, one_chunk}
use Rattle.tape_notation.proofs.chunks.put_text_chunks.Goals as goal

pub loop-chunk-init : goal.loop-chunk-init
loop-chunk-init c = λ cs h. record { left = cs; there = h; done = []; all = refl; put = none_put c.args.out.now c.args.at (omega (arith, c.requires.room)) }

pub bounds-bytes-chunk : goal.bounds-bytes-chunk
bounds-bytes-chunk c =
    let w = c.requires in
    let s = c.loop-chunk.invariant w.chunks w.there in
    chunk_here 3 c.args.bytes.now c.loop-chunk.chunk s.left s.there

pub head_at-len-requires : goal.head_at-len-requires
head_at-len-requires c =
    let w = c.requires in
    let s = c.loop-chunk.invariant w.chunks w.there in
    chunk_head 3 c.args.bytes.now c.loop-chunk.chunk s.left s.there c.loop-chunk-test.true

pub overflow_add-chunk : goal.overflow_add-chunk
overflow_add-chunk c =
    let w = c.requires in
    let s = c.loop-chunk.invariant w.chunks w.there in
    let r = c.head_at-len.result in
    let x = chunk_content 3 c.args.bytes.now c.loop-chunk.chunk r.0 r.1 s.left s.there c.loop-chunk-test.true c.head_at-len.ensures in
    omega (arith, x.within)

pub slice_bounds-put_shown-end : goal.slice_bounds-put_shown-end
slice_bounds-put_shown-end c =
    let w = c.requires in
    let s = c.loop-chunk.invariant w.chunks w.there in
    let r = c.head_at-len.result in
    let x = chunk_content 3 c.args.bytes.now c.loop-chunk.chunk r.0 r.1 s.left s.there c.loop-chunk-test.true c.head_at-len.ensures in
    omega (arith, x.within)

pub put_shown-end-requires : goal.put_shown-end-requires
put_shown-end-requires c =
    let b = c.args.bytes.now in
    let l = c.loop-chunk in
    let w = c.requires in
    let s = l.invariant w.chunks w.there in
    let r = c.head_at-len.result in
    let f = chunk_first 3 b l.chunk s.left s.there c.loop-chunk-test.true in
    let x = chunk_content 3 b l.chunk r.0 r.1 s.left s.there c.loop-chunk-test.true c.head_at-len.ensures in
    let same : r.0 ≡ (r.1 + r.0) - r.1 = omega arith in
    subst (λ k. l.end + length ((flat_map shown_byte) (take k (drop r.1 b))) ≤ length l.out) same
    (chunk_room (flat_map shown_byte) (flat_map-append shown_byte) 3 b c.args.out.now l.out c.args.at l.chunk l.end r.1 r.0 w.chunks w.room s f x)

pub loop-chunk-smaller : goal.loop-chunk-smaller
loop-chunk-smaller c =
    let w = c.requires in
    let s = c.loop-chunk.invariant w.chunks w.there in
    let r = c.head_at-len.result in
    let x = chunk_content 3 c.args.bytes.now c.loop-chunk.chunk r.0 r.1 s.left s.there c.loop-chunk-test.true c.head_at-len.ensures in
    omega (arith, x.within, x.on)

pub loop-chunk-preserved : goal.loop-chunk-preserved
loop-chunk-preserved c =
    let b = c.args.bytes.now in
    let l = c.loop-chunk in
    let r = c.head_at-len.result in
    let new = c.put_shown-end.new.out in
    let after = c.put_shown-end.result in
    let same : (r.1 + r.0) - r.1 ≡ r.0 = omega arith in
    let put : IsPut l.out new l.end ((flat_map shown_byte) (take r.0 (drop r.1 b))) after = subst (λ k. IsPut l.out new l.end ((flat_map shown_byte) (take k (drop r.1 b))) after) same c.put_shown-end.ensures in
    λ cs h.
    let s = l.invariant cs h in
    let f = chunk_first 3 b l.chunk s.left s.there c.loop-chunk-test.true in
    one_chunk (flat_map shown_byte) (flat_map-append shown_byte) 3 b c.args.out.now l.out new c.args.at l.chunk l.end r.1 r.0 after cs s f (chunk_content 3 b l.chunk r.0 r.1 s.left s.there c.loop-chunk-test.true c.head_at-len.ensures) put

pub returns : goal.returns
returns c = λ cs h.
    let s = c.loop-chunk.invariant cs h in
    let none : joined s.left ≡ [] = none_left 3 c.args.bytes.now c.loop-chunk.chunk s.left (omega arith) s.there c.loop-chunk-test.false in
    same_put ((flat_map shown_byte) s.done) ((flat_map shown_byte) (joined cs)) (ap (flat_map shown_byte) (sym (s.all ∙ (ap (λ r. s.done ++ r) none ∙ append-nil s.done)))) s.put
