use Rattle.std.proofs.Common.{ℕ, ◌+◌, ◌-◌, Some, None, refl, sym, subst, arith}
use Rattle.std.proofs.lemmas.Option.{IfSome_then}
use Rattle.cbor_data.specs.Value.{array, pairs, tag}
use Rattle.cbor_data.specs.Forms.{meanings, pair_meanings}
use Rattle.read_items.proofs.OfWhole.Lemmas.{array_item, map_item, tag_item, broken_array, broken_map}
use Rattle.cbor_tape.specs.Parts.{AreMapPairsTapedAt, AreMembersTapedAt, IsContentTapedAt, IsTapedAt, next_at}
use Rattle.cbor_tape.proofs.Entries.{array_there, map_there, tag_there, array_inside, map_inside, tag_inside, leaf_inside, over, inside_within, taped_moves}
use Rattle.cbor_tape.proofs.Members.{none_read, one_more}
use Rattle.cbor_tape.proofs.Pairs.{all_pairs, no_pairs_read, one_pair_more}
use Rattle.cbor_tape.proofs.item.+taped.Goals as goal

-- items

pub item_at-put-requires-clause-next : goal.item_at-put-requires-clause-next
item_at-put-requires-clause-next t c = omega arith

pub item_at-returns-then-not-may_have_parts : goal.item_at-returns-then-not-may_have_parts
item_at-returns-then-not-may_have_parts t c =
    let d = c.args.depth in
    let b = c.args.bytes.now in
    let at = c.args.at in
    let p = c.args.place in
    let old = c.args.tape.now in
    over d b at p c.in_ok-end.end (p + 1) old old c.put.new.tape (omega arith) refl (leaf_inside d b at (p + 1) c.in_ok-end.end old c.in_ok-end.ensures) c.put.ensures

pub item_at-put-requires-2-clause-next : goal.item_at-put-requires-2-clause-next
item_at-put-requires-2-clause-next t c =
    let r = c.in_ok-extent.extent in
    omega (arith, inside_within c.args.depth c.args.bytes.now c.args.at (c.args.place + 1) r.end r.next c.args.tape.now c.inside.new.tape (omega arith) c.in_ok-extent.ensures)

pub item_at-returns : goal.item_at-returns
item_at-returns t c =
    let r = c.in_ok-extent.extent in
    over c.args.depth c.args.bytes.now c.args.at c.args.place r.end r.next c.args.tape.now c.inside.new.tape c.put-2.new.tape (omega arith) (omega arith) c.in_ok-extent.ensures c.put-2.ensures

pub inside-returns-in-4 : goal.inside-returns-in-4
inside-returns-in-4 t c =
    let d = c.args.depth in
    let b = c.args.bytes.now in
    let at = c.args.at in
    let p = c.args.place in
    let h = c.argument_at-argument.result in
    let old = c.args.tape.now in
    let new = c.members.new.tape in
    IfSome_then c.members.result {P = λ r. AreMembersTapedAt d (Some h.0) b h.1 p old new r.end r.next} c.members.ensures (λ r s. array_inside d (Some h.0) b at h.1 p r.end r.next old new s
    (array_item d b at h.0 h.1 r.end (array (meanings s.written)) (c.argument_at-argument.ensures (omega arith)) c.in-4.is (array_there d (Some h.0) b h.1 p r.end r.next old new s)))

pub inside-returns-in-5 : goal.inside-returns-in-5
inside-returns-in-5 t c =
    let d = c.args.depth in
    let b = c.args.bytes.now in
    let at = c.args.at in
    let p = c.args.place in
    let h = c.argument_at-argument.result in
    let old = c.args.tape.now in
    let new = c.pairs.new.tape in
    IfSome_then c.pairs.result {P = λ r. AreMapPairsTapedAt d (Some h.0) b h.1 p old new r.end r.next} c.pairs.ensures (λ r s. map_inside d (Some h.0) b at h.1 p r.end r.next old new s
    (map_item d b at h.0 h.1 r.end (pairs (pair_meanings s.written)) (c.argument_at-argument.ensures (omega arith)) c.in-5.is (map_there d (Some h.0) b h.1 p r.end r.next old new s)))

pub inside-returns-in-6 : goal.inside-returns-in-6
inside-returns-in-6 t c =
    let d = c.args.depth in
    let b = c.args.bytes.now in
    let at = c.args.at in
    let p = c.args.place in
    let h = c.argument_at-argument.result in
    let old = c.args.tape.now in
    let new = c.content.new.tape in
    IfSome_then c.content.result {P = λ r. IsContentTapedAt d b h.1 p old new r.end r.next} c.content.ensures (λ r s. tag_inside d h.0 b at h.1 p r.end r.next old new s
    (tag_item d b at h.0 h.1 r.end (tag h.0 s.there.value) (c.argument_at-argument.ensures (omega arith)) c.in-6.is (tag_there d h.0 b h.1 p r.end r.next old new s)))

-- parts up to a break

pub inside_to_break-returns-in-159 : goal.inside_to_break-returns-in-159
inside_to_break-returns-in-159 t c =
    let d = c.args.depth in
    let b = c.args.bytes.now in
    let at = c.args.at in
    let p = c.args.place in
    let old = c.args.tape.now in
    let new = c.members.new.tape in
    IfSome_then c.members.result {P = λ r. AreMembersTapedAt d None b (at + 1) p old new r.end r.next} c.members.ensures (λ r s. array_inside d None b at (at + 1) p r.end r.next old new s
    (broken_array d b at r.end (array (meanings s.written)) (omega arith) c.in-159.is (array_there d None b (at + 1) p r.end r.next old new s)))

pub inside_to_break-returns-in-191 : goal.inside_to_break-returns-in-191
inside_to_break-returns-in-191 t c =
    let d = c.args.depth in
    let b = c.args.bytes.now in
    let at = c.args.at in
    let p = c.args.place in
    let old = c.args.tape.now in
    let new = c.pairs.new.tape in
    IfSome_then c.pairs.result {P = λ r. AreMapPairsTapedAt d None b (at + 1) p old new r.end r.next} c.pairs.ensures (λ r s. map_inside d None b at (at + 1) p r.end r.next old new s
    (broken_map d b at r.end (pairs (pair_meanings s.written)) (omega arith) c.in-191.is (map_there d None b (at + 1) p r.end r.next old new s)))

pub inside_to_break-returns-in_ok-end-in_default : goal.inside_to_break-returns-in_ok-end-in_default
inside_to_break-returns-in_ok-end-in_default t c = leaf_inside c.args.depth c.args.bytes.now c.args.at c.args.place c.in_ok-end-in_default.end c.args.tape.now c.in_ok-end-in_default.ensures

-- arrays

pub members-loop-tape-init : goal.members-loop-tape-init
members-loop-tape-init t c = record {
  taped = none_read (c.args.depth - 1) c.args.bytes.now c.args.start c.args.place c.args.tape.now;
  behind = omega arith;
  slower = omega arith;
  few = omega arith;
  within = c.requires.within;
}

pub members-loop-tape-preserved : goal.members-loop-tape-preserved
members-loop-tape-preserved t c =
    let d : ℕ = c.args.depth - 1 in
    let b = c.args.bytes.now in
    let l = c.loop-tape in
    let after = c.in_ok-end.end in
    let new = c.item_at.new.tape in
    let beyond = next_at new l.next in
    let read : IsTapedAt d b l.end l.next l.tape new after beyond = c.in_ok-end.ensures in
    let m = taped_moves d b l.end l.next after beyond l.tape new read in
    record {
      taped = one_more d b c.args.start c.args.place l.end after l.next beyond l.read c.args.tape.now l.tape new l.invariant.taped read;
      behind = omega (arith, m.on, l.invariant.behind);
      slower = omega (arith, m.slower, m.on, l.invariant.slower);
      few = omega (arith, m.on, l.invariant.few);
      within = m.within;
    }

-- maps

pub pairs-loop-tape-init : goal.pairs-loop-tape-init
pairs-loop-tape-init t c = record {
  taped = no_pairs_read (c.args.depth - 1) c.args.bytes.now c.args.start c.args.place c.args.tape.now;
  behind = omega arith;
  slower = omega arith;
  few = omega arith;
  within = c.requires.within;
}

pub pairs-item_at-requires-in-loop-tape : goal.pairs-item_at-requires-in-loop-tape
pairs-item_at-requires-in-loop-tape t c =
    let l = c.loop-tape in
    let turn = c.item_at.new.tape in
    let m = taped_moves (c.args.depth - 1) c.args.bytes.now l.end l.next c.in_ok-after_key.after_key (next_at turn l.next) l.tape turn c.in_ok-after_key.ensures in
    (omega (arith, m.on, m.within, l.invariant.behind), (omega arith, (omega arith, omega (arith, m.slower, l.invariant.slower))))

pub pairs-loop-tape-preserved : goal.pairs-loop-tape-preserved
pairs-loop-tape-preserved t c =
    let d : ℕ = c.args.depth - 1 in
    let b = c.args.bytes.now in
    let l = c.loop-tape in
    let between = c.in_ok-after_key.after_key in
    let after = c.in_ok-end.end in
    let turn = c.item_at.new.tape in
    let new = c.item_at-in-loop-tape.new.tape in
    let beside = next_at turn l.next in
    let beyond = next_at new beside in
    let key : IsTapedAt d b l.end l.next l.tape turn between beside = c.in_ok-after_key.ensures in
    let value : IsTapedAt d b between beside turn new after beyond = c.in_ok-end.ensures in
    let m = taped_moves d b l.end l.next between beside l.tape turn key in
    let n = taped_moves d b between beside after beyond turn new value in
    record {
      taped = one_pair_more d b c.args.start c.args.place l.end between after l.next beside beyond l.read c.args.tape.now l.tape turn new l.keys c.with_key-known.result (omega arith) l.invariant.taped c.with_key-known.ensures key value;
      behind = omega (arith, m.on, n.on, l.invariant.behind);
      slower = omega (arith, m.slower, m.on, n.slower, n.on, l.invariant.slower);
      few = omega (arith, m.on, n.on, l.invariant.few);
      within = n.within;
    }

pub pairs-returns : goal.pairs-returns
pairs-returns t c =
    let l = c.loop-tape in
    let old = c.args.tape.now in
    let new = c.all_differ.new.tape in
    subst (λ (n : ℕ). AreMapPairsTapedAt c.args.depth c.args.count c.args.bytes.now c.args.start c.args.place old new (l.end + n) l.next) (sym c.end_len.ensures)
    (all_pairs c.args.depth c.args.count c.args.bytes.now c.args.start c.args.place old l.tape new l.end l.next l.read l.keys (omega arith) (omega arith) (omega (arith, l.invariant.slower, l.invariant.within))
    c.if-not-all_differ.ensures.front l.invariant.taped (c.loop-tape-test.ensures refl) (c.if-not-all_differ.ensures.apart refl))
