use Rattle.std.proofs.Common.{◌-◌, ◌++◌, get_or, decimal, length, sym, ap, arith}
use Rattle.std.specs.Prelude.{codes}
use Rattle.cbor_data.specs.Notation.{notation, members_notation, pairs_notation}
use Rattle.item_nodes.specs.Comma.{comma}
use Rattle.tape_notation.proofs.Items.{form_on, leaf_on, has_members, array_on, has_pairs, map_on, has_tag, surely_here, tag_on}
use Rattle.tape_notation.proofs.Members.{bracket_room, member_next, member_room, members_shown, no_member_shown, one_member}
use Rattle.tape_notation.proofs.Pairs.{brace_room, no_pair_shown, one_pair, pair_next, pair_room, pairs_shown}
use Rattle.tape_notation.proofs.Puts.{same_put, three_put, more_put, room_front, room_left, room_for}
use Rattle.tape_notation.proofs.item.+noted.Goals as goal

-- items

pub put_item-offset_bounds-tape-place : goal.put_item-offset_bounds-tape-place
put_item-offset_bounds-tape-place t c = omega (arith, (surely_here c.args.bytes.now c.args.tape.now c.args.place c.args.at (length c.args.out.now) (record { head = 0; next = 0 }) c.requires).within)

pub put_item-bounds-tape-place : goal.put_item-bounds-tape-place
put_item-bounds-tape-place t c = (surely_here c.args.bytes.now c.args.tape.now c.args.place c.args.at (length c.args.out.now) (record { head = 0; next = 0 }) c.requires).within

pub put_item-bounds-bytes-head : goal.put_item-bounds-bytes-head
put_item-bounds-bytes-head t c = (surely_here c.args.bytes.now c.args.tape.now c.args.place c.args.at (length c.args.out.now) _ c.requires).here

pub put_item-put_leaf-requires-clause-there : goal.put_item-put_leaf-requires-clause-there
put_item-put_leaf-requires-clause-there t c = form_on c.args.bytes.now c.args.tape.now c.args.place c.args.at (length c.args.out.now) _ c.requires

pub put_item-returns-then-byte-lt-CONTAINERS_FROM : goal.put_item-returns-then-byte-lt-CONTAINERS_FROM
put_item-returns-then-byte-lt-CONTAINERS_FROM t c = leaf_on c.args.bytes.now c.args.tape.now c.args.place _ c.args.out.now c.put_leaf.new.out c.args.at c.put_leaf.result c.put_leaf.ensures

-- arrays, maps and tags

pub put_parts-offset_bounds-tape-place : goal.put_parts-offset_bounds-tape-place
put_parts-offset_bounds-tape-place t c = omega (arith, (surely_here c.args.bytes.now c.args.tape.now c.args.place c.args.at (length c.args.out.now) (record { head = 0; next = 0 }) c.requires.there).within)

pub put_parts-bounds-tape-place : goal.put_parts-bounds-tape-place
put_parts-bounds-tape-place t c = (surely_here c.args.bytes.now c.args.tape.now c.args.place c.args.at (length c.args.out.now) (record { head = 0; next = 0 }) c.requires.there).within

pub put_parts-bounds-bytes-head : goal.put_parts-bounds-bytes-head
put_parts-bounds-bytes-head t c = (surely_here c.args.bytes.now c.args.tape.now c.args.place c.args.at (length c.args.out.now) _ c.requires.there).here

pub put_parts-overflow_add-place : goal.put_parts-overflow_add-place
put_parts-overflow_add-place t c = omega (arith, (surely_here c.args.bytes.now c.args.tape.now c.args.place c.args.at (length c.args.out.now) (record { head = 0; next = 0 }) c.requires.there).within)

pub put_parts-overflow_add-place-in-5 : goal.put_parts-overflow_add-place-in-5
put_parts-overflow_add-place-in-5 t c = omega (arith, (surely_here c.args.bytes.now c.args.tape.now c.args.place c.args.at (length c.args.out.now) (record { head = 0; next = 0 }) c.requires.there).within)

pub put_parts-overflow_add-place-in_default : goal.put_parts-overflow_add-place-in_default
put_parts-overflow_add-place-in_default t c = omega (arith, (surely_here c.args.bytes.now c.args.tape.now c.args.place c.args.at (length c.args.out.now) (record { head = 0; next = 0 }) c.requires.there).within)

pub put_parts-put_members-requires : goal.put_parts-put_members-requires
put_parts-put_members-requires t c =
    let len = length c.args.out.now in
    let h = surely_here c.args.bytes.now c.args.tape.now c.args.place c.args.at len (record { head = 0; next = 0 }) c.requires.there in
    (omega (arith, h.within), has_members c.args.bytes.now c.args.tape.now c.args.place c.args.at len _ c.requires.there c.in-4.is)

pub put_parts-put_pairs-requires : goal.put_parts-put_pairs-requires
put_parts-put_pairs-requires t c =
    let len = length c.args.out.now in
    let h = surely_here c.args.bytes.now c.args.tape.now c.args.place c.args.at len (record { head = 0; next = 0 }) c.requires.there in
    (omega (arith, h.within), has_pairs c.args.bytes.now c.args.tape.now c.args.place c.args.at len _ c.requires.there c.in-5.is)

pub put_parts-put_tag-requires : goal.put_parts-put_tag-requires
put_parts-put_tag-requires t c =
    let len = length c.args.out.now in
    let h = surely_here c.args.bytes.now c.args.tape.now c.args.place c.args.at len (record { head = 0; next = 0 }) c.requires.there in
    (omega (arith, h.within), has_tag c.args.bytes.now c.args.tape.now c.args.place c.args.at len _ c.requires.there (omega (arith, c.requires.nested.0, c.requires.nested.1)))

pub put_parts-returns-in-4 : goal.put_parts-returns-in-4
put_parts-returns-in-4 t c = array_on c.args.bytes.now c.args.tape.now c.args.place _ c.args.out.now c.put_members.new.out c.args.at c.put_members.result c.in-4.is c.put_members.ensures

pub put_parts-returns-in-5 : goal.put_parts-returns-in-5
put_parts-returns-in-5 t c = map_on c.args.bytes.now c.args.tape.now c.args.place _ c.args.out.now c.put_pairs.new.out c.args.at c.put_pairs.result c.in-5.is c.put_pairs.ensures

pub put_parts-returns-in_default : goal.put_parts-returns-in_default
put_parts-returns-in_default t c = tag_on c.args.bytes.now c.args.tape.now c.args.place _ c.args.out.now c.put_tag.new.out c.args.at c.put_tag.result (omega (arith, c.requires.nested.0, c.requires.nested.1)) c.put_tag.ensures

-- members

pub put_members-put-end-requires : goal.put_members-put-end-requires
put_members-put-end-requires t c = let w = c.requires in room_front c.args.at (length c.args.out.now) (codes "[") (members_notation w.members ++ codes "]") w.room

pub put_members-loop-member-init : goal.put_members-loop-member-init
put_members-loop-member-init t c = record {
  from = omega arith;
  shown = λ xs on. no_member_shown c.args.bytes.now c.args.tape.now c.args.out.now c.put-end.new.out c.args.at c.args.place c.args.next c.put-end.result xs on c.put-end.ensures;
}

pub put_members-put_comma-inner-requires : goal.put_members-put_comma-inner-requires
put_members-put_comma-inner-requires t c =
    let w = c.requires in
    let l = c.loop-member in
    let s = l.invariant.shown w.members w.on in
    let n = member_next c.args.bytes.now c.args.tape.now l.member c.args.next s.left (record { head = 0; next = 0 }) s.there c.loop-member-test.true in
    room_front l.end (length l.out) (comma (l.member - c.args.place)) (notation n.first)
    (member_room c.args.bytes.now c.args.tape.now c.args.out.now l.out c.args.at c.args.place l.member c.args.next l.end w.members _ l.invariant.from w.room s n)

pub put_members-put_item-end-requires : goal.put_members-put_item-end-requires
put_members-put_item-end-requires t c =
    let w = c.requires in
    let l = c.loop-member in
    let s = l.invariant.shown w.members w.on in
    let n = member_next c.args.bytes.now c.args.tape.now l.member c.args.next s.left (record { head = 0; next = 0 }) s.there c.loop-member-test.true in
    let room = member_room c.args.bytes.now c.args.tape.now c.args.out.now l.out c.args.at c.args.place l.member c.args.next l.end w.members _ l.invariant.from w.room s n in (
      omega (arith, l.invariant.from, n.here.within),
      record { item = n.first; on = n.on; room = room_left (comma (l.member - c.args.place)) (notation n.first) room c.put_comma-inner.ensures },
    )

pub put_members-offset_bounds-tape-member : goal.put_members-offset_bounds-tape-member
put_members-offset_bounds-tape-member t c =
    let w = c.requires in
    let l = c.loop-member in
    let s = l.invariant.shown w.members w.on in
    let n = member_next c.args.bytes.now c.args.tape.now l.member c.args.next s.left (record { head = 0; next = 0 }) s.there c.loop-member-test.true in
    omega (arith, n.here.within)

pub put_members-bounds-tape-member : goal.put_members-bounds-tape-member
put_members-bounds-tape-member t c =
    let w = c.requires in
    let l = c.loop-member in
    let s = l.invariant.shown w.members w.on in
    (member_next c.args.bytes.now c.args.tape.now l.member c.args.next s.left (record { head = 0; next = 0 }) s.there c.loop-member-test.true).here.within

pub put_members-loop-member-smaller : goal.put_members-loop-member-smaller
put_members-loop-member-smaller t c =
    let w = c.requires in
    let l = c.loop-member in
    let s = l.invariant.shown w.members w.on in
    let n = member_next c.args.bytes.now c.args.tape.now l.member c.args.next s.left (record { head = 0; next = 0 }) s.there c.loop-member-test.true in
    omega (arith, n.ahead, c.loop-member-test.true)

pub put_members-loop-member-preserved : goal.put_members-loop-member-preserved
put_members-loop-member-preserved t c =
    let b = c.args.bytes.now in
    let tape = c.args.tape.now in
    let l = c.loop-member in
    let w = c.requires in
    let r = l.invariant.shown w.members w.on in
    let m = member_next b tape l.member c.args.next r.left (record { head = 0; next = 0 }) r.there c.loop-member-test.true in
    let e = get_or tape l.member (record { head = 0; next = 0 }) in
    record {
      from = omega (arith, m.ahead, l.invariant.from);
      shown = λ xs on.
          let s = l.invariant.shown xs on in
          let n = member_next b tape l.member c.args.next s.left (record { head = 0; next = 0 }) s.there c.loop-member-test.true in
          one_member b tape c.args.out.now l.out c.put_comma-inner.new.out c.put_item-end.new.out c.args.at c.args.place l.member c.args.next l.end c.put_comma-inner.result c.put_item-end.result xs e l.invariant.from s n c.put_comma-inner.ensures (c.put_item-end.ensures n.first n.on);
    }

pub put_members-put-requires : goal.put_members-put-requires
put_members-put-requires t c =
    let w = c.requires in
    let l = c.loop-member in
    bracket_room c.args.bytes.now c.args.tape.now c.args.out.now l.out c.args.at (l.member - c.args.place) l.member c.args.next l.end w.members w.room (l.invariant.shown w.members w.on)

pub put_members-returns : goal.put_members-returns
put_members-returns t c = λ xs on.
    let l = c.loop-member in
    members_shown c.args.bytes.now c.args.tape.now c.args.out.now l.out c.put.new.out c.args.at (l.member - c.args.place) l.member c.args.next l.end c.put.result xs (l.invariant.shown xs on) c.loop-member-test.false c.put.ensures

-- pairs

pub put_pairs-put-end-requires : goal.put_pairs-put-end-requires
put_pairs-put-end-requires t c = let w = c.requires in room_front c.args.at (length c.args.out.now) (codes "{") (pairs_notation w.all ++ codes "}") w.room

pub put_pairs-loop-key-init : goal.put_pairs-loop-key-init
put_pairs-loop-key-init t c = record {
  from = omega arith;
  shown = λ ps on. no_pair_shown c.args.bytes.now c.args.tape.now c.args.out.now c.put-end.new.out c.args.at c.args.place c.args.next c.put-end.result ps on c.put-end.ensures;
}

pub put_pairs-put_comma-inner-requires : goal.put_pairs-put_comma-inner-requires
put_pairs-put_comma-inner-requires t c =
    let w = c.requires in
    let l = c.loop-key in
    let s = l.invariant.shown w.all w.on in
    let n = pair_next c.args.bytes.now c.args.tape.now l.key c.args.next s.left (record { head = 0; next = 0 }) s.there c.loop-key-test.true in
    room_front l.end (length l.out) (comma (l.key - c.args.place)) (notation n.first ++ (codes ": " ++ notation n.second))
    (pair_room c.args.bytes.now c.args.tape.now c.args.out.now l.out c.args.at c.args.place l.key c.args.next l.end w.all (record { head = 0; next = 0 }) l.invariant.from w.room s n)

pub put_pairs-put_item-colon-requires : goal.put_pairs-put_item-colon-requires
put_pairs-put_item-colon-requires t c =
    let w = c.requires in
    let l = c.loop-key in
    let s = l.invariant.shown w.all w.on in
    let n = pair_next c.args.bytes.now c.args.tape.now l.key c.args.next s.left (record { head = 0; next = 0 }) s.there c.loop-key-test.true in
    let room = pair_room c.args.bytes.now c.args.tape.now c.args.out.now l.out c.args.at c.args.place l.key c.args.next l.end w.all (record { head = 0; next = 0 }) l.invariant.from w.room s n in
    let keyed = room_left (comma (l.key - c.args.place)) (notation n.first ++ (codes ": " ++ notation n.second)) room c.put_comma-inner.ensures in (
      omega (arith, l.invariant.from, n.key_here.within),
      record { item = n.first; on = n.key_on; room = room_front c.put_comma-inner.result (length c.put_comma-inner.new.out) (notation n.first) (codes ": " ++ notation n.second) keyed },
    )

pub put_pairs-put-content-requires : goal.put_pairs-put-content-requires
put_pairs-put-content-requires t c =
    let w = c.requires in
    let l = c.loop-key in
    let s = l.invariant.shown w.all w.on in
    let n = pair_next c.args.bytes.now c.args.tape.now l.key c.args.next s.left (record { head = 0; next = 0 }) s.there c.loop-key-test.true in
    let room = pair_room c.args.bytes.now c.args.tape.now c.args.out.now l.out c.args.at c.args.place l.key c.args.next l.end w.all (record { head = 0; next = 0 }) l.invariant.from w.room s n in
    let keyed = room_left (comma (l.key - c.args.place)) (notation n.first ++ (codes ": " ++ notation n.second)) room c.put_comma-inner.ensures in
    room_front c.put_item-colon.result (length c.put_item-colon.new.out) (codes ": ") (notation n.second) (room_left (notation n.first) (codes ": " ++ notation n.second) keyed (c.put_item-colon.ensures n.first n.key_on))

pub put_pairs-offset_bounds-tape-key : goal.put_pairs-offset_bounds-tape-key
put_pairs-offset_bounds-tape-key t c =
    let w = c.requires in
    let l = c.loop-key in
    let s = l.invariant.shown w.all w.on in
    let n = pair_next c.args.bytes.now c.args.tape.now l.key c.args.next s.left (record { head = 0; next = 0 }) s.there c.loop-key-test.true in
    omega (arith, n.key_here.within)

pub put_pairs-bounds-tape-key : goal.put_pairs-bounds-tape-key
put_pairs-bounds-tape-key t c =
    let w = c.requires in
    let l = c.loop-key in
    let s = l.invariant.shown w.all w.on in
    (pair_next c.args.bytes.now c.args.tape.now l.key c.args.next s.left (record { head = 0; next = 0 }) s.there c.loop-key-test.true).key_here.within

pub put_pairs-put_item-end-requires : goal.put_pairs-put_item-end-requires
put_pairs-put_item-end-requires t c =
    let w = c.requires in
    let l = c.loop-key in
    let s = l.invariant.shown w.all w.on in
    let n = pair_next c.args.bytes.now c.args.tape.now l.key c.args.next s.left (record { head = 0; next = 0 }) s.there c.loop-key-test.true in
    let room = pair_room c.args.bytes.now c.args.tape.now c.args.out.now l.out c.args.at c.args.place l.key c.args.next l.end w.all (record { head = 0; next = 0 }) l.invariant.from w.room s n in
    let keyed = room_left (comma (l.key - c.args.place)) (notation n.first ++ (codes ": " ++ notation n.second)) room c.put_comma-inner.ensures in
    let parted = room_left (notation n.first) (codes ": " ++ notation n.second) keyed (c.put_item-colon.ensures n.first n.key_on) in (
      omega (arith, l.invariant.from, n.key_here.next, n.value_here.within),
      record { item = n.second; on = n.value_on; room = room_left (codes ": ") (notation n.second) parted c.put-content.ensures },
    )

pub put_pairs-bounds-tape-value : goal.put_pairs-bounds-tape-value
put_pairs-bounds-tape-value t c =
    let w = c.requires in
    let l = c.loop-key in
    let s = l.invariant.shown w.all w.on in
    (pair_next c.args.bytes.now c.args.tape.now l.key c.args.next s.left (record { head = 0; next = 0 }) s.there c.loop-key-test.true).value_here.within

pub put_pairs-loop-key-smaller : goal.put_pairs-loop-key-smaller
put_pairs-loop-key-smaller t c =
    let w = c.requires in
    let l = c.loop-key in
    let s = l.invariant.shown w.all w.on in
    let n = pair_next c.args.bytes.now c.args.tape.now l.key c.args.next s.left (record { head = 0; next = 0 }) s.there c.loop-key-test.true in
    omega (arith, n.key_here.next, n.key_here.some, n.value_here.next, c.loop-key-test.true)

pub put_pairs-loop-key-preserved : goal.put_pairs-loop-key-preserved
put_pairs-loop-key-preserved t c =
    let b = c.args.bytes.now in
    let tape = c.args.tape.now in
    let l = c.loop-key in
    let w = c.requires in
    let r = l.invariant.shown w.all w.on in
    let m = pair_next b tape l.key c.args.next r.left (record { head = 0; next = 0 }) r.there c.loop-key-test.true in
    record {
      from = omega (arith, m.key_here.next, m.value_here.next, l.invariant.from);
      shown = λ ps on.
          let s = l.invariant.shown ps on in
          let n = pair_next b tape l.key c.args.next s.left (record { head = 0; next = 0 }) s.there c.loop-key-test.true in
          one_pair b tape c.args.out.now l.out c.put_comma-inner.new.out c.put_item-colon.new.out c.put-content.new.out c.put_item-end.new.out c.args.at c.args.place l.key c.args.next l.end c.put_comma-inner.result c.put_item-colon.result c.put-content.result c.put_item-end.result ps (record { head = 0; next = 0 }) l.invariant.from s n c.put_comma-inner.ensures (c.put_item-colon.ensures n.first n.key_on) c.put-content.ensures (c.put_item-end.ensures n.second n.value_on);
    }

pub put_pairs-put-requires : goal.put_pairs-put-requires
put_pairs-put-requires t c =
    let w = c.requires in
    let l = c.loop-key in
    brace_room c.args.bytes.now c.args.tape.now c.args.out.now l.out c.args.at (l.key - c.args.place) l.key c.args.next l.end w.all w.room (l.invariant.shown w.all w.on)

pub put_pairs-returns : goal.put_pairs-returns
put_pairs-returns t c = λ ps on.
    let l = c.loop-key in
    pairs_shown c.args.bytes.now c.args.tape.now c.args.out.now l.out c.put.new.out c.args.at (l.key - c.args.place) l.key c.args.next l.end c.put.result ps (l.invariant.shown ps on) c.loop-key-test.false c.put.ensures

-- tags

pub put_tag-put_number-bracket-requires : goal.put_tag-put_number-bracket-requires
put_tag-put_number-bracket-requires t c =
    let w = c.requires in
    let same = ap decimal (c.head_at-number.ensures 6 w.number w.on.head).0 in
    room_for c.args.at (length c.args.out.now) (decimal w.number) (decimal c.head_at-number.result.0) (sym same)
    (room_front c.args.at (length c.args.out.now) (decimal w.number) (codes "(" ++ (notation w.content ++ codes ")")) w.room)

pub put_tag-put-content-requires : goal.put_tag-put-content-requires
put_tag-put-content-requires t c =
    let w = c.requires in
    let same = ap decimal (c.head_at-number.ensures 6 w.number w.on.head).0 in
    let put = same_put (decimal c.head_at-number.result.0) (decimal w.number) same c.put_number-bracket.ensures in
    room_front c.put_number-bracket.result (length c.put_number-bracket.new.out) (codes "(") (notation w.content ++ codes ")") (room_left (decimal w.number) (codes "(" ++ (notation w.content ++ codes ")")) w.room put)

pub put_tag-put_item-end-requires : goal.put_tag-put_item-end-requires
put_tag-put_item-end-requires t c =
    let w = c.requires in
    let same = ap decimal (c.head_at-number.ensures 6 w.number w.on.head).0 in
    let put = same_put (decimal c.head_at-number.result.0) (decimal w.number) same c.put_number-bracket.ensures in
    let behind = room_left (decimal w.number) (codes "(" ++ (notation w.content ++ codes ")")) w.room put in (
      omega arith,
      record {
        item = w.content;
        on = w.on.on;
        room = room_front c.put-content.result (length c.put-content.new.out) (notation w.content) (codes ")") (room_left (codes "(") (notation w.content ++ codes ")") behind c.put-content.ensures);
      },
    )

pub put_tag-put-requires : goal.put_tag-put-requires
put_tag-put-requires t c =
    let w = c.requires in
    let same = ap decimal (c.head_at-number.ensures 6 w.number w.on.head).0 in
    let put = same_put (decimal c.head_at-number.result.0) (decimal w.number) same c.put_number-bracket.ensures in
    let behind = room_left (decimal w.number) (codes "(" ++ (notation w.content ++ codes ")")) w.room put in
    room_left (notation w.content) (codes ")") (room_left (codes "(") (notation w.content ++ codes ")") behind c.put-content.ensures) (c.put_item-end.ensures w.content w.on.on)

pub put_tag-returns : goal.put_tag-returns
put_tag-returns t c = λ n x on.
    let same = (c.head_at-number.ensures 6 n on.head).0 in
    more_put c.args.out.now c.put_number-bracket.new.out c.put.new.out c.args.at c.put_number-bracket.result c.put.result (decimal n) (codes "(" ++ (notation x ++ codes ")")) (same_put (decimal c.head_at-number.result.0) (decimal n) (ap decimal same) c.put_number-bracket.ensures)
    (three_put (codes "(") (notation x) (codes ")") c.put-content.ensures (c.put_item-end.ensures x on.on) c.put.ensures)
