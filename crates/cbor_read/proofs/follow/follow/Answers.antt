use Rattle.std.proofs.Common.{◌+◌, ◌-◌, ◌≤◌, ◌++◌, take, drop, refl, sym, subst, arith}
use Rattle.cbor_data.specs.Value.{AreBytes}
use Rattle.cbor_data.specs.declared.FaultKind.TheVariants.{TooDeep}
use Rattle.read_building.specs.Working.{IsTaken}
use Rattle.cbor_read.specs.Steps.{IsFollowed, IsKept}
use Rattle.cbor_read.proofs.Pieces.{are_bytes, one_byte, front_length}
use Rattle.cbor_read.proofs.Following.{HasRoom, has_room, inside_room, room_is, taken_front, goes_on, ends, misread, refused, too_deep_there, begun_past, past_room, halted_at}
use Rattle.cbor_read.proofs.Turned.{halted_turn, misread_turn}
use Rattle.cbor_read.proofs.follow.follow.Goals as goal

pub returns-then-piece-room : goal.returns-then-piece-room
returns-then-piece-room c =
    let l = c.args.limits in
    let o = c.args.offset in
    let b = c.args.fed.now in
    let n = c.args.count in
    let piece = c.args.piece.now in
    let w = c.args.work.now in
    let v = c.take.new.self in
    let room = c.room_of-room.result in
    let k : IsKept l o b n w = c.requires in
    let size = room_is l o b n room w k c.room_of-room.ensures in
    let h : HasRoom l o b room = has_room l o b w room k.begun size in
    let taken : IsTaken l.depth o b (take room piece) c.in_ok-take.field-0 v = taken_front l o b n piece room c.depth.result (o + n) c.front_of.result.now c.in_ok-take.field-0 w v k c.depth.ensures.value c.front_of.ensures refl c.in_ok-take.ensures in
    let step = subst (λ s. IsTaken l.depth o b (take room piece) s v) c.in-More.is taken in
    goes_on l o b piece room v h c.if-piece-room.true step

pub returns-in_ok-kind-in-More : goal.returns-in_ok-kind-in-More
returns-in_ok-kind-in-More c =
    let l = c.args.limits in
    let o = c.args.offset in
    let b = c.args.fed.now in
    let n = c.args.count in
    let piece = c.args.piece.now in
    let w = c.args.work.now in
    let v = c.take.new.self in
    let room = c.room_of-room.result in
    let k : IsKept l o b n w = c.requires in
    let size = room_is l o b n room w k c.room_of-room.ensures in
    let h : HasRoom l o b room = has_room l o b w room k.begun size in
    let taken : IsTaken l.depth o b (take room piece) c.in_ok-take.field-0 v = taken_front l o b n piece room c.depth.result (o + n) c.front_of.result.now c.in_ok-take.field-0 w v k c.depth.ensures.value c.front_of.ensures refl c.in_ok-take.ensures in
    let step = subst (λ s. IsTaken l.depth o b (take room piece) s v) c.in-More.is taken in
    let past = c.in_ok-kind-in-More.ensures o (b ++ take room piece) (omega (arith, front_length b piece room (omega arith), k.same)) (begun_past l o b piece room v h c.if-piece-room.false step) in
    subst (λ x. IsFollowed l o b piece x c.kind_past.new.work) (sym c.fault_at.ensures)
    (halted_turn l o b piece _ _ (halted_at l o b n piece room c.in_ok-kind-in-More.kind k.same (past_room l o b piece room w (take ((room + 1) - room) (drop room piece)) c.in_ok-kind-in-More.kind k.begun size c.if-piece-room.false (one_byte piece room c.if-piece-room.false) past)))

pub returns-in-Item : goal.returns-in-Item
returns-in-Item c =
    let l = c.args.limits in
    let o = c.args.offset in
    let b = c.args.fed.now in
    let n = c.args.count in
    let piece = c.args.piece.now in
    let w = c.args.work.now in
    let v = c.take.new.self in
    let room = c.room_of-room.result in
    let k : IsKept l o b n w = c.requires in
    let size = room_is l o b n room w k c.room_of-room.ensures in
    let h : HasRoom l o b room = has_room l o b w room k.begun size in
    let taken : IsTaken l.depth o b (take room piece) c.in_ok-take.field-0 v = taken_front l o b n piece room c.depth.result (o + n) c.front_of.result.now c.in_ok-take.field-0 w v k c.depth.ensures.value c.front_of.ensures refl c.in_ok-take.ensures in
    let step = subst (λ s. IsTaken l.depth o b (take room piece) s v) c.in-Item.is taken in
    ends l o b piece room c.in-Item.used _ v h (subst (λ d. d ≤ 256) c.depth.ensures.value c.depth.ensures.range.1) step

pub returns-in-BadText : goal.returns-in-BadText
returns-in-BadText c =
    let l = c.args.limits in
    let o = c.args.offset in
    let b = c.args.fed.now in
    let n = c.args.count in
    let piece = c.args.piece.now in
    let w = c.args.work.now in
    let v = c.take.new.self in
    let room = c.room_of-room.result in
    let k : IsKept l o b n w = c.requires in
    let size = room_is l o b n room w k c.room_of-room.ensures in
    let h : HasRoom l o b room = has_room l o b w room k.begun size in
    let taken : IsTaken l.depth o b (take room piece) c.in_ok-take.field-0 v = taken_front l o b n piece room c.depth.result (o + n) c.front_of.result.now c.in_ok-take.field-0 w v k c.depth.ensures.value c.front_of.ensures refl c.in_ok-take.ensures in
    let step = subst (λ s. IsTaken l.depth o b (take room piece) s v) c.in-BadText.is taken in
    subst (λ x. IsFollowed l o b piece x v) (sym c.bad_text_at.ensures) (misread_turn l o b piece c.in-BadText.used _ (misread l o b piece room c.in-BadText.used c.in-BadText.place h step))

pub returns-in-Refused : goal.returns-in-Refused
returns-in-Refused c =
    let l = c.args.limits in
    let o = c.args.offset in
    let b = c.args.fed.now in
    let n = c.args.count in
    let piece = c.args.piece.now in
    let w = c.args.work.now in
    let v = c.take.new.self in
    let room = c.room_of-room.result in
    let k : IsKept l o b n w = c.requires in
    let size = room_is l o b n room w k c.room_of-room.ensures in
    let h : HasRoom l o b room = has_room l o b w room k.begun size in
    let taken : IsTaken l.depth o b (take room piece) c.in_ok-take.field-0 v = taken_front l o b n piece room c.depth.result (o + n) c.front_of.result.now c.in_ok-take.field-0 w v k c.depth.ensures.value c.front_of.ensures refl c.in_ok-take.ensures in
    let all : AreBytes piece = are_bytes piece (λ i. omega (arith, c.type_inv.piece i)) in
    let step = subst (λ s. IsTaken l.depth o b (take room piece) s v) c.in-Refused.is taken in
    subst (λ x. IsFollowed l o b piece x v) (sym c.fault_at-in-Refused.ensures)
    (halted_turn l o b piece _ _ (halted_at l o b n piece c.in-Refused.used c.in-Refused.kind k.same (refused l o b piece room c.in-Refused.used c.in-Refused.kind h all step)))

pub returns-in-TooDeep : goal.returns-in-TooDeep
returns-in-TooDeep c =
    let l = c.args.limits in
    let o = c.args.offset in
    let b = c.args.fed.now in
    let n = c.args.count in
    let piece = c.args.piece.now in
    let w = c.args.work.now in
    let v = c.take.new.self in
    let room = c.room_of-room.result in
    let k : IsKept l o b n w = c.requires in
    let size = room_is l o b n room w k c.room_of-room.ensures in
    let h : HasRoom l o b room = has_room l o b w room k.begun size in
    let taken : IsTaken l.depth o b (take room piece) c.in_ok-take.field-0 v = taken_front l o b n piece room c.depth.result (o + n) c.front_of.result.now c.in_ok-take.field-0 w v k c.depth.ensures.value c.front_of.ensures refl c.in_ok-take.ensures in
    let all : AreBytes piece = are_bytes piece (λ i. omega (arith, c.type_inv.piece i)) in
    let step = subst (λ s. IsTaken l.depth o b (take room piece) s v) c.in-TooDeep.is taken in
    subst (λ x. IsFollowed l o b piece x v) (sym c.fault_at-in-TooDeep.ensures)
    (halted_turn l o b piece _ _ (halted_at l o b n piece c.in-TooDeep.used TooDeep k.same (too_deep_there l o b piece room c.in-TooDeep.used h all step)))

pub fault_at-requires-in-Refused : goal.fault_at-requires-in-Refused
fault_at-requires-in-Refused c =
    let l = c.args.limits in
    let o = c.args.offset in
    let b = c.args.fed.now in
    let n = c.args.count in
    let piece = c.args.piece.now in
    let w = c.args.work.now in
    let v = c.take.new.self in
    let room = c.room_of-room.result in
    let k : IsKept l o b n w = c.requires in
    let size = room_is l o b n room w k c.room_of-room.ensures in
    let h : HasRoom l o b room = has_room l o b w room k.begun size in
    let taken : IsTaken l.depth o b (take room piece) c.in_ok-take.field-0 v = taken_front l o b n piece room c.depth.result (o + n) c.front_of.result.now c.in_ok-take.field-0 w v k c.depth.ensures.value c.front_of.ensures refl c.in_ok-take.ensures in
    let step = subst (λ s. IsTaken l.depth o b (take room piece) s v) c.in-Refused.is taken in
    inside_room l o n piece room c.in-Refused.used (omega (arith, k.same, k.begun.placed)) c.room_of-room.ensures step.within

pub fault_at-requires-in-TooDeep : goal.fault_at-requires-in-TooDeep
fault_at-requires-in-TooDeep c =
    let l = c.args.limits in
    let o = c.args.offset in
    let b = c.args.fed.now in
    let n = c.args.count in
    let piece = c.args.piece.now in
    let w = c.args.work.now in
    let v = c.take.new.self in
    let room = c.room_of-room.result in
    let k : IsKept l o b n w = c.requires in
    let size = room_is l o b n room w k c.room_of-room.ensures in
    let h : HasRoom l o b room = has_room l o b w room k.begun size in
    let taken : IsTaken l.depth o b (take room piece) c.in_ok-take.field-0 v = taken_front l o b n piece room c.depth.result (o + n) c.front_of.result.now c.in_ok-take.field-0 w v k c.depth.ensures.value c.front_of.ensures refl c.in_ok-take.ensures in
    let step = subst (λ s. IsTaken l.depth o b (take room piece) s v) c.in-TooDeep.is taken in
    inside_room l o n piece room c.in-TooDeep.used (omega (arith, k.same, k.begun.placed)) c.room_of-room.ensures step.within
