use Rattle.std.proofs.Common.{◌≡◌, false, reverse, sym, ap, ◌∙◌}
use Rattle.cddl_reasons.specs.Opened.{asked_in, waits_in}
use Rattle.cddl_reasons.specs.Optional.{is_optional}
use Rattle.cddl_reasons.proofs.Tellings.{pushed_some, room_left}
use Rattle.table_nodes.specs.Language.{language_of}
use Rattle.cddl_reasons.proofs.telling.tell_cause.Goals as goal

pub returns : goal.returns
returns c =
    let below = c.args.run.now.below.items in
    let needed : is_optional (reverse (asked_in below)) (reverse (waits_in below)) ≡ false = ap (λ os. is_optional (reverse (asked_in os)) (reverse (waits_in os))) (sym c.as_slice.ensures.value) ∙ sym c.is_optional.ensures ∙ c.if-is_optional.false in
    λ first cause at a. rw c.in_ok-add.ensures (pushed_some (language_of c.args.table.now) first c.args.aim.most c.args.found.now.list.items c.in_ok-reason.reason a (c.in_ok-reason.ensures first cause at needed) (room_left _ _ c.has_room.result c.has_room.ensures c.if-not-has_room.false))
