use Rattle.std.proofs.Common.{◌≢◌, ◌+◌, ◌-◌, ◌++◌, drop, sym, ap, ◌∙◌, arith}
use Rattle.cbor_data.specs.Value.{places, values_places, pairs_places, tag}
use Rattle.item_nodes.specs.View.{view, values_view, pairs_view}
use Rattle.item_nodes.proofs.Lemmas.{view-Tag, values_view-drop, pairs_view-drop}
use Rattle.cbor_item.specs.Place.Elements.{element_or_rest}
use Rattle.cbor_item.proofs.OfPlace.Searching.{element_in, element_after, element_rest}
use Rattle.cbor_item.proofs.place.seek.+seek.Goals as goal

pub seek-returns-in-Tag : goal.seek-returns-in-Tag
seek-returns-in-Tag t c =
    let place = c.args.place in
    let content = c.in-Tag.content in
    let below : place ≢ 0 = omega arith in
    c.seek.ensures ∙ ap (λ i. element_or_rest (places (view i)) (place - 1)) c.deref.ensures
    ∙ sym (element_rest (tag c.in-Tag.field-0 (view content.value)) (places (view content.value)) place below)
    ∙ ap (λ v. element_or_rest (places v) place) (sym (view-Tag c.in-Tag.field-0 content)) ∙ ap (λ i. element_or_rest (places (view i)) place) (sym c.in-Tag.is)

pub seek_in_members-returns-in-Ok : goal.seek_in_members-returns-in-Ok
seek_in_members-returns-in-Ok t c =
    let ys = c.deref-item-items.result.now in
    let rest = values_view (drop (c.loop-item.item-index + 1) ys) in
    let seen = values_view-drop ys c.loop-item.item-index c.item-item.result (omega arith) c.item-item.is in
    sym (element_in (places (view c.item-item.result)) (values_places rest) c.loop-item.left _ (sym c.in-Ok.ensures))
    ∙ ap (λ vs. element_or_rest (values_places vs) c.loop-item.left) (sym seen) ∙ c.loop-item.invariant
    ∙ ap (λ zs. element_or_rest (values_places (values_view zs)) c.args.place) c.deref-item-items.ensures.value

pub seek_in_members-loop-item-preserved : goal.seek_in_members-loop-item-preserved
seek_in_members-loop-item-preserved t c =
    let ys = c.deref-item-items.result.now in
    let rest = values_view (drop (c.loop-item.item-index + 1) ys) in
    let seen = values_view-drop ys c.loop-item.item-index c.item-item.result (omega arith) c.item-item.is in
    sym (element_after (places (view c.item-item.result)) (values_places rest) c.loop-item.left c.in-Err.rest (sym c.in-Err.ensures))
    ∙ ap (λ vs. element_or_rest (values_places vs) c.loop-item.left) (sym seen) ∙ c.loop-item.invariant

pub seek_in_pairs-returns-in-Ok : goal.seek_in_pairs-returns-in-Ok
seek_in_pairs-returns-in-Ok t c =
    let ys = c.deref-key-items.result.now in
    let p = c.loop-key-item.result in
    let rest = pairs_view (drop (c.loop-key.key-index + 1) ys) in
    let seen = pairs_view-drop ys c.loop-key.key-index p (omega arith) c.loop-key-item.is in
    sym (element_in (places (view p.0)) (places (view p.1) ++ pairs_places rest) c.loop-key.left _ (sym c.in-Ok.ensures))
    ∙ ap (λ ps. element_or_rest (pairs_places ps) c.loop-key.left) (sym seen) ∙ c.loop-key.invariant
    ∙ ap (λ zs. element_or_rest (pairs_places (pairs_view zs)) c.args.place) c.deref-key-items.ensures.value

pub seek_in_pairs-returns-in-Ok-seek : goal.seek_in_pairs-returns-in-Ok-seek
seek_in_pairs-returns-in-Ok-seek t c =
    let ys = c.deref-key-items.result.now in
    let p = c.loop-key-item.result in
    let rest = pairs_view (drop (c.loop-key.key-index + 1) ys) in
    let seen = pairs_view-drop ys c.loop-key.key-index p (omega arith) c.loop-key-item.is in
    sym (element_in (places (view p.1)) (pairs_places rest) c.in-Err.rest _ (sym c.in-Ok-seek.ensures))
    ∙ sym (element_after (places (view p.0)) (places (view p.1) ++ pairs_places rest) c.loop-key.left c.in-Err.rest (sym c.in-Err.ensures))
    ∙ ap (λ ps. element_or_rest (pairs_places ps) c.loop-key.left) (sym seen) ∙ c.loop-key.invariant
    ∙ ap (λ zs. element_or_rest (pairs_places (pairs_view zs)) c.args.place) c.deref-key-items.ensures.value

pub seek_in_pairs-loop-key-preserved : goal.seek_in_pairs-loop-key-preserved
seek_in_pairs-loop-key-preserved t c =
    let ys = c.deref-key-items.result.now in
    let p = c.loop-key-item.result in
    let rest = pairs_view (drop (c.loop-key.key-index + 1) ys) in
    let seen = pairs_view-drop ys c.loop-key.key-index p (omega arith) c.loop-key-item.is in
    sym (element_after (places (view p.1)) (pairs_places rest) c.in-Err.rest c.in-Err-seek.rest (sym c.in-Err-seek.ensures))
    ∙ sym (element_after (places (view p.0)) (places (view p.1) ++ pairs_places rest) c.loop-key.left c.in-Err.rest (sym c.in-Err.ensures))
    ∙ ap (λ ps. element_or_rest (pairs_places ps) c.loop-key.left) (sym seen) ∙ c.loop-key.invariant
