use Rattle.std.proofs.Common.{◌≡◌, ◌≢◌, ◌+◌, ◌-◌, [], ◌++◌, suc, drop, reverse, sym, ap, ◌∙◌, subst, arith}
use Rattle.std.specs.Prelude.{IfOk}
use Rattle.item_nodes.specs.View.{view, values_view, pairs_view}
use Rattle.cbor_item.specs.Place.Paths.{paths, members_paths, pairs_paths, after, content_step, member_step, key_step, value_step}
use Rattle.cbor_item.specs.Place.Elements.{element_or_rest}
use Rattle.cbor_item.specs.Place.Walked.{Ends, step_bytes}
use Rattle.cbor_item.specs.declared.place.path.Walk.TheVariants.{Arrived}
use Rattle.item_nodes.proofs.Lemmas.{view-Tag, values_view-drop, pairs_view-drop}
use Rattle.cbor_item.proofs.OfPlace.Searching.{element_rest}
use Rattle.cbor_item.proofs.OfPlace.Arriving.{arrived_after, passed_after, arrived_in, passed_on}
use Rattle.cbor_item.proofs.place.path.+path.Goals as goal

pub push_path-returns-in-Tag : goal.push_path-returns-in-Tag
push_path-returns-in-Tag t c =
    let place = c.args.place in
    let content = c.in-Tag.content in
    let below : place ≢ 0 = omega arith in
    let same =
    ap (λ i. element_or_rest (after content_step (paths (view i))) (place - 1)) c.deref.ensures
    ∙ sym (element_rest [] (after content_step (paths (view content.value))) place below)
    ∙ ap (λ v. element_or_rest (paths v) place) (sym (view-Tag c.in-Tag.field-0 content)) ∙ ap (λ i. element_or_rest (paths (view i)) place) (sym c.in-Tag.is) in
    subst (λ r. IfOk c.push_path_after.result (Ends r c.args.out.now.items c.push_path_after.new.out.items)) same c.push_path_after.ensures

pub push_path_after-returns-in_ok-push_backwards : goal.push_path_after-returns-in_ok-push_backwards
push_path_after-returns-in_ok-push_backwards t c =
    let step = step_bytes c.args.step in
    let out = c.args.out.now.items in
    let mid = c.push_path.new.out.items in
    let new = c.push_backwards.new.out.items in
    let ps = paths (view c.args.item.now) in
    let put : new ≡ mid ++ reverse step = c.in_ok-push_backwards.ensures ∙ ap (λ s. mid ++ reverse s) (c.as_slice.ensures.value ∙ c.in_ok-step_text.ensures) in
    subst (Ends (element_or_rest (after step ps) c.args.place) out new) (sym c.in-Arrived.is)
    (arrived_after step ps c.args.place out mid new (subst (Ends (element_or_rest ps c.args.place) out mid) c.in-Arrived.is c.in_ok-walk.ensures) put)

pub push_path_after-returns-in_default : goal.push_path_after-returns-in_default
push_path_after-returns-in_default t c =
    let step = step_bytes c.args.step in
    let out = c.args.out.now.items in
    let mid = c.push_path.new.out.items in
    let ps = paths (view c.args.item.now) in
    subst (Ends (element_or_rest (after step ps) c.args.place) out mid) (sym c.in_default.is)
    (passed_after step ps c.args.place out mid c.in_default.field-0 (subst (Ends (element_or_rest ps c.args.place) out mid) c.in_default.is c.in_ok-walk.ensures))

pub push_member_path-returns-in-Arrived : goal.push_member_path-returns-in-Arrived
push_member_path-returns-in-Arrived t c =
    let ys = c.deref-item-items.result.now in
    let i = c.loop-i.i in
    let left = c.loop-i.left in
    let out = c.loop-i.out.items in
    let new = c.push_path_after.new.out.items in
    let first = after (member_step i) (paths (view c.item-item.result)) in
    let rest = members_paths (suc i) (values_view (drop (i + 1) ys)) in
    let seen = values_view-drop ys i c.item-item.result (omega arith) c.item-item.is in
    let all =
    ap (λ vs. element_or_rest (members_paths i vs) left) (sym seen) ∙ c.loop-i.invariant.ahead
    ∙ ap (λ zs. element_or_rest (members_paths 0 (values_view zs)) c.args.place) c.deref-item-items.ensures.value in
    let here = subst (Ends (element_or_rest first left) out new) c.in-Arrived.is c.in_ok-push_path_after.ensures in
    subst (λ old. Ends (element_or_rest (members_paths 0 (values_view c.args.items.now.items)) c.args.place) old new Arrived) c.loop-i.invariant.kept
    (subst (λ r. Ends r out new Arrived) all (arrived_in first rest left out new here))

pub push_member_path-loop-i-preserved : goal.push_member_path-loop-i-preserved
push_member_path-loop-i-preserved t c =
    let ys = c.deref-item-items.result.now in
    let i = c.loop-i.i in
    let left = c.loop-i.left in
    let after_it = c.in-Passed.rest in
    let out = c.loop-i.out.items in
    let new = c.push_path_after.new.out.items in
    let first = after (member_step i) (paths (view c.item-item.result)) in
    let rest = values_view (drop (i + 1) ys) in
    let seen = values_view-drop ys i c.item-item.result (omega arith) c.item-item.is in
    let next : i + 1 ≡ suc i = omega arith in
    let here = subst (Ends (element_or_rest first left) out new) c.in-Passed.is c.in_ok-push_path_after.ensures in
    let on = passed_on first (members_paths (suc i) rest) left out new after_it here in
    record {
      kept = on.1 ∙ c.loop-i.invariant.kept;
      ahead = ap (λ n. element_or_rest (members_paths n rest) after_it) next ∙ sym on.0 ∙ ap (λ vs. element_or_rest (members_paths i vs) left) (sym seen) ∙ c.loop-i.invariant.ahead;
    }

pub push_pair_path-returns-in-Arrived : goal.push_pair_path-returns-in-Arrived
push_pair_path-returns-in-Arrived t c =
    let ys = c.deref-key-items.result.now in
    let i = c.loop-key.key-index in
    let p = c.loop-key-item.result in
    let left = c.loop-key.left in
    let out = c.loop-key.out.items in
    let new = c.push_path_after.new.out.items in
    let first = after (key_step (view p.0)) (paths (view p.0)) in
    let second = after (value_step (view p.0)) (paths (view p.1)) in
    let rest = pairs_paths (pairs_view (drop (i + 1) ys)) in
    let seen = pairs_view-drop ys i p (omega arith) c.loop-key-item.is in
    let all =
    ap (λ ps. element_or_rest (pairs_paths ps) left) (sym seen) ∙ c.loop-key.invariant.ahead
    ∙ ap (λ zs. element_or_rest (pairs_paths (pairs_view zs)) c.args.place) c.deref-key-items.ensures.value in
    let here = subst (Ends (element_or_rest first left) out new) c.in-Arrived.is c.in_ok-push_path_after.ensures in
    subst (λ old. Ends (element_or_rest (pairs_paths (pairs_view c.args.pairs.now.items)) c.args.place) old new Arrived) c.loop-key.invariant.kept
    (subst (λ r. Ends r out new Arrived) all (arrived_in first (second ++ rest) left out new here))

pub push_pair_path-returns-in-Arrived-2 : goal.push_pair_path-returns-in-Arrived-2
push_pair_path-returns-in-Arrived-2 t c =
    let ys = c.deref-key-items.result.now in
    let i = c.loop-key.key-index in
    let p = c.loop-key-item.result in
    let left = c.loop-key.left in
    let after_key = c.in-Passed.rest in
    let out = c.loop-key.out.items in
    let mid = c.push_path_after.new.out.items in
    let new = c.push_path_after-in-loop-key.new.out.items in
    let first = after (key_step (view p.0)) (paths (view p.0)) in
    let second = after (value_step (view p.0)) (paths (view p.1)) in
    let rest = pairs_paths (pairs_view (drop (i + 1) ys)) in
    let seen = pairs_view-drop ys i p (omega arith) c.loop-key-item.is in
    let on = passed_on first (second ++ rest) left out mid after_key (subst (Ends (element_or_rest first left) out mid) c.in-Passed.is c.in_ok-push_path_after.ensures) in
    let all =
    sym on.0 ∙ ap (λ ps. element_or_rest (pairs_paths ps) left) (sym seen) ∙ c.loop-key.invariant.ahead
    ∙ ap (λ zs. element_or_rest (pairs_paths (pairs_view zs)) c.args.place) c.deref-key-items.ensures.value in
    let here = subst (Ends (element_or_rest second after_key) mid new) c.in-Arrived-2.is c.in_ok-push_path_after-2.ensures in
    subst (λ old. Ends (element_or_rest (pairs_paths (pairs_view c.args.pairs.now.items)) c.args.place) old new Arrived) (on.1 ∙ c.loop-key.invariant.kept)
    (subst (λ r. Ends r mid new Arrived) all (arrived_in second rest after_key mid new here))

pub push_pair_path-loop-key-preserved : goal.push_pair_path-loop-key-preserved
push_pair_path-loop-key-preserved t c =
    let ys = c.deref-key-items.result.now in
    let i = c.loop-key.key-index in
    let p = c.loop-key-item.result in
    let left = c.loop-key.left in
    let after_key = c.in-Passed.rest in
    let out = c.loop-key.out.items in
    let mid = c.push_path_after.new.out.items in
    let new = c.push_path_after-in-loop-key.new.out.items in
    let first = after (key_step (view p.0)) (paths (view p.0)) in
    let second = after (value_step (view p.0)) (paths (view p.1)) in
    let rest = pairs_paths (pairs_view (drop (i + 1) ys)) in
    let seen = pairs_view-drop ys i p (omega arith) c.loop-key-item.is in
    let on = passed_on first (second ++ rest) left out mid after_key (subst (Ends (element_or_rest first left) out mid) c.in-Passed.is c.in_ok-push_path_after.ensures) in
    let further =
    passed_on second rest after_key mid new c.in-Passed-2.rest (subst (Ends (element_or_rest second after_key) mid new) c.in-Passed-2.is c.in_ok-push_path_after-2.ensures) in
    record {
      kept = further.1 ∙ on.1 ∙ c.loop-key.invariant.kept;
      ahead = sym further.0 ∙ sym on.0 ∙ ap (λ ps. element_or_rest (pairs_paths ps) left) (sym seen) ∙ c.loop-key.invariant.ahead;
    }
