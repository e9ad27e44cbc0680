use Rattle.std.proofs.Common.{◌≡◌, length, take, Ok, ap, ◌∙◌, subst, arith}
use Rattle.std.proofs.lemmas.List.{length-drop}
use Rattle.seq_run.specs.declared.session.Step.TheVariants as step
use Rattle.seq_run.specs.Answers.{IsItemFed}
use Rattle.seq_run.proofs.Reporting.{reported_item, reported_smalls, smalls_short, count_below, item_fits, range_from}
use Rattle.seq_run.proofs.Smalls.{none_taken}
use Rattle.seq_run.proofs.Steps.{answered}
use Rattle.seq_run.proofs.running.feed_items.Goals as goal

pub push_smalls-requires-clause-count : goal.push_smalls-requires-clause-count
push_smalls-requires-clause-count c = count_below c.args.mode c.args.session.now c.args.piece.now c.args.bytes.now c.steps.session c.steps.rest.now c.steps.bytes c.steps.invariant c.take_smalls-count.new.self c.taken-before.result.0 c.taken-before.result.1 c.taken-before.ensures

pub push_smalls-requires-clause-short : goal.push_smalls-requires-clause-short
push_smalls-requires-clause-short c =
    smalls_short c.args.mode c.args.session.now c.args.piece.now c.args.bytes.now c.steps.session c.steps.rest.now c.steps.bytes c.steps.invariant c.take_smalls-count.new.self c.taken-before.result.0 c.taken-before.result.1 c.taken-before.ensures
    (take c.take_smalls-count.result c.steps.rest.now) c.take_smalls-count.ensures.taken

pub steps-preserved-then-count-gt0 : goal.steps-preserved-then-count-gt0
steps-preserved-then-count-gt0 c =
    rw (range_from c.take_smalls-count.result c.steps.rest.now) (reported_smalls c.args.mode c.args.session.now c.args.piece.now c.args.bytes.now c.steps.session c.steps.rest.now c.steps.bytes c.steps.invariant c.take_smalls-count.new.self c.taken-before.result.0 c.taken-before.result.1 c.taken-before.ensures
    c.take_smalls-count.result c.push_smalls.new.out c.take_smalls-count.ensures.taken c.in_ok-push_smalls.ensures)

pub push_taped-requires-clause-mode : goal.push_taped-requires-clause-mode
push_taped-requires-clause-mode c = c.in-Some.ensures.taken.0

pub push_taped-requires-clause-taped : goal.push_taped-requires-clause-taped
push_taped-requires-clause-taped c = let t = c.in-Some.ensures.taken.1 in (t.depth, t.whole)

pub overflow_add-before : goal.overflow_add-before
overflow_add-before c =
    let kept : c.take_smalls-count.new.self ≡ c.steps.session = none_taken c.steps.session c.steps.rest.now c.take_smalls-count.result c.take_smalls-count.new.self c.if-count-gt0.false c.take_smalls-count.ensures.taken in
    let t = c.in-Some.ensures.taken.1 in
    let fed : IsItemFed c.steps.session c.steps.rest.now c.in-Some.end t.whole.value c.take_taped.new.session = subst (λ p. IsItemFed p c.steps.rest.now c.in-Some.end t.whole.value c.take_taped.new.session) kept t.fed in
    let answer = answered c.steps.session c.steps.rest.now (Ok (step.Item c.in-Some.end t.whole.value)) c.take_taped.new.session c.steps.invariant.going fed in
    omega (arith, item_fits c.args.mode c.args.session.now c.args.piece.now c.args.bytes.now c.steps.session c.steps.rest.now c.steps.bytes c.steps.invariant c.take_taped.new.session c.taken-before.result.0 c.taken-before.result.1 c.taken-before.ensures c.in-Some.end t.whole.value answer)

pub steps-preserved-in-Some : goal.steps-preserved-in-Some
steps-preserved-in-Some c =
    let kept : c.take_smalls-count.new.self ≡ c.steps.session = none_taken c.steps.session c.steps.rest.now c.take_smalls-count.result c.take_smalls-count.new.self c.if-count-gt0.false c.take_smalls-count.ensures.taken in
    let t = c.in-Some.ensures.taken.1 in
    let fed : IsItemFed c.steps.session c.steps.rest.now c.in-Some.end t.whole.value c.take_taped.new.session = subst (λ p. IsItemFed p c.steps.rest.now c.in-Some.end t.whole.value c.take_taped.new.session) kept t.fed in
    let answer = answered c.steps.session c.steps.rest.now (Ok (step.Item c.in-Some.end t.whole.value)) c.take_taped.new.session c.steps.invariant.going fed in
    let next = reported_item c.args.mode c.args.session.now c.args.piece.now c.args.bytes.now c.steps.session c.steps.rest.now c.steps.bytes c.steps.invariant c.take_taped.new.session c.taken-before.result.0 c.taken-before.result.1 c.taken-before.ensures c.in-Some.end t.whole.value c.push_taped.new.out answer (c.in_ok-push_taped.ensures t.depth t.whole) in
    rw (range_from c.in-Some.end c.steps.rest.now) next.0

pub steps-smaller-in-Some : goal.steps-smaller-in-Some
steps-smaller-in-Some c =
    let fed = c.in-Some.ensures.taken.1.fed in
    omega (arith, fed.some, fed.within, ap length (range_from c.in-Some.end c.steps.rest.now), length-drop c.in-Some.end c.steps.rest.now)

pub overflow_add-before-in-Item : goal.overflow_add-before-in-Item
overflow_add-before-in-Item c =
    let kept : c.take_taped.new.session ≡ c.steps.session = c.in_default.ensures.kept ∙ none_taken c.steps.session c.steps.rest.now c.take_smalls-count.result c.take_smalls-count.new.self c.if-count-gt0.false c.take_smalls-count.ensures.taken in
    let answer = rw (c.in-Item.is, kept) at c.in_ok-feed_one.ensures in
    omega (arith, item_fits c.args.mode c.args.session.now c.args.piece.now c.args.bytes.now c.steps.session c.steps.rest.now c.steps.bytes c.steps.invariant c.feed_one.new.self c.taken-before.result.0 c.taken-before.result.1 c.taken-before.ensures c.in-Item.used c.in-Item.item answer)

pub steps-preserved : goal.steps-preserved
steps-preserved c =
    let kept : c.take_taped.new.session ≡ c.steps.session = c.in_default.ensures.kept ∙ none_taken c.steps.session c.steps.rest.now c.take_smalls-count.result c.take_smalls-count.new.self c.if-count-gt0.false c.take_smalls-count.ensures.taken in
    let answer = rw (c.in-Item.is, kept) at c.in_ok-feed_one.ensures in
    let next = reported_item c.args.mode c.args.session.now c.args.piece.now c.args.bytes.now c.steps.session c.steps.rest.now c.steps.bytes c.steps.invariant c.feed_one.new.self c.taken-before.result.0 c.taken-before.result.1 c.taken-before.ensures c.in-Item.used c.in-Item.item c.push_item.new.out answer c.in_ok-push_item-in-Item.ensures in
    rw (range_from c.in-Item.used c.steps.rest.now) next.0
