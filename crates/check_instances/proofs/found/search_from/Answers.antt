use Rattle.std.proofs.Common.{◌≡◌, ◌<◌, ◌≤◌, Some, None, length, slice_get, refl, sym, subst, ap, ◌∙◌, arith}
use Rattle.std.proofs.lemmas.Option.{slice_get_within}
use Rattle.lists.proofs.Lemmas.{length_push}
use Rattle.cddl_language.specs.Reach.{most_instances}
use Rattle.check_instances.proofs.Ending.{IsGoing, going_begun, going_ended, going_on, too_many}
use Rattle.check_instances.proofs.Meaning.{meanings_kept}
use Rattle.check_instances.proofs.found.search_from.Goals as goal

pub loop-call-init : goal.loop-call-init
loop-call-init c =
    let s = c.in_ok-search.search in
    let t = c.args.terms.now in
    let none = c.new-found.ensures.items in
    record {
      grown = c.growing_keeps.ensures.same t;
      texts = refl;
      few = omega (arith, ap length none);
      none = c.in_ok-search.ensures.ends;
      going = λ xs n means h. subst (IsGoing xs n t c.args.root s.marks.items s.waiting.items s.refs.items) (sym none) (going_begun xs n t c.args.root s.marks.items s.waiting.items s.refs.items h (c.in_ok-search.ensures.begins xs n h));
    }

pub loop-call-smaller : goal.loop-call-smaller
loop-call-smaller c =
    let within = slice_get_within c.loop-call.search.refs.items c.len.result c.in-Some.call (sym c.reference.ensures ∙ c.in-Some.is) in
    let more = ap length c.in_ok-push.ensures ∙ length_push c.loop-call.found.items c.in_ok-instance.instance in
    let few : length c.loop-call.search.refs.items ≤ most_instances = omega (arith, c.if-len-gt-MOST_INSTANCES.false, c.len-in-Some.ensures, c.loop-call.search.refs.ok.0) in
    omega (arith, within, more, few, c.len.ensures, c.loop-call.found.ok.0)

pub loop-call-preserved : goal.loop-call-preserved
loop-call-preserved c =
    let start = c.args.terms.now in
    let old = c.loop-call.terms in
    let new = c.follow.new.terms in
    let s = c.loop-call.search in
    let made = c.follow.new.search in
    let found = c.loop-call.found.items in
    let one = c.in_ok-instance.instance in
    let keeps = c.growing_keeps.ensures in
    let inv = c.loop-call.invariant in
    let follows = c.in_ok-instance.ensures in
    let there = sym c.reference.ensures ∙ c.in-Some.is in
    let next = subst (λ j. slice_get s.refs.items j ≡ Some c.in-Some.call) (c.len.ensures ∙ c.loop-call.found.ok.0) there in
    let within = slice_get_within s.refs.items (length found) c.in-Some.call next in
    let more = ap length c.in_ok-push.ensures ∙ length_push found one in
    let all_few : length s.refs.items ≤ most_instances = omega (arith, c.if-len-gt-MOST_INSTANCES.false, c.len-in-Some.ensures, c.loop-call.search.refs.ok.0) in
    record {
      grown = keeps.further start old new inv.grown follows.grows;
      texts = follows.texts ∙ inv.texts;
      few = omega (arith, within, more, all_few);
      none = follows.ends;
      going = λ xs n given h.
          let means = meanings_kept xs start old c.args.names.now c.args.known.now c.args.own.now inv.grown keeps.further (c.patterns_grow.ensures.patterns start old inv.grown) given in
          subst (IsGoing xs n new c.args.root made.marks.items made.waiting.items made.refs.items) (sym c.in_ok-push.ensures) (going_on xs n old new c.args.root s.marks.items s.waiting.items s.refs.items found (keeps.tree old new follows.grows) (keeps.body old new follows.grows) c.in-Some.call next one follows.call (λ r is. follows.means xs r means is) made.marks.items made.waiting.items made.refs.items inv.none (λ from first e so. follows.follows xs n from first means inv.none e so) (inv.going xs n given h));
    }

pub returns-then-len-gt-MOST_INSTANCES-clause-found : goal.returns-then-len-gt-MOST_INSTANCES-clause-found
returns-then-len-gt-MOST_INSTANCES-clause-found c = λ xs n means h.
    let s = c.loop-call.search in
    let so = c.loop-call.invariant.going xs n means h in
    let many : most_instances < length s.refs.items = omega (arith, c.if-len-gt-MOST_INSTANCES.true, c.len-in-Some.ensures, c.loop-call.search.refs.ok.0) in
    too_many xs n c.loop-call.terms c.equal_numbers.ensures.reference so.from _ s.marks.items s.waiting.items s.refs.items so.search many

pub returns-clause-found : goal.returns-clause-found
returns-clause-found c = λ xs n means h.
    let t = c.loop-call.terms in
    let s = c.loop-call.search in
    let found = c.loop-call.found.items in
    let inv = c.loop-call.invariant in
    let last = subst (λ j. slice_get s.refs.items j ≡ None) (c.len.ensures ∙ c.loop-call.found.ok.0) (sym c.reference.ensures ∙ c.in_default.is) in
    going_ended xs n t c.equal_numbers-2.ensures.reference c.args.root s.marks.items s.refs.items found last (subst (λ ns. IsGoing xs n t c.args.root s.marks.items ns s.refs.items found) inv.none (inv.going xs n means h)) inv.few
