use Rattle.std.proofs.Common.{List, subst}
use Rattle.std.proofs.lemmas.List.{take_all}
use Rattle.lists.proofs.Lemmas.{none_in}
use Rattle.type_links.specs.declared.link.Link.{Link}
use Rattle.source_places.specs.States.{IsStateOf}
use Rattle.source_places.proofs.Stepping.{at_index, next_state, none_then, ok_then, some_then}
use Rattle.source_places.proofs.sources.TypesInText.place.Goals as goal

pub loop-link-init : goal.loop-link-init
loop-link-init c = λ m h. absurd (none_in m h)

pub loop-link-preserved : goal.loop-link-preserved
loop-link-preserved c =
    next_state c.args.self.now c.args.chain.now c.loop-link.link-index c.loop-link.state c.in_ok-new.new _ c.loop-link-test.true c.loop-link.invariant c.in_ok-new.ensures
    (at_index c.args.chain.now c.loop-link.link-index _ c.loop-link-test.true)

pub returns-clause-some : goal.returns-clause-some
returns-clause-some c =
    let all = subst (λ (ids : List Link). IsStateOf c.args.self.now ids c.loop-link.state) (take_all c.loop-link.link-index c.args.chain.now c.loop-link-test.false) c.loop-link.invariant in
    ok_then c.told_last.result _ _ (λ o g. some_then o _ _ (λ p f s terms nodes q known last filled. f c.args.chain.now s terms nodes q known last filled all) g) c.told_last.ensures.some

pub returns-clause-none : goal.returns-clause-none
returns-clause-none c =
    let all = subst (λ (ids : List Link). IsStateOf c.args.self.now ids c.loop-link.state) (take_all c.loop-link.link-index c.args.chain.now c.loop-link-test.false) c.loop-link.invariant in
    ok_then c.told_last.result _ _ (λ o g. none_then o _ _ (λ f s terms nodes closed known. f c.args.chain.now s terms nodes closed known all) g) c.told_last.ensures.none
