use Rattle.std.proofs.Common.{List, sym, subst, take}
use Rattle.std.proofs.lemmas.List.{take_all, take_more}
use Rattle.lists.proofs.Lemmas.{none_in}
use Rattle.type_links.specs.declared.link.Link.{Link}
use Rattle.source_places.specs.States.{IsLastIn}
use Rattle.source_places.proofs.sources.TypesInText.last_instance.Goals as goal

pub loop-link-init : goal.loop-link-init
loop-link-init c = λ m h. absurd (none_in m h)

pub loop-link-preserved : goal.loop-link-preserved
loop-link-preserved c = subst (λ (ids : List Link). IsLastIn c.args.self.now ids c.later_instance-last.result) (sym (take_more c.args.chain.now c.loop-link.link-index _ c.loop-link-test.true)) (c.later_instance-last.ensures (take c.loop-link.link-index c.args.chain.now) c.loop-link.invariant)

pub returns : goal.returns
returns c = subst (λ (ids : List Link). IsLastIn c.args.self.now ids c.loop-link.last) (take_all c.loop-link.link-index c.args.chain.now c.loop-link-test.false) c.loop-link.invariant
