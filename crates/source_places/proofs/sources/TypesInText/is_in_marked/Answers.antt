use Rattle.std.proofs.Common.{sym}
use Rattle.lists.proofs.Lemmas.{some_none}
use Rattle.source_places.specs.States.{unwrapped_name}
use Rattle.source_places.proofs.Splicing.{marked_by}
use Rattle.source_places.proofs.sources.TypesInText.is_in_marked.Goals as goal

pub returns-then-name : goal.returns-then-name
returns-then-name c = marked_by c.args.self.now c.args.piece c.args.marked.now c.in-Some.name c.in-Some.ensures.some c.in-Some.ensures.all c.if-name.true c.is_marked.result c.is_marked.ensures

pub returns-in-None : goal.returns-in-None
returns-in-None c = (λ h. cc, λ m. absurd (some_none (sym (c.in-None.ensures.all (unwrapped_name m.name) m.body))))
