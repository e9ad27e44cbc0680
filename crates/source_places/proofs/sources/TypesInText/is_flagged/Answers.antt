use Rattle.std.proofs.Common.{sym, ◌∙◌}
use Rattle.lists.proofs.Lemmas.{some_none}
use Rattle.source_places.proofs.sources.TypesInText.is_flagged.Goals as goal

pub returns-in-None : goal.returns-in-None
returns-in-None c = (λ h. cc, λ f. absurd (some_none (sym (c.body_name.ensures.all f.0 f.1) ∙ c.in-None.is)))
