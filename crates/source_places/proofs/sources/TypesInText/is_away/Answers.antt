use Rattle.std.proofs.Common.{refl}
use Rattle.source_places.specs.States.{as_before}
use Rattle.source_places.proofs.sources.TypesInText.is_away.Goals as goal

pub returns-in-Some : goal.returns-in-Some
returns-in-Some c = ((λ t. as_before c.in-Some.is), (λ h. refl))
