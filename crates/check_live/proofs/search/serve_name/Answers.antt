use Rattle.std.proofs.Common.{Some, refl, ap, ◌∙◌}
use Rattle.check_live.specs.Search.{a_parameter}
use Rattle.check_live.proofs.search.serve_name.Goals as goal

pub returns-in_ok-push-in-Some : goal.returns-in_ok-push-in-Some
returns-in_ok-push-in-Some c = a_parameter c.in-Some.used (c.in-Some.ensures.found ∙ ap Some c.use_of.ensures) c.in_ok-push-in-Some.ensures.items refl
