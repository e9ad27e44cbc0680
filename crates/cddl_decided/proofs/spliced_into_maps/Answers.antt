use Rattle.cddl_language.specs.Faults.{rules}
use Rattle.cddl_decided.proofs.Splicing.{spliced}
use Rattle.cddl_decided.proofs.spliced_into_maps.Goals as goal

pub returns : goal.returns
returns c = λ s root clear r xs q e h. spliced (rules s) (c.reached_rules.ensures.defined s clear) root r xs q e h
