-- How it is reported that a text has no table.
use Rattle.cddl_token.specs.declared.Refusal.{Refusal}
use Rattle.cddl_token.specs.declared.Refusal.TheVariants as why
use Rattle.seq_run.specs.declared.running.RunFault.TheVariants as run
use Rattle.cddl.specs.declared.validating.Failure.{Failure}
use Rattle.cddl.specs.declared.validating.Failure.TheVariants.{Refused, Stopped}

abbrev pub failure_of : Refusal → Failure
failure_of (why.At code at) = Refused code at
failure_of why.Memory = Stopped (run.Memory 0)
