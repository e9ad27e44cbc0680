use Rattle.std.proofs.Common.{ℕ, ◌<◌, get_or}
use Rattle.cddl_explain.specs.declared.causes.Cause.TheVariants.{ReservedInformation}
use Rattle.cddl_explain.specs.Subjects.{IsSameWord}
use Rattle.cddl_explain.specs.Causes.{words_of}
use Rattle.cddl_explain.proofs.subjects.cause_named.Given as goal

abbrev pub invariant-loop-cause : goal.invariant-loop-cause
invariant-loop-cause l = (k : ℕ) → k < l.cause-index → IsSameWord l.word (words_of (get_or l.cause-items k ReservedInformation)) → ⊥
