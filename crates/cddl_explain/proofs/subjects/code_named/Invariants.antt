use Rattle.std.proofs.Common.{◌⊎◌, ℕ, ◌<◌, get_or}
use Rattle.cddl_token.specs.declared.Code.TheVariants.{NotUtf8}
use Rattle.cddl_explain.specs.Subjects.{IsSameWord}
use Rattle.cddl_explain.specs.Names.{name_of, number_of}
use Rattle.cddl_explain.proofs.subjects.code_named.Given as goal

abbrev pub invariant-loop-code : goal.invariant-loop-code
invariant-loop-code l = (k : ℕ) → k < l.code-index → IsSameWord l.word (number_of (get_or l.code-items k NotUtf8)) ⊎ IsSameWord l.word (name_of (get_or l.code-items k NotUtf8)) → ⊥
