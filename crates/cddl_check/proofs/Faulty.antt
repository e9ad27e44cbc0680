-- What the stages tell is what callers are told.
use Rattle.std.proofs.Common.{◌≡◌, Option, Some}
use Rattle.tree_nodes.specs.Syntax.Syntax.{Cddl}
use Rattle.cddl_language.specs.Terms.{Text}
use Rattle.cddl_language.specs.Literals.{AreRight, Values}
use Rattle.cddl_check.specs.Outcome.{IsFaulty, IsStopped, specification}
use Rattle.cddl_check.specs.Told.{refusal_of}
use Rattle.cddl_check.specs.declared.stopped.Stopped.{Stopped}
use Rattle.cddl_check.specs.declared.stopped.Stopped.TheVariants as StoppedV

pub faulty : (x : Cddl) (n : Option Text) (e : Stopped) → ((worth : Values) → AreRight x worth → IsStopped (specification x n) worth e) → IsFaulty x n (refusal_of e)
faulty x n (StoppedV.Refused f) h = h
faulty x n StoppedV.Memory h = tt

pub same_root : {A : Type 0} (x y : A) → Some x ≡ Some y → x ≡ y
same_root x y e = cc
