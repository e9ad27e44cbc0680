use Rattle.std.proofs.Common.{List, ◌++◌, drop}
use Rattle.check_names.specs.declared.kinds.heads.Head.{Head}
use Rattle.check_names.specs.Kinds.Heads.{AreHeads}
use Rattle.check_names.proofs.kinds.heads.heads.Given as goal

abbrev pub invariant-loop-definition : goal.invariant-loop-definition
invariant-loop-definition l = (hs : List Head) → AreHeads l.terms (drop l.definition-index l.definitions) hs → AreHeads l.terms l.definitions (l.heads.items ++ hs)
