use Rattle.std.proofs.Common.{◌≡◌, drop}
use Rattle.near_words.specs.Near.{texts}
use Rattle.cddl_explain.specs.Meant.{ending}
use Rattle.cddl_explain.proofs.meant.ending.Given as goal

abbrev pub invariant-word : goal.invariant-word
invariant-word l = ending l.name (texts (drop l.k l.words)) ≡ ending l.name (texts l.words)
