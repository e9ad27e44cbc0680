use Rattle.std.proofs.Common.{◌≡◌, drop}
use Rattle.near_words.specs.Near.{texts}
use Rattle.cddl_explain.specs.Arity.{is_among}
use Rattle.cddl_explain.proofs.arity.is_among.Given as goal

abbrev pub invariant-known : goal.invariant-known
invariant-known l = is_among l.name (texts (drop l.k l.names)) ≡ is_among l.name (texts l.names)
