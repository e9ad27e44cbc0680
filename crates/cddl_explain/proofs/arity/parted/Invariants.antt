use Rattle.std.proofs.Common.{◌≡◌, ◌+◌, ◌-◌, ◌≤◌, drop}
use Rattle.cddl_explain.specs.Arity.{commas}
use Rattle.cddl_explain.proofs.arity.parted.Given as goal

abbrev pub invariant-token : goal.invariant-token
invariant-token l = record {
  so_far : l.count + commas l.depth (drop l.k l.tokens) ≡ 1 + commas 0 l.tokens;
  inside : l.depth ≤ l.k;
  few : l.count ≤ 1 + (l.k - 1);
}
