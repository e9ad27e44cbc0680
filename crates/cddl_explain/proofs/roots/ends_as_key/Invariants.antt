use Rattle.std.proofs.Common.{◌≡◌, ◌+◌, ◌≤◌, drop}
use Rattle.cddl_explain.specs.Roots.{ends_as_key}
use Rattle.cddl_explain.proofs.roots.ends_as_key.Given as goal

abbrev pub invariant-token : goal.invariant-token
invariant-token l = record {
  so_far : ends_as_key l.depth (drop l.k l.tokens) ≡ ends_as_key 1 l.tokens;
  few : l.depth ≤ 1 + l.k;
}
