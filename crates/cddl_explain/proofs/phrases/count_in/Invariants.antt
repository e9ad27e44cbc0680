use Rattle.std.proofs.Common.{◌≡◌, ◌≤◌, take}
use Rattle.std.specs.Prelude.{count_by}
use Rattle.cddl_explain.specs.Expected.{belongs}
use Rattle.cddl_explain.proofs.phrases.count_in.Given as goal

abbrev pub invariant-kind : goal.invariant-kind
invariant-kind l = record {
  counted : l.count ≡ count_by (belongs l.collection) (take l.k l.kinds);
  few : l.count ≤ l.k;
}
