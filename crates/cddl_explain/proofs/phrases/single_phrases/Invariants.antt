use Rattle.std.proofs.Common.{◌≡◌, ◌++◌, drop}
use Rattle.near_words.specs.Near.{texts}
use Rattle.cddl_explain.specs.Expected.{single_phrases}
use Rattle.cddl_explain.proofs.phrases.single_phrases.Given as goal

abbrev pub invariant-kind : goal.invariant-kind
invariant-kind l = texts l.phrases.items ++ single_phrases l.collection (drop l.k l.kinds) ≡ single_phrases l.collection l.kinds
