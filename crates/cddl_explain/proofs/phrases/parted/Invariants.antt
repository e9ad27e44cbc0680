use Rattle.std.proofs.Common.{◌≡◌, ◌++◌, drop, string_bytes}
use Rattle.near_words.specs.Near.{texts}
use Rattle.cddl_explain.specs.Expected.{parted}
use Rattle.cddl_explain.proofs.phrases.parted.Given as goal

abbrev pub invariant-phrase : goal.invariant-phrase
invariant-phrase l = string_bytes l.told ++ parted (texts (drop l.k l.phrases)) ≡ parted (texts l.phrases)
