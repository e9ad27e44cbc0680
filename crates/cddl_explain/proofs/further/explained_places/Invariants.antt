use Rattle.std.proofs.Common.{option_map, string_bytes, take}
use Rattle.cddl_explain.specs.Further.{AreExplained}
use Rattle.cddl_explain.proofs.further.explained_places.Given as goal

abbrev pub invariant-offset : goal.invariant-offset
invariant-offset l = AreExplained l.code l.already l.file l.text l.tokens (option_map (λ r. r.now) l.root) (take l.k l.offsets) (string_bytes l.told)
