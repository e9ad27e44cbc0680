use Rattle.std.proofs.Common.{map, option_map, string_bytes, take}
use Rattle.cddl_mismatch.specs.Explained.{AreLines}
use Rattle.cddl_mismatch.proofs.telling.lines_of.Given as goal

abbrev pub invariant-reason : goal.invariant-reason
invariant-reason l = AreLines l.source.text.now l.source.tokens.now l.source.file.now (option_map (λ r. r.now) l.source.root) l.table l.sources l.item (take l.k l.reasons) (map string_bytes l.lines.items)
