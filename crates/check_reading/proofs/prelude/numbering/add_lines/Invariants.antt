use Rattle.std.proofs.Common.{map, take}
use Rattle.check_terms.specs.Definitions.{AreDefinitions}
use Rattle.check_terms.specs.Table.{Grows}
use Rattle.check_reading.specs.Prelude.Lines.{definition_in}
use Rattle.check_reading.proofs.prelude.numbering.add_lines.Given as goal

abbrev pub invariant-loop-line : goal.invariant-loop-line
invariant-loop-line l = record { grows : Grows l.fn.terms l.terms; numbered : AreDefinitions l.terms l.definitions.items (map definition_in (take l.line-index l.lines)) }
