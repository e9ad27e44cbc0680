use Rattle.std.proofs.Common.{option_map, string_bytes, take}
use Rattle.cddl_tool.specs.Further.{AreBesides}
use Rattle.cddl_tool.proofs.further.besides.Given as goal

abbrev pub invariant-fault : goal.invariant-fault
invariant-fault l = AreBesides l.fault l.file l.text (option_map (λ r. r.now) l.root) (take l.k l.faults) (string_bytes l.told)
