use Rattle.std.proofs.Common.{◌≡◌, drop}
use Rattle.table_nodes.specs.Codes.{string_code}
use Rattle.table_nodes.proofs.codes.string_code.Given as goal

abbrev pub invariant-loop-byte : goal.invariant-loop-byte
invariant-loop-byte l = string_code l.fn.before l.fn.bytes ≡ string_code l.code (drop l.byte-index l.fn.bytes)
