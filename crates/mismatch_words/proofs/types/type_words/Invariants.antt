use Rattle.std.proofs.Common.{◌≡◌, ◌++◌, drop, string_bytes}
use Rattle.mismatch_words.specs.Types.{type_words}
use Rattle.mismatch_words.proofs.types.type_words.Given as goal

abbrev pub invariant-token : goal.invariant-token
invariant-token l = string_bytes l.words ++ type_words l.before l.from l.to (drop l.k l.tokens) ≡ type_words l.from l.from l.to l.tokens
