use Rattle.std.proofs.Common.{rules}
use Rattle.std.proofs.lemmas.List.{take_min}
use Rattle.mismatch_words.proofs.values.value_words.Goals as goal

pub returns : goal.returns
returns c = let t = take_min 256 c.in_ok-notation.notation.items in search (rules, t)
