use Rattle.std.proofs.Common.{◌≡◌, List, ℕ, map}
use Rattle.std.specs.List.{concat, AllZip}
use Rattle.call_lines.specs.Words.{IsPart}
use Rattle.call_lines.proofs.words.bytes.Given as goal

abbrev pub invariant-loop-part : goal.invariant-loop-part
invariant-loop-part l = (pieces : List (List ℕ)) × AllZip IsPart (map (λ x. x.now) l.yielded) pieces × (l.out.items ≡ concat pieces)
