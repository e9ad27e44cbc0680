-- The numbers below 24 that a specification is known to accept.
use Rattle.std.specs.Prelude.{ℕ, List, [], Bool}
use Rattle.cbor_data.specs.Value.{uint}
use Rattle.seq_run.specs.Ends.{Accepts}
use Rattle.seq_run.specs.Judge.{Judge}
use Rattle.seq_run.specs.Smalls.{IsMarked}

-- Each number that is marked is accepted.
abbrev pub AreAccepted : Judge → List Bool → Type 0
AreAccepted judge marks = (n : ℕ) → IsMarked marks n → Accepts judge (uint n) []
