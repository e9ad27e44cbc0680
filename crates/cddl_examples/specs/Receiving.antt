-- What comes of a stream in pieces.
use Rattle.std.specs.Prelude.{◌≡◌, ℕ, List, None}
use Rattle.cbor_data.specs.Faults.{Bounds}
use Rattle.cbor_data.specs.Sequence.{Found}
use Rattle.cbor_data.specs.Value.{Value}
use Rattle.seq_run.specs.Answers.{items_of}
use Rattle.seq_run.specs.declared.end.End.{End}
use Rattle.cddl.specs.Rules.{Ends, HasRoot, Rule}

-- By the root rule of the text, the stream has just these items, and ends so.
abbrev pub IsReceived : List ℕ → Bounds → ℕ → List ℕ → List Value → End → Type 0
IsReceived text l steps stream items end = (rule : Rule) × HasRoot text None rule × (found : List Found) × Ends rule steps l stream found end × (items ≡ items_of found)
