-- What is followed after a text chunk that is not UTF-8.
use Rattle.std.specs.Prelude.{◌≡◌, ◌≢◌, List, Bool, true, false, Option, Some, None}
use Rattle.cbor_data.specs.Machine.Machine as machine

-- after a whole text, or a chunk of one
abbrev pub after_text : Bool → List machine.Frame → machine.State
after_text true K = machine.chunk 3 K
after_text false K = machine.give K

-- the reader of the form is there; there is none where the item is whole
abbrev pub IsFormAfter : machine.State → Option machine.State → Type 0
IsFormAfter s None = s ≡ machine.done
IsFormAfter s (Some form) = (form ≡ s) × (form ≢ machine.done)
