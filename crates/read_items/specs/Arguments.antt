-- The bytes of an argument so far.
use Rattle.std.specs.Prelude.{◌≡◌, ℕ, suc, ◌+◌, ◌*◌}
use Rattle.cbor_data.specs.Machine.Machine as machine
use Rattle.read_items.specs.declared.argument.Argument.{Argument}
use Rattle.read_items.specs.declared.argument.Argument.TheVariants as arguments
use Rattle.read_items.specs.declared.argument.Info.{Info}
use Rattle.read_items.specs.declared.argument.Info.TheVariants.{Given, Follows, Indefinite, Reserved}
use Rattle.read_items.specs.declared.partial.Partial.{Partial}
use Rattle.read_items.specs.declared.argument.Size.{Size}
use Rattle.read_items.specs.declared.argument.Size.TheVariants.{One, Two, Four, Eight}

-- how many bytes of an argument come after the first one
abbrev pub left_of : Size → ℕ
left_of One = 0
left_of Two = 1
left_of Four = 3
left_of Eight = 7

abbrev pub info_view : Info → machine.Info
info_view (Given n) = machine.given n
info_view (Follows w) = machine.more (left_of w)
info_view Indefinite = machine.indefinite
info_view Reserved = machine.reserved

-- one byte more of an argument
abbrev pub IsWith : Partial → ℕ → Argument → Type 0
IsWith p b (arguments.Part q) = (p.left ≡ suc q.left) × (q.value ≡ p.value * 256 + b)
IsWith p b (arguments.Whole n) = (p.left ≡ 0) × (n ≡ p.value * 256 + b)
