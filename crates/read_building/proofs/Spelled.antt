-- What is built of bytes is the item that they spell.
use Rattle.std.proofs.Common.{◌≡◌, ℕ, List, [], ◌++◌, sym, ap, ◌∙◌, append-nil}
use Rattle.cbor_data.specs.Value.{Value}
use Rattle.cbor_data.specs.Forms.{Form, flat, Spells}
use Rattle.read_building.specs.Building.{item, steps}
use Rattle.read_building.specs.Spelled.{built_by, spelled_by}
use Rattle.read_building.proofs.Forward.{forward}

pub spelled : (x : Value) (b : List ℕ) → Spells x b → spelled_by b ≡ x
unfolding spelled_by
spelled x b s =
    let f : Form = s.written in
    ap (λ c. spelled_by c) (s.is ∙ sym (append-nil (flat f))) ∙ (ap built_by (forward f 0 [] [] [] s.ok) ∙ sym s.meant)
