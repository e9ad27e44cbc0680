-- Items of the same deterministic bytes are the same.
use Rattle.std.proofs.Common.{◌≡◌, [], ◌++◌, sym, ap, subst}
use Rattle.cbor_data.specs.Value.{Value}
use Rattle.cbor_data.specs.Forms.{Spells}
use Rattle.cbor_data.proofs.PreferredSpells.{spells_preferred}
use Rattle.cbor_data.proofs.Unique.{unique}
use Rattle.cbor_data.specs.Equivalence.{IsSame}
use Rattle.cbor_data.specs.Deterministic.{ordered, deterministic}
use Rattle.cbor_data.specs.Writable.{IsWritable}
use Rattle.cbor_data.proofs.EquivalenceLaws.{onward, back}
use Rattle.cbor_data.proofs.Reorders.{same_ordered}
use Rattle.cbor_data.proofs.Keeps.{same_writable}

pub deterministic_spelled : (x : Value) → IsWritable x → Spells (ordered x) (deterministic x)
deterministic_spelled x w = let o = same_writable (same_ordered x) w in spells_preferred (ordered x) o.in_range o.fitting o.assignable o.counts

pub same_by_deterministic : (x y : Value) → IsWritable x → IsWritable y → deterministic x ≡ deterministic y → IsSame x y
same_by_deterministic x y v w e =
    let o : ordered x ≡ ordered y = (unique (deterministic x) [] (deterministic y) [] (deterministic_spelled x v) (deterministic_spelled y w) (ap (λ b. b ++ []) e)).1 in
    onward (same_ordered x) (subst (λ z. IsSame z y) (sym o) (back (same_ordered y)))
