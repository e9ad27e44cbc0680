-- The keys of a map by their deterministic bytes.
use Rattle.std.proofs.Common.{◌≡◌, ℕ, List, [], ◌∷◌, Bool, true, false, ◌||◌, inl, inr, refl, sym, ap, ◌∙◌}
use Rattle.std.specs.Str.{bytes_eq}
use Rattle.std.proofs.lemmas.Slice.Eq.{bytes_eq-Decides}
use Rattle.lists.proofs.Lemmas.{either_true as either, neither}
use Rattle.cbor_data.specs.Deterministic.{deterministic}
use Rattle.cbor_data.specs.Preferred.{preferred}
use Rattle.cbor_data.specs.Validity.{IsOneOf}
use Rattle.cbor_data.specs.Value.{Value}
use Rattle.cbor_data.specs.Writable.{IsWritable}
use Rattle.cbor_data.proofs.Lemmas.{one_order, same_by_deterministic, valid_apart}
use Rattle.cbor_item.proofs.Walking.{AreValid}

pub or_swap : (a b r : Bool) → (a || (b || r)) ≡ (b || (a || r))
or_swap true true r = refl
or_swap true false r = refl
or_swap false true r = refl
or_swap false false r = refl

-- whether one of the values has these deterministic bytes
abbrev pub among : List Value → List ℕ → Bool
among [] bytes = false
among (k ∷ ks) bytes = bytes_eq bytes (deterministic k) || among ks bytes

-- each is spelled by its preferred bytes
abbrev pub AllWritable : List Value → Type 0
AllWritable [] = Unit {0}
AllWritable (k ∷ ks) = IsWritable k × AllWritable ks

-- a key whose bytes are there is the same as one of the keys
pub found_among : (ks : List Value) (k : Value) → AllWritable ks → IsWritable k → among ks (deterministic k) ≡ true → IsOneOf ks k
found_among [] k a w e = cc
found_among (l ∷ ks) k a w e = elim (either (bytes_eq (deterministic k) (deterministic l)) (among ks (deterministic k)) e) [
  | inl t ↦ inl (same_by_deterministic k l w a.0 ((bytes_eq-Decides (deterministic k) (deterministic l)).0 t))
  | inr t ↦ inr (found_among ks k a.1 w t)
]

-- and one whose bytes are not is not, if these are valid
pub missed_among : (ks : List Value) (k : Value) → AllWritable ks → AreValid ks → among ks (deterministic k) ≡ false → IsOneOf ks k → ⊥
missed_among [] k a v e h = h
missed_among (l ∷ ks) k a v e (inl same) =
    let n = neither (bytes_eq (deterministic k) (deterministic l)) (among ks (deterministic k)) e in
    let t : bytes_eq (deterministic k) (deterministic l) ≡ true = (bytes_eq-Decides (deterministic k) (deterministic l)).1 (ap preferred (one_order same a.0 (valid_apart l v.0))) in
    let no : true ≡ false = sym t ∙ n.0 in cc
missed_among (l ∷ ks) k a v e (inr h) = missed_among ks k a.1 v.1 (neither (bytes_eq (deterministic k) (deterministic l)) (among ks (deterministic k)) e).1 h
