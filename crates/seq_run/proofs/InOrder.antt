-- The deterministic bytes of items, one after the other.
use Rattle.std.proofs.Common.{◌≡◌, ℕ, suc, ◌↔◌, List, [], ◌∷◌, ◌++◌, refl, sym, ap, ap₂, ◌∙◌, lit<}
use Rattle.std.proofs.lemmas.List.{append_cancel_left}
use Rattle.cbor_data.specs.Value.{Value, uint}
use Rattle.cbor_data.specs.Equivalence.{IsSame}
use Rattle.cbor_data.specs.Forms.{Spells}
use Rattle.cbor_data.specs.Deterministic.{deterministic, ordered}
use Rattle.cbor_data.specs.Sequence.{Found}
use Rattle.cbor_data.specs.Sound.{IsSound}
use Rattle.cbor_data.specs.Writable.{IsWritable}
use Rattle.cbor_data.proofs.Lemmas.{sound_writable}
use Rattle.seq_run.specs.declared.output.Mode.TheVariants as mode
use Rattle.seq_run.specs.Answers.{items_of}
use Rattle.seq_run.specs.Output.{items_output}
use Rattle.seq_run.specs.Written.{AreSameItems, AreSound, deterministic_bytes}

pub output_in_order : (number : ℕ) (found : List Found) → items_output mode.Deterministic number found ≡ deterministic_bytes (items_of found)
output_in_order number [] = refl
output_in_order number (f ∷ fs) = ap (λ (b : List ℕ). deterministic f.item ++ b) (output_in_order (suc number) fs)

module _ (same_if : (x y : Value) → IsSound x → IsSound y → (IsSame x y ↔ (deterministic x ≡ deterministic y))) where
  pub one_rewriting : (xs ys : List Value) → AreSound xs → AreSound ys → AreSameItems xs ys → deterministic_bytes xs ≡ deterministic_bytes ys
  one_rewriting [] [] s t h = refl
  one_rewriting [] (y ∷ ys) s t h = absurd h
  one_rewriting (x ∷ xs) [] s t h = absurd h
  one_rewriting (x ∷ xs) (y ∷ ys) s t h = ap₂ ◌++◌ ((same_if x y s.0 t.0).0 h.0) (one_rewriting xs ys s.1 t.1 h.1)

  -- bytes spell one item at most, and no spelling begins another
  module _ (spells : (x : Value) → IsWritable x → Spells (ordered x) (deterministic x))
      (one : (x y : Value) (a r b s : List ℕ) → Spells x a → Spells y b → a ++ r ≡ b ++ s → (a ≡ b) × (x ≡ y)) where
    front : (x y : Value) → IsSound x → IsSound y → (r s : List ℕ) → deterministic x ++ r ≡ deterministic y ++ s → deterministic x ≡ deterministic y
    front x y s t r u e = (one (ordered x) (ordered y) (deterministic x) r (deterministic y) u (spells x (sound_writable x s)) (spells y (sound_writable y t)) e).0

    zero : Spells (uint 0) (0 ∷ [])
    zero = spells (uint 0) (record { in_range = lit< tt; fitting = tt; assignable = tt; counts = tt })

    -- nothing would begin the spelling of zero
    never_nothing : (x : Value) → IsSound x → deterministic x ≡ [] → ⊥
    never_nothing x s e =
        let there : deterministic x ≡ 0 ∷ [] = (one (ordered x) (uint 0) (deterministic x) (0 ∷ []) (0 ∷ []) [] (spells x (sound_writable x s)) zero (ap (λ (b : List ℕ). b ++ (0 ∷ [])) e)).0 in
        let never : [] ≡ 0 ∷ [] = sym e ∙ there in
        absurd (cc)

    never_at_end : (x : Value) → IsSound x → (r : List ℕ) → deterministic x ++ r ≡ [] → ⊥
    never_at_end x s r e = never_nothing x s (nothing_first (deterministic x) r e)
      where
        nothing_first : (a b : List ℕ) → a ++ b ≡ [] → a ≡ []
        nothing_first [] b e = refl
        nothing_first (n ∷ a) b e = absurd (cc)

    pub same_by_rewriting : (xs ys : List Value) → AreSound xs → AreSound ys → deterministic_bytes xs ≡ deterministic_bytes ys → AreSameItems xs ys
    same_by_rewriting [] [] s t e = tt
    same_by_rewriting [] (y ∷ ys) s t e = absurd (never_at_end y t.0 (deterministic_bytes ys) (sym e))
    same_by_rewriting (x ∷ xs) [] s t e = absurd (never_at_end x s.0 (deterministic_bytes xs) e)
    same_by_rewriting (x ∷ xs) (y ∷ ys) s t e =
        let first : deterministic x ≡ deterministic y = front x y s.0 t.0 (deterministic_bytes xs) (deterministic_bytes ys) e in
        let rest : deterministic_bytes xs ≡ deterministic_bytes ys =
        append_cancel_left (deterministic y) (deterministic_bytes xs) (deterministic_bytes ys) (ap (λ (b : List ℕ). b ++ deterministic_bytes xs) (sym first) ∙ e) in
        ((same_if x y s.0 t.0).1 first, same_by_rewriting xs ys s.1 t.1 rest)
