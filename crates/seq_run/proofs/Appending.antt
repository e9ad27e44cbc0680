-- Texts that are appended one after the other.
use Rattle.std.specs.Option.{option_map}
use Rattle.std.specs.Borrow.{Bor}
use Rattle.std.specs.Prelude.{Option, Some, None}
use Rattle.cbor_data.specs.Value.{Value}
use Rattle.cbor_data.specs.Notation.{notation}
use Rattle.item_nodes.specs.View.{view}
use Rattle.item_nodes.specs.declared.item.Item.{Item}
use Rattle.std.proofs.Common.{◌≡◌, ℕ, ◌<◌, ◌≤◌, ◌^◌, List, [], ◌++◌, length, take, drop, decimal, ap, ◌∙◌, append_assoc, arith}
use Rattle.std.proofs.lemmas.Fmt.{length-decimal-le}
use Rattle.std.specs.Prelude.{codes}
use Rattle.seq_run.specs.Report.{head_text}
use Rattle.std.proofs.lemmas.List.{take_at}

pub four_parts : (o p q r s a b c d : List ℕ) → p ≡ o ++ a → q ≡ p ++ b → r ≡ q ++ c → s ≡ r ++ d → s ≡ o ++ (a ++ (b ++ (c ++ d)))
four_parts o p q r s a b c d h i j k = rw (k, j, i, h) (simp append_assoc)

pub seven_parts : (o p q r s t u v a b c d e f g : List ℕ) → p ≡ o ++ a → q ≡ p ++ b → r ≡ q ++ c → s ≡ r ++ d → t ≡ s ++ e → u ≡ t ++ f → v ≡ u ++ g →
    v ≡ o ++ (a ++ (b ++ (c ++ (d ++ (e ++ (f ++ g))))))
seven_parts o p q r s t u v a b c d e f g h i j k l m n = rw (n, m, l, k, j, i, h) (simp append_assoc)

-- a number of 64 bits has 20 digits at most
pub few_digits : (n : ℕ) → n < 2 ^ 64 → length (decimal n) ≤ 20
few_digits n h = length-decimal-le 20 n (omega arith) (omega arith) h

-- a head is what was written, one part before the other
pub head_parts : (number offset : ℕ) (rest : List ℕ) → codes "item " ++ (decimal number ++ (codes " at " ++ (decimal offset ++ (codes ": " ++ rest)))) ≡ head_text number offset ++ rest
head_parts number offset rest = simp append_assoc

pub from_nothing : (o text all : List ℕ) → o ≡ [] → text ≡ o ++ all → text ≡ all
from_nothing o text all e f = f ∙ ap (λ (b : List ℕ). b ++ all) e

-- what is at a place, shown
pub shown_there : (found : Option (Bor Item)) (there : Option Value) → option_map (λ (item : Bor Item). view item.now) found ≡ there → option_map (λ (item : Bor Item). notation (view item.now)) found ≡ option_map notation there
shown_there None there e = ap (option_map notation) e
shown_there (Some item) there e = ap (option_map notation) e

-- a whole vector that was lent as a slice
pub whole_slice : (lent items new : List ℕ) (len : ℕ) → length new ≡ length lent → length lent ≡ len → take len (new ++ drop (length new) items) ≡ new
whole_slice lent items new len long all = take_at new (drop (length new) items) len (long ∙ all)
