-- A type says exactly one thing of an item.
use Rattle.std.specs.Prelude.{◌≡◌, ℕ}
use Rattle.cbor_data.specs.Value.{Value}
use Rattle.cddl_meaning.specs.Forms.{Node, Language}
use Rattle.cddl_meaning.specs.Judges.{Answer, Says}

-- There is an answer, with its place where it is a no, in so many judgements; and no other, nor in another number.
pub record IsDecided {N G : Type 0} (l : Language N G) (n : Node N G) (p : ℕ) (x : Value) : Type 0 where
  pub answer : Answer
  pub weight : ℕ
  pub says : Says l n p x answer weight
  pub only : (a : Answer) (w : ℕ) → Says l n p x a w → (a ≡ answer) × (w ≡ weight)
