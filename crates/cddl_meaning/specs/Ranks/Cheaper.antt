-- What is counted by keys is no more than the weight.
use Rattle.std.specs.Prelude.{◌≡◌, ℕ, ◌≤◌}
use Rattle.cbor_data.specs.Value.{Value}
use Rattle.cddl_meaning.specs.Forms.{Node, Language}
use Rattle.cddl_meaning.specs.Judges.{Answer, Says}
use Rattle.cddl_meaning.specs.Costs.{weighed}

-- There is one answer, at one place, whichever is counted, and one cost and one weight; and the cost is not over the weight.
pub record IsCheaper {N G : Type 0} (l : Language N G) (n : Node N G) (p : ℕ) (x : Value) : Type 0 where
  pub answer : Answer
  pub cost : ℕ
  pub weight : ℕ
  pub says : Says l n p x answer cost
  pub weighs : Says (weighed l) n p x answer weight
  pub cheaper : cost ≤ weight
  pub only : (a : Answer) (c : ℕ) → Says l n p x a c → (a ≡ answer) × (c ≡ cost)
  pub only_weight : (a : Answer) (w : ℕ) → Says (weighed l) n p x a w → (a ≡ answer) × (w ≡ weight)
