-- What follows is in each set that is closed under the implications.
use Rattle.std.proofs.Common.{ℕ, List}
use Rattle.graphs.specs.declared.implications.Implication.{Implication}
use Rattle.graphs.specs.Implications.Implications.{Follows, concludes, IsClosed}

pub least : (facts : ℕ) (is : List Implication) (P : ℕ → Type 0) → IsClosed facts is P → (x : ℕ) → Follows facts is x → P x
least facts is P h x (concludes place i at l first second) = h place i at l (λ p e. least facts is P h p (first p e)) (λ p e. least facts is P h p (second p e))

pub closed : (facts : ℕ) (is : List Implication) → IsClosed facts is (Follows facts is)
closed facts is = λ place i at l first second. concludes place i at l first second
