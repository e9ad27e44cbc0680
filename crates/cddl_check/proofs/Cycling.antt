-- Where something is on a cycle, a fault is told of it.
use Rattle.std.proofs.Common.{ℕ, Option, Some, None, refl}
use Rattle.std.specs.Option.{unwrap_or}
use Rattle.cddl_language.specs.Faults.{HasRecursion, Specification, at_rule, definitions, without_rule}
use Rattle.cddl_language.specs.Free.{IsOnCycle, LeadsBack}
use Rattle.cddl_language.specs.Reach.{Point}
use Rattle.cddl_language.specs.Terms.{Text}
use Rattle.lists.specs.Least.{IsLeast}

pub none_told : (s : Specification) (root : Text) → ((p : Point) → LeadsBack (definitions s) root p → ⊥) → IsLeast (HasRecursion s root) None
none_told s root none at (at_rule on e) = none on.point on.cycle.back
none_told s root none at (without_rule {p = p} cycle no_rule e) = none p cycle.back

module _ (s : Specification) (root : Text) (p : Point) (cycle : IsOnCycle (definitions s) root p) where
  -- A rule on a cycle would be told; and where there is none, the point itself.
  some_told : IsLeast (HasRecursion s root) None → ⊥
  some_told none = none _ (without_rule cycle (λ r on. none _ (at_rule on refl)) refl)

  pub told_first : (first : Option ℕ) → IsLeast (HasRecursion s root) first → IsLeast (HasRecursion s root) (Some (unwrap_or first 0))
  told_first (Some at) h = h
  told_first None h = absurd (some_told h)
