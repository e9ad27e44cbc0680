use Rattle.std.proofs.Common.{◌⊎◌, sym, subst}
use Rattle.std.specs.List.{Contains}
use Rattle.all_offsets.specs.Offsets.{AreOf}
use Rattle.all_offsets.proofs.Lists.{moved_of, of_both}
use Rattle.all_offsets.proofs.of_both.Goals as goal

pub returns-clause-each : goal.returns-clause-each
returns-clause-each c =
    let xs = c.args.first.items in
    let ys = c.args.second.now in
    let together = of_both (Contains xs) (Contains ys) xs ys (λ p. (λ h. h, λ h. h)) (λ p. (λ h. h, λ h. h)) in
    moved_of (λ p. Contains xs p ⊎ Contains ys p) _ _ c.sort.ensures.same (subst (AreOf (λ p. Contains xs p ⊎ Contains ys p)) (sym c.in_ok-extend_from_slice.ensures.items) together)
