use Rattle.std.proofs.Common.{◌≡◌, ◌-◌, ℕ, length, sym, ◌∙◌, subst, arith}
use Rattle.lists.proofs.Lemmas.{same_some}
use Rattle.tape_match.specs.Says.{PairTaken}
use Rattle.tape_match.proofs.Left.{one_more_met}
use Rattle.tape_match.proofs.before.keep.Goals as goal

pub returns-then-after-entries : goal.returns-then-after-entries
returns-then-after-entries c = λ l ws t es here many told met.
    let number : ℕ = c.args.entries - 1 - c.in-Takes.after in
    let after : c.in-Takes.after ≡ length es - 1 - number = omega (arith, many, c.if-after-entries.true) in
    one_more_met l ws t c.args.met.now c.args.index _ (λ fs is k x kon xon. subst (λ gs. PairTaken l gs k x (length gs - 1 - number) c.in-Takes.asked) (same_some (sym here ∙ is)) (subst (λ (n : ℕ). PairTaken l es k x n c.in-Takes.asked) after ((rw c.in-Takes.is at told) k x kon xon))) met
