use Rattle.std.proofs.Common.{◌≡◌, ◌↔◌, true, subst, sym}
use Rattle.std.proofs.lemmas.Option.{slice_get-get_or}
use Rattle.lists.proofs.Lemmas.{test_not_less as not_below}
use Rattle.alternatives.specs.declared.Part.TheVariants.{Refused}
use Rattle.alternatives.specs.Summaries.{OccursBadly}
use Rattle.alternatives.proofs.Asked.{is_bad, none_bad}
use Rattle.alternatives.proofs.occurs_badly.Goals as goal

pub returns-then-number-parts : goal.returns-then-number-parts
returns-then-number-parts c = λ are. subst (λ b. (b ≡ true) ↔ OccursBadly c.args.parts.now c.args.number) (sym c.is_bad.ensures) (is_bad c.args.parts.now c.args.summaries.now are c.args.number _ (slice_get-get_or c.args.parts.now c.args.number Refused c.if-number-parts.true))

pub returns-else-number-parts : goal.returns-else-number-parts
returns-else-number-parts c = λ are. subst (λ b. (b ≡ true) ↔ OccursBadly c.args.parts.now c.args.number) (sym (not_below _ _ c.if-number-parts.false)) (none_bad c.args.parts.now c.args.summaries.now are c.args.number c.if-number-parts.false)
