use Rattle.std.proofs.Common.{sym, subst}
use Rattle.match_moves.specs.Views.{question_view}
use Rattle.cddl_reasons.specs.Told.{IsEntryOf}
use Rattle.cddl_reasons.proofs.telling.tell_counts.Goals as goal

pub returns : goal.returns
returns c = λ first at a. c.in_ok-tell_entries.ensures first (λ e es h. subst (λ q. IsEntryOf (question_view q) c.args.far e es) (sym c.in-OfAlternative.is) (c.if-far-base.false, h)) at a
