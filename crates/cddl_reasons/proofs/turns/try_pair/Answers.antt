use Rattle.std.proofs.Common.{sym, subst}
use Rattle.cddl_match.proofs.Lemmas.{open_tried}
use Rattle.cddl_reasons.specs.Opened.{StandsAt}
use Rattle.cddl_reasons.proofs.turns.try_pair.Goals as goal

pub returns : goal.returns
returns c = λ l first at. subst (λ m. StandsAt l first c.args.run.now.below.items c.args.run.now.last m) (sym (c.next_entry.ensures _)) (open_tried l at)
