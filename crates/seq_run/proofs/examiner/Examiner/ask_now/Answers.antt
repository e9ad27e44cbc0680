use Rattle.std.proofs.Common.{[], ap, sym, subst, ◌∙◌}
use Rattle.cbor_data.specs.Value.{uint}
use Rattle.seq_run.specs.Ends.{Accepts}
use Rattle.seq_run.specs.Judge.{Judge, judge_of}
use Rattle.seq_run.proofs.Accepting.{mark_accepted}
use Rattle.seq_run.proofs.examiner.Examiner.ask_now.Goals as goal

pub invariant_of-self : goal.invariant_of-self
invariant_of-self c =
    let s = c.self.inside in
    let judge : Judge = judge_of s.table.now s.steps in
    let accepts : Accepts judge c.in-Some.item [] = subst (λ j. Accepts j c.in-Some.item []) (sym c.self.view_is) (c.accepts_item.ensures c.if-accepts_item.true) in
    mark_accepted judge s.accepted c.from.result c.self.invariant (subst (λ x. Accepts judge x []) (c.in-Some.ensures ∙ ap uint (sym c.from.ensures)) accepts)
