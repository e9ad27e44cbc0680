use Rattle.std.proofs.Common.{List, ◌++◌, sym, ap, subst}
use Rattle.lists.proofs.Lemmas.{on_ok}
use Rattle.check_reading.specs.Parts.{Wanted}
use Rattle.check_reached.specs.Asked.{AreAnswers}
use Rattle.check_reached.specs.Runs.{AreCalls}
use Rattle.check_reached.proofs.Parting.{part_wanted}
use Rattle.check_reached.proofs.asked.ask_part.Goals as goal

pub returns-clause-answers : goal.returns-clause-answers
returns-clause-answers c = on_ok c.ask_each.result _ _ (λ h ps refs ws w run is so.
    let template = c.in_ok-template.ensures run.numbers ps w.1.tree run.places run.parameters is.holds in
    subst (AreAnswers c.ask_each.new.terms c.ask_each.new.asked.items) (ap (λ (vs : List Wanted). ws ++ vs) (part_wanted ps refs c.args.part.at c.args.part.question w.1 is.at is.question)) (h ps w.1.tree refs ws template (subst (λ cs. AreCalls c.args.terms.now cs refs) (sym c.deref.ensures.value) run.calls) so)) c.ask_each.ensures.answers
