use Rattle.std.proofs.Common.{◌≤◌, refl, ◌∙◌, sym, subst, drop, drop_of_length-le, length, slice_get, arith}
use Rattle.check_names.specs.Environment.Places.{lists}
use Rattle.check_reading.specs.Parts.{Placed}
use Rattle.check_reached.specs.Asked.{wanted_placed}
use Rattle.check_reached.specs.Runs.{IsRunFor}
use Rattle.check_reached.proofs.Asking.{IsGoing, all_gone, none_gone, ready_kept, still_run}
use Rattle.check_reached.proofs.Parting.{as_many, part_gone}
use Rattle.check_reached.proofs.asked.ask_all.Goals as goal

pub loop-part-init : goal.loop-part-init
loop-part-init c = record {
  grown = c.answers_grow.ensures.same c.args.terms.now;
  texts = refl;
  serves = λ rs refs ready. subst (λ k. IsRunFor c.args.terms.now refs (slice_get rs k) c.in_ok-run.run') (sym c.in_ok-run.ensures.rule) (c.in_ok-run.ensures.serves rs refs ready);
  done = λ rs refs ws ready are. subst (IsGoing Placed (wanted_placed rs refs) ws c.args.terms.now ws) (sym c.new-asked.ensures.items) (none_gone Placed (wanted_placed rs refs) ws c.args.terms.now);
}

pub loop-part-preserved : goal.loop-part-preserved
loop-part-preserved c =
    let keeps = c.answers_grow.ensures in
    let old = c.args.terms.now in
    let now = c.loop-part.terms in
    let new = c.ask_part.new.terms in
    let grown = c.loop-part.invariant.grown in
    let grows = c.in_ok-ask_part.ensures.grows in
    let run = c.renew.new.run in
    record {
      grown = keeps.further old now new grown grows;
      texts = c.in_ok-ask_part.ensures.texts ∙ c.loop-part.invariant.texts;
      serves = λ rs refs ready. subst (λ k. IsRunFor new refs (slice_get rs k) run) (sym c.in_ok-renew.ensures.rule) (still_run now new (keeps.run now new grows) refs _ run (c.in_ok-renew.ensures.serves rs refs (ready_kept old now rs refs (lists c.args.calls.now) c.args.definitions.now (keeps.texts old now grown) (keeps.trees old now grown) ready) (c.loop-part.invariant.serves rs refs ready)));
      done = λ rs refs ws ready are. part_gone old now new rs refs run c.args.parts.now ws c.loop-part.part-index _ c.loop-part.asked.items c.ask_part.new.asked.items c.loop-part-test.true are (keeps.tree old now grown) (c.in_ok-renew.ensures.serves rs refs (ready_kept old now rs refs (lists c.args.calls.now) c.args.definitions.now (keeps.texts old now grown) (keeps.trees old now grown) ready) (c.loop-part.invariant.serves rs refs ready)) c.in_ok-ask_part.ensures.answers (c.loop-part.invariant.done rs refs ws ready are);
    }

pub returns-clause-answers : goal.returns-clause-answers
returns-clause-answers c = λ rs refs ws ready are.
    let i = c.loop-part.part-index in
    let many = as_many c.args.terms.now c.args.parts.now ws are in
    let short : length ws ≤ i = omega (arith, c.loop-part-test.false, many) in
    all_gone Placed (wanted_placed rs refs) ws c.loop-part.terms (drop i ws) c.loop-part.asked.items (drop_of_length-le ws short) (c.loop-part.invariant.done rs refs ws ready are)
