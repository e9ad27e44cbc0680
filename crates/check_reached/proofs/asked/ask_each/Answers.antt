use Rattle.std.proofs.Common.{◌≤◌, ◌+◌, Some, refl, sym, subst, ◌∙◌, drop, drop_of_length-le, length, arith}
use Rattle.cddl_language.specs.Terms.{arguments_of}
use Rattle.check_terms.specs.Filled.{term_trees}
use Rattle.check_terms.specs.Fill.Templates.{AreTrees}
use Rattle.check_terms.specs.Table.{nothing}
use Rattle.check_terms.specs.Trees.{ref_tree}
use Rattle.check_reading.specs.Parts.{Wanted}
use Rattle.check_reached.proofs.Asking.{IsFilling, all_filled, next_filled, none_filled}
use Rattle.check_reached.proofs.asked.ask_each.Goals as goal

pub loop-call-init : goal.loop-call-init
loop-call-init c = record {
  grown = c.answers_grow.ensures.same c.args.terms.now;
  texts = refl;
  done = λ ps x refs ws is calls so. none_filled c.args.terms.now ps (record { at = c.args.at; question = c.args.question; tree = x; call = nothing }) refs ws c.args.calls.now c.args.asked.now.items calls so;
}

pub loop-call-preserved : goal.loop-call-preserved
loop-call-preserved c =
    let keeps = c.answers_grow.ensures in
    let old = c.args.terms.now in
    let now = c.loop-call.terms in
    let new = c.fill.new.terms in
    let grown = c.loop-call.invariant.grown in
    let grows = c.in_ok-row.ensures.grows in
    let i = c.loop-call.call-index in
    let call = c.call-item.result in
    record {
      grown = keeps.further old now new grown grows;
      texts = c.in_ok-row.ensures.texts ∙ c.loop-call.invariant.texts;
      done = λ ps x refs ws is calls so.
          let w : Wanted = record { at = c.args.at; question = c.args.question; tree = x; call = nothing } in
          subst (IsFilling new ps w refs ws (drop (i + 1) c.args.calls.now)) (sym c.in_ok-push.ensures) (next_filled now new (keeps.answers now new grows) (keeps.calls now new grows) ps w refs ws c.loop-call.asked.items (record { at = c.args.at; row = c.in_ok-row.row; call = call.row; question = c.args.question }) c.args.calls.now i call c.loop-call-test.true c.call-item.is (λ r h. record { at = refl; question = refl; holds = c.in_ok-row.ensures.fills ps (term_trees (arguments_of r)) x (keeps.template old now grown ps c.args.template.now x is) (subst (λ ns. AreTrees now ns (term_trees (arguments_of r))) (sym c.deref.ensures.value) h.arguments); call = keeps.tree now new grows (Some call.row) (ref_tree r) h.row }) (c.loop-call.invariant.done ps x refs ws is calls so));
    }

pub returns-clause-answers : goal.returns-clause-answers
returns-clause-answers c = λ ps x refs ws is calls so.
    let i = c.loop-call.call-index in
    let short : length c.args.calls.now ≤ i = omega (arith, c.loop-call-test.false) in
    all_filled c.loop-call.terms ps (record { at = c.args.at; question = c.args.question; tree = x; call = nothing }) refs ws (drop i c.args.calls.now) c.loop-call.asked.items (drop_of_length-le c.args.calls.now short) (c.loop-call.invariant.done ps x refs ws is calls so)
