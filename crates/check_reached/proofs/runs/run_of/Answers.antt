use Rattle.std.proofs.Common.{map, option_copied, option_map, sym, ap, subst, ◌∙◌}
use Rattle.std.proofs.lemmas.Result.{IfOk-weaker}
use Rattle.check_names.specs.Environment.Places.{lists}
use Rattle.check_terms.specs.Fill.Slots.{ArePlacesOf}
use Rattle.check_terms.specs.Fill.Templates.{AreTrees}
use Rattle.check_terms.specs.Trees.{ref_tree}
use Rattle.check_reached.proofs.Asking.{no_definition, no_list, run_made}
use Rattle.check_reached.proofs.runs.run_of.Goals as goal

pub returns-in_default-clause-serves : goal.returns-in_default-clause-serves
returns-in_default-clause-serves c = IfOk-weaker c.empty_run.result _ _ (λ run h rs refs ready. no_definition c.args.terms.now rs refs (lists c.args.calls.now) c.args.definitions.now ready c.args.rule run (sym c.definition_at.ensures ∙ ap option_copied c.in_default.is) (h c.args.terms.now)) c.empty_run.ensures.serves

pub returns-in_default-calls_of-clause-serves : goal.returns-in_default-calls_of-clause-serves
returns-in_default-calls_of-clause-serves c = IfOk-weaker c.empty_run-in_default-calls_of.result _ _ (λ run h rs refs ready. no_list c.args.terms.now rs refs (lists c.args.calls.now) c.args.definitions.now ready c.args.rule run c.in-Some.definition.now (sym c.in-Some.ensures) (sym c.calls_of.ensures ∙ ap (option_map (λ v. v.now.items)) c.in_default-calls_of.is) (h c.args.terms.now)) c.empty_run-in_default-calls_of.ensures.serves

pub returns-clause-serves : goal.returns-clause-serves
returns-clause-serves c = λ rs refs ready.
    let t = c.args.terms.now in
    let definition = c.in-Some.definition.now in
    run_made t rs refs (lists c.args.calls.now) c.args.definitions.now ready c.args.rule (record { rule = c.args.rule; slots = c.in_ok-slots.slots; calls = c.in_ok-calls.calls }) definition c.in-Some-calls_of.rows.now.items (sym c.in-Some.ensures) (sym c.in-Some-calls_of.ensures) (subst (ArePlacesOf c.in_ok-slots.slots) c.deref.ensures.value c.in_ok-slots.ensures) (λ qs h. c.in_ok-calls.ensures qs (subst (λ ns. AreTrees t ns (map ref_tree qs)) (sym c.deref-2.ensures.value) h))
