use Rattle.std.proofs.Common.{sym, subst, ◌∙◌}
use Rattle.std.proofs.lemmas.Result.{IfOk-weaker}
use Rattle.cddl_language.specs.Terms.{call, term_list}
use Rattle.cddl_language.specs.Substitution.{bodies}
use Rattle.check_terms.specs.Filled.{term_trees}
use Rattle.check_terms.specs.Trees.{IsRef}
use Rattle.check_terms.specs.Fill.Templates.{AreTrees}
use Rattle.check_instances.specs.Bodies.{AreBodies}
use Rattle.check_instances.proofs.Meaning.{ref_parts, text_number}
use Rattle.check_instances.proofs.bodies.bodies_of.Goals as goal

pub returns-clause-stand : goal.returns-clause-stand
returns-clause-stand c = IfOk-weaker c.fill_name.result _ _ (λ v h xs r means is. elim r as (λ q. IsRef c.args.terms.now c.args.call q → AreBodies c.fill_name.new.terms v.items (bodies xs q)) [
  | call n ts ↦ λ it.
      let t = c.args.terms.now in
      let parts = ref_parts t c.args.call c.in-Some.row n ts (sym c.row.ensures ∙ c.in-Some.is) it in
      let number = text_number t.texts c.in-Some.row.text n parts.0 in
      h xs n (term_list ts) (means.stand t (record { texts = λ k x e. e; rows = λ k x e. e }) c.is_table.ensures number.0 n c.in-Some-name_at.name.now number.2 (sym (c.in-Some-name_at.ensures number.0 number.1))) means.of_prelude means.of_text (subst (λ ns. AreTrees t ns (term_trees (term_list ts))) (sym c.deref.ensures.value) (c.in_ok-arguments.ensures ts parts.1))
] is) c.fill_name.ensures.stand
