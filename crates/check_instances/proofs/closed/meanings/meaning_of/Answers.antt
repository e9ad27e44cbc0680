use Rattle.std.proofs.Common.{List, Some, sym, subst}
use Rattle.cddl_language.specs.Substitution.{bodies, type_choices}
use Rattle.check_terms.specs.declared.definition.Body.{Body}
use Rattle.check_terms.specs.Trees.{ref_tree, term_tree}
use Rattle.check_instances.specs.Bodies.{AreBodies}
use Rattle.check_instances.specs.Closed.Closed.{TermRow}
use Rattle.check_instances.proofs.OfClosed.Alike.{alike_kept}
use Rattle.check_instances.proofs.closed.meanings.meaning_of.Goals as goal

pub returns-clause-means : goal.returns-clause-means
returns-clause-means c = λ xs r is.
    let old = c.args.terms.now in
    let new = c.group_of.new.terms in
    let keeps = c.growing_keeps.ensures.tree old new c.in_ok-group.ensures.grows in
    let means = bodies xs r in
    record {
      ref = keeps (Some c.args.instance.now.call) (ref_tree r) is.ref;
      types = alike_kept (TermRow old) (TermRow new) (λ x n h. keeps (Some n) (term_tree x) h) (type_choices xs r) c.in_ok-types.types.items (c.in_ok-types.ensures means (subst (λ (bs : List Body). AreBodies old bs means) (sym c.deref.ensures.value) is.means));
      group = c.in_ok-group.ensures.stands means (subst (λ (bs : List Body). AreBodies old bs means) (sym c.deref-2.ensures.value) is.means);
    }
