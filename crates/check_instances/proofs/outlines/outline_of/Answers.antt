use Rattle.std.proofs.Common.{◌∙◌, List, ℕ, refl, sym, subst}
use Rattle.check_terms.specs.Definitions.{AreTexts}
use Rattle.check_instances.proofs.outlines.outline_of.Goals as goal

pub returns-clause-outline : goal.returns-clause-outline
returns-clause-outline c = λ x h.
    let keeps = c.growing_keeps.ensures in
    let old = c.args.terms.now in
    let new = c.outline_body.new.terms in
    let grows = c.in_ok-body.ensures.grows in
    let it = c.in_ok-body.ensures.outline x.body x.parameters h.body in
    record {
      outline = record { name = x.name; parameters = x.parameters; sign = x.sign; body = it.body };
      holds = record {
        name = grows.texts c.args.definition.now.name x.name h.name;
        parameters = subst (λ (ns : List ℕ). AreTexts new.texts ns x.parameters) (sym (c.in_ok-parameters.ensures ∙ c.deref.ensures.value)) (keeps.texts old new grows c.args.definition.now.parameters.items x.parameters h.parameters);
        sign = h.sign;
        body = it.holds;
      };
      is_outline = record { name = refl; parameters = refl; sign = refl; among = it.among };
    }
