use Rattle.std.proofs.lemmas.Result.{IfOk-weaker}
use Rattle.cddl_language.specs.Reach.{at_choice}
use Rattle.cddl_language.specs.Substitution.{group_choices}
use Rattle.table_making.proofs.Forming.{by_name_chosen, by_name_none, placed}
use Rattle.table_making.proofs.Reaching.{reached_one}
use Rattle.table_making.proofs.types.named_choice_form.Goals as goal

pub returns-in-Some-group_at : goal.returns-in-Some-group_at
returns-in-Some-group_at c = IfOk-weaker c.choice_form.result _ _ (λ f h s r src is re.
    let t = c.args.terms.now in
    let reaches = reached_one s (at_choice r) re in
    let here = placed s.refs r c.in-Some.place (c.in-Some.ensures s r src is reaches) in
    by_name_chosen s t (group_choices s.definitions r) c.in-Some-group_at.group _ (c.in-Some-group_at.ensures s t r src here) (λ g e it. h s g src it (c.known_instances.ensures.group s t c.args.source.now src r reaches g e))) c.choice_form.ensures

pub returns-in-None : goal.returns-in-None
returns-in-None c s r src is re =
    let t = c.args.terms.now in
    let reaches = reached_one s (at_choice r) re in
    let here = placed s.refs r c.in-Some.place (c.in-Some.ensures s r src is reaches) in
    by_name_none s t (group_choices s.definitions r) _ (c.in-None.ensures s t r src here) c.nothing.ensures
