use Rattle.std.proofs.Common.{subst, ◌∙◌}
use Rattle.check_instances.specs.Closed.Closed.{TermRow}
use Rattle.cddl_meaning.specs.Alike.{AlikeAll}
use Rattle.cddl_language.specs.Substitution.{type_choices}
use Rattle.table_making.proofs.Forming.{choice_formed, row_list, same_meaning}
use Rattle.table_making.proofs.Knowing.{each_contained}
use Rattle.table_making.proofs.Reaching.{instance_reached}
use Rattle.table_making.proofs.types.instance_form.Goals as goal

pub returns-in-Ok : goal.returns-in-Ok
returns-in-Ok c s t r src e =
    let reaches = instance_reached s src.closed.instances.only c.args.place r e in
    let m = c.meaning_at.ensures s.definitions s.root s.refs t c.args.source.now.closed.now c.args.place r src.closed e in
    let same = same_meaning _ _ _ m.1 c.in-Some.ensures in
    choice_formed s t (type_choices s.definitions r) c.in-Some.meaning.now.types.items c.in-Ok.origins.items (each_contained s (type_choices s.definitions r) (λ x h. c.known_instances.ensures.types s t c.args.source.now src r reaches x h)) (subst (λ y. AlikeAll (TermRow t) (type_choices s.definitions r) y.types.items) same (m.2).types) (c.in-Ok.ensures ∙ row_list c.deref.ensures.value)
