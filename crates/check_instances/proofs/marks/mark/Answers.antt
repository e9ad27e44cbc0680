use Rattle.std.proofs.Common.{sym, ap, ◌∙◌, not}
use Rattle.std.proofs.lemmas.Bool.{ltb-false, ltb-true}
use Rattle.check_instances.proofs.Marking.{mark_written, new_read, none_marked, none_new}
use Rattle.check_instances.proofs.marks.mark.Goals as goal

pub returns-in-Some-clause-was_new : goal.returns-in-Some-clause-was_new
returns-in-Some-clause-was_new c = ap not c.replace.ensures.value ∙ new_read c.args.marks.now.items c.args.number c.in-Some.own.now (ltb-true _ _ (sym c.in-Some.ensures.item.0)) c.in-Some.ensures.item.1

pub returns-in-Some-clause-marked : goal.returns-in-Some-clause-marked
returns-in-Some-clause-marked c = mark_written c.args.marks.now.items c.args.number c.replace.new.dest (ltb-true _ _ (sym c.in-Some.ensures.item.0)) c.replace.ensures.after

pub returns-in-None-clause-was_new : goal.returns-in-None-clause-was_new
returns-in-None-clause-was_new c = none_new c.args.marks.now.items c.args.number (ltb-false _ _ (sym c.in-None.ensures.item.0))

pub returns-in-None-clause-marked : goal.returns-in-None-clause-marked
returns-in-None-clause-marked c = none_marked c.args.marks.now.items c.args.number (ltb-false _ _ (sym c.in-None.ensures.item.0))
