use Rattle.std.proofs.Common.{sym}
use Rattle.cddl_language.specs.Reach.{at_name}
use Rattle.table_making.proofs.Forming.{group_name_formed, placed, type_name_formed}
use Rattle.table_making.proofs.Reaching.{reached_one}
use Rattle.table_making.proofs.types.named_form.Goals as goal

pub returns-then-is_group : goal.returns-then-is_group
returns-then-is_group c s r src is re = group_name_formed s c.args.terms.now r _ (sym (c.if-is_group.ensures s r src is)) c.nothing.ensures

pub returns-in-Some : goal.returns-in-Some
returns-in-Some c s r src is re = type_name_formed s c.args.terms.now r c.in-Some.place (sym (c.if-is_group.ensures s r src is)) (placed s.refs r c.in-Some.place (c.in-Some.ensures s r src is (reached_one s (at_name r) re)))
