use Rattle.seq_run.specs.Running.{change_of}
use Rattle.cddl_tool.proofs.Refusing.{turned_down}
use Rattle.cddl_tool.proofs.acting.ready.Goals as goal

pub returns-in-Err-clause-refused : goal.returns-in-Err-clause-refused
returns-in-Err-clause-refused g c =
    turned_down c.args.options.now _ _ _ _ (change_of g.E.Write.contents c.args.err.now c.say_unread.new.err) _ c.specification_for-text.ensures c.root_of.ensures c.say_unread.ensures c.in-Err.ensures.unread
