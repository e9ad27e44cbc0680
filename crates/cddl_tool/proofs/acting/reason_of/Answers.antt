use Rattle.cddl_tool.proofs.Refusing.{by_names}
use Rattle.cddl_tool.proofs.acting.reason_of.Goals as goal

pub returns : goal.returns
returns c = by_names c.args.options.now c.args.text.now c.args.fault _ _ c.explained.result c.file_of.ensures c.root_of.ensures c.explained.ensures
