use Rattle.std.proofs.Common.{suc, sym, append-nil}
use Rattle.seq_run.proofs.Smalls.{smalls_quiet, smalls_rewritten, smalls_ordered}
use Rattle.seq_run.proofs.output.push_smalls.Goals as goal

pub returns-in-EndLine : goal.returns-in-EndLine
returns-in-EndLine c = rw (c.in-EndLine.is, smalls_quiet (suc c.args.before) c.args.offset c.args.numbers.now) (sym (append-nil c.args.out.now))

pub returns-in-Rewrite : goal.returns-in-Rewrite
returns-in-Rewrite c = rw (c.in-Rewrite.is, smalls_rewritten (suc c.args.before) c.args.offset c.args.numbers.now c.requires.small) c.push.ensures

pub returns-in-Deterministic : goal.returns-in-Deterministic
returns-in-Deterministic c = rw (c.in-Deterministic.is, smalls_ordered (suc c.args.before) c.args.offset c.args.numbers.now c.requires.small) c.push-in-Deterministic.ensures
