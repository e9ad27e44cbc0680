use Rattle.std.proofs.Common.{[], map, option_map, string_bytes, subst, sym}
use Rattle.cddl_mismatch.specs.Explained.{AreLines, no_reason}
use Rattle.cddl_mismatch.proofs.Joining.{take_one_more}
use Rattle.cddl_mismatch.proofs.telling.lines_of.Goals as goal

pub reason-init : goal.reason-init
reason-init c = subst (λ ls. AreLines c.args.source.text.now c.args.source.tokens.now c.args.source.file.now (option_map (λ r. r.now) c.args.source.root) c.args.table.now c.args.sources.now c.args.item.now [] (map string_bytes ls)) (sym c.new-lines.ensures.items) no_reason

pub reason-preserved : goal.reason-preserved
reason-preserved c = subst (λ rs. AreLines c.args.source.text.now c.args.source.tokens.now c.args.source.file.now (option_map (λ r. r.now) c.args.source.root) c.args.table.now c.args.sources.now c.args.item.now rs (map string_bytes c.add_line.new.lines.items)) (sym (take_one_more c.args.reasons.now c.reason.k c.reason_at.result.now c.reason_at.ensures)) (c.in_ok-add_line.ensures _ c.reason.invariant)
