use Rattle.std.proofs.Common.{map, option_map, string_bytes, subst}
use Rattle.cddl_mismatch.specs.Explained.{IsPlaced}
use Rattle.cddl_mismatch.proofs.Joining.{one_line_more}
use Rattle.cddl_mismatch.proofs.telling.add_line.Goals as goal

pub returns-in-Some : goal.returns-in-Some
returns-in-Some c = λ before h.
    one_line_more c.args.source.text.now c.args.source.tokens.now c.args.source.file.now (option_map (λ r. r.now) c.args.source.root) c.args.table.now c.args.sources.now c.args.item.now before (map string_bytes c.args.lines.now.items) (map string_bytes c.push_line.new.lines.items) c.args.reason.now c.in-Some.place (string_bytes c.in_ok-line-in-Some.line) c.in_ok-push_line-in-Some.ensures (subst (λ p. IsPlaced c.args.sources.now c.args.reason.now p) c.in-Some.is c.in_ok-place.ensures) c.in_ok-line-in-Some.ensures h

pub returns-in-None : goal.returns-in-None
returns-in-None c = λ before h. c.in_ok-add_root_line-in-None.ensures c.args.table.now c.args.sources.now before (subst (λ p. IsPlaced c.args.sources.now c.args.reason.now p) c.in-None.is c.in_ok-place.ensures) h
