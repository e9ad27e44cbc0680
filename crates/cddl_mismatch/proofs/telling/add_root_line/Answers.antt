use Rattle.std.proofs.Common.{ap, map, option_map, string_bytes}
use Rattle.cddl_mismatch.proofs.Joining.{no_line_more, root_line_more}
use Rattle.cddl_mismatch.proofs.telling.add_root_line.Goals as goal

pub returns-in-Some : goal.returns-in-Some
returns-in-Some c = λ table sources before none h.
    root_line_more c.args.source.text.now c.args.source.tokens.now c.args.source.file.now (option_map (λ r. r.now) c.args.source.root) table sources c.args.item.now before (map string_bytes c.args.lines.now.items) (map string_bytes c.push_line.new.lines.items) c.args.reason.now c.in-Some.root.now (string_bytes c.in_ok-line-in-Some.line) c.in_ok-push_line-in-Some.ensures (ap (λ o. option_map (λ r. r.now) o) c.in-Some.is) none c.in_ok-line-in-Some.ensures h

pub returns-in-None : goal.returns-in-None
returns-in-None c = λ table sources before none h.
    no_line_more c.args.source.text.now c.args.source.tokens.now c.args.source.file.now (option_map (λ r. r.now) c.args.source.root) table sources c.args.item.now before (map string_bytes c.args.lines.now.items) c.args.reason.now (ap (λ o. option_map (λ r. r.now) o) c.in-None.is) none h
