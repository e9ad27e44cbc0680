use Rattle.std.proofs.Common.{Global, string_bytes, ◌∙◌}
use Rattle.mismatch_words.proofs.Joining.{has_as, line_put, line_there}
use Rattle.mismatch_words.proofs.lines.push_line.Goals as goal

pub returns-in_ok-push : goal.returns-in_ok-push
returns-in_ok-push c =
    let has = has_as (string_bytes {Z = Global}) c.args.lines.now.items c.as_slice.result.now c.args.line c.as_str.result.now c.has_line.result c.has_line.ensures c.as_slice.ensures.value c.as_str.ensures.value in
    line_put (string_bytes {Z = Global}) c.args.lines.now.items c.push.new.self.items c.args.line (has ∙ c.if-not-has_line.true) c.in_ok-push.ensures.items

pub returns-else-not-has_line : goal.returns-else-not-has_line
returns-else-not-has_line c =
    let has = has_as (string_bytes {Z = Global}) c.args.lines.now.items c.as_slice.result.now c.args.line c.as_str.result.now c.has_line.result c.has_line.ensures c.as_slice.ensures.value c.as_str.ensures.value in
    line_there (string_bytes {Z = Global}) c.args.lines.now.items c.args.line (has ∙ c.if-not-has_line.false)
