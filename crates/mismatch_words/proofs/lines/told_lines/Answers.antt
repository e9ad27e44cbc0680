use Rattle.std.proofs.Common.{Global, string_bytes}
use Rattle.std.proofs.lemmas.Result.{IfOk-weaker}
use Rattle.mismatch_words.proofs.Joining.{told_same}
use Rattle.mismatch_words.proofs.lines.told_lines.Goals as goal

pub returns : goal.returns
returns c =
    IfOk-weaker c.format.result _ _
    (λ told h. told_same (string_bytes {Z = Global}) c.args.lines.now c.min-count.result c.args.others (string_bytes c.in_ok-told.told) (string_bytes c.in_ok-more.more) (string_bytes told) c.min-count.ensures c.in_ok-told.ensures c.in_ok-more.ensures h)
    c.format.ensures.ok
