use Rattle.std.proofs.Common.{◌∙◌, ap, string_bytes}
use Rattle.std.proofs.lemmas.Result.{IfOk-weaker}
use Rattle.mismatch_words.specs.Types.{type_words}
use Rattle.cddl_mismatch.specs.Lines.{written_or}
use Rattle.cddl_mismatch.proofs.Joining.{same_line}
use Rattle.cddl_mismatch.proofs.lines.line_at.Goals as goal

pub returns : goal.returns
returns c =
    let at = c.position_of-position.result in
    let rule = string_bytes c.in_ok-rule.rule in
    let written = c.args.place.written in
    IfOk-weaker c.reason_line.result _ _
    (λ line h. record {
      rule = rule;
      is_rule = c.in_ok-rule.ensures;
      line = at.line;
      column = at.column;
      at = c.position_of-position.ensures;
      is = same_line c.args.source.file.now c.args.found.now at.line at.column c.as_str-2.result.now rule c.args.cause c.written_or-written.result.now (written_or (type_words written.first written.first written.end c.args.source.tokens.now) c.args.other.now) (string_bytes line) h c.as_str-2.ensures.value (c.written_or-written.ensures ∙ ap (λ w. written_or w c.args.other.now) (c.as_str.ensures.value ∙ c.in_ok-written.ensures));
    })
    c.reason_line.ensures
