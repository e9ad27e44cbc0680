use Rattle.std.proofs.Common.{string_bytes}
use Rattle.std.proofs.lemmas.Result.{IfOk-weaker}
use Rattle.text_shown.specs.Shown.{shown}
use Rattle.cddl_explain.specs.Names.{name_of}
use Rattle.cddl_explain.proofs.Refused.{told_same}
use Rattle.cddl_explain.proofs.refusals.explained_place.Goals as goal

pub returns : goal.returns
returns c =
    let part = c.part_of-part.result in
    IfOk-weaker c.format.result _ _
    (λ told h. record {
      part = part;
      line = c.position_of-position.result.line;
      column = c.position_of-position.result.column;
      pointed = string_bytes c.in_ok-pointed.pointed;
      wrong = string_bytes c.in_ok-wrong.wrong;
      is_part = c.part_of-part.ensures.part;
      is_at = c.position_of-position.ensures;
      points = c.in_ok-pointed.ensures;
      is_wrong = c.in_ok-wrong.ensures;
      is = told_same (string_bytes told) (string_bytes c.in_ok-file.file) (shown c.args.file.now) c.name-name.result.now (name_of c.args.code) (string_bytes c.in_ok-pointed.pointed)
          (string_bytes c.in_ok-wrong.wrong) c.position_of-position.result.line c.position_of-position.result.column h c.in_ok-file.ensures c.name-name.ensures;
    })
    c.format.ensures.ok
