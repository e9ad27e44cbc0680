use Rattle.std.proofs.Common.{◌≡◌, ◌∙◌, ap, rules, string_bytes}
use Rattle.std.proofs.lemmas.Result.{IfOk-weaker}
use Rattle.cddl_explain.specs.Hints.{defined_names, part_text}
use Rattle.cddl_explain.specs.Meant.{name_words}
use Rattle.cddl_explain.proofs.Hinting.{among_same}
use Rattle.cddl_explain.proofs.hints.name_hint.Goals as goal

pub returns : goal.returns
returns c =
    let text = part_text c.args.text.now c.args.part in
    let read : string_bytes c.in_ok-name.name ≡ part_text c.args.text.now c.args.part = search rules in
    let other = c.as_str-3.ensures.value ∙ (c.in_ok-other.ensures ∙ ap (λ n. name_words n c.args.after.now) (c.as_str.ensures.value ∙ read)) in
    IfOk-weaker c.defined_hint.result _ _
    (λ told h. among_same (defined_names c.args.tokens.now) c.as_str-2.result.now text c.as_str-3.result.now (name_words text c.args.after.now) (string_bytes told) (c.as_str-2.ensures.value ∙ read) other h)
    c.defined_hint.ensures
