use Rattle.std.proofs.Common.{◌≡◌, true, false, subst, ap}
use Rattle.std.proofs.lemmas.Bool.{false_from_ne_true}
use Rattle.std.proofs.lemmas.Str.{IsUtf8-had, is_utf8-from_IsUtf8, IsUtf8-from_is_utf8}
use Rattle.std.specs.String.{string_bytes}
use Rattle.std.specs.Str.{is_utf8}
use Rattle.cddl_literal.proofs.operators.joins.text_of.Goals as goal

pub returns-in-Ok : goal.returns-in-Ok
returns-in-Ok c =
    let same : string_bytes c.in-Ok.text ≡ c.args.bytes.items = ap (λ v. v.items) c.in-Ok.ensures.ok in
    let good : is_utf8 c.args.bytes.items ≡ true = subst (λ b. is_utf8 b ≡ true) same (is_utf8-from_IsUtf8 _ (IsUtf8-had (string_bytes c.in-Ok.text) c.in-Ok.text.ok)) in
    rw (good, same)

pub returns : goal.returns
returns c =
    let bad : is_utf8 c.args.bytes.items ≡ false = false_from_ne_true _ (λ good. let h = c.in-Err.ensures.succeeds (IsUtf8-from_is_utf8 _ good) in cc) in
    rw bad
