use Rattle.std.proofs.Common.{length, sym, subst}
use Rattle.cddl_literal.specs.Literals.{IsText}
use Rattle.check_literals.proofs.values.strings.text_in.Goals as goal

pub returns-then-not-is_quoted : goal.returns-then-not-is_quoted
returns-then-not-is_quoted c = λ v h. c.is_quoted.ensures.otherwise c.if-not-is_quoted.true v (subst (λ s. IsText s 0 (length s) v) (sym c.as_bytes.ensures.value) h)

pub returns : goal.returns
returns c =
    let some = c.is_quoted.ensures.yes c.if-not-is_quoted.false in
    let here = subst (λ s. IsText s 0 (length s) some.0) c.as_bytes.ensures.value some.1 in
    subst (IsText c.args.text.now 0 (length c.args.text.now)) (sym (rw c.in_ok-value.was at (c.text_value.ensures some.0 here))) here
