use Rattle.std.proofs.Common.{sym, ◌∙◌, ⊎_elim, arith}
use Rattle.cddl_token.specs.Tokens.{in_comment}
use Rattle.cddl_token.proofs.gaps.comment_end.Goals as goal

pub returns-then-not-is_in_comment : goal.returns-then-not-is_in_comment
returns-then-not-is_in_comment c =
    in_comment c.requires.begins (omega arith) (omega arith) c.loop-i.invariant.holds (sym c.is_in_comment.ensures ∙ c.if-not-is_in_comment.true)
    (λ end. ⊎_elim (λ e. ⊎_elim (λ past. omega arith) c.if-b-eq10.false e) (c.is_cr_lf.ensures.no_line c.if-is_cr_lf.false) end)
