use Rattle.std.proofs.Common.{sym, ap, ⊎_elim}
use Rattle.std.specs.Result.{result_ok}
use Rattle.cddl_literal.specs.Prefixed.{hex_bytes}
use Rattle.cddl_literal.proofs.prefixed.hex_bytes.Goals as goal

pub returns-in-Ok : goal.returns-in-Ok
unfolding hex_bytes
returns-in-Ok c = sym (ap result_ok c.in-Ok.ensures.ok)

pub returns-in_default : goal.returns-in_default
unfolding hex_bytes
returns-in_default c = ⊎_elim (λ e. absurd (c.in_default.not-OutOfMemory e)) (λ e. sym (ap result_ok e)) c.in-Err.ensures.err
