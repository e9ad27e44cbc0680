-- An error that is handed on.
use Rattle.std.proofs.Common.{◌≡◌, ◌∙◌, Result, Err, IfErr, ap, sym, subst}
use Rattle.std.specs.Result.{IsErrAnd}
use Rattle.std.proofs.lemmas.Result.{err_from_is_err_and}
use Rattle.cddl_check.specs.declared.stopped.Stopped.{Stopped}

pub handed : {T : Type 0} (P : Stopped → Type 0) (r : Result T Stopped) (e : Stopped) → IsErrAnd r (λ y. y ≡ e) → P e → IfErr r P
handed P r e h p = let y = err_from_is_err_and r h in subst (λ q. IfErr q P) (sym (y.1 ∙ ap Err y.2)) p
