-- A failure that is handed on.
use Rattle.std.proofs.Common.{◌≡◌, ◌∙◌, Result, Err, IfErr, ap, sym, subst}
use Rattle.std.specs.Result.{IsErrAnd}
use Rattle.std.proofs.lemmas.Result.{err_from_is_err_and}
use Rattle.cddl.specs.declared.validating.Failure.{Failure}

pub handed : {T : Type 0} (P : Failure → Type 0) (r : Result T Failure) (e : Failure) → IsErrAnd r (λ y. y ≡ e) → P e → IfErr r P
handed P r e h p = let y = err_from_is_err_and r h in subst (λ q. IfErr q P) (sym (y.1 ∙ ap Err y.2)) p

pub handed_so : {T : Type 0} (P : Failure → Type 0) (r : Result T Failure) (e : Failure) → IsErrAnd r (λ y. y ≡ e) → P e → IsErrAnd r P
handed_so P r e h p = let y = err_from_is_err_and r h in subst (λ q. IsErrAnd q P) (sym (y.1 ∙ ap Err y.2)) p
