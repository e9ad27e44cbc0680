use Rattle.std.proofs.Common.{Some, None, ◌≡◌, subst}
use Rattle.near_words.specs.Near.{IsNear}
use Rattle.near_words.proofs.text_of.Goals as goal

pub returns-in-Some : goal.returns-in-Some
returns-in-Some c = λ word ws h.
    let b : c.args.best ≡ Some c.in-Some.near = cc in
    (c.in-Some.near.edits, subst (λ o. IsNear word ws o) b h)

pub returns-in-None : goal.returns-in-None
returns-in-None c = λ word ws h.
    let b : c.args.best ≡ None = cc in
    subst (λ o. IsNear word ws o) b h
