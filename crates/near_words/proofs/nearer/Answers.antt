use Rattle.std.proofs.Common.{◌≡◌, [], ◌∷◌, ◌++◌, Some, None, ◌∙◌, refl, sym, subst}
use Rattle.near_words.specs.Near.{near_edits, IsNear}
use Rattle.near_words.proofs.Steps.{first_near, nearer_than, no_nearer_than, not_near}
use Rattle.near_words.proofs.nearer.Goals as goal
use Rattle.near_words.proofs.nearer.Goals.{in_default-best-via-in-Some-best+else-near-edits, in_default-best-via-in_default-best}

pub returns-in_default : goal.returns-in_default
returns-in_default c = λ ws h.
    let e : near_edits c.args.word.now c.args.candidate.now ≡ None = sym c.in_ok-edits.ensures ∙ c.in_default.is in
    not_near c.args.word.now c.args.candidate.now ws c.args.best e h

pub returns-in-Some-best : goal.returns-in-Some-best
returns-in-Some-best c = λ ws h.
    let e : near_edits c.args.word.now c.args.candidate.now ≡ Some c.in-Some.edits = sym c.in_ok-edits.ensures ∙ c.in-Some.is in
    let b : c.args.best ≡ Some c.in-Some-best.near = cc in
    subst (λ o. IsNear c.args.word.now (ws ++ c.args.candidate.now ∷ []) o) (sym b)
    (no_nearer_than c.args.word.now c.args.candidate.now ws c.in-Some-best.near c.in-Some.edits e c.if-near-edits.true (subst (λ o. IsNear c.args.word.now ws o) b h))

pub returns-in_default-best : goal.returns-in_default-best
returns-in_default-best c = λ ws h.
    let e : near_edits c.args.word.now c.args.candidate.now ≡ Some c.in-Some.edits = sym c.in_ok-edits.ensures ∙ c.in-Some.is in
    elim c.in_default-best.branch [
      | in_default-best-via-in-Some-best+else-near-edits w ↦
          let b : c.args.best ≡ Some w.in-Some-best.near = cc in
          nearer_than c.args.word.now c.args.candidate.now ws w.in-Some-best.near (record { text = c.args.candidate; edits = c.in-Some.edits }) e refl w.if-near-edits.false (subst (λ o. IsNear c.args.word.now ws o) b h)
      | in_default-best-via-in_default-best w ↦
          let b : c.args.best ≡ None = cc in
          first_near c.args.word.now c.args.candidate.now ws (record { text = c.args.candidate; edits = c.in-Some.edits }) e refl (subst (λ o. IsNear c.args.word.now ws o) b h)
    ]
