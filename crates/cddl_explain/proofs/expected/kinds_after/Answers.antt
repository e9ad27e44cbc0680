use Rattle.std.proofs.Common.{◌≡◌, ◌+◌, [], ◌∷◌, ◌++◌, ap, subst, sym, ◌∙◌, take, rules}
use Rattle.std.proofs.lemmas.List.{take_more}
use Rattle.cddl_explain.specs.Expected.{AreExpected, no_kind, may_come, may_not}
use Rattle.cddl_explain.specs.declared.expected.TheConstants.{KINDS}
use Rattle.cddl_explain.proofs.expected.kinds_after.Goals as goal
use Rattle.cddl_explain.proofs.expected.kinds_after.Goals.{then-branch+in_ok-push, else-branch}

pub kind-init : goal.kind-init
kind-init c = subst (λ found. AreExpected c.args.front.now [] found) (sym c.new-found.ensures.items) no_kind

pub kind-preserved : goal.kind-preserved
kind-preserved c =
    let front = c.args.front.now in
    let before = take c.kind.k KINDS in
    let token = c.sample-token.result in
    let grown : take (c.kind.k + 1) KINDS ≡ before ++ token.kind ∷ [] = take_more KINDS c.kind.k _ c.kind-test.true ∙ ap (λ kind. before ++ kind ∷ []) (sym c.sample-token.ensures.kind) in
    elim c.if-branch.branch [
      | then-branch+in_ok-push w ↦
          let pushed : c.if-branch.found.items ≡ c.kind.found.items ++ token.kind ∷ [] = search rules in
          subst (λ kinds. AreExpected front kinds c.if-branch.found.items) (sym grown) (subst (λ found. AreExpected front (before ++ token.kind ∷ []) found) (sym pushed) (may_come c.kind.invariant token (c.in_ok-may_come.ensures.yes w.if-branch.true)))
      | else-branch w ↦
          let same : c.if-branch.found.items ≡ c.kind.found.items = search rules in
          subst (λ kinds. AreExpected front kinds c.if-branch.found.items) (sym grown) (subst (λ found. AreExpected front (before ++ token.kind ∷ []) found) (sym same) (may_not c.kind.invariant token (c.in_ok-may_come.ensures.no w.if-branch.false)))
    ]
