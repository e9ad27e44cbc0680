use Rattle.std.proofs.Common.{[], subst, sym}
use Rattle.cddl_language.specs.Terms.{stripped}
use Rattle.check_terms.specs.Trees.{term_tree}
use Rattle.check_names.specs.Kinds.Heads.{HoldsRow, IsHead, top_type}
use Rattle.check_names.proofs.OfKinds.Tops.{head_there, some_row}
use Rattle.check_names.proofs.kinds.heads.head_of_type.Goals as goal

pub returns-in-Some : goal.returns-in-Some
returns-in-Some c x h =
    let t = c.args.terms.now in
    let s = c.in-Some.ensures x h in
    subst (λ y. IsHead t.texts y (top_type [] (stripped x))) (sym c.head_of_row.ensures) (head_there t c.in-Some.row (stripped x) (subst (λ r. HoldsRow t r (term_tree (stripped x))) (some_row _ _ s.1) s.2))
