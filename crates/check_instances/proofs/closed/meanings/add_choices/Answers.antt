use Rattle.std.proofs.Common.{◌++◌, ◌∷◌, [], ◌∙◌, List, ℕ, ap, sym, subst}
use Rattle.cddl_language.specs.Substitution.{types_in}
use Rattle.cddl_meaning.specs.Alike.{AlikeAll}
use Rattle.check_terms.specs.Definitions.{IsBody}
use Rattle.check_instances.specs.Closed.Closed.{TermRow}
use Rattle.check_instances.proofs.OfClosed.Groups.{types_added}
use Rattle.check_instances.proofs.closed.meanings.add_choices.Goals as goal

pub returns-in-Ok-extend_from_slice : goal.returns-in-Ok-extend_from_slice
returns-in-Ok-extend_from_slice c = λ x ys is k.
    let t = c.args.terms.now in
    let old = c.args.types.now.items in
    let rows = c.in-Ok.rows.items in
    let joined = c.in-Ok-extend_from_slice.ensures.items ∙ ap (λ (ns : List ℕ). old ++ ns) c.deref.ensures.value in
    subst (AlikeAll (TermRow t) (ys ++ types_in (x ∷ []))) (sym joined) (types_added t c.in-Types.row old rows c.in-Ok.ensures x ys (subst (λ b. IsBody t b x) c.in-Types.is is) k)
