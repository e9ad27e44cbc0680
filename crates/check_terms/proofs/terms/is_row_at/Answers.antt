use Rattle.std.proofs.Common.{Some, arith, refl, sym, ap, ◌∙◌}
use Rattle.std.proofs.lemmas.Option.{slice_get_read}
use Rattle.check_terms.proofs.Equal.{same_row}
use Rattle.check_terms.proofs.terms.is_row_at.Goals as goal

pub returns-in-Some : goal.returns-in-Some
returns-in-Some c = λ e.
    let there = slice_get_read c.args.rows.now _ c.args.number c.in-Some.found.now refl (omega (arith, c.in-Some.ensures.lookup)) c.in-Some.ensures.lookup.1 in
    there ∙ ap Some (same_row c.in-Some.found.now c.args.row (sym c.eq.ensures ∙ e))
