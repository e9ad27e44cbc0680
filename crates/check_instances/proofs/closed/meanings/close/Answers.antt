use Rattle.std.proofs.Common.{List, ap, sym, subst, ◌∙◌}
use Rattle.check_instances.specs.declared.closed.closed.Meaning.{Meaning}
use Rattle.check_instances.specs.Closed.Closed.{ArePlaces, AreStripped}
use Rattle.check_instances.specs.Closed.Looking.{no_places, placed_all}
use Rattle.check_instances.proofs.OfClosed.Rows.{are_places, are_stripped}
use Rattle.check_instances.proofs.closed.meanings.close.Goals as goal

pub returns-clause-closed : goal.returns-clause-closed
returns-clause-closed c = λ xs root refs are few found.
    let t = c.meanings_of.new.terms in
    let table = c.equal_numbers.ensures.table in
    let within = c.rows_stand.ensures.within in
    let ms = c.in_ok-meanings.meanings.items in
    let means = c.in_ok-meanings.ensures.means xs refs found in
    let placed = c.in_ok-places.ensures ∙ ap (λ (ns : List Meaning). placed_all 0 ns (no_places c.len.result)) c.deref.ensures.value in
    record {
      table = table;
      instances = are;
      few = few;
      meanings = means;
      places = subst (ArePlaces t refs) (sym placed) (are_places xs t c.equal_numbers.ensures.tree within refs ms means c.len.result c.len.ensures.value);
      stripped = subst (AreStripped t) (sym c.in_ok-stripped.ensures) (are_stripped t table within);
    }
