use Rattle.std.proofs.Common.{◌-◌, refl, arith}
use Rattle.std.proofs.lemmas.Option.{slice_get_read}
use Rattle.table_nodes.proofs.Beginning.{ways_alike}
use Rattle.table_nodes.proofs.fronts.front_in.Goals as goal

pub returns-in-Some-Some : goal.returns-in-Some-Some
returns-in-Some-Some c =
    let alts = c.args.alternatives.now in
    let first = slice_get_read alts _ (c.args.way - 1) c.in-Some-Some.before.now refl (omega (arith, c.in-Some-Some.ensures.lookup)) c.in-Some-Some.ensures.lookup.1 in
    let second = slice_get_read alts _ c.args.way c.in-Some-Some.entries.now refl (omega (arith, c.in-Some-Some.ensures'.lookup)) c.in-Some-Some.ensures'.lookup.1 in
    ways_alike alts (c.args.way - 1) c.args.way c.front_length.result c.in-Some-Some.before.now c.in-Some-Some.entries.now first second (rw (c.deref.ensures.value, c.deref-in-Some-Some.ensures.value) at c.front_length.ensures)
