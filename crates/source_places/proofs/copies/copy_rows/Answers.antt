use Rattle.std.proofs.Common.{◌≡◌, ◌≤◌, length, Some, slice_get, sym, subst, arith, rules}
use Rattle.std.proofs.lemmas.Bool.Decides.{nat_tests}
use Rattle.std.proofs.lemmas.Grind.{common_steps}
use Rattle.source_places.proofs.Copying.{all_rows, has_parts, row_more}
use Rattle.source_places.proofs.copies.copy_rows.Goals as goal

pub add-requires : goal.add-requires
add-requires c = record { parts = has_parts c.args.terms.now c.loop-number.copy c.loop-number.number c.in-Some.row c.is_table.ensures c.loop-number.invariant (sym c.in-Some.ensures) }

pub loop-number-preserved : goal.loop-number-preserved
loop-number-preserved c =
    let same : c.in_ok-added.added ≡ c.loop-number.number = first_of (search rules, grind (arith, nat_tests), grind (arith, common_steps)) in
    row_more c.args.terms.now c.loop-number.copy c.add.new.self c.loop-number.number c.in-Some.row c.loop-number.invariant (sym c.in-Some.ensures) c.in_ok-added.ensures.grows (subst (λ n. slice_get c.add.new.self.rows n ≡ Some c.in-Some.row) same c.in_ok-added.ensures.there)

pub returns : goal.returns
returns c =
    let count = c.in-Ok.ensures.value in
    let past = c.loop-number-test.false in
    let long : length c.args.terms.now.rows ≤ c.loop-number.number = omega (arith, count, past) in
    all_rows c.args.terms.now c.loop-number.copy c.loop-number.number long c.loop-number.invariant
