use Rattle.std.proofs.Common.{◌≡◌, ◌-◌, ◌∙◌, suc, List, [], ◌∷◌, Some, sym, ap, rules, arith, slice_get, length}
use Rattle.table_nodes.specs.declared.sizes.NumberRange.{NumberRange}
use Rattle.table_nodes.proofs.Finding.{held, held_by}
use Rattle.table_nodes.proofs.sizes.fits_last.Goals as goal

-- where there is a last range there are some
some_there : (rs : List NumberRange) (r : NumberRange) → slice_get rs (length rs - 1) ≡ Some r → length rs ≡ suc (length rs - 1)
some_there [] r e = cc
some_there (x ∷ xs) r e = omega arith

pub returns-in-Some : goal.returns-in-Some
returns-in-Some c =
    let there : slice_get c.args.ranges.now (length c.args.ranges.now - 1) ≡ Some c.in-Some.range.now = search rules in
    c.can_hold.ensures ∙ sym (held c.args.number c.args.ranges.now (length c.args.ranges.now - 1) c.requires (some_there c.args.ranges.now c.in-Some.range.now there) ∙ ap (held_by c.args.number) there)
