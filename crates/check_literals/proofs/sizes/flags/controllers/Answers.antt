use Rattle.std.proofs.Common.{sym, subst}
use Rattle.cddl_language.specs.Controls.{of_bits, of_size}
use Rattle.cddl_language.specs.Reading.{definitions_in, rules_of}
use Rattle.check_groups.specs.Causes.Rows.{AreRows}
use Rattle.check_literals.proofs.sizes.flags.controllers.Goals as goal

pub returns : goal.returns
returns c x worth root refs right closed kinds openings literals of_size =
    let rows = c.in_ok-groups.ensures (definitions_in (rules_of x)) root refs (record { closed = closed; kinds = kinds; openings = openings }) in
    c.in_ok-sizes.ensures x worth root refs right closed kinds literals (subst (AreRows (definitions_in (rules_of x)) root c.args.terms.now) (sym c.deref.ensures.value) rows)
returns c x worth root refs right closed kinds openings literals of_bits =
    let rows = c.in_ok-groups.ensures (definitions_in (rules_of x)) root refs (record { closed = closed; kinds = kinds; openings = openings }) in
    c.in_ok-bits.ensures x worth root refs right closed kinds literals (subst (AreRows (definitions_in (rules_of x)) root c.args.terms.now) (sym c.deref-2.ensures.value) rows)
