use Rattle.std.proofs.Common.{sym, subst}
use Rattle.cddl_language.specs.Controls.{of_bits, of_size}
use Rattle.cddl_language.specs.Reading.{definitions_in, rules_of}
use Rattle.check_groups.specs.Causes.Rows.{AreRows}
use Rattle.check_literals.specs.Sizes.Sizes.{AreSizable}
use Rattle.check_literals.proofs.sizes.sets.members.Goals as goal

pub returns : goal.returns
returns c x worth root refs right closed kinds openings literals controllers of_size =
    let rows = c.in_ok-groups.ensures (definitions_in (rules_of x)) root refs (record { closed = closed; kinds = kinds; openings = openings }) in
    c.in_ok-sizes.ensures x worth root refs right closed kinds literals (subst (AreRows (definitions_in (rules_of x)) root c.args.terms.now) (sym c.deref.ensures.value) rows) (subst (AreSizable (definitions_in (rules_of x)) root worth c.args.terms.now of_size) (sym c.of.ensures) (controllers of_size))
returns c x worth root refs right closed kinds openings literals controllers of_bits =
    let rows = c.in_ok-groups.ensures (definitions_in (rules_of x)) root refs (record { closed = closed; kinds = kinds; openings = openings }) in
    c.in_ok-bits.ensures x worth root refs right closed kinds literals (subst (AreRows (definitions_in (rules_of x)) root c.args.terms.now) (sym c.deref-2.ensures.value) rows) (subst (AreSizable (definitions_in (rules_of x)) root worth c.args.terms.now of_bits) (sym c.of-2.ensures) (controllers of_bits))
