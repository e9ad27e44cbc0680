use Rattle.std.proofs.Common.{refl, sym, subst, ◌∙◌, arith}
use Rattle.std.specs.Char.{IsScalar}
use Rattle.cddl_literal.specs.Escapes.{braces}
use Rattle.cddl_literal.proofs.escapes.braced_at.Goals as goal

pub returns-in-Some : goal.returns-in-Some
returns-in-Some c =
    let ends = c.hex_end-end.ensures in
    let from = ends.from in (
      braces c.hex_end-end.result c.requires.backslash c.requires.letter c.requires.brace
          (record { nonempty = omega arith; holds = ends.each })
          (sym c.byte_at.ensures.value ∙ c.if-byte_at-ne125.false)
          c.in-Some.ensures.1 (subst IsScalar (sym c.in-Some.ensures.1) c.in-Some.ensures.0) refl,
      omega (arith, c.byte_at.ensures.inside (omega arith)),
    )
