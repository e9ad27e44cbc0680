use Rattle.std.proofs.Common.{◌≡◌, ◌-◌, length, ap, subst, ◌∙◌, arith}
use Rattle.cddl_literal.specs.Strings.{Characters}
use Rattle.cddl_literal.specs.declared.Quote.TheVariants.{Single}
use Rattle.cddl_literal.proofs.values.plain_value.Goals as goal

pub returns : goal.returns
returns c = λ v h.
    let end : h.end ≡ length c.args.text.now - 1 = omega (arith, h.ends) in
    ap (λ x. x.items) c.into_bytes.ensures.value ∙ c.in_ok-characters.ensures v (subst (λ e. Characters Single c.args.text.now 1 e v) end h.holds)
