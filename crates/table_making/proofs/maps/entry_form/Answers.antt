use Rattle.std.proofs.Common.{◌≡◌, refl, subst, ◌∙◌, arith}
use Rattle.cddl_language.specs.Terms.{keyed}
use Rattle.check_terms.specs.Trees.{IsEntry}
use Rattle.table_making.proofs.Mapping.{member_formed}
use Rattle.table_making.proofs.maps.entry_form.Goals as goal

pub returns : goal.returns
returns c s m is re =
    let same : c.args.member.entry ≡ c.in-Ok.number = omega (arith, c.in-Ok.ensures.1) in
    let rows = c.in_ok-pair.ensures is.entry.0 m.key m.value (subst (λ n. IsEntry c.args.terms.now n (keyed is.entry.0 m.key m.value)) same is.entry.1) in
    member_formed s c.args.terms.now m _ _ c.in_ok-key.key c.in_ok-pair.pair.value _ refl is.least (c.most_of.ensures ∙ is.most) (c.in_ok-key.ensures s m.key rows.0 re.0) rows.1 re
