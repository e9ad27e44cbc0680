use Rattle.std.proofs.Common.{sym, ◌∙◌}
use Rattle.cddl_token.proofs.NumberFacts.{number_found, number_missed}
use Rattle.cddl_token.proofs.uints.number_fits.Goals as goal

pub returns-clause-yes : goal.returns-clause-yes
returns-clause-yes c =
    λ t. let h = c.requires.spelled in
    let found = number_found c.number_of.result _ (c.number_of.ensures h.0 h.1 h.2) (sym c.is_some.ensures ∙ t) in
    (found.0, (h.0, h.1, h.2, found.1))

pub returns-clause-otherwise : goal.returns-clause-otherwise
returns-clause-otherwise c =
    λ t. let h = c.requires.spelled in
    (h.0, h.1, h.2, number_missed c.number_of.result _ (c.number_of.ensures h.0 h.1 h.2) (sym c.is_some.ensures ∙ t))
