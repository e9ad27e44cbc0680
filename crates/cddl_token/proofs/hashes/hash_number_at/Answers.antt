use Rattle.std.proofs.Common.{refl, arith, ⊎_elim}
use Rattle.std.proofs.lemmas.Bool.{cases_Bool}
use Rattle.cddl_token.specs.Tokens.{flawed}
use Rattle.cddl_token.proofs.HashFacts.{tag_open_token, large_tag, hash_token, large_hash_number}
use Rattle.cddl_token.proofs.hashes.hash_number_at.Goals as goal

pub returns-then-not-fits : goal.returns-then-not-fits
returns-then-not-fits c =
    let number = c.requires.number in
    let large = c.fits.ensures.otherwise c.if-not-fits.true number.number number.spelled in
    ⊎_elim
    (λ yes. let opens = c.opens_tag-opens.ensures.yes yes in flawed refl refl (large_tag c.args.source.now c.args.at c.args.end c.requires.begins number c.requires.some opens.0 opens.1 large))
    (λ no. flawed refl refl (large_hash_number c.args.source.now c.args.at c.args.end c.requires.begins number c.requires.some (c.opens_tag-opens.ensures.otherwise no) large))
    (cases_Bool c.opens_tag-opens.result)

pub returns-then-opens : goal.returns-then-opens
returns-then-opens c =
    let number = c.requires.number in
    let opens = c.opens_tag-opens.ensures.yes c.if-opens.true in
    (tag_open_token c.args.source.now c.args.at c.args.end c.requires.begins number c.requires.some opens.0 opens.1 (c.fits.ensures.yes c.if-not-fits.false number.number number.spelled), omega (arith, opens.2))

pub returns-else-opens : goal.returns-else-opens
returns-else-opens c =
    let number = c.requires.number in
    (hash_token c.args.source.now c.args.at c.args.end c.requires.begins number c.requires.some (c.opens_tag-opens.ensures.otherwise c.if-opens.false) (c.fits.ensures.yes c.if-not-fits.false number.number number.spelled), c.requires.within)
