use Rattle.std.proofs.Common.{refl, inl}
use Rattle.cddl_token.specs.Tokens.{flawed}
use Rattle.cddl_token.specs.Spelling.{TooLarge}
use Rattle.cddl_token.proofs.uints.number_or_fault.Goals as goal

pub returns-else-number_fits : goal.returns-else-number_fits
returns-else-number_fits c = flawed {flaw = TooLarge} {b = c.args.end} refl refl (record { spelled = inl (c.number_fits.ensures.otherwise c.if-number_fits.false); longest = c.requires.longest })
