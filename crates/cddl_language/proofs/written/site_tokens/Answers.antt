use Rattle.cddl_language.proofs.OfWritten.Standing.{stands}
use Rattle.cddl_language.proofs.written.site_tokens.Goals as goal

pub returns : goal.returns
returns c = stands
