use Rattle.std.proofs.Common.{Some, refl}
use Rattle.check_terms.specs.Definitions.{no_texts, types}
use Rattle.check_reading.proofs.OfPrelude.Standing.{further}
use Rattle.check_reading.proofs.prelude.numbering.add_line.Goals as goal

pub returns-clause-definition : goal.returns-clause-definition
returns-clause-definition c = record {
  name = c.in_ok-name.ensures.there;
  parameters = rw c.new.ensures.items no_texts;
  sign = refl;
  body = types (c.growing_keeps.ensures.tree _ _ c.in_ok-name.ensures.grows (Some c.in_ok-body.body) _ c.in_ok-body.ensures.stands);
}

pub returns-in_err-name-clause-grows : goal.returns-in_err-name-clause-grows
returns-in_err-name-clause-grows c = further c.in_ok-body.ensures.grows c.in_err-name.ensures.grows

pub returns-clause-grows : goal.returns-clause-grows
returns-clause-grows c = further c.in_ok-body.ensures.grows c.in_ok-name.ensures.grows
