use Rattle.std.proofs.Common.{refl}
use Rattle.cddlseq_c.specs.Answers.{by_number, by_none}
use Rattle.cddlseq_c.proofs.running.tell_by_number.Goals as goal

pub returns-in_default : goal.returns-in_default
returns-in_default c = by_none c.in_default.ensures.none refl refl refl

pub returns : goal.returns
returns c = by_number c.in-Some.wanted c.in-Some.ensures.some c.tell_wanted.result c.tell_wanted.ensures
