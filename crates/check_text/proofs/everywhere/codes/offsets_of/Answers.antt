use Rattle.all_offsets.proofs.Lemmas.{moved_of}
use Rattle.check_text.proofs.everywhere.codes.offsets_of.Goals as goal

pub returns : goal.returns
returns c s worth tree e g is = record { rising = c.sort.ensures.rising; exactly = moved_of _ _ _ c.sort.ensures.same (c.in_ok-offsets.ensures s worth tree e g is) }
