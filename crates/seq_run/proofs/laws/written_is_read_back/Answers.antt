use Rattle.seq_run.proofs.Rereading.{written_ends, written_ends_freely}
use Rattle.seq_run.proofs.laws.written_is_read_back.Goals as goal

pub returns-clause-freely : goal.returns-clause-freely
returns-clause-freely c = λ table l items w h. written_ends_freely c.preferred_spells.ensures table l items w h

pub returns-clause-within : goal.returns-clause-within
returns-clause-within c = λ judge l items w h. written_ends c.preferred_spells.ensures judge l items w h
