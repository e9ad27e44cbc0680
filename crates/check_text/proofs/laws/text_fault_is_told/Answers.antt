use Rattle.check_text.proofs.Staging.{text_told}
use Rattle.check_text.proofs.laws.text_fault_is_told.Goals as goal

pub returns : goal.returns
returns c = text_told
