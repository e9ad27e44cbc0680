use Rattle.check_text.proofs.Clear.{clear_text}
use Rattle.check_text.proofs.laws.text_is_clear.Goals as goal

pub returns : goal.returns
returns c = clear_text c.args.terms.now c.equal_definitions.ensures
