use Rattle.check_terms.specs.Definitions.{no_texts}
use Rattle.check_reading.proofs.reader.definitions.read_parameters.Goals as goal

pub returns-in-Plain-clause-parameters : goal.returns-in-Plain-clause-parameters
returns-in-Plain-clause-parameters c = simp (c.in-Plain.is, c.new.ensures.items) no_texts
