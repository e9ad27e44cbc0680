use Rattle.cddl_language.proofs.OfWritten.Operands.{first_meant, last_meant}
use Rattle.cddl_language.proofs.written.operand_values.Goals as goal

pub returns-clause-first : goal.returns-clause-first
returns-clause-first c = first_meant

pub returns-clause-last : goal.returns-clause-last
returns-clause-last c = last_meant
