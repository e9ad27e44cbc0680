use Rattle.cddl_language.proofs.Tables.{says, said}
use Rattle.cddl_language.proofs.tables_say_the_same.Goals as goal

pub returns-clause-says : goal.returns-clause-says
returns-clause-says c = says

pub returns-clause-no_more : goal.returns-clause-no_more
returns-clause-no_more c = said
