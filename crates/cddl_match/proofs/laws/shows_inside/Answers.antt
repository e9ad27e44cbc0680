use Rattle.std.proofs.Common.{arith}
use Rattle.table_nodes.specs.Language.{language_of}
use Rattle.cddl_meaning.proofs.Lemmas.{says_inside}
use Rattle.cddl_match.proofs.laws.shows_inside.Goals as goal

pub returns : goal.returns
returns c = λ table x place w d.
    let inside = says_inside (language_of table) d in
    omega (arith, inside.1)
