use Rattle.std.proofs.Common.{◌+◌, ◌<◌, ◌^◌, arith}
use Rattle.cddl_meaning.specs.Size.{size}
use Rattle.table_nodes.specs.Language.{language_of}
use Rattle.cddl_meaning.proofs.Lemmas.{costs, forms_are_literals, one_saying}
use Rattle.cddl_match.proofs.laws.no_more_than_the_weight.Goals as goal

pub returns-clause-says : goal.returns-clause-says
returns-clause-says c = λ table x a b v w h d e.
    let l = language_of table in
    let room : 0 + size x < 2 ^ 64 = omega (arith, h) in
    let t = costs l (forms_are_literals l) e in
    let same = one_saying l room d t.1 in
    (same.0, omega (arith, same.1, t.2))

pub returns-clause-spent : goal.returns-clause-spent
returns-clause-spent c = λ table x steps spent a w e.
    let t = costs (language_of table) (forms_are_literals (language_of table)) e in
    omega (arith, spent a t.0 t.1, t.2)
