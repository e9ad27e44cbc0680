use Rattle.std.proofs.Common.{arith}
use Rattle.cddl_language.specs.Language.{language}
use Rattle.cddl_meaning.proofs.Lemmas.{costs, forms_are_literals}
use Rattle.seq_run.proofs.OfMeaning.OneEnd.{text_once}
use Rattle.seq_run.proofs.meaning.weight_by_text.Goals as goal

pub returns-clause-questions : goal.returns-clause-questions
returns-clause-questions c = λ worth ds root x a b v w h d e.
    let t = costs (language worth ds) (forms_are_literals (language worth ds)) e in
    let u = text_once worth ds root x a b v t.0 h d t.1 in
    (u.0, omega (arith, u.1, t.2))

pub returns-clause-overruns : goal.returns-clause-overruns
returns-clause-overruns c = λ worth ds root steps x bytes h a w d.
    let t = costs (language worth ds) (forms_are_literals (language worth ds)) d in
    omega (arith, h a t.0 t.1, t.2)
