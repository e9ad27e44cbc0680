use Rattle.cddl_meaning.proofs.OfRanks.ByForm.{types_by, groups_by, by_form}
use Rattle.cddl_meaning.proofs.OfRanks.Some.{any_type, any_group}
use Rattle.cddl_meaning.proofs.OfRanks.Frames.{some_reply}
use Rattle.cddl_meaning.proofs.ranks.some_answer.Goals as goal

pub returns-clause-of_type : goal.returns-clause-of_type
returns-clause-of_type c = λ _start l rank bound k n p x. let d = any_type l rank bound k n p x in (d.answer, d.weight, d.says)

pub returns-clause-of_group : goal.returns-clause-of_group
returns-clause-of_group c = λ _start l rank bound k g p q xs. let d = any_group l rank bound k g p q xs in (d.reply, d.weight, d.does)

pub returns-clause-by_moves : goal.returns-clause-by_moves
returns-clause-by_moves c = λ _start l rank bound k q. some_reply l (types_by l rank) (groups_by l rank) bound (by_form l rank k) q
