use Rattle.cddl_meaning.proofs.SameSays.{said_of_same}
use Rattle.cddl_meaning.proofs.same_answer.Goals as goal

pub returns : goal.returns
returns g c = record {
  yes = λ l h n p q w x y s d. let t = said_of_same l h (h.plain n) d s q in (t.weight, t.says);
  no = λ l h n p q far w x y s d. let t = said_of_same l h (h.plain n) d s q in (t.far, t.weight, t.says);
}
