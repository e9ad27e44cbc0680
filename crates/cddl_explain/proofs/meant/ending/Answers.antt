use Rattle.std.proofs.Common.{sym, ◌∙◌, arith}
use Rattle.std.proofs.lemmas.List.{at_drop_all}
use Rattle.near_words.specs.Near.{texts}
use Rattle.cddl_explain.specs.Meant.{ending}
use Rattle.cddl_explain.proofs.meant.ending.Goals as goal

pub returns : goal.returns
returns c = sym (at_drop_all (λ xs. ending c.args.name.now (texts xs)) c.args.words.now c.word.k (omega arith)) ∙ c.word.invariant
