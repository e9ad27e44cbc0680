use Rattle.std.proofs.Common.{sym, ◌∙◌, arith, true, false}
use Rattle.std.proofs.lemmas.List.{at_drop_all}
use Rattle.near_words.specs.Near.{texts}
use Rattle.cddl_explain.specs.Arity.{is_among}
use Rattle.cddl_explain.proofs.Counting.{among_at}
use Rattle.cddl_explain.proofs.arity.is_among.Goals as goal

pub known-preserved : goal.known-preserved
known-preserved c = sym (among_at c.args.name.now c.args.names.now c.known.k _ false c.known-test.true (sym c.eq.ensures ∙ c.if-eq.false)) ∙ c.known.invariant

pub returns-then-eq : goal.returns-then-eq
returns-then-eq c = sym (among_at c.args.name.now c.args.names.now c.known.k _ true c.known-test.true (sym c.eq.ensures ∙ c.if-eq.true)) ∙ c.known.invariant

pub returns : goal.returns
returns c = sym (at_drop_all (λ xs. is_among c.args.name.now (texts xs)) c.args.names.now c.known.k (omega arith)) ∙ c.known.invariant
