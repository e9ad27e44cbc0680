use Rattle.std.proofs.Common.{false, sym, subst}
use Rattle.std.proofs.lemmas.Result.{IfOk-weaker}
use Rattle.cddl_language.specs.Environment as E
use Rattle.cddl_language.specs.Environment.{from_prelude, named_so}
use Rattle.cddl_language.specs.Prelude.{prelude}
use Rattle.check_terms.specs.Filled.{term_trees}
use Rattle.check_names.specs.Environment.Environment.{AreAt, as_list}
use Rattle.check_names.specs.Environment.Names.{standing}
use Rattle.check_instances.specs.Bodies.{AreBodies, filled_bodies}
use Rattle.check_instances.proofs.Meaning.{kept_at, name_filled}
use Rattle.check_instances.proofs.bodies.fill_name.Goals as goal

pub returns-clause-grows : goal.returns-clause-grows
returns-clause-grows c = c.patterns_grow.ensures.further c.args.terms.now c.fill_known.new.terms c.fill_own.new.terms c.in_ok-bodies.ensures.grows c.fill_own.ensures.grows

pub returns-clause-stand : goal.returns-clause-stand
returns-clause-stand c =
    let old = c.args.terms.now in
    let mid = c.fill_known.new.terms in
    let grows = c.in_ok-bodies.ensures.grows in
    let keeps = c.patterns_grow.ensures in
    IfOk-weaker c.fill_own.result _ _ (λ v h xs n ts is known own trees.
    subst (AreBodies c.fill_own.new.terms v.items) (name_filled xs n ts) (h (E.counting false (named_so n xs)) xs ts (filled_bodies ts (from_prelude xs n)) (subst (λ ps. AreAt xs ps (E.counting false (named_so n xs))) (sym c.deref.ensures.value) is.counting) (keeps.patterns old mid grows c.args.own.now xs own) (keeps.trees old mid grows c.args.arguments.now (term_trees ts) trees) (c.in_ok-bodies.ensures.stand (from_prelude xs n) prelude ts (subst (λ p. AreAt prelude (as_list p) (from_prelude xs n)) (sym c.kept_place.ensures) (kept_at xs n (standing c.args.name.now) is)) known trees))) c.fill_own.ensures.stand
