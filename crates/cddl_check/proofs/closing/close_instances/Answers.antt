use Rattle.std.proofs.Common.{sym, subst}
use Rattle.cddl_language.specs.Faults.{definitions, rules}
use Rattle.check_names.specs.Kinds.Kinds.{AreKinds}
use Rattle.check_instances.specs.Openings.Openings.{AreOpenings}
use Rattle.cddl_check.proofs.closing.close_instances.Goals as goal

pub returns-clause-meant : goal.returns-clause-meant
returns-clause-meant c s worth root refs right instances few found kinds most =
    let closed = c.in_ok-closed.ensures.closed (definitions s) root refs instances few found in
    let kinds_are = subst (λ ts. AreKinds ts (definitions s) c.args.kinds.now) (sym c.in_ok-closed.ensures.texts) kinds in
    let openings = c.in_ok-openings.ensures (definitions s) root refs closed kinds_are most in
    let literals = c.in_ok-literals.ensures s.tree worth root refs right closed kinds_are in
    let controllers = c.in_ok-controllers.ensures s.tree worth root refs right closed kinds_are (subst (AreOpenings (definitions s) c.close.new.terms refs) (sym c.deref.ensures.value) openings) literals in
    record {
      closed = closed;
      openings = openings;
      literals = literals;
      controllers = controllers;
      members = c.in_ok-members.ensures s.tree worth root refs right closed kinds_are (subst (AreOpenings (definitions s) c.close.new.terms refs) (sym c.deref-2.ensures.value) openings) literals controllers;
      choosable = c.in_ok-choosable.ensures (definitions s) root refs (c.texts_have_entries.ensures (rules s)) closed kinds_are (subst (AreOpenings (definitions s) c.close.new.terms refs) (sym c.deref-3.ensures.value) openings);
    }
