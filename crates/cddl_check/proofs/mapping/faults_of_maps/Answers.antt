use Rattle.std.proofs.Common.{sym, subst}
use Rattle.cddl_language.specs.Faults.{definitions, rules}
use Rattle.check_reached.specs.Asked.{AreAsked}
use Rattle.check_maps.specs.Spliced.Spliced.{AreSpliced}
use Rattle.check_maps.specs.MapCycles.Coming.{AreComingBack}
use Rattle.check_maps.specs.MapFaults.Faults.{AreFaults}
use Rattle.cddl_check.proofs.mapping.faults_of_maps.Goals as goal

pub returns-clause-found : goal.returns-clause-found
returns-clause-found c s worth tree root refs reading =
    let t = c.args.terms.now in
    let ds = definitions s in
    let maps = c.in_ok-maps.ensures.found s worth tree root refs reading in
    record {
      no_key = c.no_key.ensures s root t refs (subst (AreSpliced (rules s) root t refs) (sym c.deref.ensures.value) maps.spliced) (subst (AreFaults ds root t) (sym c.deref-2.ensures.value) maps.faults);
      shape = c.map_shape.ensures s root t refs (subst (AreSpliced (rules s) root t refs) (sym c.deref-3.ensures.value) maps.spliced) (subst (AreFaults ds root t) (sym c.deref-4.ensures.value) maps.faults) (subst (λ xs. AreComingBack ds root t refs xs c.deref-5.result.now) (sym c.deref-3.ensures.value) (subst (AreComingBack ds root t refs c.in_ok-maps.maps.spliced.items) (sym c.deref-5.ensures.value) maps.returning));
      too_many = c.too_many_alternatives.ensures s root t reading.right.clear (subst (AreAsked (rules s) root t) (sym c.deref-6.ensures.value) reading.asking.asked) (subst (AreFaults ds root t) (sym c.deref-7.ensures.value) maps.faults);
    }
