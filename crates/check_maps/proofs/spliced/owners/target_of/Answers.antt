use Rattle.std.proofs.Common.{None, refl, sym, ap, subst, ◌∙◌}
use Rattle.check_instances.specs.Closed.Closed.{AreReached}
use Rattle.cddl_language.specs.Kinds.{part_of}
use Rattle.cddl_language.specs.MapFaults.{point_in, point_of_part}
use Rattle.cddl_language.specs.Reach.{entry_points}
use Rattle.check_maps.specs.Spliced.Spliced.{IsTarget, nowhere}
use Rattle.check_maps.proofs.OfSpliced.Leading.{leads, no_type_there, some_type_there}
use Rattle.check_maps.proofs.spliced.owners.target_of.Goals as goal

pub returns-in-None : goal.returns-in-None
returns-in-None c = λ xs root refs x is kinds openings endings row reached. subst (λ p. IsTarget xs refs p None) (sym (no_type_there c.args.terms.now c.args.row x (sym c.typed_at.ensures ∙ c.in-None.is) row xs)) nowhere

pub returns-in-Some : goal.returns-in-Some
returns-in-Some c = λ xs root refs x is kinds openings endings row reached.
    let w = some_type_there c.args.terms.now c.args.row c.in-Some.types x (sym c.typed_at.ensures ∙ c.in-Some.is) row in
    let inside = subst (λ z. AreReached xs root (entry_points z)) w.2 reached in
    let part = c.part_of-part.ensures xs root refs w.1 is kinds openings w.3 inside in
    let led = leads c.args.terms.now c.equal_numbers.ensures.reference xs root refs c.args.closed.now is c.args.endings.now endings w.1 (part_of xs w.1) c.part_of-part.result refl part in
    subst (λ p. IsTarget xs refs p c.led_to.result) (sym (ap (point_in xs) w.2)) (subst (IsTarget xs refs (point_of_part xs (part_of xs w.1))) (sym c.led_to.ensures) led)
