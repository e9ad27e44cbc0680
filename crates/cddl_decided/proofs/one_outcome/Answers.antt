use Rattle.cddl_language.specs.Faults.{Specification, definitions}
use Rattle.cddl_language.specs.Literals.{AreRight, Values}
use Rattle.cddl_decided.proofs.Outcomes.{AreMeantIn, AreReachedIn, accepted, means_one, refused}
use Rattle.cddl_decided.proofs.Reached.{instances_on}
use Rattle.cddl_decided.proofs.Valued.{MeansOne}
use Rattle.cddl_decided.proofs.one_outcome.Goals as goal

pub returns-clause-accepted : goal.returns-clause-accepted
returns-clause-accepted c =
    let one : MeansOne = means_one c.one_meaning.ensures.number c.one_meaning.ensures.text c.one_meaning.ensures.byte_string in
    let reached : (s : Specification) → AreReachedIn s = λ s. record {
      on = instances_on c.meanings_are_reached.ensures.types c.meanings_are_reached.ensures.alternatives c.opened_is_reached.ensures.group c.opened_is_reached.ensures.content c.part_is_reached.ensures.named c.part_is_reached.ensures.opened c.part_is_reached.ensures.group (definitions s);
      first = c.reached_parts.ensures.first s;
      last = c.reached_parts.ensures.last s;
    } in
    let meant : (s : Specification) (worth : Values) → AreRight s.tree worth → AreMeantIn s.tree worth = λ s worth right. record {
      instances = λ root. record {
        types = λ r t here k. c.reached_values.ensures.types s.tree worth right root r here t k;
        group = λ r es here k. c.reached_values.ensures.alternatives s.tree worth right root r here es k;
        opened_group = λ r g here e. c.reached_values.ensures.opened_group s.tree worth right root r here g e;
      };
      first = c.operand_values.ensures.first s.tree worth right;
      last = c.operand_values.ensures.last s.tree worth right;
    } in
    λ s u w by_u by_w fine. accepted one s (reached s) u w (meant s u by_u) (meant s w by_w) fine

pub returns-clause-refused : goal.returns-clause-refused
returns-clause-refused c =
    let one : MeansOne = means_one c.one_meaning.ensures.number c.one_meaning.ensures.text c.one_meaning.ensures.byte_string in
    let reached : (s : Specification) → AreReachedIn s = λ s. record {
      on = instances_on c.meanings_are_reached.ensures.types c.meanings_are_reached.ensures.alternatives c.opened_is_reached.ensures.group c.opened_is_reached.ensures.content c.part_is_reached.ensures.named c.part_is_reached.ensures.opened c.part_is_reached.ensures.group (definitions s);
      first = c.reached_parts.ensures.first s;
      last = c.reached_parts.ensures.last s;
    } in
    let meant : (s : Specification) (worth : Values) → AreRight s.tree worth → AreMeantIn s.tree worth = λ s worth right. record {
      instances = λ root. record {
        types = λ r t here k. c.reached_values.ensures.types s.tree worth right root r here t k;
        group = λ r es here k. c.reached_values.ensures.alternatives s.tree worth right root r here es k;
        opened_group = λ r g here e. c.reached_values.ensures.opened_group s.tree worth right root r here g e;
      };
      first = c.operand_values.ensures.first s.tree worth right;
      last = c.operand_values.ensures.last s.tree worth right;
    } in
    λ s u d p right h other. refused one s (reached s) (meant s) u d p right h other
