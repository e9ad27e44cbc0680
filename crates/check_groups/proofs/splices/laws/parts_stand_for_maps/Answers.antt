use Rattle.cddl_language.specs.Terms.{alternatives}
use Rattle.check_groups.specs.Splices.Parts.{choices_of}
use Rattle.check_groups.proofs.splices.laws.parts_stand_for_maps.Goals as goal

pub returns-clause-some : goal.returns-clause-some
returns-clause-some c xs root t parts are n g h r mss e = c.parts_stand_for_choices.ensures.some xs root t parts are n (alternatives g) (choices_of g h r) mss e

pub returns-clause-only : goal.returns-clause-only
returns-clause-only c xs root refs t parts have instances few are n g h r nss s = c.parts_stand_for_choices.ensures.only xs root refs t parts have instances few are n (alternatives g) (choices_of g h r) nss s
