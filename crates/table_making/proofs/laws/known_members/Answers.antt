use Rattle.cddl_language.specs.Reach.{most_instances}
use Rattle.table_making.proofs.Knowing.{group_known, part_opened}
use Rattle.table_making.proofs.Members.{spliced_known}
use Rattle.table_making.proofs.laws.known_members.Goals as goal

pub returns : goal.returns
returns c = λ s t src is ess re mss e. spliced_known s (λ x r f h. c.known_instances.ensures.alternatives s t src is r (c.part_is_reached.ensures.named s.definitions s.root x r f.0 h)) (λ x r g f h. group_known s g (c.known_instances.ensures.opened_group s t src is r (c.part_is_reached.ensures.opened s.definitions s.root x r g f.0 h) g (part_opened s.definitions r g x h))) most_instances ess re mss e
