use Rattle.cddl_language.specs.Kinds.{part_of}
use Rattle.table_making.proofs.Forming.{name_asked, opening_asked, type_asked}
use Rattle.table_making.proofs.Knowing.{part_opened}
use Rattle.table_making.proofs.Reaching.{instance_reached}
use Rattle.table_making.proofs.asked.asked_at.Goals as goal

pub returns-in-AsksType : goal.returns-in-AsksType
returns-in-AsksType c s x src is re = type_asked s c.args.terms.now (part_of s.definitions x) (c.in-AsksType.ensures s.definitions s.root s.refs x src.closed src.kinds_are src.openings_are is re.0)

pub returns-in-NamesGroup : goal.returns-in-NamesGroup
returns-in-NamesGroup c s x src is re = name_asked s c.args.terms.now (part_of s.definitions x) c.in-NamesGroup.place c.group_at.result (c.in-NamesGroup.ensures s.definitions s.root s.refs x src.closed src.kinds_are src.openings_are is re.0) (λ r e. (c.group_at.ensures s c.args.terms.now r src e, c.known_instances.ensures.alternatives s c.args.terms.now c.args.source.now src r (instance_reached s src.closed.instances.only c.in-NamesGroup.place r e)))

pub returns-in-Opens : goal.returns-in-Opens
returns-in-Opens c s x src is re = opening_asked s c.args.terms.now (part_of s.definitions x) _ c.in-Opens.group (c.in-Opens.ensures s.definitions s.root s.refs x src.closed src.kinds_are src.openings_are is re.0) (λ r g e. c.known_instances.ensures.opened_group s c.args.terms.now c.args.source.now src r (c.part_is_reached.ensures.opened s.definitions s.root x r g re.0 e) g (part_opened s.definitions r g x e))
