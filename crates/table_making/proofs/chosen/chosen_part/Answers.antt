use Rattle.cddl_language.specs.Kinds.{part_of}
use Rattle.table_making.proofs.Forming.{chosen_group, chosen_type}
use Rattle.table_making.proofs.chosen.chosen_part.Goals as goal

pub returns-in-Type : goal.returns-in-Type
returns-in-Type c s x src is re can = chosen_type s c.args.terms.now x (part_of s.definitions x) c.args.row (c.in-Type.ensures s x src is re) is re

pub returns-in-Group : goal.returns-in-Group
returns-in-Group c s x src is re can = chosen_group s c.args.terms.now x (part_of s.definitions x) c.in-Group.group (c.in-Group.ensures s x src is re) can
