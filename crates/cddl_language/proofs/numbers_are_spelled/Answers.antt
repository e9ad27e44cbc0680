use Rattle.cddl_language.proofs.Numbers as N
use Rattle.cddl_language.proofs.numbers_are_spelled.Goals as goal

pub returns-clause-uint : goal.returns-clause-uint
returns-clause-uint c = N.uint_is

pub returns-clause-hash : goal.returns-clause-hash
returns-clause-hash c = N.hash_is

pub returns-clause-tag : goal.returns-clause-tag
returns-clause-tag c = N.tag_is

pub returns-clause-least : goal.returns-clause-least
returns-clause-least c = N.least_is

pub returns-clause-most : goal.returns-clause-most
returns-clause-most c = N.most_is

pub returns-clause-no_most : goal.returns-clause-no_most
returns-clause-no_most c = N.no_most
