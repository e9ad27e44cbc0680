use Rattle.check_text.proofs.Rooting.{defined, is_type, plain, present, ruled}
use Rattle.check_text.proofs.laws.root_is_type.Goals as goal

pub returns-clause-present : goal.returns-clause-present
returns-clause-present c = present

pub returns-clause-defined : goal.returns-clause-defined
returns-clause-defined c s worth root rooted clear = defined s worth clear root rooted

pub returns-clause-ruled : goal.returns-clause-ruled
returns-clause-ruled c s worth root rooted clear = ruled s worth clear root rooted

pub returns-clause-plain : goal.returns-clause-plain
returns-clause-plain c s worth root r rooted clear = plain s worth clear root rooted r

pub returns-clause-is_type : goal.returns-clause-is_type
returns-clause-is_type c s worth root rooted clear = is_type s worth clear root rooted
