use Rattle.check_text.proofs.Ordering.{reached_above, text_below}
use Rattle.check_text.proofs.laws.codes_are_in_order.Goals as goal

pub returns-clause-text : goal.returns-clause-text
returns-clause-text c s worth f h = text_below s worth f h

pub returns-clause-reached : goal.returns-clause-reached
returns-clause-reached c s worth root rooted clear few code at h = reached_above s worth root rooted clear few code at h
