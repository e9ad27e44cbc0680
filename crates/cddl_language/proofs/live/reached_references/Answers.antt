use Rattle.cddl_language.proofs.OfLive.Reached.{references, standing_there}
use Rattle.cddl_language.proofs.live.reached_references.Goals as goal

pub returns-clause-instance : goal.returns-clause-instance
returns-clause-instance c = references

pub returns-clause-present : goal.returns-clause-present
returns-clause-present c = standing_there
