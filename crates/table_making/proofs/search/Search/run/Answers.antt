use Rattle.table_making.specs.Search.{keys_in}
use Rattle.table_making.proofs.Numbering.{further_keys, same_keys}
use Rattle.table_making.proofs.search.Search.run.Goals as goal

pub loop-init : goal.loop-init
loop-init c = record { grows = same_keys (keys_in c.args.self.now); keeps = λ s src so. so }

pub returns-then-not-branch-clause-grows : goal.returns-then-not-branch-clause-grows
returns-then-not-branch-clause-grows c = further_keys (keys_in c.args.self.now) (keys_in c.loop.self) (keys_in c.step.new.self) c.loop.invariant.grows c.in_ok-step.ensures.grows

pub returns-then-not-branch-clause-keeps : goal.returns-then-not-branch-clause-keeps
returns-then-not-branch-clause-keeps c = λ s src so. c.in_ok-step.ensures.keeps s src (c.loop.invariant.keeps s src so)

pub loop-preserved : goal.loop-preserved
loop-preserved c = record {
  grows = further_keys (keys_in c.args.self.now) (keys_in c.loop.self) (keys_in c.step.new.self) c.loop.invariant.grows c.in_ok-step.ensures.grows;
  keeps = λ s src so. c.in_ok-step.ensures.keeps s src (c.loop.invariant.keeps s src so);
}
