use Rattle.std.proofs.Common.{◌≡◌, ◌++◌, drop}
use Rattle.check_instances.specs.Steps.{rows_of}
use Rattle.check_instances.proofs.search.Search.await_bodies.Given as goal

abbrev pub invariant-loop-body : goal.invariant-loop-body
invariant-loop-body l = (l.self.waiting.items ++ rows_of (drop l.body-index l.bodies) ≡ l.fn.self.waiting.items ++ rows_of l.bodies) × (l.self.marks.items ≡ l.fn.self.marks.items) × (l.self.refs.items ≡ l.fn.self.refs.items)
