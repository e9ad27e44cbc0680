use Rattle.std.proofs.Common.{◌≡◌, List, ℕ, length}
use Rattle.cddl_language.specs.Terms.{Text, Definition}
use Rattle.check_instances.specs.Search.{IsSearch}
use Rattle.check_instances.proofs.Walking.{work}
use Rattle.check_instances.proofs.search.Search.walk.Given as goal

abbrev pub invariant-loop-row : goal.invariant-loop-row
invariant-loop-row l = (xs : List Definition) (root : Text) (from first : List ℕ) → IsSearch xs root l.terms from first l.fn.self.marks.items l.fn.self.waiting.items l.fn.self.refs.items → (length l.self.marks.items ≡ length l.terms.rows) × IsSearch xs root l.terms from first l.self.marks.items l.self.waiting.items l.self.refs.items

abbrev pub decreases-loop-row : goal.decreases-loop-row
decreases-loop-row l = work l.self.marks.items l.self.waiting.items
