use Rattle.std.proofs.Common.{rules, ◌≡◌, ◌∙◌, ◌-◌, sym, ap, Some, length, slice_get, arith}
use Rattle.graphs.specs.Cycles.Search.{cut, front}
use Rattle.graphs.proofs.OfCycles.Loops.{cut_done, cut_more}
use Rattle.graphs.proofs.cycles.search.merge.Goals as goal

pub returns-then-root-position : goal.returns-then-root-position
returns-then-root-position c =
    let last : slice_get c.loop-root.roots.items (length c.loop-root.roots.items - 1) ≡ Some c.in-Some.root = search rules in
    sym (cut_done c.args.position c.loop-root.roots.items c.in-Some.root last (omega arith)) ∙ c.loop-root.invariant

pub loop-root-preserved : goal.loop-root-preserved
loop-root-preserved c =
    let last : slice_get c.loop-root.roots.items (length c.loop-root.roots.items - 1) ≡ Some c.in-Some.root = search rules in
    let rest : c.pop.new.self.items ≡ front c.loop-root.roots.items = search rules in
    ap (cut c.args.position) rest ∙ (cut_more c.args.position c.loop-root.roots.items c.in-Some.root last (omega arith) ∙ c.loop-root.invariant)
