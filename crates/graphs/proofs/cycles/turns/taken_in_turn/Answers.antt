use Rattle.std.proofs.Common.{rules, ◌≡◌, ◌++◌, ◌∷◌, [], ◌+◌, true, set, Some, slice_get, slice_index_or, sym, subst}
use Rattle.std.proofs.lemmas.Option.{slice_get-get_or}
use Rattle.graphs.specs.declared.cycles.turns.Numbered.{Numbered}
use Rattle.graphs.specs.Cycles.Turns.{ArePlaced, AreTaken, IsNext}
use Rattle.graphs.proofs.OfCycles.Taking.{takes, places, passes}
use Rattle.graphs.proofs.cycles.turns.taken_in_turn.Goals as goal
use Rattle.graphs.proofs.cycles.turns.taken_in_turn.Goals.{then-is_next+in_ok-push, else-is_next}

pub loop-numbered-preserved : goal.loop-numbered-preserved
loop-numbered-preserved c =
    let nodes = c.args.graph.now.nodes in
    let edges = c.args.graph.now.edges.now in
    let k = c.loop-numbered.numbered-index in
    let sorted = c.args.sorted.now in
    let n : Numbered = slice_index_or sorted k (record { number = 0; node = 0 }) in
    let there : slice_get sorted k ≡ Some n = slice_get-get_or sorted k (record { number = 0; node = 0 }) (search rules) in
    let placed = c.loop-numbered.placed.items in
    let order = c.loop-numbered.order.items in
    let kept = c.loop-numbered.invariant in
    let fits = c.requires.within k n there in
    let next : IsNext nodes edges placed n.node c.is_next.result = subst (λ flags. IsNext nodes edges flags n.node c.is_next.result) c.deref.ensures.value c.is_next.ensures in
    elim c.if-is_next.branch [
      | then-is_next+in_ok-push w ↦ (
          let set_now : c.if-is_next.placed.items ≡ set placed n.node true = search rules in
          let pushed : c.if-is_next.order.items ≡ order ++ n.node ∷ [] = search rules in
          let ready = subst (λ b. IsNext nodes edges placed n.node b) w.if-is_next.true next in
          record {
            taken = subst (AreTaken nodes edges sorted (k + 1)) (sym pushed) (takes nodes edges sorted k placed order n there kept.taken kept.flags fits kept.all ready);
            flags = subst (λ flags. ArePlaced flags c.if-is_next.order.items) (sym set_now) (subst (λ xs. ArePlaced (set placed n.node true) xs) (sym pushed) (places nodes edges sorted k placed order n there kept.taken kept.flags fits kept.all ready));
            all = search rules;
          })
      | else-is_next w ↦ (
          let same_flags : c.if-is_next.placed.items ≡ placed = search rules in
          let same : c.if-is_next.order.items ≡ order = search rules in
          let held = subst (λ b. IsNext nodes edges placed n.node b) w.if-is_next.false next in
          record {
            taken = subst (AreTaken nodes edges sorted (k + 1)) (sym same) (passes nodes edges sorted k placed order n there kept.taken kept.flags held);
            flags = subst (λ flags. ArePlaced flags c.if-is_next.order.items) (sym same_flags) (subst (λ xs. ArePlaced placed xs) (sym same) kept.flags);
            all = search rules;
          })
    ]
