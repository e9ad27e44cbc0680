use Rattle.std.proofs.Common.{◌≡◌, ◌∙◌, sym, ap, subst, Some, true, slice_get}
use Rattle.graphs.specs.Cycles.Graph.{AreOnCycles}
use Rattle.graphs.specs.Cycles.Links.{flags_of}
use Rattle.graphs.proofs.OfCycles.Flags.{are_on_cycles, are_ranks, flag_set, no_flag}
use Rattle.graphs.proofs.cycles.order_of.Goals as goal

pub returns-then-contains : goal.returns-then-contains
returns-then-contains c =
    let nodes = c.args.nodes in
    let edges = c.args.edges.now in
    let numbers = c.in_ok-ranks.ranks.items in
    let flags : c.in_ok-flags.flags.items ≡ flags_of numbers edges = c.in_ok-flags.ensures ∙ ap (λ ns. flags_of ns edges) c.deref.ensures.value in
    let seen = c.as_slice.ensures.value ∙ flags in
    let found = c.if-contains.ensures.cases in
    let there : slice_get (flags_of numbers edges) found.0 ≡ Some true = sym (ap (λ fs. slice_get fs found.0) seen) ∙ flag_set c.as_slice.result.now found.0 found.1 (found.2 _) in
    subst (AreOnCycles nodes edges) (sym flags) (are_on_cycles numbers nodes edges c.in_ok-ranks.ensures found.0 there)

pub returns : goal.returns
returns c =
    let edges = c.args.edges.now in
    let numbers = c.in_ok-ranks.ranks.items in
    let flags : c.in_ok-flags.flags.items ≡ flags_of numbers edges = c.in_ok-flags.ensures ∙ ap (λ ns. flags_of ns edges) c.deref.ensures.value in
    let seen = c.as_slice.ensures.value ∙ flags in
    are_ranks numbers c.args.nodes edges c.in_ok-ranks.ensures (λ i e. no_flag c.as_slice.result.now c.if-contains.ensures.cases i (ap (λ fs. slice_get fs i) seen ∙ e))
