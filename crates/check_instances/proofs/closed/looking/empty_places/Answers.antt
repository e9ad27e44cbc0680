use Rattle.std.proofs.Common.{◌++◌, ◌∷◌, [], ◌+◌, ◌-◌, None, List, Option, ℕ, append_assoc, sym, ap, ◌∙◌}
use Rattle.check_instances.specs.Closed.Looking.{no_places}
use Rattle.check_instances.proofs.OfClosed.Rows.{next_empty}
use Rattle.check_instances.proofs.closed.looking.empty_places.Goals as goal

pub loop-preserved : goal.loop-preserved
loop-preserved c =
    let further = no_places (c.args.count - (c.loop.counter + 1)) in
    ap (λ (ls : List (Option ℕ)). ls ++ further) c.in_ok-push.ensures ∙ append_assoc c.loop.places.items (None ∷ []) further ∙ ap (λ (ls : List (Option ℕ)). c.loop.places.items ++ ls) (sym (next_empty c.loop.counter c.args.count c.loop-test.true)) ∙ c.loop.invariant
