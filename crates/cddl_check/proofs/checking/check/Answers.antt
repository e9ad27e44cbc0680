use Rattle.std.proofs.Common.{List, ℕ, Option, Bor, sym, subst}
use Rattle.std.specs.Option.{option_map}
use Rattle.tree_nodes.specs.View.{view}
use Rattle.cddl_check.specs.Outcome.{IsChecked, IsFaulty}
use Rattle.cddl_check.proofs.checking.check.Goals as goal

pub new-requires : goal.new-requires
new-requires c = (c.in-Ok.ensures.found.0, c.in-Ok.ensures.found.2)

pub returns-in-Ok-clause-accepted : goal.returns-in-Ok-clause-accepted
returns-in-Ok-clause-accepted c =
    let n : Option (List ℕ) = option_map (λ (t : Bor (List ℕ)). t.now) c.args.root in
    let found = c.in-Ok.ensures.found in
    subst (IsChecked (view c.args.tree) n) (sym (c.new.ensures.root found.0 found.2)) found.1

pub returns-in-Err-clause-refused : goal.returns-in-Err-clause-refused
returns-in-Err-clause-refused c =
    let n : Option (List ℕ) = option_map (λ (t : Bor (List ℕ)). t.now) c.args.root in
    subst (IsFaulty (view c.args.tree) n) (sym c.refusal_of.ensures) c.in-Err.ensures.faulty
