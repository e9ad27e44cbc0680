use Rattle.std.proofs.Common.{ℕ, List, Bor, subst}
use Rattle.std.specs.Option.{option_map}
use Rattle.std.proofs.lemmas.Result.{IfOk-weaker}
use Rattle.tree_nodes.specs.View.{view}
use Rattle.cddl_check.specs.Outcome.{specification}
use Rattle.cddl_check.specs.RootFaults.{AreRootFaults}
use Rattle.check_faults.specs.Listed.{reached, unreached}
use Rattle.check_faults.proofs.text.reached_faults.Goals as goal

pub returns-in-Some : goal.returns-in-Some
returns-in-Some c =
    IfOk-weaker c.list_of_reached.result _ _
    (λ v h worth right.
    let s = specification (view c.args.tree.now) (option_map (λ (t : Bor (List ℕ)). t.now) c.args.root) in
    let found = subst (AreRootFaults s worth) c.in-Some.is (c.in_ok-found.ensures worth right) in
    reached found.0 (h s worth found.1))
    c.list_of_reached.ensures

pub returns-in-None : goal.returns-in-None
returns-in-None c worth right =
    let s = specification (view c.args.tree.now) (option_map (λ (t : Bor (List ℕ)). t.now) c.args.root) in
    unreached (subst (AreRootFaults s worth) c.in-None.is (c.in_ok-found.ensures worth right)) c.new.ensures.items
