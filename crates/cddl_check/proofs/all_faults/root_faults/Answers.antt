use Rattle.std.proofs.Common.{ℕ, List, Option, Bor, refl}
use Rattle.std.specs.Option.{option_map}
use Rattle.tree_nodes.specs.View.{view}
use Rattle.cddl_check.specs.Outcome.{specification}
use Rattle.cddl_check.specs.Stages.{IsGiven}
use Rattle.cddl_check.proofs.all_faults.root_faults.Goals as goal

pub returns-in-Ok : goal.returns-in-Ok
returns-in-Ok c worth right =
    let n : Option (List ℕ) = option_map (λ (t : Bor (List ℕ)). t.now) c.args.root in
    let s = specification (view c.args.tree.now) n in
    let given : IsGiven s worth c.args.tree.now n = record { tree = refl; given = refl; tokens = c.requires; right = right } in
    (c.in-Ok.ensures.none_early s worth given, c.in-Ok.ensures.found s worth given)

pub returns-in-Err-Refused : goal.returns-in-Err-Refused
returns-in-Err-Refused c worth right =
    let n : Option (List ℕ) = option_map (λ (t : Bor (List ℕ)). t.now) c.args.root in
    let s = specification (view c.args.tree.now) n in
    let given : IsGiven s worth c.args.tree.now n = record { tree = refl; given = refl; tokens = c.requires; right = right } in
    rw c.in-Err-Refused.field-0-is at c.in-Err-Refused.ensures.early s worth given
