use Rattle.std.proofs.Common.{◌≤◌, arith}
use Rattle.table_nodes.specs.Nodes.{entries_view}
use Rattle.cddl_match.specs.Tellings.{BeginAlike}
use Rattle.cddl_match.proofs.Passing.{fewer}
use Rattle.cddl_match.proofs.Tellings.{same_front}
use Rattle.cddl_match.proofs.tallied.Tallied.told_in.Goals.{then-told-self-via-then-told-self, then-told-self-via-else-told-self+then-begin_alike}
use Rattle.cddl_match.proofs.tallied.Tallied.told_in.Goals as goal

pub returns-then-told-self : goal.returns-then-told-self
returns-then-told-self c =
    let t = c.args.self.now in
    let some = t.entries.now in
    let others = c.args.entries.now in
    let told = c.in_ok-told.told in
    let alike : BeginAlike told some others = elim c.then-told-self.branch [
      | then-told-self-via-then-told-self w ↦ (omega (arith, w.if-told-self.true, c.requires.0), fewer told t.alike (entries_view some) (entries_view others) (omega (arith, w.if-told-self.true)) c.requires.1)
      | then-told-self-via-else-told-self+then-begin_alike w ↦ same_front told some others (w.begin_alike.ensures w.if-begin_alike.true)
    ] in
    (c.in_ok-told.was, alike)
