use Rattle.std.proofs.Common.{◌≡◌, refl, subst}
use Rattle.std.specs.Prelude.{Some}
use Rattle.cddl_match.specs.declared.answers.End.TheVariants.{Said}
use Rattle.cddl_match.specs.declared.answers.Verdict.TheVariants as V
use Rattle.cddl_match.proofs.Decides.{decides}
use Rattle.cddl_match.specs.Machine.{IsVerdict, root_question}
use Rattle.match_moves.specs.Views.{reply_view}
use Rattle.cddl_match.specs.Machine.{verdict_of}
use Rattle.cddl_match.proofs.Machines.{goes, is_spent_verdict, is_verdict, says, wants_room}
use Rattle.cddl_match.proofs.Room.{room}
use Rattle.cddl_match.proofs.machine.Machine.turn.Goals as goal

pub invariant_of-self : goal.invariant_of-self
invariant_of-self c =
    let i = c.self.inside in
    let m = rw c.in_default.is at c.self.invariant in
    rw c.in_default.is (goes i.table.now i.item.now i.steps i.room i.run c.step.new.run m (c.in-GoesOn.ensures.goes refl (root_question i.table.now i.item.now) m.parts m.within) c.step.ensures.capacity)

pub invariant_of-self-in-Replied : goal.invariant_of-self-in-Replied
invariant_of-self-in-Replied c =
    let i = c.self.inside in
    let m = rw c.in_default.is at c.self.invariant in
    let reply = c.in-Replied.ensures.told refl in
    let found = rw reply.1 at (c.in-Replied.ensures.finds (root_question i.table.now i.item.now) m.parts m.within) in
    let told = is_verdict i.table.now i.item.now i.steps _ (reply_view reply.0) m.sound found in
    rw (c.verdict_by-verdict.ensures reply.0 reply.1) (says i.table.now i.item.now i.steps i.room i.run c.step.new.run (verdict_of (reply_view reply.0)) m told (c.in-Replied.ensures.kept (λ e. cc e)) (c.in-Replied.ensures.taken (λ e. cc e)) c.step.ensures.capacity)

pub invariant_of-self-in-Spent : goal.invariant_of-self-in-Spent
invariant_of-self-in-Spent c =
    let i = c.self.inside in
    let m = rw c.in_default.is at c.self.invariant in
    let told = is_spent_verdict i.table.now i.item.now i.steps m.sound (c.in-Spent.ensures.finds (root_question i.table.now i.item.now) m.parts m.within) in
    says i.table.now i.item.now i.steps i.room i.run c.step.new.run V.Spent m told (c.in-Spent.ensures.kept (λ e. cc e)) (c.in-Spent.ensures.taken (λ e. cc e)) c.step.ensures.capacity

pub returns-in-Replied-clause-verdict : goal.returns-in-Replied-clause-verdict
returns-in-Replied-clause-verdict c = λ v e.
    let i = c.self.inside in
    let m = rw c.in_default.is at c.self.invariant in
    let reply = c.in-Replied.ensures.told refl in
    let found = rw reply.1 at (c.in-Replied.ensures.finds (root_question i.table.now i.item.now) m.parts m.within) in
    let told = is_verdict i.table.now i.item.now i.steps _ (reply_view reply.0) m.sound found in
    let same : verdict_of (reply_view reply.0) ≡ v = cc (e, c.verdict_by-verdict.ensures reply.0 reply.1) in
    rw (← c.self.view_is) (rw same at told, cc (e, c.verdict_by-verdict.ensures reply.0 reply.1))

pub returns-in-Spent-clause-verdict : goal.returns-in-Spent-clause-verdict
returns-in-Spent-clause-verdict c = λ v e.
    let i = c.self.inside in
    let m = rw c.in_default.is at c.self.invariant in
    let told = is_spent_verdict i.table.now i.item.now i.steps m.sound (c.in-Spent.ensures.finds (root_question i.table.now i.item.now) m.parts m.within) in
    let same : V.Spent ≡ v = cc e in
    rw (← c.self.view_is) (subst (λ v. IsVerdict i.table.now i.item.now i.steps v) same told, cc e)

pub returns-in-Some-clause-verdict : goal.returns-in-Some-clause-verdict
returns-in-Some-clause-verdict c = λ v e.
    let said = c.answer.ensures.said v e in
    let ended : c.self.inside.end ≡ Some (Said v) = rw said at c.in-Some.is in
    let p = rw ended at c.self.invariant.parts in
    rw (← c.self.view_is) (p.0, ended)

pub returns-in-Some-clause-decided : goal.returns-in-Some-clause-decided
returns-in-Some-clause-decided c = rw (← c.self.view_is) (decides c.self.inside.table.now c.self.inside.item.now (room c.self.inside.item.now c.self.invariant.sound))

pub returns-in-GoesOn-clause-decided : goal.returns-in-GoesOn-clause-decided
returns-in-GoesOn-clause-decided c = rw (← c.self.view_is) (decides c.self.inside.table.now c.self.inside.item.now (room c.self.inside.item.now c.self.invariant.sound))

pub returns-in-Replied-clause-decided : goal.returns-in-Replied-clause-decided
returns-in-Replied-clause-decided c = rw (← c.self.view_is) (decides c.self.inside.table.now c.self.inside.item.now (room c.self.inside.item.now c.self.invariant.sound))

pub returns-in-Spent-clause-decided : goal.returns-in-Spent-clause-decided
returns-in-Spent-clause-decided c = rw (← c.self.view_is) (decides c.self.inside.table.now c.self.inside.item.now (room c.self.inside.item.now c.self.invariant.sound))

pub returns-in-NoMemory-clause-decided : goal.returns-in-NoMemory-clause-decided
returns-in-NoMemory-clause-decided c = rw (← c.self.view_is) (decides c.self.inside.table.now c.self.inside.item.now (room c.self.inside.item.now c.self.invariant.sound))

pub returns-in-NoMemory-clause-room : goal.returns-in-NoMemory-clause-room
returns-in-NoMemory-clause-room c = λ e.
    let i = c.self.inside in
    let m = rw c.in_default.is at c.self.invariant in
    rw (← c.self.view_is) (wants_room i.table.now i.item.now i.steps i.room i.run m (c.in-NoMemory.ensures.memory refl))
