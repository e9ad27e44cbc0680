use Rattle.std.proofs.Common.{◌≡◌, ◌+◌, ◌-◌, ◌≤◌, ◌<◌, length, take, drop, length-drop, sym, ap, ◌∙◌, subst, arith}
use Rattle.std.proofs.lemmas.List.{take_all}
use Rattle.read_building.specs.Building.{item}
use Rattle.read_building.specs.Stages.{stack_of, state_of, next_state}
use Rattle.read_building.specs.Noted.{IsFormAfter}
use Rattle.read_building.specs.Turns.{IsOn, IsBadOn, IsHeld, IsKept, IsTurn}
use Rattle.read_building.specs.declared.stage.Stage.{Stage}
use Rattle.read_building.proofs.Runs.{joined, joined_bad}
use Rattle.read_building.proofs.build.build_on.Goals as goal

pub returns-in_err-count-clause-held : goal.returns-in_err-count-clause-held
returns-in_err-count-clause-held c = subst (λ s. IsHeld s c.next_turn.new.held.items) (sym c.loop-used.invariant.fresh) tt

pub loop-used-preserved : goal.loop-used-preserved
loop-used-preserved c =
    let l = c.loop-used in
    let d = c.args.depth in
    let at = c.args.at in
    let piece = c.args.piece.now in
    let s = state_of c.args.stage.now c.args.held.now.items (stack_of c.args.frames.now.items) in
    let held = c.next_turn.new.held.items in
    let K = stack_of c.next_turn.new.frames.items in
    let t = state_of l.here l.held.items (stack_of l.frames.items) in
    let bytes = take (length piece - l.used) (drop l.used piece) in
    let all : bytes ≡ drop l.used piece = take_all (length piece - l.used) (drop l.used piece) (omega (arith, length-drop l.used piece)) in
    let here : IsOn d (at + l.used) t bytes c.in-On.count (next_state c.in-On.next held K) × IsKept c.in-On.next held = subst (λ turn. IsTurn d (at + l.used) t bytes turn held K (state_of l.here held K)) c.in-On.is c.in_ok-count.ensures in
    let on : IsOn d (at + l.used) t (drop l.used piece) c.in-On.count (next_state c.in-On.next held K) = subst (λ b. IsOn d (at + l.used) t b c.in-On.count (next_state c.in-On.next held K)) all here.0 in
    record {
      within = (let used : c.in-On.count ≤ length (drop l.used piece) = on.within in omega (arith, length-drop l.used piece));
      fresh = l.invariant.fresh;
      kept = subst (λ n. IsKept n held) c.in-Await.is here.1;
      run = joined d at s t (state_of c.in-Await.stage held K) piece l.used c.in-On.count l.invariant.within l.invariant.run (subst (λ n. IsOn d (at + l.used) t (drop l.used piece) c.in-On.count (next_state n held K)) c.in-Await.is on).run;
    }

pub returns-in-Whole-clause-held : goal.returns-in-Whole-clause-held
returns-in-Whole-clause-held c = subst (λ s. IsHeld s c.next_turn.new.held.items) (sym c.loop-used.invariant.fresh) tt

pub returns-in-Whole-clause-answer : goal.returns-in-Whole-clause-answer
returns-in-Whole-clause-answer c =
    let l = c.loop-used in
    let d = c.args.depth in
    let at = c.args.at in
    let piece = c.args.piece.now in
    let s = state_of c.args.stage.now c.args.held.now.items (stack_of c.args.frames.now.items) in
    let held = c.next_turn.new.held.items in
    let K = stack_of c.next_turn.new.frames.items in
    let t = state_of l.here l.held.items (stack_of l.frames.items) in
    let bytes = take (length piece - l.used) (drop l.used piece) in
    let all : bytes ≡ drop l.used piece = take_all (length piece - l.used) (drop l.used piece) (omega (arith, length-drop l.used piece)) in
    let here : IsOn d (at + l.used) t bytes c.in-On.count (next_state c.in-On.next held K) × IsKept c.in-On.next held = subst (λ turn. IsTurn d (at + l.used) t bytes turn held K (state_of l.here held K)) c.in-On.is c.in_ok-count.ensures in
    let on : IsOn d (at + l.used) t (drop l.used piece) c.in-On.count (next_state c.in-On.next held K) = subst (λ b. IsOn d (at + l.used) t b c.in-On.count (next_state c.in-On.next held K)) all here.0 in
    record {
      some = (let some : 0 < c.in-On.count = on.some in omega arith);
      within = (let used : c.in-On.count ≤ length (drop l.used piece) = on.within in omega (arith, length-drop l.used piece));
      run = joined d at s t _ piece l.used c.in-On.count l.invariant.within l.invariant.run (subst (λ n. IsOn d (at + l.used) t (drop l.used piece) c.in-On.count (next_state n held K)) c.in-Whole.is on).run;
      next = ap (λ (st : Stage). state_of st held (stack_of c.clear.new.self.items)) l.invariant.fresh ∙ ap (λ fs. item (stack_of fs)) c.clear.ensures.items;
    }

pub returns-in-BadText-clause-held : goal.returns-in-BadText-clause-held
returns-in-BadText-clause-held c = subst (λ s. IsHeld s c.next_turn.new.held.items) (sym c.loop-used.invariant.fresh) tt

pub returns-in-BadText-clause-answer : goal.returns-in-BadText-clause-answer
returns-in-BadText-clause-answer c =
    let l = c.loop-used in
    let d = c.args.depth in
    let at = c.args.at in
    let piece = c.args.piece.now in
    let s = state_of c.args.stage.now c.args.held.now.items (stack_of c.args.frames.now.items) in
    let held = c.next_turn.new.held.items in
    let K = stack_of c.next_turn.new.frames.items in
    let t = state_of l.here l.held.items (stack_of l.frames.items) in
    let bytes = take (length piece - l.used) (drop l.used piece) in
    let all : bytes ≡ drop l.used piece = take_all (length piece - l.used) (drop l.used piece) (omega (arith, length-drop l.used piece)) in
    let here : IsBadOn d (at + l.used) t bytes c.in-BadText.count c.in-BadText.place c.in-BadText.in_chunks K = subst (λ turn. IsTurn d (at + l.used) t bytes turn held K (state_of l.here held K)) c.in-BadText.is c.in_ok-count.ensures in
    let on : IsBadOn d (at + l.used) t (drop l.used piece) c.in-BadText.count c.in-BadText.place c.in-BadText.in_chunks K = subst (λ b. IsBadOn d (at + l.used) t b c.in-BadText.count c.in-BadText.place c.in-BadText.in_chunks K) all here in
    record {
      some = (let some : 0 < c.in-BadText.count = on.some in omega arith);
      within = (let used : c.in-BadText.count ≤ length (drop l.used piece) = on.within in omega (arith, length-drop l.used piece));
      state = on.state;
      run = joined_bad d at s t on.state piece l.used c.in-BadText.count c.in-BadText.place l.invariant.within l.invariant.run on.run;
      after = subst (λ m. IsFormAfter m c.in_ok-form-in-BadText.form) (sym on.form) c.in_ok-form-in-BadText.ensures;
      next = ap (λ (st : Stage). state_of st held (stack_of c.clear-in-BadText.new.self.items)) l.invariant.fresh ∙ ap (λ fs. item (stack_of fs)) c.clear-in-BadText.ensures.items;
    }
