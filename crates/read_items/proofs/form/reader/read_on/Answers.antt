use Rattle.std.proofs.Common.{◌≡◌, ◌-◌, ◌≤◌, length, take, drop, length-drop, Some, ap, ◌∙◌, subst, arith}
use Rattle.std.proofs.lemmas.List.{take_all}
use Rattle.cbor_data.specs.Machine.Machine.{item}
use Rattle.read_items.specs.Form.Stages.{stack_of, state_of}
use Rattle.read_items.specs.Form.Turns.{IsOn, IsTurn}
use Rattle.read_items.proofs.OfForm.Runs.{joined, awaiting}
use Rattle.read_items.proofs.form.reader.read_on.Goals as goal

pub returns-in-Done-clause-answer : goal.returns-in-Done-clause-answer
returns-in-Done-clause-answer c =
    let l = c.loop-used in
    let d = c.args.depth in
    let piece = c.args.piece.now in
    let s = state_of c.args.stage.now (stack_of c.args.frames.now.items) in
    let K = stack_of l.frames.items in
    let K' = stack_of c.next_turn.new.frames.items in
    let t = state_of l.stage K in
    let bytes = take (length piece - l.used) (drop l.used piece) in
    let all : bytes ≡ drop l.used piece = take_all (length piece - l.used) (drop l.used piece) (omega (arith, length-drop l.used piece)) in
    let here : IsOn d t bytes c.in-On.count c.in-On.next K' = subst (λ turn. IsTurn d t bytes turn K K') c.in-On.is c.in_ok-count.ensures in
    let on : IsOn d t (drop l.used piece) c.in-On.count c.in-On.next K' = subst (λ b. IsOn d t b c.in-On.count c.in-On.next K') all here in
    record {
      some = omega arith;
      within = (let used : c.in-On.count ≤ length (drop l.used piece) = on.within in omega (arith, length-drop l.used piece));
      leads = joined d s t (Some (state_of c.in-On.next K')) piece l.used c.in-On.count l.invariant.leads on.leads ∙ ap (λ v. Some (state_of v K')) c.in-Done.is;
      next = ap (λ fs. item (stack_of fs)) c.clear.ensures.items;
    }

pub loop-used-preserved : goal.loop-used-preserved
loop-used-preserved c =
    let l = c.loop-used in
    let d = c.args.depth in
    let piece = c.args.piece.now in
    let s = state_of c.args.stage.now (stack_of c.args.frames.now.items) in
    let K = stack_of l.frames.items in
    let K' = stack_of c.next_turn.new.frames.items in
    let t = state_of l.stage K in
    let bytes = take (length piece - l.used) (drop l.used piece) in
    let all : bytes ≡ drop l.used piece = take_all (length piece - l.used) (drop l.used piece) (omega (arith, length-drop l.used piece)) in
    let here : IsOn d t bytes c.in-On.count c.in-On.next K' = subst (λ turn. IsTurn d t bytes turn K K') c.in-On.is c.in_ok-count.ensures in
    let on : IsOn d t (drop l.used piece) c.in-On.count c.in-On.next K' = subst (λ b. IsOn d t b c.in-On.count c.in-On.next K') all here in
    record {
      within = (let used : c.in-On.count ≤ length (drop l.used piece) = on.within in omega (arith, length-drop l.used piece));
      awaiting = awaiting c.in-On.next c.in_default.not-Done;
      leads = joined d s t (Some (state_of c.in-On.next K')) piece l.used c.in-On.count l.invariant.leads on.leads;
    }
