-- The output of a piece.
use Rattle.std.proofs.Common.{◌≡◌, ℕ, suc, ◌+◌, ◌-◌, ◌<◌, ◌≤◌, ◌^◌, List, [], ◌∷◌, ◌++◌, length, take, drop, Option, Some, None, Result, Ok, refl, sym, ap, ap₂, ◌∙◌, subst, arith, append-nil, append_assoc, length-append}
use Rattle.std.specs.declared.alloc.AllocError.{AllocError}
use Rattle.std.proofs.lemmas.List.{take-append-drop, length-drop, length-take-le}
use Rattle.std.proofs.Math.Seq.{take-length}
use Rattle.cbor_data.specs.Value.{Value, place_count}
use Rattle.cbor_data.specs.Sequence as sequence
use Rattle.cbor_data.specs.Sequence.{Found, EndsBy, cleanly, at_fault, at_mismatch, at_spent}
use Rattle.cbor_data.specs.Faults.{Bounds}
use Rattle.seq_run.specs.Judge.{Judge}
use Rattle.seq_run.specs.declared.end.Cause.TheVariants.{Fault, Mismatch, Spent}
use Rattle.seq_run.specs.declared.end.End.{End}
use Rattle.seq_run.specs.declared.end.End.TheVariants.{Clean, Failed}
use Rattle.seq_run.specs.declared.session.Step.{Step}
use Rattle.seq_run.specs.declared.session.Step.TheVariants as step
use Rattle.seq_run.specs.Ends.{Accepts, Misses, Overruns, Ends}
use Rattle.seq_run.specs.Progress.{Progress}
use Rattle.seq_run.specs.Parts.{IsNext, IsRejected}
use Rattle.seq_run.specs.Answers.{AreSmallsFed, IsCount, IsOpen, IsEnded, IsFedOne, IsItemFed, IsStep, IsLent}
use Rattle.seq_run.specs.declared.output.Mode.{Mode}
use Rattle.seq_run.specs.Report.{IsShown}
use Rattle.seq_run.specs.Output.{item_output, items_output}
use Rattle.seq_run.specs.Running.{Adds, IsSettled}
use Rattle.seq_run.specs.Smalls.{smalls_from}
use Rattle.seq_run.proofs.Runs.{same_front, same_takes, takes_count}
use Rattle.seq_run.proofs.Verdicts.{ShowsInside}

-- items, and more of them
pub items_output_append : (mode : Mode) (n : ℕ) (fs gs : List Found) → items_output mode n (fs ++ gs) ≡ items_output mode n fs ++ items_output mode (n + length fs) gs
items_output_append mode n [] gs = ap (λ (m : ℕ). items_output mode m gs) (let e : n ≡ n + 0 = omega arith in e)
items_output_append mode n (f ∷ fs) gs =
    let number : suc n + length fs ≡ n + suc (length fs) = omega arith in
    ap (λ (b : List ℕ). item_output mode n f ++ b) (items_output_append mode (suc n) fs gs ∙ ap (λ (m : ℕ). items_output mode (suc n) fs ++ items_output mode m gs) number) ∙ sym (append_assoc (item_output mode n f) (items_output mode (suc n) fs) (items_output mode (n + suc (length fs)) gs))

pub items_output_more : (mode : Mode) (n : ℕ) (fs : List Found) (f : Found) → items_output mode n (fs ++ f ∷ []) ≡ items_output mode n fs ++ item_output mode (n + length fs) f
items_output_more mode n fs f = items_output_append mode n fs (f ∷ []) ∙ ap (λ (b : List ℕ). items_output mode n fs ++ b) (append-nil (item_output mode (n + length fs) f))

-- the bytes of the items taken are so many
pub same_count : (p : Progress) (i j b c : ℕ) → IsCount p i b → IsCount p j c → b ≡ c
same_count p i j b c x y =
    let rests = same_takes p.limits (Accepts p.judge) x.begins y.begins refl in
    omega (arith, x.bytes_is, y.bytes_is, ap length rests.1)

-- `rest` of the piece is left, and the lines are those of the items so far
pub record IsReporting (mode : Mode) (old : Progress) (piece lines : List ℕ) (now : Progress) (rest lines_now : List ℕ) : Type 0 where
  pub fed : now.fed ++ rest ≡ old.fed ++ piece
  pub going : now.stopped ≡ None
  pub added : List Found
  pub taken : now.taken ≡ old.taken ++ added
  pub written : lines_now ≡ lines ++ items_output mode (suc (length old.taken)) added
  pub judge : now.judge ≡ old.judge
  pub limits : now.limits ≡ old.limits

pub begin_reporting : (mode : Mode) (old : Progress) (piece lines : List ℕ) → old.stopped ≡ None → IsReporting mode old piece lines old piece lines
begin_reporting mode old piece lines e = record { fed = refl; going = e; added = []; taken = sym (append-nil old.taken); written = sym (append-nil lines); judge = refl; limits = refl }

module _ (mode : Mode) (old : Progress) (piece lines : List ℕ) (now : Progress) (rest lines_now : List ℕ) (r : IsReporting mode old piece lines now rest lines_now) (new : Progress) where
  step_of : (result : Result Step AllocError) → IsStep now.stopped now rest result new → IsFedOne now rest result new
  step_of result s = subst (λ v. IsStep v now rest result new) r.going s

  adds : new.fed ≡ now.fed ++ rest → new.taken ≡ now.taken → new.judge ≡ now.judge → new.limits ≡ now.limits → Adds mode old piece lines new lines_now
  adds f t u v = record { fed = f ∙ r.fed; added = r.added; taken = t ∙ r.taken; written = r.written; judge = u ∙ r.judge; limits = v ∙ r.limits }

  pub reported_more : IsStep now.stopped now rest (Ok step.More) new → Adds mode old piece lines new lines_now × IsOpen new
  reported_more a =
      let s : IsFedOne now rest (Ok step.More) new = step_of (Ok step.More) a in
      (adds (ap (λ (p : Progress). p.fed) s.0) (ap (λ (p : Progress). p.taken) s.0) (ap (λ (p : Progress). p.judge) s.0) (ap (λ (p : Progress). p.limits) s.0), s.1)

  pub reported_ended : (end : End) → IsStep now.stopped now rest (Ok (step.Ended end)) new → Adds mode old piece lines new lines_now × IsEnded new end
  reported_ended end a =
      let s : IsFedOne now rest (Ok (step.Ended end)) new = step_of (Ok (step.Ended end)) a in
      (adds (ap (λ (p : Progress). p.fed) s.0) (ap (λ (p : Progress). p.taken) s.0) (ap (λ (p : Progress). p.judge) s.0) (ap (λ (p : Progress). p.limits) s.0), s.1)

  -- the output of items was appended, which are all of these bytes of the rest
  reported_taken : (used : ℕ) (more : List Found) (before : ℕ) (lines_new : List ℕ) → new ≡ record now { fed = now.fed ++ take used rest; taken = now.taken ++ more } → before ≡ length now.taken →
      lines_new ≡ lines_now ++ items_output mode (suc before) more → IsReporting mode old piece lines new (drop used rest) lines_new
  reported_taken used more before lines_new next count written =
      let number : suc before ≡ suc (length old.taken) + length r.added = omega (arith, count, ap length r.taken, length-append old.taken r.added) in
      let same : items_output mode (suc before) more ≡ items_output mode (suc (length old.taken) + length r.added) more = ap (λ (n : ℕ). items_output mode n more) number in
      record {
        fed = ap (λ (p : Progress). p.fed ++ drop used rest) next ∙ (append_assoc now.fed (take used rest) (drop used rest) ∙ (ap (λ (xs : List ℕ). now.fed ++ xs) (take-append-drop used rest) ∙ r.fed));
        going = ap (λ (p : Progress). p.stopped) next ∙ r.going;
        added = r.added ++ more;
        taken = ap (λ (p : Progress). p.taken) next ∙ (ap (λ (fs : List Found). fs ++ more) r.taken ∙ append_assoc old.taken r.added more);
        written = written ∙ (ap₂ (λ (a b : List ℕ). a ++ b) r.written same ∙ (append_assoc lines (items_output mode (suc (length old.taken)) r.added) (items_output mode (suc (length old.taken) + length r.added) more)
            ∙ ap (λ (b : List ℕ). lines ++ b) (sym (items_output_append mode (suc (length old.taken)) r.added more))));
        judge = ap (λ (p : Progress). p.judge) next ∙ r.judge;
        limits = ap (λ (p : Progress). p.limits) next ∙ r.limits;
      }

  module _ (before offset : ℕ) (count : IsCount now before offset) where
    pub count_below : before ≤ offset
    count_below = omega (arith, takes_count now.limits (Accepts now.judge) count.begins, count.items_is, count.bytes_is)

    pub reported_item : (used : ℕ) (item : Value) (lines_new : List ℕ) → IsStep now.stopped now rest (Ok (step.Item used item)) new →
        lines_new ≡ lines_now ++ item_output mode (before + 1) (record { offset = offset; item = item }) → IsReporting mode old piece lines new (drop used rest) lines_new × (0 < used) × (used ≤ length rest)
    reported_item used item lines_new a written =
        let s : IsItemFed now rest used item new = step_of (Ok (step.Item used item)) a in
        let more : Found = record { offset = s.offset; item = item } in
        let at : offset ≡ s.offset = same_count now before (length now.taken) offset s.offset count s.place in
        let next : before + 1 ≡ suc before = omega arith in
        let line : item_output mode (before + 1) (record { offset = offset; item = item }) ≡ items_output mode (suc before) (more ∷ []) =
        ap₂ (λ (n o : ℕ). item_output mode n (record { offset = o; item = item })) next at ∙ sym (append-nil (item_output mode (suc before) more)) in
        (reported_taken used (more ∷ []) before lines_new s.next count.items_is (written ∙ ap (λ (b : List ℕ). lines_now ++ b) line), s.some, s.within)

    pub item_fits : (used : ℕ) (item : Value) → IsStep now.stopped now rest (Ok (step.Item used item)) new → before + 1 < 2 ^ 64
    item_fits used item a =
        let s : IsItemFed now rest used item new = step_of (Ok (step.Item used item)) a in
        omega (arith, count_below, s.short, ap (λ (p : Progress). length p.fed) s.next, length-append now.fed (take used rest), length-take-le used rest s.within, s.some, count.bytes_is)

    pub reported_smalls : (k : ℕ) (lines_new : List ℕ) → AreSmallsFed now (take k rest) new → lines_new ≡ lines_now ++ items_output mode (suc before) (smalls_from offset (take k rest)) →
        IsReporting mode old piece lines new (drop k rest) lines_new
    reported_smalls k lines_new s written =
        let at : offset ≡ s.offset = same_count now before (length now.taken) offset s.offset count s.place in
        reported_taken k (smalls_from s.offset (take k rest)) before lines_new s.next count.items_is (written ∙ ap (λ (o : ℕ). lines_now ++ items_output mode (suc before) (smalls_from o (take k rest))) at)

    pub smalls_short : (numbers : List ℕ) → AreSmallsFed now numbers new → offset + length numbers < 2 ^ 64
    smalls_short numbers s =
        let at : offset ≡ s.offset = same_count now before (length now.taken) offset s.offset count s.place in
        omega (arith, at, s.short)

-- the item after the run is one
pub same_next : (judge : Judge) (l : Bounds) (stream : List ℕ) (found : List Found) (x y : Value) → IsNext judge l stream found x → IsNext judge l stream found y → x ≡ y
same_next judge l stream found x y a b =
    let rests = same_takes l (Accepts judge) a.run.takes b.run.takes refl in
    let parts : a.front ++ a.back ≡ b.front ++ b.back = sym a.parts ∙ (rests.1 ∙ b.parts) in
    (same_front l l a.offset b.offset x y a.front a.back b.front b.back a.item b.item parts).2

-- a mismatch shows at a place of the item after the run
missed_there : ShowsInside → (judge : Judge) {l : Bounds} {kind : Type 0} {told : ℕ → List ℕ → kind → ℕ → Type 0} {stream : List ℕ} {found : List Found} {e : sequence.End kind} (x : Value) →
    EndsBy l (Accepts judge) told (Misses judge) (Overruns judge) stream found e → IsNext judge l stream found x → (n o place : ℕ) → e ≡ sequence.failed n o (sequence.mismatch place) → place < place_count x
missed_there inside judge x (cleanly run) is n o place e = absurd (cc)
missed_there inside judge x (at_fault rest run some placed told) is n o place e = absurd (cc)
missed_there inside judge {l} {stream = stream} {found = found} x (at_mismatch {o = p} {place = there} rest y front back run placed parts item misses) is n o place e =
    let same : there ≡ place = cc in
    let next : IsNext judge l stream found y = record { rest = rest; offset = p; front = front; back = back; run = run; offset_is = placed; parts = parts; item = item } in
    subst (λ v. place < place_count v) (same_next judge l stream found y x next is) (subst (λ m. m < place_count y) same (inside judge.table y there misses.0 misses.1))
missed_there inside judge x (at_spent rest y front back run placed parts item over) is n o place e = absurd (cc)

-- the end of a stream can be shown
pub shown : ShowsInside → (judge : Judge) (l : Bounds) (stream : List ℕ) (found : List Found) (end : End) (rejected : Option Value) → Ends judge l stream found end → IsRejected judge l stream found end rejected → IsShown end rejected
shown inside judge l stream found (Clean items bytes) rejected ends r = tt
shown inside judge l stream found (Failed items offset (Fault f)) rejected ends r = tt
shown inside judge l stream found (Failed items offset (Mismatch place)) (Some x) ends r = missed_there inside judge x ends r items offset place refl
shown inside judge l stream found (Failed items offset (Mismatch place)) None ends r = r
shown inside judge l stream found (Failed items offset Spent) rejected ends r = tt

-- the rest from a place on
pub range_from : (n : ℕ) (xs : List ℕ) → take (length xs - n) (drop n xs) ≡ drop n xs
range_from n xs = ap (λ k. take k (drop n xs)) (sym (length-drop n xs)) ∙ take-length (drop n xs)

-- the item that a settled session lends can be shown with its end
pub shown_lent : ShowsInside → (piece : List ℕ) (new : Progress) (end : End) (lent : Option Value) → IsSettled end piece new → IsLent new.stopped new lent → IsShown end lent
shown_lent inside piece new end lent s lends =
    let ends : Ends new.judge new.limits new.fed new.taken end = subst (λ (b : List ℕ). Ends new.judge new.limits b new.taken end) (append-nil new.fed) (s.ends [] (λ e. refl)) in
    let rejects : IsRejected new.judge new.limits new.fed new.taken end lent = subst (λ v. IsLent v new lent) s.stopped lends in
    shown inside new.judge new.limits new.fed new.taken end lent ends rejects
