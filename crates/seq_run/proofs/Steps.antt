-- The steps of a session, from the answers of its reader.
use Rattle.std.proofs.Common.{◌≡◌, ◌≢◌, ℕ, ◌+◌, ◌^◌, ◌<◌, List, [], ◌∷◌, ◌++◌, length, take, map, Option, Some, None, Result, Ok, Err, refl, sym, ap, ◌∙◌, subst, arith, append-nil}
use Rattle.std.specs.declared.alloc.AllocError.{AllocError}
use Rattle.cbor_data.specs.Value.{Value}
use Rattle.cbor_data.specs.Faults.{Bounds, IsFaultOf}
use Rattle.cbor_data.specs.Sequence.{Found}
use Rattle.cbor_read.specs.Reading.{Reading}
use Rattle.cbor_read.specs.Answers as reader
use Rattle.cbor_read.specs.Answers.{IsGoingOn, IsTaken}
use Rattle.cbor_read.specs.declared.fault.Fault as declared
use Rattle.cbor_read.specs.declared.fault.Stop.{Stop}
use Rattle.cbor_read.specs.declared.fault.Stop.TheVariants as stop
use Rattle.seq_run.specs.Judge.{Judge}
use Rattle.seq_run.specs.declared.end.Cause.{Cause}
use Rattle.seq_run.specs.declared.end.Cause.TheVariants.{Fault, Mismatch, Spent}
use Rattle.seq_run.specs.declared.end.End.{End}
use Rattle.seq_run.specs.declared.end.End.TheVariants.{Clean, Failed}
use Rattle.seq_run.specs.declared.end.Stopped.{Stopped}
use Rattle.seq_run.specs.declared.end.Stopped.TheVariants.{Ended, Memory}
use Rattle.seq_run.specs.declared.session.FoundItem.{FoundItem}
use Rattle.seq_run.specs.declared.session.Step.{Step}
use Rattle.seq_run.specs.declared.session.Step.TheVariants as step
use Rattle.seq_run.specs.Ends.{Accepts, BeginsWith, Ends}
use Rattle.seq_run.specs.Judged.{IsFailing}
use Rattle.seq_run.specs.FoundItem.{found_of}
use Rattle.seq_run.specs.Progress.{Progress}
use Rattle.seq_run.specs.Parts.{IsCounted, IsRejected, IsRunning, AreParts, parts_of}
use Rattle.seq_run.specs.Answers.{IsOpen, IsEnded, IsCutShort, IsCount, IsFedOne, IsStep, IsFinish}
use Rattle.seq_run.proofs.Ending.{clean_end, fault_end}
use Rattle.seq_run.proofs.Verdicts.{OneAnswer}
use Rattle.seq_run.proofs.Transitions.{grows, going_on, opened, took, missed, overrun, faulted, cut_short, counted, counted_now, counts_below}

-- an item more is noted
pub noted : (taken : List FoundItem) (p : FoundItem) (after : List FoundItem) → after ≡ taken ++ p ∷ [] → map found_of after ≡ map found_of taken ++ found_of p ∷ []
noted [] p after e = ap (map found_of) e
noted (q ∷ qs) p after e = ap (map found_of) e ∙ ap (λ (fs : List Found). found_of q ∷ fs) (noted qs p (qs ++ p ∷ []) refl)

pub answered : (now : Progress) (piece : List ℕ) (result : Result Step AllocError) (new : Progress) → now.stopped ≡ None → IsFedOne now piece result new → IsStep now.stopped now piece result new
answered now piece result new e s = subst (λ v. IsStep v now piece result new) (sym e) s

-- what was taken, whether a session has stopped or not
pub count_of : (judge : Judge) (fed : List ℕ) (taken : List Found) (r : Reading) (items offset bytes : ℕ) (rejected : Option Value) (stopped : Option Stopped) →
    AreParts stopped judge r.limits fed taken (parts_of r items offset bytes rejected) → IsCounted judge r.limits fed taken items offset
count_of judge fed taken r items offset bytes rejected None parts = counted_now judge r.limits fed taken r items offset bytes rejected parts
count_of judge fed taken r items offset bytes rejected (Some Memory) parts = parts.0
count_of judge fed taken r items offset bytes rejected (Some (Ended end)) parts = parts.0

module _ (judge : Judge) (fed : List ℕ) (taken : List Found) (r : Reading) (items offset bytes : ℕ) (stopped : Option Stopped) (rejected : Option Value)
    (is : stopped ≡ None) (parts : AreParts stopped judge r.limits fed taken (parts_of r items offset bytes rejected)) where
  running : IsRunning judge r.limits fed taken (parts_of r items offset bytes rejected)
  running = subst (λ v. AreParts v judge r.limits fed taken (parts_of r items offset bytes rejected)) is parts

  abbrev old : Progress
  old = record { judge = judge; limits = r.limits; fed = fed; taken = taken; stopped = stopped }

  pub going_reader : r.stopped ≡ None
  going_reader = running.going

  pub more_fits : (piece : List ℕ) (new : Reading) → IsGoingOn r piece new → bytes + length piece < 2 ^ 64
  more_fits piece new g = omega (arith, grows judge r.limits fed taken r items offset bytes rejected running piece new g)

  more_running : (piece : List ℕ) (new : Reading) (fed' : List ℕ) → fed' ≡ fed ++ piece → IsGoingOn r piece new → IsRunning judge new.limits fed' taken (parts_of new items offset (bytes + length piece) rejected)
  more_running piece new fed' e g =
      let next = going_on judge r.limits fed taken r items offset bytes rejected running piece new g in
      let limits : r.limits ≡ new.limits = ap (λ (v : Reading). v.limits) (sym g.next) in
      subst (λ l. IsRunning judge l fed' taken (parts_of new items offset (bytes + length piece) rejected)) limits (subst (λ f. IsRunning judge r.limits f taken (parts_of new items offset (bytes + length piece) rejected)) (sym e) next)

  pub more_kept : (piece : List ℕ) (new : Reading) (fed' : List ℕ) → fed' ≡ fed ++ piece → IsGoingOn r piece new → AreParts stopped judge new.limits fed' taken (parts_of new items offset (bytes + length piece) rejected)
  more_kept piece new fed' e g = subst (λ v. AreParts v judge new.limits fed' taken (parts_of new items offset (bytes + length piece) rejected)) (sym is) (more_running piece new fed' e g)

  pub more_step : (now : Progress) → old ≡ now → (piece : List ℕ) (new : Reading) (fed' : List ℕ) → fed' ≡ fed ++ piece → IsGoingOn r piece new →
      IsFedOne now piece (Ok step.More) (record { judge = judge; limits = new.limits; fed = fed'; taken = taken; stopped = stopped })
  more_step now same piece new fed' e g =
      let limits : new.limits ≡ r.limits = ap (λ (v : Reading). v.limits) g.next in
      let next = more_running piece new fed' e g in
      let after : Progress = record { judge = judge; limits = new.limits; fed = fed'; taken = taken; stopped = stopped } in
      let open_now : IsOpen after = opened judge new.limits fed' taken new items offset (bytes + length piece) rejected next stopped is in
      let moved : after ≡ record old { fed = fed ++ piece } = rw (limits, e) refl in
      let moved_now : after ≡ record now { fed = now.fed ++ piece } = subst (λ (p : Progress). after ≡ record p { fed = p.fed ++ piece }) same moved in
      (moved_now, open_now)

  -- whatever follows the piece, the stream has this end
  ended_step : (now : Progress) → old ≡ now → (piece : List ℕ) (end : End) (limits : Bounds) (fed' : List ℕ) → limits ≡ r.limits → fed' ≡ fed ++ piece →
      ((more : List ℕ) → Ends judge r.limits ((fed ++ piece) ++ more) taken end) →
      IsFedOne now piece (Ok (step.Ended end)) (record { judge = judge; limits = limits; fed = fed'; taken = taken; stopped = Some (Ended end) })
  ended_step now same piece end limits fed' bounds e ends =
      let after : Progress = record { judge = judge; limits = limits; fed = fed'; taken = taken; stopped = Some (Ended end) } in
      let ended : IsEnded after end = record { ends = λ more. rw (bounds, e) (ends more); stopped = refl } in
      let moved : after ≡ record old { fed = fed ++ piece; stopped = Some (Ended end) } = rw (bounds, e) refl in
      let moved_now : after ≡ record now { fed = now.fed ++ piece; stopped = Some (Ended end) } = subst (λ (p : Progress). after ≡ record p { fed = p.fed ++ piece; stopped = Some (Ended end) }) same moved in
      (moved_now, ended)

  -- an item was accepted
  pub item_fits : (piece : List ℕ) (used : ℕ) (x : Value) (new : Reading) → IsTaken r piece used x new → Accepts judge x [] → (items + 1 < 2 ^ 64) × (bytes + used < 2 ^ 64)
  item_fits piece used x new t accepts =
      let next = took judge r.limits fed taken r items offset bytes rejected running piece used x new t accepts in
      let below = counts_below judge r.limits fed taken r items offset bytes rejected running in
      (omega (arith, below, t.some, next.0), omega (arith, next.0))

  pub item_kept : (piece : List ℕ) (used : ℕ) (x : Value) (new : Reading) (fed' : List ℕ) (taken' : List Found) → fed' ≡ fed ++ take used piece →
      taken' ≡ taken ++ record { offset = offset; item = x } ∷ [] → IsTaken r piece used x new → Accepts judge x [] →
      AreParts stopped judge new.limits fed' taken' (parts_of new (items + 1) (bytes + used) (bytes + used) rejected)
  item_kept piece used x new fed' taken' e f t accepts =
      let limits : new.limits ≡ r.limits = ap (λ (v : Reading). v.limits) t.next in
      let next = (took judge r.limits fed taken r items offset bytes rejected running piece used x new t accepts).1 in
      let there : IsRunning judge new.limits (fed ++ take used piece) (taken ++ record { offset = offset; item = x } ∷ []) (parts_of new (items + 1) (bytes + used) (bytes + used) None) =
      subst (λ l. IsRunning judge l (fed ++ take used piece) (taken ++ record { offset = offset; item = x } ∷ []) (parts_of new (items + 1) (bytes + used) (bytes + used) None)) (sym limits) next in
      rw (is, e, f, running.none) there

  -- the session after an item that was accepted
  abbrev After : Reading → List ℕ → List Found → Progress
  After new fed' taken' = record { judge = judge; limits = new.limits; fed = fed'; taken = taken'; stopped = stopped }

  -- the count of what was taken before
  pub counted_before : (now : Progress) → old ≡ now → IsCount now items offset
  counted_before now same = subst (λ (p : Progress). IsCount p items offset) same (counted_now judge r.limits fed taken r items offset bytes rejected running)

  pub item_step : (now : Progress) → old ≡ now → (piece : List ℕ) (used : ℕ) (x : Value) (new : Reading) (fed' : List ℕ) (taken' : List Found) → fed' ≡ fed ++ take used piece →
      taken' ≡ taken ++ record { offset = offset; item = x } ∷ [] → IsTaken r piece used x new → Accepts judge x [] → IsFedOne now piece (Ok (step.Item used x)) (After new fed' taken')
  item_step now same piece used x new fed' taken' e f t accepts =
      let limits : new.limits ≡ r.limits = ap (λ (v : Reading). v.limits) t.next in
      let more : Found = record { offset = offset; item = x } in
      let running_now : IsRunning judge new.limits fed' taken' (parts_of new (items + 1) (bytes + used) (bytes + used) rejected) =
      subst (λ v. AreParts v judge new.limits fed' taken' (parts_of new (items + 1) (bytes + used) (bytes + used) rejected)) is (item_kept piece used x new fed' taken' e f t accepts) in
      let nothing : new.fed ≡ [] = ap (λ (v : Reading). v.fed) t.next in
      let begins : BeginsWith judge new.limits fed' taken' [] = subst (λ (b : List ℕ). BeginsWith judge new.limits fed' taken' b) nothing running_now.takes in
      let moved : After new fed' taken' ≡ record old { fed = fed ++ take used piece; taken = taken ++ more ∷ [] } = rw (limits, e, f) refl in
      let moved_now : After new fed' taken' ≡ record now { fed = now.fed ++ take used piece; taken = now.taken ++ more ∷ [] } = subst (λ (p : Progress). After new fed' taken' ≡ record p { fed = p.fed ++ take used piece; taken = p.taken ++ more ∷ [] }) same moved in
      let before : IsCount now (length now.taken) offset = let c = counted_before now same in subst (λ n. IsCount now n offset) c.items_is c in
      record { some = t.some; within = t.within; offset = offset; place = before; next = moved_now; ends = clean_end judge new.limits fed' taken' begins; short = omega (arith, running_now.bytes_is, running_now.short) }

  -- what comes fails, whatever follows
  failing : OneAnswer → (piece : List ℕ) (cause : Cause) (left : Option Value) (new : Reading) (more : List ℕ) → IsFailing judge r piece cause left new →
      Ends judge r.limits ((fed ++ piece) ++ more) taken (Failed items offset cause) × IsRejected judge r.limits ((fed ++ piece) ++ more) taken (Failed items offset cause) left
  failing one piece (Fault f) left new more (used, refused, none) = (faulted judge r.limits fed taken r items offset bytes rejected running piece used f new more refused, none)
  failing one piece (Mismatch place) left new more (used, x, t, misses, is) =
      let both = missed judge r.limits fed taken r items offset bytes rejected running piece used x new more t one place misses in
      (both.0, subst (λ (v : Option Value). IsRejected judge r.limits ((fed ++ piece) ++ more) taken (Failed items offset (Mismatch place)) v) (sym is) both.1)
  failing one piece Spent left new more (used, x, t, over, none) = (overrun judge r.limits fed taken r items offset bytes rejected running piece used x new more t over, none)

  failing_limits : (piece : List ℕ) (cause : Cause) (left : Option Value) (new : Reading) → IsFailing judge r piece cause left new → new.limits ≡ r.limits
  failing_limits piece (Fault f) left new (used, refused, none) = ap (λ (v : Reading). v.limits) refused.next
  failing_limits piece (Mismatch place) left new (used, x, t, misses, is) = ap (λ (v : Reading). v.limits) t.next
  failing_limits piece Spent left new (used, x, t, over, none) = ap (λ (v : Reading). v.limits) t.next

  pub stopped_kept : OneAnswer → (piece : List ℕ) (cause : Cause) (left : Option Value) (new : Reading) (fed' : List ℕ) → fed' ≡ fed ++ piece → IsFailing judge r piece cause left new →
      IsCounted judge new.limits fed' taken items offset × Ends judge new.limits fed' taken (Failed items offset cause) × IsRejected judge new.limits fed' taken (Failed items offset cause) left
  stopped_kept one piece cause left new fed' e f =
      let whole : fed' ≡ (fed ++ piece) ++ [] = e ∙ sym (append-nil (fed ++ piece)) in
      let end = Failed items offset cause in
      let count : IsCounted judge new.limits fed' taken items offset = rw (failing_limits piece cause left new f, e) (counted judge r.limits fed taken r items offset bytes rejected running piece) in
      let both = subst (λ (l : Bounds). Ends judge l fed' taken end × IsRejected judge l fed' taken end left) (sym (failing_limits piece cause left new f))
      (subst (λ (b : List ℕ). Ends judge r.limits b taken end × IsRejected judge r.limits b taken end left) (sym whole) (failing one piece cause left new [] f)) in
      (count, both.0, both.1)

  pub stopped_step : OneAnswer → (now : Progress) → old ≡ now → (piece : List ℕ) (cause : Cause) (left : Option Value) (new : Reading) (fed' : List ℕ) → fed' ≡ fed ++ piece → IsFailing judge r piece cause left new →
      IsFedOne now piece (Ok (step.Ended (Failed items offset cause))) (record { judge = judge; limits = new.limits; fed = fed'; taken = taken; stopped = Some (Ended (Failed items offset cause)) })
  stopped_step one now same piece cause left new fed' e f =
      ended_step now same piece (Failed items offset cause) new.limits fed' (failing_limits piece cause left new f) e (λ more. (failing one piece cause left new more f).0)

  -- there was no memory
  pub cut_kept : (piece : List ℕ) (limits : Bounds) (fed' : List ℕ) → limits ≡ r.limits → fed' ≡ fed ++ piece → IsCounted judge limits fed' taken items offset × (rejected ≡ None)
  cut_kept piece limits fed' bounds e =
      let count : IsCounted judge limits fed' taken items offset = rw (bounds, e) (counted judge r.limits fed taken r items offset bytes rejected running piece) in
      (count, running.none)

  pub cut_step : (now : Progress) → old ≡ now → (piece : List ℕ) (error : AllocError) (limits : Bounds) (fed' : List ℕ) → limits ≡ r.limits → fed' ≡ fed ++ piece →
      IsFedOne now piece (Err error) (record { judge = judge; limits = limits; fed = fed'; taken = taken; stopped = Some Memory })
  cut_step now same piece error limits fed' bounds e =
      let after : Progress = record { judge = judge; limits = limits; fed = fed'; taken = taken; stopped = Some Memory } in
      let short : IsCutShort after = rw (bounds, e) (cut_short judge r.limits fed taken r items offset bytes rejected running piece) in
      let moved : after ≡ record old { fed = fed ++ piece; stopped = Some Memory } = rw (bounds, e) refl in
      let moved_now : after ≡ record now { fed = now.fed ++ piece; stopped = Some Memory } = subst (λ (p : Progress). after ≡ record p { fed = p.fed ++ piece; stopped = Some Memory }) same moved in
      (moved_now, short)

  -- the end of the bytes fed
  abbrev pub Kept : End → Type 0
  Kept end = IsCounted judge r.limits fed taken items offset × Ends judge r.limits fed taken end × IsRejected judge r.limits fed taken end rejected

  count_now : IsCounted judge r.limits fed taken items offset
  count_now = counted_now judge r.limits fed taken r items offset bytes rejected running

  end_told : (result : Result (Unit {0}) Stop) → reader.IsEnd r.stopped r result → reader.IsEnd None r result
  end_told result a = subst (λ v. reader.IsEnd v r result) running.going a

  pub clean_kept : (end : End) (result : Result (Unit {0}) Stop) (u : Unit {0}) → reader.IsEnd r.stopped r result → result ≡ Ok u → end ≡ Clean items bytes → Kept end
  clean_kept end result u a ok e =
      let nothing : r.fed ≡ [] = subst (λ v. reader.IsEnd None r v) ok (end_told result a) in
      let begins : BeginsWith judge r.limits fed taken [] = subst (λ (b : List ℕ). BeginsWith judge r.limits fed taken b) nothing running.takes in
      let clean : Ends judge r.limits fed taken (Clean items bytes) = rw (running.items_is, running.bytes_is) (clean_end judge r.limits fed taken begins) in
      rw e (count_now, clean, running.none)

  pub failed_kept : (end : End) (result : Result (Unit {0}) Stop) (fault : declared.Fault) → reader.IsEnd r.stopped r result → result ≡ Err (stop.Fault fault) → end ≡ Failed items offset (Fault fault) → Kept end
  failed_kept end result fault a err e =
      let told : (r.fed ≢ []) × IsFaultOf r.limits r.offset r.fed fault.kind fault.at = subst (λ v. reader.IsEnd None r v) err (end_told result a) in
      let at : IsFaultOf r.limits offset r.fed fault.kind fault.at = subst (λ n. IsFaultOf r.limits n r.fed fault.kind fault.at) (sym running.offset_is) told.1 in
      let placed : offset + length r.fed ≡ length fed = running.reaches ∙ running.bytes_is in
      let failed : Ends judge r.limits fed taken (Failed items offset (Fault fault)) = rw running.items_is (fault_end judge r.limits fed taken r.fed offset fault.kind fault.at running.takes placed told.0 at) in
      rw e (count_now, failed, running.none)

  pub finished : (now : Progress) → old ≡ now → (end : End) → Kept end →
      IsFinish now.stopped now (Ok end) (record { judge = judge; limits = r.limits; fed = fed; taken = taken; stopped = Some (Ended end) })
  finished now same end kept =
      let after : Progress = record { judge = judge; limits = r.limits; fed = fed; taken = taken; stopped = Some (Ended end) } in
      let told : (p : Progress) → old ≡ p → Ends p.judge p.limits p.fed p.taken end × (after ≡ record p { stopped = Some (Ended end) }) =
      λ p h. subst (λ (q : Progress). Ends q.judge q.limits q.fed q.taken end × (after ≡ record q { stopped = Some (Ended end) })) h (kept.1, refl) in
      subst (λ v. IsFinish v now (Ok end) after) (sym (ap (λ (p : Progress). p.stopped) (sym same) ∙ is)) (told now same)
