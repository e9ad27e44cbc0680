-- A stream has one run, and one end.
use Rattle.std.proofs.Common.{◌≡◌, ℕ, ◌<◌, ◌≤◌, List, [], ◌∷◌, ◌++◌, length, refl, sym, ap, ap₂, ◌∙◌, subst, arith, length-append}
use Rattle.cbor_data.specs.Value.{Value, AreBytes}
use Rattle.cbor_data.specs.Faults.{Bounds, IsItem, IsFaultOf}
use Rattle.cbor_data.specs.Sequence as sequence
use Rattle.cbor_data.specs.Sequence.{Found, Takes, none, next, IsRunOf, EndsBy, cleanly, at_fault, at_mismatch, at_spent, failed, fault, mismatch, spent}
use Rattle.cbor_data.specs.declared.FaultKind.{FaultKind}
use Rattle.table_nodes.specs.declared.table.Table.{Table}
use Rattle.seq_run.specs.Judge.{Judge}
use Rattle.seq_run.specs.declared.end.Cause.{Cause}
use Rattle.seq_run.specs.declared.end.Cause.TheVariants.{Fault, Mismatch, Spent}
use Rattle.seq_run.specs.declared.end.End.{End}
use Rattle.seq_run.specs.declared.end.End.TheVariants.{Clean, Failed}
use Rattle.seq_run.specs.Ends.{Accepts, Misses, Overruns, Ends, IsAccepted, IsMissed, EndsFreely, cause_of, end_of}
use Rattle.seq_run.proofs.Fronts.{fault_no_item}
use Rattle.seq_run.proofs.Runs.{same_front, same_takes, item_some}
use Rattle.seq_run.proofs.Verdicts.{OneAnswer, one_place, no_overruns}

same_runs : (l : Bounds) (accepts : Value → List ℕ → Type 0) (b : List ℕ) (found others : List Found) (rest left : List ℕ) → IsRunOf l accepts b found rest → IsRunOf l accepts b others left → (found ≡ others) × (rest ≡ left)
same_runs l accepts b found others rest left r s =
    let above : length others ≤ length found = r.longest others left s.takes in
    let below : length found ≤ length others = s.longest found rest r.takes in
    same_takes l accepts r.takes s.takes (omega (arith, above, below))

-- an item is some bytes
item_left : (l : Bounds) (o : ℕ) (x : Value) (front rest back : List ℕ) → IsItem l o x front → rest ≡ front ++ back → rest ≡ [] → ⊥
item_left l o x front rest back item parts left =
    let some : 0 < length front = item_some l o x front item in
    omega (arith, some, ap length (sym left ∙ parts), length-append front back)

-- where a run leaves nothing the end is clean
pub one_clean : {accepts : Value → List ℕ → Type 0} {misses : Value → List ℕ → ℕ → Type 0} {overruns : Value → List ℕ → Type 0} {l : Bounds} {kind : Type 0} {told : ℕ → List ℕ → kind → ℕ → Type 0} {b : List ℕ} {found others : List Found} {e : sequence.End kind} →
    EndsBy l accepts told misses overruns b found e → IsRunOf l accepts b others [] → (found ≡ others) × (e ≡ sequence.clean (length others) (length b))
one_clean {accepts = accepts} {l = l} {b = b} {found = found} {others = others} (cleanly run) r =
    let same = same_runs l accepts b found others [] [] run r in
    (same.0, ap (λ (fs : List Found). sequence.clean (length fs) (length b)) same.0)
one_clean {accepts = accepts} {l = l} {b = b} {found = found} {others = others} (at_fault rest run some placed told) r =
    absurd (some (same_runs l accepts b found others rest [] run r).1)
one_clean {accepts = accepts} {l = l} {b = b} {found = found} {others = others} (at_mismatch {o = o} rest x front back run placed parts item misses) r =
    absurd (item_left l o x front rest back item parts (same_runs l accepts b found others rest [] run r).1)
one_clean {accepts = accepts} {l = l} {b = b} {found = found} {others = others} (at_spent {o = o} rest x front back run placed parts item over) r =
    absurd (item_left l o x front rest back item parts (same_runs l accepts b found others rest [] run r).1)

pub bytes_after : (front back : List ℕ) → AreBytes (front ++ back) → AreBytes back
bytes_after [] back are = are
bytes_after (x ∷ front) back are = bytes_after front back are.1

rest_bytes : {l : Bounds} {accepts : Value → List ℕ → Type 0} {o : ℕ} {b : List ℕ} {found : List Found} {rest : List ℕ} → Takes l accepts o b found rest → AreBytes b → AreBytes rest
rest_bytes none are = are
rest_bytes (next x front back e i c t) are = rest_bytes t (bytes_after front back (subst AreBytes e are))

-- the law of the reader that a rest has one fault at most
abbrev pub OneFault : Type 0
OneFault = (l : Bounds) (o : ℕ) (b : List ℕ) (j k : FaultKind) (at to : ℕ) → AreBytes b → IsFaultOf l o b j at → IsFaultOf l o b k to → (j ≡ k) × (at ≡ to)

one_told : OneFault → {l : Bounds} {o p : ℕ} {rest left : List ℕ} {at to : ℕ} (j k : FaultKind) → o ≡ p → rest ≡ left → AreBytes rest → IsFaultOf l o rest j at → IsFaultOf l p left k to → (j ≡ k) × (at ≡ to)
one_told one {l} {o} {p} {rest} {left} {at} {to} j k place same are s t =
    one l o rest j k at to are s (subst (λ n. IsFaultOf l n rest k to) (sym place) (subst (λ (b : List ℕ). IsFaultOf l p b k to) (sym same) t))

told_no_item : {l : Bounds} {o p : ℕ} {rest left : List ℕ} {at : ℕ} (k : FaultKind) (x : Value) (front back : List ℕ) → o ≡ p → rest ≡ left → IsFaultOf l o rest k at → left ≡ front ++ back → IsItem l p x front → ⊥
told_no_item {l} {o} {p} {rest} {left} {at} k x front back place same told parts item =
    fault_no_item l o rest k at x front back told (subst (λ n. IsItem l n x front) (sym place) item) (same ∙ parts)

same_failed : {n m o p : ℕ} {c d : sequence.Cause FaultKind} → n ≡ m → o ≡ p → c ≡ d → failed n o c ≡ failed m p d
same_failed {m = m} {p = p} {c = c} e f g = ap₂ (λ i j. failed i j c) e f ∙ ap (failed m p) g

-- Of an item, a no shows at one place, and is no want of steps.
pub record AreApart (misses : Value → List ℕ → ℕ → Type 0) (overruns : Value → List ℕ → Type 0) : Type 0 where
  pub one_place : {l : Bounds} {o p q : ℕ} {x : Value} {a : List ℕ} → IsItem l o x a → misses x a p → misses x a q → p ≡ q
  pub not_both : (x : Value) (place : ℕ) (a : List ℕ) → overruns x a → misses x a place → ⊥

module _ (one_fault : OneFault) (l : Bounds) (accepts : Value → List ℕ → Type 0) (misses : Value → List ℕ → ℕ → Type 0) (overruns : Value → List ℕ → Type 0) (apart : AreApart misses overruns) where
  -- EndsBy, of what is told here
  abbrev EndsAs : List ℕ → List Found → sequence.End FaultKind → Type 0
  EndsAs b found e = EndsBy l accepts (IsFaultOf l) misses overruns b found e

  -- what comes after the run is one item
  same_item : (o p : ℕ) (x y : Value) (a r b s rest left : List ℕ) → rest ≡ a ++ r → left ≡ b ++ s → rest ≡ left → IsItem l o x a → IsItem l p y b → (a ≡ b) × (r ≡ s) × (x ≡ y)
  same_item o p x y a r b s rest left e f same i j = same_front l l o p x y a r b s i j (sym e ∙ (same ∙ f))

  both_miss : (o p m n : ℕ) (x y : Value) (a r b s rest left : List ℕ) → rest ≡ a ++ r → left ≡ b ++ s → rest ≡ left → IsItem l o x a → IsItem l p y b → misses x a m → misses y b n → m ≡ n
  both_miss o p m n x y a r b s rest left e f same i j h k =
      let one = same_item o p x y a r b s rest left e f same i j in
      apart.one_place i h (subst (λ v. misses v a n) (sym one.2) (subst (λ c. misses y c n) (sym one.0) k))

  miss_and_overrun : (o p m : ℕ) (x y : Value) (a r b s rest left : List ℕ) → rest ≡ a ++ r → left ≡ b ++ s → rest ≡ left → IsItem l o x a → IsItem l p y b → misses x a m → overruns y b → ⊥
  miss_and_overrun o p m x y a r b s rest left e f same i j h k =
      let one = same_item o p x y a r b s rest left e f same i j in
      apart.not_both x m a (subst (λ v. overruns v a) (sym one.2) (subst (λ c. overruns y c) (sym one.0) k)) h

  pub one_way : (b : List ℕ) {found others : List Found} {e f : sequence.End FaultKind} → AreBytes b → EndsAs b found e → EndsAs b others f → (found ≡ others) × (e ≡ f)
  one_way b are (cleanly run) u = let same = one_clean u run in (sym same.0, sym same.1)
  one_way b are (at_fault rest run some placed told) (cleanly other) = one_clean {misses = misses} {overruns = overruns} {told = IsFaultOf l} (at_fault rest run some placed told) other
  one_way b {found} {others} are (at_fault {o = o} {k = j} rest run some placed told) (at_fault {o = p} {k = k} left other any put tell) =
      let same = same_runs l accepts b found others rest left run other in
      let offset : o ≡ p = omega (arith, placed, put, ap length same.1) in
      let both = one_told one_fault j k offset same.1 (rest_bytes run.takes are) told tell in
      (same.0, same_failed (ap length same.0) offset (ap₂ fault both.0 both.1))
  one_way b {found} {others} are (at_fault {o = o} {k = j} rest run some placed told) (at_mismatch {o = p} left x front back other put parts item misses) =
      let same = same_runs l accepts b found others rest left run other in
      let offset : o ≡ p = omega (arith, placed, put, ap length same.1) in
      absurd (told_no_item j x front back offset same.1 told parts item)
  one_way b {found} {others} are (at_fault {o = o} {k = j} rest run some placed told) (at_spent {o = p} left x front back other put parts item over) =
      let same = same_runs l accepts b found others rest left run other in
      let offset : o ≡ p = omega (arith, placed, put, ap length same.1) in
      absurd (told_no_item j x front back offset same.1 told parts item)
  one_way b are (at_mismatch rest x front back run placed parts item fails) (cleanly other) = one_clean {misses = misses} {overruns = overruns} {told = IsFaultOf l} (at_mismatch rest x front back run placed parts item fails) other
  one_way b {found} {others} are (at_mismatch {o = o} rest x front back run placed parts item misses) (at_fault {o = p} {k = k} left other any put tell) =
      let same = same_runs l accepts b found others rest left run other in
      let offset : p ≡ o = omega (arith, placed, put, ap length same.1) in
      absurd (told_no_item k x front back offset (sym same.1) tell parts item)
  one_way b {found} {others} are (at_mismatch {o = o} {place = m} rest x front back run placed parts item misses) (at_mismatch {o = p} {place = n} left y prefix suffix other put split another fails) =
      let same = same_runs l accepts b found others rest left run other in
      let offset : o ≡ p = omega (arith, placed, put, ap length same.1) in
      (same.0, same_failed (ap length same.0) offset (ap mismatch (both_miss o p m n x y front back prefix suffix rest left parts split same.1 item another misses fails)))
  one_way b {found} {others} are (at_mismatch {o = o} {place = m} rest x front back run placed parts item misses) (at_spent {o = p} left y prefix suffix other put split another over) =
      absurd (miss_and_overrun o p m x y front back prefix suffix rest left parts split (same_runs l accepts b found others rest left run other).1 item another misses over)
  one_way b are (at_spent rest x front back run placed parts item over) (cleanly other) = one_clean {misses = misses} {overruns = overruns} {told = IsFaultOf l} (at_spent rest x front back run placed parts item over) other
  one_way b {found} {others} are (at_spent {o = o} rest x front back run placed parts item over) (at_fault {o = p} {k = k} left other any put tell) =
      let same = same_runs l accepts b found others rest left run other in
      let offset : p ≡ o = omega (arith, placed, put, ap length same.1) in
      absurd (told_no_item k x front back offset (sym same.1) tell parts item)
  one_way b {found} {others} are (at_spent {o = o} rest x front back run placed parts item over) (at_mismatch {o = p} {place = n} left y prefix suffix other put split another fails) =
      absurd (miss_and_overrun p o n y x prefix suffix front back left rest split parts (sym (same_runs l accepts b found others rest left run other).1) another item fails over)
  one_way b {found} {others} are (at_spent {o = o} rest x front back run placed parts item over) (at_spent {o = p} left y prefix suffix other put split another also) =
      let same = same_runs l accepts b found others rest left run other in
      let offset : o ≡ p = omega (arith, placed, put, ap length same.1) in
      (same.0, same_failed (ap length same.0) offset refl)

-- an end of the code is one of the definition

abbrev pub cause_as : sequence.Cause FaultKind → Cause
cause_as (fault kind at) = Fault (record { at = at; kind = kind })
cause_as (mismatch place) = Mismatch place
cause_as spent = Spent

abbrev pub end_as : sequence.End FaultKind → End
end_as (sequence.clean items bytes) = Clean items bytes
end_as (failed items offset cause) = Failed items offset (cause_as cause)

cause_again : (c : Cause) → cause_as (cause_of c) ≡ c
cause_again (Fault f) = refl
cause_again (Mismatch place) = refl
cause_again Spent = refl

end_again : (e : End) → end_as (end_of e) ≡ e
end_again (Clean items bytes) = refl
end_again (Failed items offset cause) = ap (Failed items offset) (cause_again cause)

pub same_end : (end other : End) → end_of end ≡ end_of other → end ≡ other
same_end end other e = sym (end_again end) ∙ (ap end_as e ∙ end_again other)

module _ (one_fault : OneFault) (one_answer : OneAnswer) where
  judged_apart : (judge : Judge) → AreApart (Misses judge) (Overruns judge)
  judged_apart judge = record { one_place = λ item m n. one_place one_answer judge.table item m.1 n.1; not_both = λ x place a over m. no_overruns judge x place a a over m }

  missed_apart : (table : Table) → AreApart (IsMissed table) (λ x b. ⊥)
  missed_apart table = record { one_place = λ item m n. one_place one_answer table item m.1 n.1; not_both = λ x place a over m. over }

  pub one_end : (judge : Judge) (l : Bounds) (stream : List ℕ) (found others : List Found) (end other : End) → AreBytes stream → Ends judge l stream found end → Ends judge l stream others other → (found ≡ others) × (end ≡ other)
  one_end judge l stream found others end other are ends also =
      let same = one_way one_fault l (Accepts judge) (Misses judge) (Overruns judge) (judged_apart judge) stream are ends also in
      (same.0, same_end end other same.1)

  pub one_free_end : (table : Table) (l : Bounds) (stream : List ℕ) (found others : List Found) (end other : End) → AreBytes stream → EndsFreely table l stream found end → EndsFreely table l stream others other → (found ≡ others) × (end ≡ other)
  one_free_end table l stream found others end other are ends also =
      let same = one_way one_fault l (IsAccepted table) (IsMissed table) (λ x b. ⊥) (missed_apart table) stream are ends also in
      (same.0, same_end end other same.1)
