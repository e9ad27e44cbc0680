-- Unsigned integers below 24 that are taken one after the other.
use Rattle.std.proofs.Common.{◌≡◌, ℕ, zero, suc, ◌+◌, ◌<◌, ◌≤◌, ◌^◌, List, [], ◌∷◌, ◌++◌, length, take, drop, slice_index_or, Option, None, refl, sym, ap, ap₂, ◌∙◌, subst, arith, append-nil, append_assoc, length-append}
use Rattle.std.specs.Prelude.{All}
use Rattle.std.proofs.Math.Seq.{take-suc}
use Rattle.std.proofs.lemmas.List.{length-take-le}
use Rattle.std.proofs.lemmas.List.Elements.{All-nil, All-append}
use Rattle.cbor_data.specs.Value.{Value, uint}
use Rattle.cbor_data.specs.Faults.{Bounds}
use Rattle.cbor_data.specs.Sequence.{Found}
use Rattle.cbor_read.specs.Reading.{Reading}
use Rattle.cbor_read.specs.Answers.{IsSmallNext, IsSmallTaken}
use Rattle.seq_run.specs.declared.end.Stopped.{Stopped}
use Rattle.seq_run.specs.declared.output.Mode.TheVariants as mode
use Rattle.seq_run.specs.Answers.{AreSmallsFed, IsCount}
use Rattle.seq_run.specs.Ends.{Accepts, BeginsWith}
use Rattle.seq_run.specs.Judge.{Judge}
use Rattle.seq_run.specs.Output.{items_output}
use Rattle.seq_run.specs.Parts.{IsRunning, AreParts, parts_of}
use Rattle.seq_run.specs.Progress.{Progress}
use Rattle.seq_run.specs.Smalls.{smalls_from, AreSmallsTaken, none, more}
use Rattle.seq_run.proofs.Ending.{clean_end}
use Rattle.seq_run.proofs.Small.{small_preferred}
use Rattle.seq_run.proofs.Transitions.{took, counted_now, counts_below}

-- ---- lists of them

abbrev small_at : ℕ → ℕ → Found
small_at o n = record { offset = o; item = uint n }

pub smalls_more : (o : ℕ) (ns : List ℕ) (n : ℕ) → smalls_from o (ns ++ n ∷ []) ≡ smalls_from o ns ++ record { offset = o + length ns; item = uint n } ∷ []
smalls_more o [] n = ap (λ (p : ℕ). small_at p n ∷ []) (let e : o ≡ o + 0 = omega arith in e)
smalls_more o (m ∷ ms) n =
    let at : suc o + length ms ≡ o + suc (length ms) = omega arith in
    ap (λ (fs : List Found). small_at o m ∷ fs) (smalls_more (suc o) ms n ∙ ap (λ (p : ℕ). smalls_from (suc o) ms ++ small_at p n ∷ []) at)

pub smalls_join : (o : ℕ) (ns ms : List ℕ) → smalls_from o (ns ++ ms) ≡ smalls_from o ns ++ smalls_from (o + length ns) ms
smalls_join o [] ms = ap (λ (p : ℕ). smalls_from p ms) (let e : o ≡ o + 0 = omega arith in e)
smalls_join o (n ∷ ns) ms =
    let at : suc o + length ns ≡ o + suc (length ns) = omega arith in
    ap (λ (fs : List Found). small_at o n ∷ fs) (smalls_join (suc o) ns ms ∙ ap (λ (p : ℕ). smalls_from (suc o) ns ++ smalls_from p ms) at)

pub smalls_count : (o : ℕ) (ns : List ℕ) → length (smalls_from o ns) ≡ length ns
smalls_count o [] = refl
smalls_count o (n ∷ ns) = ap suc (smalls_count (suc o) ns)

-- the front of a list with one more
pub front_more : (ns : List ℕ) (k : ℕ) → k < length ns → take (k + 1) ns ≡ take k ns ++ slice_index_or ns k 0 ∷ []
front_more ns k within = let next : k + 1 ≡ suc k = omega arith in ap (λ j. take j ns) next ∙ take-suc ns k 0 within

pub front_count : (ns : List ℕ) (k : ℕ) → k < length ns → length (take k ns) ≡ k
front_count ns k within = length-take-le k ns (omega arith)

pub smalls_found_more : (o : ℕ) (ns : List ℕ) (k : ℕ) → k < length ns → smalls_from o (take (k + 1) ns) ≡ smalls_from o (take k ns) ++ record { offset = o + k; item = uint (slice_index_or ns k 0) } ∷ []
smalls_found_more o ns k within =
    let front = take k ns in
    let n = slice_index_or ns k 0 in
    ap (smalls_from o) (front_more ns k within) ∙ (smalls_more o front n ∙ ap (λ (j : ℕ). smalls_from o front ++ small_at (o + j) n ∷ []) (front_count ns k within))

-- they were noted one by one
pub notes_more : (o : ℕ) (ns : List ℕ) (k : ℕ) → k < length ns → (out now new : List Found) → now ≡ out ++ smalls_from o (take k ns) → new ≡ now ++ record { offset = o + k; item = uint (slice_index_or ns k 0) } ∷ [] →
    new ≡ out ++ smalls_from o (take (k + 1) ns)
notes_more o ns k within out now new so_far one =
    let last = small_at (o + k) (slice_index_or ns k 0) in
    one ∙ (ap (λ (fs : List Found). fs ++ last ∷ []) so_far ∙ (append_assoc out (smalls_from o (take k ns)) (last ∷ []) ∙ ap (λ (fs : List Found). out ++ fs) (sym (smalls_found_more o ns k within))))

-- ---- what is written of them

pub smalls_quiet : (number o : ℕ) (ns : List ℕ) → items_output mode.EndLine number (smalls_from o ns) ≡ []
smalls_quiet number o [] = refl
smalls_quiet number o (n ∷ ns) = smalls_quiet (suc number) (suc o) ns

pub smalls_rewritten : (number o : ℕ) (ns : List ℕ) → All (λ n. n < 24) ns → items_output mode.Rewrite number (smalls_from o ns) ≡ ns
smalls_rewritten number o [] small = refl
smalls_rewritten number o (n ∷ ns) small =
    ap₂ (λ (a b : List ℕ). a ++ b) (small_preferred n (small 0 0 (omega arith))) (smalls_rewritten (suc number) (suc o) ns (λ k d h. small (suc k) d (omega arith)))

pub smalls_ordered : (number o : ℕ) (ns : List ℕ) → All (λ n. n < 24) ns → items_output mode.Deterministic number (smalls_from o ns) ≡ ns
smalls_ordered number o [] small = refl
smalls_ordered number o (n ∷ ns) small =
    ap₂ (λ (a b : List ℕ). a ++ b) (small_preferred n (small 0 0 (omega arith))) (smalls_ordered (suc number) (suc o) ns (λ k d h. small (suc k) d (omega arith)))

-- ---- the reader

first_at : (ns : List ℕ) (k n : ℕ) → take 1 (drop k ns) ≡ n ∷ [] → slice_index_or ns k 0 ≡ n
first_at [] zero n e = absurd (cc)
first_at [] (suc k) n e = absurd (cc)
first_at (m ∷ ms) zero n e = cc
first_at (m ∷ ms) (suc k) n e = first_at ms k n e

-- the next one of a piece was taken
pub front_taken : {P : ℕ → Type 0} {old between new : Reading} (ns : List ℕ) (k n : ℕ) (rest : List ℕ) → k < length ns → rest ≡ drop k ns → AreSmallsTaken P old (take k ns) between → P (slice_index_or ns k 0) →
    IsSmallNext between rest → IsSmallTaken between rest n new → AreSmallsTaken P old (take (k + 1) ns) new
front_taken {P} {old} {between} {new} ns k n rest within is t p next taken =
    let first : slice_index_or ns k 0 ≡ n = first_at ns k n (ap (take 1) (sym is) ∙ taken.first) in
    let front : take (k + 1) ns ≡ take k ns ++ n ∷ [] = front_more ns k within ∙ ap (λ (m : ℕ). take k ns ++ m ∷ []) first in
    subst (λ (xs : List ℕ). AreSmallsTaken P old xs new) (sym front) (more rest n t (subst P first p) next.between taken)

pub smalls_taken_if : {P Q : ℕ → Type 0} {old new : Reading} {ns : List ℕ} → ((n : ℕ) → P n → Q n) → AreSmallsTaken P old ns new → AreSmallsTaken Q old ns new
smalls_taken_if f none = none
smalls_taken_if f (more piece n t p empty taken) = more piece n (smalls_taken_if f t) (f n p) empty taken

pub smalls_small : {P : ℕ → Type 0} {old new : Reading} {ns : List ℕ} → AreSmallsTaken P old ns new → All (λ n. n < 24) ns
smalls_small none = All-nil (λ n. n < 24)
smalls_small (more {ns = ns} piece n t p empty taken) = All-append (λ n. n < 24) ns (n ∷ []) (smalls_small t) (one n taken.small)
  where
    one : (n : ℕ) → n < 24 → All (λ m. m < 24) (n ∷ [])
    one n h zero d k = h
    one n h (suc k) d l = absurd (omega arith)

pub smalls_limits : {P : ℕ → Type 0} {old new : Reading} {ns : List ℕ} → AreSmallsTaken P old ns new → new.limits ≡ old.limits
smalls_limits none = refl
smalls_limits (more piece n t p empty taken) = ap (λ (r : Reading). r.limits) taken.taken.next ∙ smalls_limits t

-- after one at least the next item has no byte
pub smalls_between : {P : ℕ → Type 0} {old new : Reading} {ns : List ℕ} → AreSmallsTaken P old ns new → 0 < length ns → new.fed ≡ []
smalls_between none some = absurd (omega arith)
smalls_between (more piece n t p empty taken) some = ap (λ (r : Reading). r.fed) taken.taken.next

-- ---- the session

-- parts that are the same
same_running : (judge : Judge) (l : Bounds) (reader : Reading) (fed fed' : List ℕ) (taken taken' : List Found) (items items' offset offset' bytes bytes' : ℕ) (rejected rejected' : Option Value) →
    fed' ≡ fed → taken' ≡ taken → items' ≡ items → offset' ≡ offset → bytes' ≡ bytes → rejected' ≡ rejected →
    IsRunning judge l fed taken (parts_of reader items offset bytes rejected) → IsRunning judge l fed' taken' (parts_of reader items' offset' bytes' rejected')
same_running judge l reader fed fed' taken taken' items items' offset offset' bytes bytes' rejected rejected' e f g h i j s = rw (e, f, g, h, i, j) s

module _ (judge : Judge) (l : Bounds) (fed : List ℕ) (taken : List Found) (old : Reading) (items offset bytes : ℕ) (rejected : Option Value)
    (s : IsRunning judge l fed taken (parts_of old items offset bytes rejected)) where
  pub smalls_running : {ns : List ℕ} {new : Reading} → AreSmallsTaken (λ n. Accepts judge (uint n) []) old ns new →
      IsRunning judge l (fed ++ ns) (taken ++ smalls_from offset ns) (parts_of new (items + length ns) (offset + length ns) (bytes + length ns) rejected)
  smalls_running none =
      same_running judge l old fed (fed ++ []) taken (taken ++ []) items (items + 0) offset (offset + 0) bytes (bytes + 0) rejected rejected (append-nil fed) (append-nil taken) (omega arith) (omega arith) (omega arith) refl s
  smalls_running (more {ns = ns} {between = between} {new = new} piece n t accepts empty small) =
      let before = smalls_running t in
      let k = length ns in
      let next = (took judge l (fed ++ ns) (taken ++ smalls_from offset ns) between (items + k) (offset + k) (bytes + k) rejected before piece 1 (uint n) new small.taken accepts).1 in
      let count : length (ns ++ n ∷ []) ≡ k + 1 = omega (arith, length-append ns (n ∷ [])) in
      let at : offset + k ≡ bytes + k = omega (arith, before.reaches, ap length empty) in
      let fed_is : fed ++ (ns ++ n ∷ []) ≡ (fed ++ ns) ++ take 1 piece = sym (append_assoc fed ns (n ∷ [])) ∙ ap (λ (b : List ℕ). (fed ++ ns) ++ b) (sym small.first) in
      let taken_is : taken ++ smalls_from offset (ns ++ n ∷ []) ≡ (taken ++ smalls_from offset ns) ++ small_at (offset + k) n ∷ [] =
      ap (λ (fs : List Found). taken ++ fs) (smalls_more offset ns n) ∙ sym (append_assoc taken (smalls_from offset ns) (small_at (offset + k) n ∷ [])) in
      same_running judge l new ((fed ++ ns) ++ take 1 piece) (fed ++ (ns ++ n ∷ [])) ((taken ++ smalls_from offset ns) ++ small_at (offset + k) n ∷ []) (taken ++ smalls_from offset (ns ++ n ∷ []))
      ((items + k) + 1) (items + length (ns ++ n ∷ [])) ((bytes + k) + 1) (offset + length (ns ++ n ∷ [])) ((bytes + k) + 1) (bytes + length (ns ++ n ∷ [])) None rejected
      fed_is taken_is (omega (arith, count)) (omega (arith, count, at)) (omega (arith, count)) before.none next

module _ (judge : Judge) (fed : List ℕ) (taken : List Found) (r : Reading) (items offset bytes : ℕ) (stopped : Option Stopped) (rejected : Option Value)
    (is : stopped ≡ None) (parts : AreParts stopped judge r.limits fed taken (parts_of r items offset bytes rejected))
    (numbers : List ℕ) (count : ℕ) (count_is : length numbers ≡ count) (new : Reading) (t : AreSmallsTaken (λ n. Accepts judge (uint n) []) r numbers new) where
  running : IsRunning judge r.limits fed taken (parts_of r items offset bytes rejected)
  running = subst (λ v. AreParts v judge r.limits fed taken (parts_of r items offset bytes rejected)) is parts

  after : IsRunning judge r.limits (fed ++ numbers) (taken ++ smalls_from offset numbers) (parts_of new (items + count) (offset + count) (bytes + count) rejected)
  after = subst (λ k. IsRunning judge r.limits (fed ++ numbers) (taken ++ smalls_from offset numbers) (parts_of new (items + k) (offset + k) (bytes + k) rejected)) count_is (smalls_running judge r.limits fed taken r items offset bytes rejected running t)

  reaches : offset + count ≤ bytes + count
  reaches = omega (arith, after.reaches)

  pub smalls_fit : (items + count < 2 ^ 64) × (offset + count < 2 ^ 64) × (bytes + count < 2 ^ 64)
  smalls_fit =
      let below = counts_below judge r.limits (fed ++ numbers) (taken ++ smalls_from offset numbers) new (items + count) (offset + count) (bytes + count) rejected after in
      (omega (arith, below, after.short), omega (arith, reaches, after.short), omega (arith, after.short))

  pub smalls_kept : (fed' : List ℕ) (taken' : List Found) → fed' ≡ fed ++ numbers → taken' ≡ taken ++ smalls_from offset numbers →
      AreParts stopped judge new.limits fed' taken' (parts_of new (items + count) (offset + count) (bytes + count) rejected)
  smalls_kept fed' taken' e f =
      let there = subst (λ l. IsRunning judge l (fed ++ numbers) (taken ++ smalls_from offset numbers) (parts_of new (items + count) (offset + count) (bytes + count) rejected)) (sym (smalls_limits t)) after in
      rw (is, e, f) there

  pub smalls_fed : (now : Progress) → record { judge = judge; limits = r.limits; fed = fed; taken = taken; stopped = stopped } ≡ now → (fed' : List ℕ) (taken' : List Found) → fed' ≡ fed ++ numbers → taken' ≡ taken ++ smalls_from offset numbers →
      AreSmallsFed now numbers (record { judge = judge; limits = new.limits; fed = fed'; taken = taken'; stopped = stopped })
  smalls_fed now same fed' taken' e f =
      let old : Progress = record { judge = judge; limits = r.limits; fed = fed; taken = taken; stopped = stopped } in
      let next : Progress = record { judge = judge; limits = new.limits; fed = fed'; taken = taken'; stopped = stopped } in
      let moved : next ≡ record old { fed = fed ++ numbers; taken = taken ++ smalls_from offset numbers } = rw (smalls_limits t, e, f) refl in
      let moved_now : next ≡ record now { fed = now.fed ++ numbers; taken = now.taken ++ smalls_from offset numbers } =
      subst (λ (p : Progress). next ≡ record p { fed = p.fed ++ numbers; taken = p.taken ++ smalls_from offset numbers }) same moved in
      let begins : 0 < length numbers → BeginsWith judge new.limits fed' taken' [] = λ some. rw (smalls_limits t, e, f) (subst (λ (b : List ℕ). BeginsWith judge r.limits (fed ++ numbers) (taken ++ smalls_from offset numbers) b) (smalls_between t some) after.takes) in
      let count_now : IsCount old items offset = counted_now judge r.limits fed taken r items offset bytes rejected running in
      let before : IsCount now (length now.taken) offset = let c = subst (λ (p : Progress). IsCount p items offset) same count_now in subst (λ n. IsCount now n offset) c.items_is c in
      record {
        small = smalls_small t;
        offset = offset;
        place = before;
        next = moved_now;
        ends = λ some. clean_end judge new.limits fed' taken' (begins some);
        short = omega (arith, count_is, reaches, after.short);
      }

-- where none was taken, nothing is changed
pub none_taken : (now : Progress) (rest : List ℕ) (k : ℕ) (new : Progress) → k ≤ 0 → AreSmallsFed now (take k rest) new → new ≡ now
none_taken now rest k new few s =
    let zero_is : k ≡ 0 = omega arith in
    let nothing : take k rest ≡ [] = ap (λ (j : ℕ). take j rest) zero_is in
    let kept : record now { fed = now.fed ++ []; taken = now.taken ++ [] } ≡ now = rw (append-nil now.fed, append-nil now.taken) refl in
    s.next ∙ (ap (λ (ns : List ℕ). record now { fed = now.fed ++ ns; taken = now.taken ++ smalls_from s.offset ns }) nothing ∙ kept)
