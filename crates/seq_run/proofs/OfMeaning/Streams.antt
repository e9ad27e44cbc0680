-- What holds of the items and the end of a stream stays where acceptance is said in other words.
use Rattle.std.specs.Prelude.{ℕ, List}
use Rattle.cbor_data.specs.Faults.{Bounds}
use Rattle.cbor_data.specs.Sequence as Q
use Rattle.cbor_data.specs.Sequence.{EndsBy, Found, IsRunOf, Takes}
use Rattle.cbor_data.specs.Value.{Value}

module _ (l : Bounds) (old new : Value → List ℕ → Type 0) where
  pub taken : ((x : Value) (b : List ℕ) → old x b → new x b) → {o : ℕ} {b : List ℕ} {found : List Found} {rest : List ℕ} → Takes l old o b found rest → Takes l new o b found rest
  taken to Q.none = Q.none
  taken to (Q.next x front back e i a t) = Q.next x front back e i (to x front a) (taken to t)

  run : ((x : Value) (b : List ℕ) → old x b → new x b) → ((x : Value) (b : List ℕ) → new x b → old x b) → (b : List ℕ) (found : List Found) (rest : List ℕ) → IsRunOf l old b found rest → IsRunOf l new b found rest
  run to from b found rest r = record { takes = taken to r.takes; longest = λ others left t. r.longest others left (back t) }
    where
      back : {o : ℕ} {c : List ℕ} {gs : List Found} {left : List ℕ} → Takes l new o c gs left → Takes l old o c gs left
      back Q.none = Q.none
      back (Q.next x front rear e i a t) = Q.next x front rear e i (from x front a) (back t)

  pub ends : {kind : Type 0} (told : ℕ → List ℕ → kind → ℕ → Type 0) (old_misses new_misses : Value → List ℕ → ℕ → Type 0) (old_overruns new_overruns : Value → List ℕ → Type 0)
      → ((x : Value) (b : List ℕ) → old x b → new x b) → ((x : Value) (b : List ℕ) → new x b → old x b)
      → ((x : Value) (b : List ℕ) (p : ℕ) → old_misses x b p → new_misses x b p) → ((x : Value) (b : List ℕ) → old_overruns x b → new_overruns x b)
      → (b : List ℕ) (found : List Found) (end : Q.End kind) → EndsBy l old told old_misses old_overruns b found end → EndsBy l new told new_misses new_overruns b found end
  ends told missed misses_now overrun overruns_now to from misses overruns b found end (Q.cleanly r) = Q.cleanly (run to from b found _ r)
  ends told missed misses_now overrun overruns_now to from misses overruns b found end (Q.at_fault rest r n e t) = Q.at_fault rest (run to from b found rest r) n e t
  ends told missed misses_now overrun overruns_now to from misses overruns b found end (Q.at_mismatch {place = p} rest x front back r e f i m) = Q.at_mismatch rest x front back (run to from b found rest r) e f i (misses x front p m)
  ends told missed misses_now overrun overruns_now to from misses overruns b found end (Q.at_spent rest x front back r e f i m) = Q.at_spent rest x front back (run to from b found rest r) e f i (overruns x front m)
