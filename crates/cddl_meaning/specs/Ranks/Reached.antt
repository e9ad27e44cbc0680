-- Where a matcher is while it answers a question by the moves: which questions are open, and its next move.
use Rattle.std.specs.Prelude.{ℕ, List, [], ◌∷◌, ◌≡◌, true, false}
use Rattle.cbor_data.specs.Value.{Value, no_pairs}
use Rattle.cddl_meaning.specs.Forms.{Content, Language, MapEntry, is_passed_over}
use Rattle.cddl_meaning.specs.Held.{Holds}
use Rattle.cddl_meaning.specs.Judges.{Reply, Fails}
use Rattle.cddl_meaning.specs.Moves.{Question, OfType, Pending, InRef, InMap, InHeld, Sorting, Move, Answered, Asks, Tries, Reads, Weighs, first_move, next_move, next_entry, InKey, Enters}

-- What waits for the reply to each open question, the last question's first; and the next move.
pub data IsReached {N G : Type 0} (l : Language N G) (first : Question N G) : List (Pending N G) → Move N G → Type 0 where
  -- nothing is open yet
  begun : IsReached l first [] (Asks first InRef)
  -- a question is asked: it is open now
  asked : {q : Question N G} {o : Pending N G} {os : List (Pending N G)} → IsReached l first os (Asks q o) → IsReached l first (o ∷ os) (first_move l q)
  -- a pair is tried with the entries of its alternative
  tried : {s : Sorting N} {os : List (Pending N G)} → IsReached l first os (Tries s) → IsReached l first os (next_entry s.entries s)
  -- an entry is passed over, or asked about the pair
  passed : {e : MapEntry N} {es : List (MapEntry N)} {s : Sorting N} {os : List (Pending N G)} → is_passed_over l.counting e.key_type s.key ≡ true → IsReached l first os (Enters e es s) → IsReached l first os (next_entry es s)
  entered : {e : MapEntry N} {es : List (MapEntry N)} {s : Sorting N} {os : List (Pending N G)} → is_passed_over l.counting e.key_type s.key ≡ false → IsReached l first os (Enters e es s) → IsReached l first os (Asks (OfType e.key_type s.key_place s.key) (InKey e es s))
  -- a byte string is read, and a type is to be asked of what it holds, or it holds nothing
  read : {c : Content} {b : List ℕ} {n : N} {p next : ℕ} {y : Value} {os : List (Pending N G)} → Holds c b y → IsReached l first os (Reads c b n p next) → IsReached l first os (Asks (OfType n 0 y) (InHeld p next))
  read_nothing : {c : Content} {b : List ℕ} {n : N} {p next : ℕ} {os : List (Pending N G)} → ((y : Value) → Holds c b y → ⊥) → IsReached l first os (Reads c b n p next) → IsReached l first os (Answered (Fails p))
  -- the bits of an item are weighed
  weighed : {n : ℕ} {r : Reply} {os : List (Pending N G)} → IsReached l first os (Weighs n r) → IsReached l first os (Answered r)
  -- the last open question has its reply, and the one that asked it goes on
  answered : {s : Reply} {o : Pending N G} {os : List (Pending N G)} → IsReached l first (o ∷ os) (Answered s) → IsReached l first os (next_move o s)

-- One where the last open question is of an alternative of a map without pairs, which has its reply at once; else none.
abbrev pub one_for_empty_map : {N G : Type 0} → List (Pending N G) → ℕ
one_for_empty_map (InMap ess base no_pairs sofar ∷ os) = 1
one_for_empty_map _ = 0
