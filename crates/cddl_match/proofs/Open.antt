-- Lists of open questions: each turn keeps one, and none is long.
use Rattle.std.proofs.Common.{◌≡◌, ℕ, List, ◌∷◌, true, false, length, refl, arith}
use Rattle.cbor_data.specs.Value.{Value}
use Rattle.cddl_meaning.specs.Forms.{Content, Language, MapEntry, is_passed_over}
use Rattle.cddl_meaning.specs.Held.{Holds}
use Rattle.cddl_meaning.specs.Judges.{Reply, Fails}
use Rattle.cddl_meaning.specs.Moves.{Question, OfType, Pending, InRef, InKey, InHeld, Sorting, Move, Answered, Asks, Tries, Enters, Reads, Replies, LeadsTo, first_move, next_move, next_entry, Weighs}
use Rattle.cddl_meaning.specs.Moves as M
use Rattle.cddl_meaning.specs.Ranks.Reached as R
use Rattle.cddl_meaning.specs.Ranks.Reached.{IsReached}
use Rattle.cddl_match.specs.Open.{ComesUpTo, begins, goes_on, tries, passes_over, enters, reads, reads_nothing, AreOpenWith, nothing, further, weighs}

module _ {N G : Type 0} (l : Language N G) where
  -- what a move comes to by itself is reached
  ends_reached : {first : Question N G} {m : Move N G} {r : Reply} {w : ℕ} → LeadsTo l m r w → (os : List (Pending N G)) → IsReached l first os m → IsReached l first os (Answered r)
  ends_reached M.at_once os h = h
  ends_reached (M.after {o = o} (M.replies d) e) os h = ends_reached e os (R.answered (ends_reached d (o ∷ os) (R.asked h)))
  ends_reached (M.tries e) os h = ends_reached e os (R.tried h)
  ends_reached (M.passes_over i e) os h = ends_reached e os (R.passed i h)
  ends_reached (M.enters i e) os h = ends_reached e os (R.entered i h)
  ends_reached M.weighs os h = R.weighed h
  ends_reached (M.reads k e) os h = ends_reached e os (R.read k h)
  ends_reached (M.reads_nothing k) os h = R.read_nothing k h

  comes_reached : {first q : Question N G} {o : Pending N G} {os : List (Pending N G)} {m : Move N G} → IsReached l first os (Asks q o) → ComesUpTo l q m → IsReached l first (o ∷ os) m
  comes_reached h begins = R.asked h
  comes_reached h (goes_on c (M.replies d)) = R.answered (ends_reached d _ (R.asked (comes_reached h c)))
  comes_reached h (tries c) = R.tried (comes_reached h c)
  comes_reached h (passes_over i c) = R.passed i (comes_reached h c)
  comes_reached h (enters i c) = R.entered i (comes_reached h c)
  comes_reached h (weighs c) = R.weighed (comes_reached h c)
  comes_reached h (reads k c) = R.read k (comes_reached h c)
  comes_reached h (reads_nothing k c) = R.read_nothing k (comes_reached h c)

  pub open_reached : {first : Question N G} {qs : List (Question N G)} {os : List (Pending N G)} {m : Move N G} → AreOpenWith l first qs os m → IsReached l first os m
  open_reached nothing = R.begun
  open_reached (further h c) = comes_reached (open_reached h) c

  pub as_many : {first : Question N G} {qs : List (Question N G)} {os : List (Pending N G)} {m : Move N G} → AreOpenWith l first qs os m → length os ≡ length qs
  as_many nothing = refl
  as_many (further h c) = omega (arith, as_many h)

  -- What a question comes to and leads to is its reply.
  pub comes_replies : {q : Question N G} {m : Move N G} {r : Reply} {u : ℕ} → ComesUpTo l q m → LeadsTo l m r u → (w : ℕ) × Replies l q r w
  comes_replies begins d = (_, M.replies d)
  comes_replies (goes_on c e) d = comes_replies c (M.after e d)
  comes_replies (tries c) d = comes_replies c (M.tries d)
  comes_replies (passes_over i c) d = comes_replies c (M.passes_over i d)
  comes_replies (enters i c) d = comes_replies c (M.enters i d)
  comes_replies (weighs c) M.at_once = comes_replies c M.weighs
  comes_replies (reads k c) d = comes_replies c (M.reads k d)
  comes_replies (reads_nothing k c) M.at_once = comes_replies c (M.reads_nothing k)

  -- a question is asked
  pub open_asked : {first q : Question N G} {qs : List (Question N G)} {o : Pending N G} {os : List (Pending N G)} → AreOpenWith l first qs os (Asks q o) → AreOpenWith l first (q ∷ qs) (o ∷ os) (first_move l q)
  open_asked h = further h begins

  -- the last question is answered, and there is one below it
  pub open_answered : {first p q : Question N G} {qs : List (Question N G)} {o : Pending N G} {os : List (Pending N G)} {r : Reply} → AreOpenWith l first (q ∷ p ∷ qs) (o ∷ os) (Answered r) → AreOpenWith l first (p ∷ qs) os (next_move o r)
  open_answered (further (further h d) c) = further h (goes_on d (comes_replies c M.at_once).1)

  -- a pair is tried
  pub open_tried : {first : Question N G} {qs : List (Question N G)} {os : List (Pending N G)} {s : Sorting N} → AreOpenWith l first qs os (Tries s) → AreOpenWith l first qs os (next_entry s.entries s)
  open_tried (further h c) = further h (tries c)

  -- an entry is passed over, or asked
  pub open_passed : {first : Question N G} {qs : List (Question N G)} {os : List (Pending N G)} {e : MapEntry N} {es : List (MapEntry N)} {s : Sorting N} → is_passed_over l.counting e.key_type s.key ≡ true → AreOpenWith l first qs os (Enters e es s) → AreOpenWith l first qs os (next_entry es s)
  open_passed i (further h c) = further h (passes_over i c)

  pub open_entered : {first : Question N G} {qs : List (Question N G)} {os : List (Pending N G)} {e : MapEntry N} {es : List (MapEntry N)} {s : Sorting N} → is_passed_over l.counting e.key_type s.key ≡ false → AreOpenWith l first qs os (Enters e es s) → AreOpenWith l first qs os (Asks (OfType e.key_type s.key_place s.key) (InKey e es s))
  open_entered i (further h c) = further h (enters i c)

  -- bits are weighed
  pub open_weighed : {first : Question N G} {qs : List (Question N G)} {os : List (Pending N G)} {n : ℕ} {r : Reply} → AreOpenWith l first qs os (Weighs n r) → AreOpenWith l first qs os (Answered r)
  open_weighed (further h c) = further h (weighs c)

  -- a byte string is read
  pub open_read : {first : Question N G} {qs : List (Question N G)} {os : List (Pending N G)} {c : Content} {b : List ℕ} {n : N} {p next : ℕ} {y : Value} → Holds c b y → AreOpenWith l first qs os (Reads c b n p next) → AreOpenWith l first qs os (Asks (OfType n 0 y) (InHeld p next))
  open_read k (further h c) = further h (reads k c)

  pub open_unread : {first : Question N G} {qs : List (Question N G)} {os : List (Pending N G)} {c : Content} {b : List ℕ} {n : N} {p next : ℕ} → ((y : Value) → Holds c b y → ⊥) → AreOpenWith l first qs os (Reads c b n p next) → AreOpenWith l first qs os (Answered (Fails p))
  open_unread k (further h c) = further h (reads_nothing k c)
