-- The list of open questions.
use Rattle.std.specs.Prelude.{◌≡◌, ℕ, List, [], ◌∷◌, true, false, reverse}
use Rattle.cbor_data.specs.Value.{Value}
use Rattle.cddl_meaning.specs.Forms.{Content, Language, MapEntry, MapOf, Holding, is_passed_over}
use Rattle.cddl_meaning.specs.Held.{Holds}
use Rattle.cddl_meaning.specs.Judges.{Reply, Fails}
use Rattle.cddl_meaning.specs.Moves.{Question, OfType, OfAlternative, Pending, InRef, InKey, InHeld, Sorting, Move, Answered, Asks, Tries, Enters, Reads, Replies, first_move, next_move, next_entry, Weighs}

module _ {N G : Type 0} (l : Language N G) where
  -- By itself the question comes to this move: what it has asked before has these replies.
  pub data ComesUpTo : Question N G → Move N G → Type 0 where
    begins : {q : Question N G} → ComesUpTo q (first_move l q)
    goes_on : {p q : Question N G} {o : Pending N G} {r : Reply} {w : ℕ} → ComesUpTo p (Asks q o) → Replies l q r w → ComesUpTo p (next_move o r)
    tries : {p : Question N G} {s : Sorting N} → ComesUpTo p (Tries s) → ComesUpTo p (next_entry s.entries s)
    passes_over : {p : Question N G} {e : MapEntry N} {es : List (MapEntry N)} {s : Sorting N} → is_passed_over l.counting e.key_type s.key ≡ true → ComesUpTo p (Enters e es s) → ComesUpTo p (next_entry es s)
    enters : {p : Question N G} {e : MapEntry N} {es : List (MapEntry N)} {s : Sorting N} → is_passed_over l.counting e.key_type s.key ≡ false → ComesUpTo p (Enters e es s) → ComesUpTo p (Asks (OfType e.key_type s.key_place s.key) (InKey e es s))
    weighs : {p : Question N G} {n : ℕ} {r : Reply} → ComesUpTo p (Weighs n r) → ComesUpTo p (Answered r)
    reads : {p : Question N G} {c : Content} {b : List ℕ} {n : N} {place next : ℕ} {y : Value} → Holds c b y → ComesUpTo p (Reads c b n place next) → ComesUpTo p (Asks (OfType n 0 y) (InHeld place next))
    reads_nothing : {p : Question N G} {c : Content} {b : List ℕ} {n : N} {place next : ℕ} → ((y : Value) → Holds c b y → ⊥) → ComesUpTo p (Reads c b n place next) → ComesUpTo p (Answered (Fails place))

  -- These questions are open, the last one first: the first question, which is the last of the list, and further ones, each
  -- asked by the one below it, which has just come to ask it and so has no reply yet. With them what waits in each for its
  -- reply, and the move to which the last one has come.
  pub data AreOpenWith (first : Question N G) : List (Question N G) → List (Pending N G) → Move N G → Type 0 where
    nothing : AreOpenWith first [] [] (Asks first InRef)
    further : {q : Question N G} {qs : List (Question N G)} {o : Pending N G} {os : List (Pending N G)} {m : Move N G} → AreOpenWith first qs os (Asks q o) → ComesUpTo q m → AreOpenWith first (q ∷ qs) (o ∷ os) m

  -- a list of open questions, the first one first
  abbrev pub AreOpen : Question N G → List (Question N G) → Type 0
  AreOpen first qs = (os : List (Pending N G)) × (m : Move N G) × AreOpenWith first (reverse qs) os m

  -- a question at which room beside that for open questions is needed: a type of a map, an alternative of one, and a type
  -- of what a byte string holds
  pub data NeedsRoom : Question N G → Type 0 where
    of_map : {n : N} {p : ℕ} {x : Value} {ess : _} → l.type_at n ≡ MapOf ess → NeedsRoom (OfType n p x)
    of_alternative : {es : _} {base : ℕ} {ps : _} → NeedsRoom (OfAlternative es base ps)
    of_held : {n m k : N} {c : Content} {p : ℕ} {x : Value} → l.type_at n ≡ Holding m c k → NeedsRoom (OfType n p x)
