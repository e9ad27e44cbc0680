-- Derivations in which each question is smaller than the one that asks it, or no larger and of a lower rank.
use Rattle.std.proofs.Common.{◌≡◌, ℕ, suc, ◌+◌, ◌<◌, List, length, true, false}
use Rattle.cbor_data.specs.Value.{Value, Pairs}
use Rattle.cddl_meaning.specs.Forms.{Content, Language, MapEntry, is_passed_over, pair_cost, entry_cost}
use Rattle.cddl_meaning.specs.Held.{Holds}
use Rattle.cddl_meaning.specs.Judges.{Reply, Fails}
use Rattle.cddl_meaning.specs.Moves as Moves
use Rattle.cddl_meaning.specs.Moves.{Question, OfType, OfGroup, OfAlternative, Sorting, Pending, InMap, InHeld, Move, Answered, Asks, Tries, Reads, Weighs, first_move, next_move, next_entry, InKey, Enters}
use Rattle.cddl_meaning.specs.Size.{size, pairs_size, list_size}
use Rattle.cddl_meaning.proofs.OfRanks.Induction.{IsLess}

module _ {N G : Type 0} where
  -- How large a question is in this order. An alternative counts its pairs alone, which makes it smaller than its map, and
  -- it has no rank.
  abbrev pub height_of : Question N G → ℕ
  height_of (OfType n p x) = size x
  height_of (OfGroup g base q xs) = list_size xs
  height_of (OfAlternative es base ps) = pairs_size ps

  abbrev pub rank_of : (N → ℕ) → (G → ℕ) → Question N G → ℕ
  rank_of type_rank group_rank (OfType n p x) = type_rank n
  rank_of type_rank group_rank (OfGroup g base q xs) = group_rank g
  rank_of type_rank group_rank (OfAlternative es base ps) = 0

  -- a map with these pairs waits
  abbrev pub IsMapOf : Pairs → Pending N G → Type 0
  IsMapOf ps (InMap ess base qs sofar) = qs ≡ ps
  IsMapOf ps _ = ⊥

  -- The question is below this size and rank, and where it is of an alternative, its map waits for the reply.
  abbrev pub IsBelow : (N → ℕ) → (G → ℕ) → Question N G → Pending N G → ℕ → ℕ → Type 0
  IsBelow type_rank group_rank (OfType n p x) o S R = IsLess (size x) (type_rank n) S R
  IsBelow type_rank group_rank (OfGroup g base q xs) o S R = IsLess (list_size xs) (group_rank g) S R
  IsBelow type_rank group_rank (OfAlternative es base ps) o S R = (pairs_size ps < S) × IsMapOf ps o

  mutual
    pub data RepliesDown (l : Language N G) (type_rank : N → ℕ) (group_rank : G → ℕ) : Question N G → Reply → ℕ → Type 0 where
      replies : {q : Question N G} {r : Reply} {w : ℕ} → EndsDown l type_rank group_rank (height_of q) (rank_of type_rank group_rank q) (first_move l q) r w → RepliesDown l type_rank group_rank q r (suc w)

    -- what is asked is below this size and rank
    pub data EndsDown (l : Language N G) (type_rank : N → ℕ) (group_rank : G → ℕ) : ℕ → ℕ → Move N G → Reply → ℕ → Type 0 where
      at_once : {S R : ℕ} {r : Reply} → EndsDown l type_rank group_rank S R (Answered r) r 0
      after : {S R v w : ℕ} {q : Question N G} {o : Pending N G} {s r : Reply} → IsBelow type_rank group_rank q o S R → RepliesDown l type_rank group_rank q s v → EndsDown l type_rank group_rank S R (next_move o s) r w → EndsDown l type_rank group_rank S R (Asks q o) r (v + w)
      tries : {S R w : ℕ} {s : Sorting N} {r : Reply} → EndsDown l type_rank group_rank S R (next_entry s.entries s) r w → EndsDown l type_rank group_rank S R (Tries s) r (pair_cost l.counting (length s.entries) + w)
      passes_over : {S R w : ℕ} {e : MapEntry N} {es : List (MapEntry N)} {s : Sorting N} {r : Reply} → is_passed_over l.counting e.key_type s.key ≡ true → EndsDown l type_rank group_rank S R (next_entry es s) r w → EndsDown l type_rank group_rank S R (Enters e es s) r w
      enters : {S R w : ℕ} {e : MapEntry N} {es : List (MapEntry N)} {s : Sorting N} {r : Reply} → is_passed_over l.counting e.key_type s.key ≡ false → EndsDown l type_rank group_rank S R (Asks (OfType e.key_type s.key_place s.key) (InKey e es s)) r w → EndsDown l type_rank group_rank S R (Enters e es s) r (entry_cost l.counting + w)
      weighs : {S R n : ℕ} {r : Reply} → EndsDown l type_rank group_rank S R (Weighs n r) r n
      -- whatever the bytes hold
      reads : {S R w : ℕ} {c : Content} {b : List ℕ} {n : N} {p next : ℕ} {y : Value} {r : Reply} → Holds c b y → EndsDown l type_rank group_rank S R (Asks (OfType n 0 y) (InHeld p next)) r w → EndsDown l type_rank group_rank S R (Reads c b n p next) r w
      reads_nothing : {S R : ℕ} {c : Content} {b : List ℕ} {n : N} {p next : ℕ} → ((y : Value) → Holds c b y → ⊥) → EndsDown l type_rank group_rank S R (Reads c b n p next) (Fails p) 0

module _ {N G : Type 0} (l : Language N G) (type_rank : N → ℕ) (group_rank : G → ℕ) where
  mutual
    pub plain_replies : {q : Question N G} {r : Reply} {w : ℕ} → RepliesDown l type_rank group_rank q r w → Moves.Replies l q r w
    plain_replies (replies d) = Moves.replies (plain_ends d)

    plain_ends : {S R w : ℕ} {m : Move N G} {r : Reply} → EndsDown l type_rank group_rank S R m r w → Moves.LeadsTo l m r w
    plain_ends at_once = Moves.at_once
    plain_ends (after i d e) = Moves.after (plain_replies d) (plain_ends e)
    plain_ends (tries d) = Moves.tries (plain_ends d)
    plain_ends weighs = Moves.weighs
    plain_ends (passes_over i d) = Moves.passes_over i (plain_ends d)
    plain_ends (enters i d) = Moves.enters i (plain_ends d)
    plain_ends (reads h d) = Moves.reads h (plain_ends d)
    plain_ends (reads_nothing h) = Moves.reads_nothing h
