-- What pending questions lead to: each turn keeps this, and so the last reply is the first question's.
use Rattle.std.specs.Prelude.{◌≡◌, ℕ, ◌+◌, List, [], ◌∷◌}
use Rattle.cddl_meaning.specs.Forms.{Language}
use Rattle.cddl_meaning.specs.Judges.{Reply}
use Rattle.cddl_meaning.specs.Moves as M
use Rattle.cddl_meaning.specs.Moves.{Question, Move, Replies, LeadsTo, next_move}

-- The move of the last question leads to the reply of the first, in so many questions more. The last one is the head.
abbrev pub Unwinds : {N G : Type 0} → Language N G → List (M.Pending N G) → Move N G → Reply → ℕ → Type 0
Unwinds l [] m r u = LeadsTo l m r u
Unwinds l (o ∷ os) m r u = (s : Reply) × (v : ℕ) × (w : ℕ) × LeadsTo l m s v × Unwinds l os (next_move o s) r w × (u ≡ v + w)

-- Whatever they lead to, with the questions taken, is the first one's reply; and its reply, if it has one, is what they
-- lead to.
pub record IsOnTheWay {N G : Type 0} (l : Language N G) (first : Question N G) (taken : ℕ) (os : List (M.Pending N G)) (m : Move N G) : Type 0 where
  pub leads : (r : Reply) (u : ℕ) → Unwinds l os m r u → Replies l first r (taken + u)
  pub comes : (r : Reply) (w : ℕ) → Replies l first r w → (u : ℕ) × Unwinds l os m r u × (w ≡ taken + u)
