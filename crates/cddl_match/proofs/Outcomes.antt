-- What questions and moves come to within a number of steps, one after the other.
use Rattle.std.proofs.Common.{◌≡◌, ℕ, ◌+◌, ◌-◌, ◌<◌, subst, arith}
use Rattle.cddl_meaning.specs.Forms.{Language}
use Rattle.cddl_meaning.specs.Judges.{Reply}
use Rattle.cddl_meaning.specs.Moves as M
use Rattle.cddl_meaning.specs.Moves.{Question, InRef, Move, Answered, Asks, Replies, LeadsTo, at_once, after, next_move}
use Rattle.cddl_match.specs.Ahead.{ComesTo, Opens}
use Rattle.cddl_match.specs.Within.{Outcome, Replied, Stopped, Says, Ends}
use Rattle.cddl_match.specs.declared.calls.Stop.{Stop}
use Rattle.cddl_match.specs.declared.calls.Stop.TheVariants.{Spent, NoMemory}
use Rattle.cddl_match.proofs.Ways.{and_on, then_comes, answers, stays}

module _ {N G : Type 0} (l : Language N G) where
  -- The question comes to a move, and that has this outcome.
  pub says_on : {q : Question N G} {m : Move N G} {k : ℕ} (steps mid left : ℕ) (o : Outcome) → Opens l q m k → k + mid ≡ steps → Ends l m mid left o → Says l q steps left o
  says_on steps mid left (Replied r) a e h = (then_comes l a h.0 (omega (arith, e, h.1)), omega (arith, e, h.1))
  says_on steps mid left (Stopped Spent) a e h = λ r w d. let x = a.comes r w d in omega (arith, h r x.0 x.1, x.2, e)
  says_on steps mid left (Stopped NoMemory) a e h = tt

  -- So does a move that comes to another one.
  pub ends_on : {m n : Move N G} {k : ℕ} (steps mid left : ℕ) (o : Outcome) → ComesTo l m n k → k + mid ≡ steps → Ends l n mid left o → Ends l m steps left o
  ends_on steps mid left (Replied r) a e h = (and_on l a h.0 (omega (arith, e, h.1)), omega (arith, e, h.1))
  ends_on steps mid left (Stopped Spent) a e h = λ r w d. let x = a.comes r w d in omega (arith, h r x.0 x.1, x.2, e)
  ends_on steps mid left (Stopped NoMemory) a e h = tt

  -- nothing was asked yet
  pub begins : (m : Move N G) (steps : ℕ) → ComesTo l m m (steps - steps)
  begins m steps = subst (λ k. ComesTo l m m k) (omega arith) (stays l m)

  pub answered : (steps : ℕ) (r : Reply) → Ends l (Answered r) steps steps (Replied r)
  answered steps r = (begins (Answered r) steps, omega arith)

  -- There are too few steps for what is asked in any case.
  pub few : {q : Question N G} {m : Move N G} {k : ℕ} (steps left : ℕ) → Opens l q m k → steps < k → Says l q steps left (Stopped Spent)
  few steps left a h = λ r w d. let x = a.comes r w d in omega (arith, x.2, h)

  -- What was asked has this reply, and the one that asked goes on.
  pub asks : {q : Question N G} {s : Reply} (steps mid left : ℕ) (p : M.Pending N G) (o : Outcome) → Says l q steps mid (Replied s) → Ends l (next_move p s) mid left o → Ends l (Asks q p) steps left o
  asks steps mid left p o a h = ends_on steps mid left o (answers l p a.0) (omega (arith, a.1)) h

  -- What was asked has stopped.
  pub asks_stopped : (q : Question N G) (steps left : ℕ) (p : M.Pending N G) (s : Stop) → Says l q steps left (Stopped s) → Ends l (Asks q p) steps left (Stopped s)
  asks_stopped q steps left p Spent h = λ r w d. by r w d
    where
      by : (r : Reply) (w : ℕ) → LeadsTo l (Asks q p) r w → steps < w
      by r w (after {s = t} {v = v} d f) = omega (arith, h t v d)
  asks_stopped q steps left p NoMemory h = tt

  -- The reply of what was asked is this one's, too.
  pub passes_on : (q : Question N G) (steps left : ℕ) (o : Outcome) → Says l q steps left o → Ends l (Asks q InRef) steps left o
  passes_on q steps left (Replied r) h = asks steps left left InRef (Replied r) h (answered left r)
  passes_on q steps left (Stopped s) h = asks_stopped q steps left InRef s h

  -- A question takes a step at least.
  positive : {q : Question N G} {r : Reply} {w : ℕ} → Replies l q r w → 0 < w
  positive (M.replies d) = omega arith

  pub took : {q : Question N G} {r : Reply} (steps left : ℕ) → Says l q steps left (Replied r) → left < steps
  took {r = r} steps left h = omega (arith, h.1, positive (h.0.leads r 0 at_once))
