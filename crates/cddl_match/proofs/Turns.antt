-- Each turn keeps what the pending questions lead to.
use Rattle.std.proofs.Common.{◌≡◌, ℕ, ◌+◌, ◌≤◌, List, [], ◌∷◌, refl, subst, arith}
use Rattle.cddl_meaning.specs.Forms.{Language}
use Rattle.cddl_meaning.specs.Judges.{Reply}
use Rattle.cddl_meaning.specs.Moves.{Question, InRef, Move, Answered, Asks, Replies, LeadsTo, at_once, after, next_move}
use Rattle.cddl_meaning.specs.Moves as M
use Rattle.cddl_match.specs.Unwinding.{Unwinds, IsOnTheWay}
use Rattle.cddl_match.specs.Ahead.{ComesTo, Opens}

-- so many steps are left
pub in_steps : {N G : Type 0} {l : Language N G} {first : Question N G} {m n : ℕ} {os : List (M.Pending N G)} {o : Move N G} → m ≡ n → IsOnTheWay l first m os o → IsOnTheWay l first n os o
in_steps {l = l} {first = first} {os = os} {o = o} e h = subst (λ n. IsOnTheWay l first n os o) e h

module _ {N G : Type 0} (l : Language N G) where
  -- before anything is asked
  pub begun : (q : Question N G) → IsOnTheWay l q 0 [] (Asks q InRef)
  begun q = record { leads = leads; comes = comes }
    where
      leads : (r : Reply) (u : ℕ) → LeadsTo l (Asks q InRef) r u → Replies l q r (0 + u)
      leads r u (after d at_once) = subst (λ n. Replies l q r n) (omega arith) d

      comes : (r : Reply) (w : ℕ) → Replies l q r w → (u : ℕ) × LeadsTo l (Asks q InRef) r u × (w ≡ 0 + u)
      comes r w d = (w + 0, after d at_once, omega arith)

  -- a question is asked, and comes to a move
  asked_leads : {q : Question N G} {m : Move N G} {k : ℕ} → Opens l q m k → (o : M.Pending N G) (os : List (M.Pending N G)) (r : Reply) (u : ℕ) → Unwinds l (o ∷ os) m r u → Unwinds l os (Asks q o) r (k + u)
  asked_leads {q = q} {k = k} a o [] r u (s, v, w, e, f, is) = subst (λ n. LeadsTo l (Asks q o) r n) (omega (arith, is)) (after (a.leads s v e) f)
  asked_leads {k = k} a o (p ∷ os) r u (s, v, w, e, (t, v2, w2, f, g, is2), is) = (t, k + v + v2, w2, after (a.leads s v e) f, g, omega (arith, is, is2))

  asked_comes : {q : Question N G} {m : Move N G} {k : ℕ} → Opens l q m k → (o : M.Pending N G) (os : List (M.Pending N G)) (r : Reply) (u : ℕ) → Unwinds l os (Asks q o) r u → (n : ℕ) × Unwinds l (o ∷ os) m r n × (u ≡ k + n)
  asked_comes a o [] r u (after {s = s} {v = v} {w = w} e f) = let x = a.comes s v e in (x.0 + w, (s, x.0, w, x.1, f, refl), omega (arith, x.2))
  asked_comes a o (p ∷ os) r u (t, y, w2, after {s = s} {v = v} {w = w} e f, g, is) = let x = a.comes s v e in (x.0 + (w + w2), (s, x.0, w + w2, x.1, (t, w, w2, f, g, refl), refl), omega (arith, is, x.2))

  pub asked : {first : Question N G} {taken k : ℕ} {os : List (M.Pending N G)} {q : Question N G} {o : M.Pending N G} {m : Move N G} → Opens l q m k → IsOnTheWay l first taken os (Asks q o) → IsOnTheWay l first (taken + k) (o ∷ os) m
  asked {first = first} {os = os} {o = o} a old = record {
    leads = λ r u d. subst (λ n. Replies l first r n) (omega arith) (old.leads r _ (asked_leads a o os r u d));
    comes = λ r w d. let c = old.comes r w d in let x = asked_comes a o os r c.0 c.1 in (x.0, x.1, omega (arith, x.2, c.2));
  }

  -- a question is answered, and the one that asked it goes on
  answered_comes : (o : M.Pending N G) (os : List (M.Pending N G)) (s r : Reply) (u : ℕ) → Unwinds l (o ∷ os) (Answered s) r u → (n : ℕ) × Unwinds l os (next_move o s) r n × (u ≡ n)
  answered_comes o os s r u (t, v, w, at_once, f, is) = (w, f, omega (arith, is))

  pub answered : {first : Question N G} {taken : ℕ} {os : List (M.Pending N G)} {o : M.Pending N G} {s : Reply} → IsOnTheWay l first taken (o ∷ os) (Answered s) → IsOnTheWay l first taken os (next_move o s)
  answered {os = os} {o = o} {s = s} old = record {
    leads = λ r u d. old.leads r u (s, 0, u, at_once, d, omega arith);
    comes = λ r w d. let c = old.comes r w d in let a = answered_comes o os s r c.0 c.1 in (a.0, a.1, omega (arith, a.2, c.2));
  }

  -- the first question is answered
  pub replied : {q : Question N G} {s : Reply} {k : ℕ} → Opens l q (Answered s) k → Replies l q s k
  replied {q = q} {s = s} a = subst (λ n. Replies l q s n) (omega arith) (a.leads s 0 at_once)

  -- so many questions more are asked in any case
  pub heavier : {first : Question N G} {taken k : ℕ} {os : List (M.Pending N G)} {q : Question N G} {o : M.Pending N G} {m : Move N G} → Opens l q m k → IsOnTheWay l first taken os (Asks q o) → (r : Reply) (w : ℕ) → Replies l first r w → taken + k ≤ w
  heavier {os = os} {o = o} a old r w d = let c = old.comes r w d in let x = asked_comes a o os r c.0 c.1 in omega (arith, x.2, c.2)

  -- a move comes to another
  go_leads : {m n : Move N G} {k : ℕ} → ComesTo l m n k → (os : List (M.Pending N G)) (r : Reply) (u : ℕ) → Unwinds l os n r u → Unwinds l os m r (k + u)
  go_leads a [] r u d = a.leads r u d
  go_leads a (o ∷ os) r u (s, v, w, d, f, is) = (s, _, w, a.leads s v d, f, omega (arith, is))

  go_comes : {m n : Move N G} {k : ℕ} → ComesTo l m n k → (os : List (M.Pending N G)) (r : Reply) (u : ℕ) → Unwinds l os m r u → (v : ℕ) × Unwinds l os n r v × (u ≡ k + v)
  go_comes a [] r u d = a.comes r u d
  go_comes a (o ∷ os) r u (s, v, w, d, f, is) = let x = a.comes s v d in (x.0 + w, (s, x.0, w, x.1, f, refl), omega (arith, is, x.2))

  pub gone_on : {first : Question N G} {taken k : ℕ} {os : List (M.Pending N G)} {m n : Move N G} → ComesTo l m n k → IsOnTheWay l first taken os m → IsOnTheWay l first (taken + k) os n
  gone_on {first = first} {os = os} a old = record {
    leads = λ r u d. subst (λ n. Replies l first r n) (omega arith) (old.leads r _ (go_leads a os r u d));
    comes = λ r w d. let c = old.comes r w d in let x = go_comes a os r c.0 c.1 in (x.0, x.1, omega (arith, x.2, c.2));
  }
