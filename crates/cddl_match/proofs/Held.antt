-- What a reading of a byte string comes to.
use Rattle.std.proofs.Common.{◌≡◌, ℕ, ◌+◌, ◌<◌, List, sym, subst, arith}
use Rattle.cbor_data.specs.Value.{Value}
use Rattle.cddl_meaning.specs.Forms.{Content, Language}
use Rattle.cddl_meaning.specs.Held.{Holds}
use Rattle.cddl_meaning.specs.Judges.{Reply, Fails}
use Rattle.cddl_meaning.specs.Moves.{OfType, InHeld, Answered, Asks, Reads, Replies, LeadsTo, at_once, after, reads, reads_nothing, next_move, Weighs, weighs}
use Rattle.cddl_meaning.proofs.Lemmas.{held_once}
use Rattle.cddl_match.specs.Ahead.{ComesTo, Opens}
use Rattle.cddl_match.proofs.Ways.{and_on, answers}

module _ {N G : Type 0} (l : Language N G) where
  pub reads_on : (c : Content) (b : List ℕ) (n : N) (p next : ℕ) (y : Value) → Holds c b y → ComesTo {N = N} {G = G} l (Reads c b n p next) (Asks (OfType n 0 y) (InHeld p next)) 0
  reads_on c b n p next y h = record { leads = λ r w d. subst (λ v. LeadsTo l (Reads c b n p next) r v) (omega arith) (reads h d); comes = comes }
    where
      comes : (r : Reply) (w : ℕ) → LeadsTo {N = N} {G = G} l (Reads c b n p next) r w → (v : ℕ) × LeadsTo l (Asks (OfType n 0 y) (InHeld p next)) r v × (w ≡ 0 + v)
      comes r w (reads k d) = (w, subst (λ z. LeadsTo l (Asks (OfType n 0 z) (InHeld p next)) r w) (held_once h k) d, omega arith)
      comes r w (reads_nothing k) = absurd (k y h)

  pub reads_none : (c : Content) (b : List ℕ) (n : N) (p next : ℕ) → ((y : Value) → Holds c b y → ⊥) → ComesTo {N = N} {G = G} l (Reads c b n p next) (Answered (Fails p)) 0
  reads_none c b n p next h = record { leads = leads; comes = comes }
    where
      leads : (r : Reply) (w : ℕ) → LeadsTo {N = N} {G = G} l (Answered (Fails p)) r w → LeadsTo l (Reads c b n p next) r (0 + w)
      leads r w at_once = reads_nothing h

      comes : (r : Reply) (w : ℕ) → LeadsTo {N = N} {G = G} l (Reads c b n p next) r w → (v : ℕ) × LeadsTo {N = N} {G = G} l (Answered (Fails p)) r v × (w ≡ 0 + v)
      comes r w (reads {y = y} k d) = absurd (h y k)
      comes r w (reads_nothing k) = (0, at_once, omega arith)

  -- what a type replies about what the string holds
  pub told_held : (c : Content) (b : List ℕ) (n : N) (p next : ℕ) (y : Value) {s r : Reply} {k : ℕ} → Holds c b y → Opens {N = N} {G = G} l (OfType n 0 y) (Answered s) k → Answered r ≡ next_move {N = N} {G = G} (InHeld p next) s → ComesTo l (Reads c b n p next) (Answered r) k
  told_held c b n p next y {k = k} h a e = subst (λ m. ComesTo l (Reads c b n p next) m k) (sym e) (and_on l (reads_on c b n p next y h) (answers l (InHeld p next) a) (omega arith))

  -- it takes more than so many
  pub heavier_held : (c : Content) (b : List ℕ) (n : N) (p next : ℕ) (y : Value) (k : ℕ) → Holds c b y → ((r : Reply) (w : ℕ) → Replies {N = N} {G = G} l (OfType n 0 y) r w → k < w) → (r : Reply) (w : ℕ) → LeadsTo l (Reads c b n p next) r w → k < w
  heavier_held c b n p next y k h more r w (reads i (after {s = s} {v = v} d e)) = omega (arith, more s v (subst (λ z. Replies l (OfType n 0 z) s v) (held_once h i) d))
  heavier_held c b n p next y k h more r w (reads_nothing i) = absurd (i y h)

  -- Bits are weighed, which is as many steps, and the reply follows.
  pub weighs_on : (n : ℕ) (r : Reply) → ComesTo {N = N} {G = G} l (Weighs n r) (Answered r) n
  weighs_on n r = record { leads = leads; comes = comes }
    where
      leads : (s : Reply) (w : ℕ) → LeadsTo {N = N} {G = G} l (Answered r) s w → LeadsTo {N = N} {G = G} l (Weighs n r) s (n + w)
      leads s w at_once = subst (λ k. LeadsTo {N = N} {G = G} l (Weighs n r) r k) (omega arith) weighs

      comes : (s : Reply) (w : ℕ) → LeadsTo {N = N} {G = G} l (Weighs n r) s w → (v : ℕ) × LeadsTo {N = N} {G = G} l (Answered r) s v × (w ≡ n + v)
      comes s w weighs = (0, at_once, omega arith)
