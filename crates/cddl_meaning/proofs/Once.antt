-- A question has one reply at most, and one weight.
use Rattle.std.proofs.Common.{◌≡◌, ◌∙◌, ℕ, suc, ◌+◌, length, Bool, true, false, refl, ap, sym, subst}
use Rattle.cddl_meaning.specs.Forms.{Language, pair_cost, entry_cost}
use Rattle.cddl_meaning.specs.Judges.{Reply}
use Rattle.cddl_meaning.specs.Moves.{Question, OfType, InHeld, Move, Asks, Replies, replies, LeadsTo, at_once, after, tries, weighs, reads, reads_nothing, next_move, passes_over, enters}
use Rattle.cddl_meaning.proofs.Held.{held_once}

true_not_false : true ≡ false → ⊥
true_not_false e = cc

pub record Same {A : Type 0} (a b : A) (w v : ℕ) : Type 0 where
  pub result : a ≡ b
  pub weight : w ≡ v

module _ {N G : Type 0} (l : Language N G) where
  mutual
    pub replies_once : {q : Question N G} {r s : Reply} {w v : ℕ} → Replies l q r w → Replies l q s v → Same r s w v
    replies_once (replies d) (replies e) = let h = ends_once d e in record { result = h.result; weight = ap suc h.weight }

    pub ends_once : {m : Move N G} {r s : Reply} {w v : ℕ} → LeadsTo l m r w → LeadsTo l m s v → Same r s w v
    ends_once at_once at_once = record { result = refl; weight = refl }
    ends_once (after {o = o} d f) (after {r = b} {w = u} e g) =
        let h = replies_once d e in
        let i = ends_once f (subst (λ s. LeadsTo l (next_move o s) b u) (sym h.result) g) in
        record { result = i.result; weight = cc (h.weight, i.weight) }
    ends_once (tries {s = s} d) (tries e) =
        let h = ends_once d e in
        record { result = h.result; weight = ap (λ w. pair_cost l.counting (length s.entries) + w) h.weight }
    ends_once (passes_over i d) (passes_over j e) = ends_once d e
    ends_once (passes_over i d) (enters j e) = absurd (true_not_false (sym i ∙ j))
    ends_once (enters i d) (passes_over j e) = absurd (true_not_false (sym j ∙ i))
    ends_once (enters i d) (enters j e) =
        let h = ends_once d e in
        record { result = h.result; weight = ap (λ w. entry_cost l.counting + w) h.weight }
    ends_once weighs weighs = record { result = refl; weight = refl }
    ends_once (reads {n = n} {p = p} {next = b} h d) (reads {w = v} {r = s} i e) = ends_once d (subst (λ y. LeadsTo l (Asks (OfType n 0 y) (InHeld p b)) s v) (held_once h i) e)
    ends_once (reads {y = y} h d) (reads_nothing i) = absurd (i y h)
    ends_once (reads_nothing i) (reads {y = y} h d) = absurd (i y h)
    ends_once (reads_nothing h) (reads_nothing i) = record { result = refl; weight = refl }
