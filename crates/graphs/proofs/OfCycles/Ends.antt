-- Where the search begins, and the numbers that it ends with.
use Rattle.std.proofs.Common.{◌≡◌, ℕ, List, length, map, replicate, Option, Some, None, slice_get, refl, ap, subst, ◌∙◌, arith}
use Rattle.lists.proofs.Lemmas.{never_some, replicate_at, replicate_length, there as there_is, within}
use Rattle.graphs.specs.declared.cycles.Edge.{Edge}
use Rattle.graphs.specs.declared.cycles.search.Mark.{Mark}
use Rattle.graphs.specs.declared.cycles.search.Mark.TheVariants.{Unseen, Open, Done}
use Rattle.graphs.specs.Cycles.Links.{Joins, IsLast, IsLinked, AreNumbers}
use Rattle.graphs.specs.Cycles.Search.{State, first_state, entered, Keeps, In, IsAhead, IsSound, IsAtEnd, AreSeen, number}
use Rattle.graphs.proofs.OfCycles.Ways.{joins_of}
use Rattle.graphs.proofs.OfCycles.Entering.{enters, enters_there, was_unseen}
use Rattle.graphs.proofs.OfCycles.Marks.{one_mark, unseen_open, unseen_done, one_done, all_unseen, number_at, numbers_length}

module _ (nodes : ℕ) (edges : List Edge) where
  module _ (heads links : List (Option ℕ)) (linked : IsLinked nodes edges heads links) where
    ahead_by : (e x y : ℕ) → Joins nodes edges e x y → (o : Option ℕ) → slice_get heads x ≡ Some o → IsLast nodes edges x (length edges) o → IsAhead heads x e
    ahead_by e x y j None t k = absurd (k e y j (within edges e (record { from = x; to = y }) j.there))
    ahead_by e x y j (Some h) t k = record { last = h; there = t; within = k.last e y j (within edges e (record { from = x; to = y }) j.there) }

    ahead : (e x y : ℕ) → Joins nodes edges e x y → IsAhead heads x e
    ahead e x y j =
        let all = linked.heads_are.all in
        let begins = j.begins in
        let h = there_is heads x (omega (arith, all, begins)) in
        ahead_by e x y j h.0 h.1 (linked.heads_are.each x h.0 h.1)

    unseen_at : (x : ℕ) (m : Mark) → slice_get (replicate nodes Unseen) x ≡ Some m → Unseen ≡ m
    unseen_at x m e = replicate_at nodes Unseen x m e

    head_from : (x e : ℕ) → slice_get heads x ≡ Some (Some e) → (y : ℕ) × Joins nodes edges e x y
    head_from x e t = let l = linked.heads_are.each x (Some e) t in (l.to, l.joins)

    pub begins : IsAtEnd nodes edges (first_state nodes heads)
    begins = record {
      sound = record {
        places = record {
          all = replicate_length nodes Unseen;
          there = λ p x e. absurd (never_some x e);
          back = λ p x e. absurd (unseen_open p (unseen_at x (Open p) e));
        };
        segments = λ p q x y e f u. absurd (never_some x e);
        followed = record {
          fresh = λ e x y j m. ahead e x y j;
          live = λ e x y p j m n. absurd (unseen_open p (unseen_at x (Open p) m));
          over = λ e x y c j m. absurd (unseen_done c (unseen_at x (Done c) m));
        };
        have = record { all = linked.heads_are.all; from = head_from };
        on = record {
          path_rises = tt;
          path_within = λ p i. absurd i;
          roots_rise = tt;
          roots_on = λ b i. absurd i;
          waits = λ p x e. absurd (never_some x e);
          bottom = λ l. absurd (omega (arith, l));
        };
        components = record {
          below = λ x c m. absurd (unseen_done c (unseen_at x (Done c) m));
          same = λ x y c m n. absurd (unseen_done c (unseen_at x (Done c) m));
          count = let h = all_unseen nodes in omega (arith, h);
        };
      };
      ended = refl;
    }

  pub nothing_open : (s : State) → IsAtEnd nodes edges s → (p y : ℕ) → slice_get s.opened p ≡ Some y → ⊥
  nothing_open s h p y e =
      let l = within s.opened p y e in
      subst (λ ps. In ps 0) h.ended (h.sound.on.roots_on 0 (h.sound.on.bottom (omega (arith, l))))

  -- where nothing is open, a node that was not yet reached is opened
  module _ (s : State) (h : IsAtEnd nodes edges s) (x : ℕ) (mark : slice_get s.marks x ≡ Some Unseen) where
    pub enters_at_end : IsSound nodes edges None (entered x s)
    enters_at_end = enters nodes edges None s x mark (λ p y e. absurd (nothing_open s h p y e)) h.sound

    pub keeps_entered : (t : State) → t ≡ entered x s → Keeps s t
    keeps_entered t e y m = was_unseen nodes edges None s x mark (λ p z f. absurd (nothing_open s h p z f)) h.sound y (subst (λ u. slice_get u.marks y ≡ Some Unseen) e m)

    pub sees_entered : (t : State) → t ≡ entered x s → slice_get t.marks x ≡ Some Unseen → ⊥
    sees_entered t e m = unseen_open (length s.opened) (one_mark _ Unseen (Open (length s.opened)) (subst (λ u. slice_get u.marks x ≡ Some Unseen) e m) (enters_there nodes edges None s x mark (λ p z f. absurd (nothing_open s h p z f)) h.sound))

  module _ (s : State) (h : IsAtEnd nodes edges s) (seen : AreSeen nodes s.marks) where
    done_by : (x r : ℕ) (m : Mark) → slice_get s.marks x ≡ Some m → number m ≡ r → slice_get s.marks x ≡ Some (Done r)
    done_by x r Unseen e f = let l = within s.marks x Unseen e in let all = h.sound.places.all in absurd (seen x (omega (arith, l, all)) e)
    done_by x r (Open q) e f = absurd (nothing_open s h q x (h.sound.places.back q x e))
    done_by x r (Done c) e f = e ∙ ap (λ d. Some (Done d)) f

    done_at : (x r : ℕ) → slice_get (map number s.marks) x ≡ Some r → slice_get s.marks x ≡ Some (Done r)
    done_at x r e = let w = number_at s.marks x r e in done_by x r w.0 w.1 w.2

    pub are_numbers : AreNumbers nodes edges (map number s.marks)
    are_numbers = record {
      all = numbers_length s.marks ∙ h.sound.places.all;
      below = λ i r e. let l = h.sound.components.below i r (done_at i r e) in let c = h.sound.components.count in omega (arith, l, c);
      down = λ a b r t i e f.
          let k = h.sound.followed.over i.place a b r (joins_of nodes edges i) (done_at a r e) in
          let same = one_done k.at t (one_mark _ (Done k.at) (Done t) k.there (done_at b t f)) in
          let most = k.most in
          omega (arith, same, most);
      same = λ a b r e f. h.sound.components.same a b r (done_at a r e) (done_at b r f);
    }
