-- Names, choices of one and groups of one group reply as what is behind them.
use Rattle.std.proofs.Common.{◌≡◌, ℕ, suc, ◌+◌, ◌≤◌, ◌<◌, length, List, [], ◌∷◌, Option, Some, None, IfSome, Bool, true, false, refl, ap, sym, subst, ◌∙◌, arith, true≢false}
use Rattle.std.specs.Prelude.{IfNone, MatchOption}
use Rattle.cbor_data.specs.Value.{Value}
use Rattle.cddl_meaning.specs.Forms as F
use Rattle.cddl_meaning.specs.Forms.{Language, Test, passes, Node, Plain, Ref, Choice, Entry, GroupRef, Sequence, Alternatives, Most, pair_cost, entry_cost}
use Rattle.cddl_meaning.specs.Judges.{Reply, Takes, Fails, is_over}
use Rattle.cddl_meaning.specs.Moves as M
use Rattle.cddl_meaning.specs.Moves.{Question, OfType, OfGroup, InRef, InChoice, InEntry, InSequence, InAlternatives, InRepeat, Move, Answered, Asks, Replies, replies, LeadsTo, at_once, after, first_move, type_move, group_move, next_move, next_member, next_part, next_round, repetition}
use Rattle.cddl_match.specs.Ahead.{ComesTo, Opens, AsksOn, IsTypeOf, IsGroupOf, IsTold, AreTold, IsTypeTold, IsEntered}
use Rattle.cddl_match.proofs.Shapes.{far_of, group_shape, IsTypeReply, says_yes, says_no, type_shape}

module _ {N G : Type 0} (l : Language N G) where
  -- nothing is asked yet
  pub itself : (q : Question N G) → AsksOn l q q 0
  itself q = record { leads = λ r w d. subst (λ n. Replies l q r n) (omega arith) d; comes = λ r w d. (w, d, omega arith) }

  pub stays : (m : Move N G) → ComesTo l m m 0
  stays m = record { leads = λ r w d. subst (λ n. LeadsTo l m r n) (omega arith) d; comes = λ r w d. (w, d, omega arith) }

  pub further : {p q s : Question N G} {j k n : ℕ} → AsksOn l p q j → AsksOn l q s k → n ≡ j + k → AsksOn l p s n
  further {p = p} {j = j} {k = k} a b e = record {
    leads = λ r w d. subst (λ n. Replies l p r n) (omega (arith, e)) (a.leads r (k + w) (b.leads r w d));
    comes = λ r w d. let x = a.comes r w d in let y = b.comes r x.0 x.1 in (y.0, y.1, omega (arith, x.2, y.2, e));
  }

  pub and_on : {m n o : Move N G} {j k i : ℕ} → ComesTo l m n j → ComesTo l n o k → i ≡ j + k → ComesTo l m o i
  and_on {m = m} {j = j} {k = k} a b e = record {
    leads = λ r w d. subst (λ n. LeadsTo l m r n) (omega (arith, e)) (a.leads r (k + w) (b.leads r w d));
    comes = λ r w d. let x = a.comes r w d in let y = b.comes r x.0 x.1 in (y.0, y.1, omega (arith, x.2, y.2, e));
  }

  pub and_opens : {p q : Question N G} {m : Move N G} {j k n : ℕ} → AsksOn l p q j → Opens l q m k → n ≡ j + k → Opens l p m n
  and_opens {p = p} {j = j} {k = k} a b e = record {
    leads = λ r w d. subst (λ n. Replies l p r n) (omega (arith, e)) (a.leads r (k + w) (b.leads r w d));
    comes = λ r w d. let x = a.comes r w d in let y = b.comes r x.0 x.1 in (y.0, y.1, omega (arith, x.2, y.2, e));
  }

  -- its first move
  pub opens : (q : Question N G) → Opens l q (first_move l q) 1
  opens q = record { leads = λ r w d. subst (λ n. Replies l q r n) (omega arith) (replies d); comes = λ r w d. opened d }
    where
      opened : {r : Reply} {w : ℕ} → Replies l q r w → (v : ℕ) × LeadsTo l (first_move l q) r v × (w ≡ 1 + v)
      opened (replies {w = v} d) = (v, d, omega arith)

  -- the reply is known, and the one that asked goes on
  pub answers : {q : Question N G} {s : Reply} {k : ℕ} (o : M.Pending N G) → Opens l q (Answered s) k → ComesTo l (Asks q o) (next_move o s) k
  answers {q = q} {s = s} {k = k} o a = record {
    leads = λ r w d. subst (λ n. LeadsTo l (Asks q o) r n) (omega arith) (after (a.leads s 0 at_once) d);
    comes = λ r w d. goes_on d;
  }
    where
      same : {t r : Reply} {v w : ℕ} → LeadsTo l (Answered s) t v → LeadsTo l (next_move o t) r w → LeadsTo l (next_move o s) r w × (v ≡ 0)
      same at_once f = (f, refl)

      goes_on : {r : Reply} {u : ℕ} → LeadsTo l (Asks q o) r u → (w : ℕ) × LeadsTo l (next_move o s) r w × (u ≡ k + w)
      goes_on (after {s = t} {v = v} {w = w} d f) =
          let x = a.comes t v d in
          let y = same x.1 f in
          (w, y.0, omega (arith, x.2, y.1))

  -- A question whose first move asks another one, and then replies so as that does.
  asks_on : {p q : Question N G} {o : M.Pending N G} → first_move l p ≡ Asks q o → ((r : Reply) (w : ℕ) → Replies l q r w → next_move o r ≡ Answered r) → AsksOn l p q 1
  asks_on {p = p} {q = q} {o = o} e h = record {
    leads = λ r w d. subst (λ n. Replies l p r n) (omega arith) (replies (subst (λ m. LeadsTo l m r (w + 0)) (sym e) (after d (subst (λ m. LeadsTo l m r 0) (sym (h r w d)) at_once))));
    comes = λ r w d. behind d;
  }
    where
      told : {s r : Reply} {v : ℕ} → LeadsTo l (Answered s) r v → (s ≡ r) × (v ≡ 0)
      told at_once = (refl, refl)

      asked : {r : Reply} {w : ℕ} → LeadsTo l (Asks q o) r w → (v : ℕ) × Replies l q r v × (suc w ≡ 1 + v)
      asked {r = r} (after {s = s} {v = v} {w = w} d f) =
          let t = told (subst (λ m. LeadsTo l m r w) (h s v d) f) in
          (v, subst (λ s. Replies l q s v) t.0 d, omega (arith, t.1))

      behind : {r : Reply} {w : ℕ} → Replies l p r w → (v : ℕ) × Replies l q r v × (w ≡ 1 + v)
      behind {r = r} (replies {w = w} d) = asked (subst (λ m. LeadsTo l m r w) e d)

  pub by_ref : {n m : N} → l.type_at n ≡ Ref m → IsTypeOf l n m 1
  by_ref e p x h = asks_on (ap (λ f. type_move f p x) e) (λ r w d. refl)

  pub by_choice : {n m : N} → l.type_at n ≡ Choice (m ∷ []) → IsTypeOf l n m 1
  by_choice {m = m} e p x h = asks_on (ap (λ f. type_move f p x) e) (λ r w d. alone (type_shape l h d))
    where
      alone : {r : Reply} → IsTypeReply p r → next_move {N = N} {G = G} (InChoice [] p x p) r ≡ Answered r
      alone says_yes = refl
      alone (says_no {far = far} i) = ap (λ k. Answered (Fails k)) (omega (arith, i))

  pub by_group_ref : {g h : G} → l.group_at g ≡ GroupRef h → IsGroupOf l g h 1
  by_group_ref e base q xs = asks_on (ap (λ f. group_move f base q xs) e) (λ r w d. refl)

  pub by_sequence : {g h : G} → l.group_at g ≡ Sequence (h ∷ []) → IsGroupOf l g h 1
  by_sequence e base q xs = asks_on (ap (λ f. group_move f base q xs) e) (λ r w d. alone r (group_shape l d))
    where
      alone : (r : Reply) → base ≤ far_of r → next_move {N = N} {G = G} (InSequence [] base base) r ≡ Answered r
      alone (Takes left next far) i = ap (λ k. Answered (Takes left next k)) (omega (arith, i))
      alone (Fails far) i = ap (λ k. Answered (Fails k)) (omega (arith, i))

  pub by_alternatives : {g h : G} → l.group_at g ≡ Alternatives (h ∷ []) → IsGroupOf l g h 1
  by_alternatives e base q xs = asks_on (ap (λ f. group_move f base q xs) e) (λ r w d. alone r (group_shape l d))
    where
      alone : (r : Reply) → base ≤ far_of r → next_move {N = N} {G = G} (InAlternatives [] base q xs base) r ≡ Answered r
      alone (Takes left next far) i = ap (λ k. Answered (Takes left next k)) (omega (arith, i))
      alone (Fails far) i = ap (λ k. Answered (Fails k)) (omega (arith, i))

  -- what the only part of a list leads to, if there is just one
  pub only_part : {g : G} {gs : List G} (o : Option G) → l.group_at g ≡ Sequence gs → IfSome o (λ h. gs ≡ h ∷ []) → IfSome o (λ h. IsGroupOf l g h 1)
  only_part None e h = h
  only_part (Some g) e h = by_sequence (e ∙ ap Sequence h)

  pub only_alternative : {g : G} {gs : List G} (o : Option G) → l.group_at g ≡ Alternatives gs → IfSome o (λ h. gs ≡ h ∷ []) → IfSome o (λ h. IsGroupOf l g h 1)
  only_alternative None e h = h
  only_alternative (Some g) e h = by_alternatives (e ∙ ap Alternatives h)

  pub then_comes : {q : Question N G} {m n : Move N G} {j k i : ℕ} → Opens l q m j → ComesTo l m n k → i ≡ j + k → Opens l q n i
  then_comes {q = q} {j = j} {k = k} a b e = record {
    leads = λ r w d. subst (λ n. Replies l q r n) (omega (arith, e)) (a.leads r (k + w) (b.leads r w d));
    comes = λ r w d. let x = a.comes r w d in let y = b.comes r x.0 x.1 in (y.0, y.1, omega (arith, x.2, y.2, e));
  }

  -- what tests tell

  pub by_test : (t : Test) (x : Value) → IsTold l (Plain t) x (passes t x) 0
  by_test t x p h = stays _

  pub no_member : (x : Value) → AreTold l [] x false 0
  no_member x p h = stays _

  pub this_member : {m : N} {ms : List N} {x : Value} {k : ℕ} → IsTypeTold l m x true k → AreTold l (m ∷ ms) x true k
  this_member {ms = ms} {x = x} a p h = answers (InChoice ms p x p) (a p h)

  pub not_this_member : {m : N} {ms : List N} {x : Value} (says : Bool) {j k n : ℕ} → IsTypeTold l m x false j → AreTold l ms x says k → n ≡ j + k → AreTold l (m ∷ ms) x says n
  not_this_member {m = m} {ms = ms} {x = x} says {j = j} a b e p h =
      and_on (subst (λ far. ComesTo l (next_member (m ∷ ms) p x p) (next_member ms p x far) j) (omega arith) (answers (InChoice ms p x p) (a p h))) (b p h) e

  pub told_behind : {n m : N} {f : Node N G} (x : Value) (says : Bool) {j k i : ℕ} → IsTypeOf l n m j → l.type_at m ≡ f → IsTold l f x says k → i ≡ k + (j + 1) → IsTypeTold l n x says i
  told_behind {m = m} {f = f} x says {j = j} {k = k} a e b i p h =
      and_opens (a p x h) (then_comes (subst (λ f. Opens l (OfType m p x) (type_move f p x) 1) e (opens (OfType m p x))) (b p h) refl) (omega (arith, i))

  -- an entry of such a type, and a group that leads to one
  pub by_entry : {g : G} {n m : N} {f : Node N G} {k : ℕ} → l.group_at g ≡ Entry n → IsTypeOf l n m k → l.type_at m ≡ f → IsEntered l g n f 0 k
  by_entry {g = g} {n = n} {f = f} {k = k} e a i = record {
    none = λ base q. subst (λ m. Opens l (OfGroup g base q []) m 1) (ap (λ f. group_move f base q []) e) (opens (OfGroup g base q []));
    some = λ base q x xs says m r h b is.
        let one = subst (λ m. Opens l (OfGroup g base q (x ∷ xs)) m 1) (ap (λ f. group_move f base q (x ∷ xs)) e) (opens (OfGroup g base q (x ∷ xs))) in
        let all = answers (InEntry base xs) (b q h) in
        subst (λ o. Opens l (OfGroup g base q (x ∷ xs)) o (m + (0 + 1))) (sym is) (then_comes one all (omega arith));
    form = λ x says m told. told_behind x says {j = k} a i told refl;
  }

  pub leads_to_entry : {g h : G} {n : N} {f : Node N G} {j k : ℕ} → IsGroupOf l g h j → IsEntered l h n f 0 k → IsEntered l g n f j k
  leads_to_entry a b = record {
    none = λ base q. and_opens (a base q []) (b.none base q) (omega arith);
    some = λ base q x xs says m r i c is. and_opens (a base q (x ∷ xs)) (b.some base q x xs says m r i c is) (omega arith);
    form = b.form;
  }

  -- the group of a round, or of a sequence, is told at once
  pub a_round : (least : ℕ) (most : Most) (g : G) (base q : ℕ) (xs : List Value) (far : ℕ) → {n : ℕ} {s : Reply} {m : Move N G} → Opens l (OfGroup g base q xs) (Answered s) n → is_over most ≡ false → m ≡ next_move (InRepeat least most g base q xs far) s → ComesTo l (repetition least most g base q xs far) m n
  a_round least most g base q xs far {n = n} {s = s} a over e =
      let o = InRepeat least most g base q xs far in
      subst (λ m. ComesTo l (repetition least most g base q xs far) m n) (sym e) (subst (λ b. ComesTo l (next_round b least most g base q xs far) (next_move o s) n) (sym over) (answers o a))

  -- a pair is tried with the entries of its alternative
  pub tries_on : (s : M.Sorting N) → ComesTo l (M.Tries s) (M.next_entry s.entries s) (pair_cost l.counting (length s.entries))
  tries_on s = record { leads = λ r w d. M.tries d; comes = λ r w d. by d }
    where
      by : {r : Reply} {w : ℕ} → LeadsTo l (M.Tries s) r w → (v : ℕ) × LeadsTo l (M.next_entry s.entries s) r v × (w ≡ pair_cost l.counting (length s.entries) + v)
      by (M.tries {w = v} d) = (v, d, refl)

  pub more_than : (s : M.Sorting N) (k : ℕ) → k < pair_cost l.counting (length s.entries) → (r : Reply) (w : ℕ) → LeadsTo l (M.Tries s) r w → k < w
  more_than s k h r w d = let x = (tries_on s).comes r w d in omega (arith, x.2, h)

  -- an entry is passed over, or asked
  pub passes_on : (e : F.MapEntry N) (es : List (F.MapEntry N)) (s : M.Sorting N) → F.is_passed_over l.counting e.key_type s.key ≡ true → ComesTo l (M.next_entry (e ∷ es) s) (M.next_entry es s) 0
  passes_on e es s i = record { leads = λ r w d. subst (λ n. LeadsTo l (M.next_entry (e ∷ es) s) r n) (omega arith) (M.passes_over i d); comes = λ r w d. by d }
    where
      by : {r : Reply} {w : ℕ} → LeadsTo l (M.Enters e es s) r w → (v : ℕ) × LeadsTo l (M.next_entry es s) r v × (w ≡ 0 + v)
      by (M.passes_over {w = v} j d) = (v, d, omega arith)
      by (M.enters j d) = absurd (true≢false (sym i ∙ j))

  pub enters_on : (e : F.MapEntry N) (es : List (F.MapEntry N)) (s : M.Sorting N) → F.is_passed_over l.counting e.key_type s.key ≡ false → ComesTo l (M.next_entry (e ∷ es) s) (Asks (OfType e.key_type s.key_place s.key) (M.InKey e es s)) (entry_cost l.counting)
  enters_on e es s i = record { leads = λ r w d. M.enters i d; comes = λ r w d. by d }
    where
      by : {r : Reply} {w : ℕ} → LeadsTo l (M.Enters e es s) r w → (v : ℕ) × LeadsTo l (Asks (OfType e.key_type s.key_place s.key) (M.InKey e es s)) r v × (w ≡ entry_cost l.counting + v)
      by (M.enters {w = v} j d) = (v, d, refl)
      by (M.passes_over j d) = absurd (true≢false (sym j ∙ i))

-- A choice of one, which leads to its only member.
pub only_type : {N G : Type 0} (f : Node N G) (ms : List N) (o : Option N) → f ≡ Choice ms → IfSome o (λ m. ms ≡ m ∷ []) → IfSome o (λ next. (l : Language N G) (n : N) → l.type_at n ≡ f → IsTypeOf l n next 1)
only_type f ms None e h = tt
only_type f ms (Some m) e h = λ l n i. by_choice l (i ∙ e ∙ ap Choice h)

-- what is known where something is not there, and where it is
pub there_or_not : {A : Type 0} (P : Type 0) (Q : A → Type 0) (o : Option A) → IfNone o P → IfSome o Q → MatchOption o P Q
there_or_not P Q None p q = p
there_or_not P Q (Some x) p q = q
