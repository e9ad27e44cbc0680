-- The names of the groups whose entries are a map's, by what follows from the pieces.
use Rattle.std.proofs.Common.{◌≡◌, ◌↔◌, ◌⊎◌, inl, inr, ℕ, ◌+◌, ◌*◌, ◌<◌, ◌≤◌, List, [], ◌∷◌, ◌++◌, length, get_or, option_to_list, Bool, true, false, IsTrue, Option, Some, None, IfSome, slice_get, refl, sym, ap, subst, ◌∙◌, arith}
use Rattle.std.specs.List.{Contains}
use Rattle.std.proofs.lemmas.List.{append-nil}
use Rattle.std.proofs.lemmas.List.Elements.{Contains-append_left, Contains-push, Contains-push_cases}
use Rattle.lists.proofs.Lemmas.{contains_at, no_some, none_in, place_of, same_some, some_none, within}
use Rattle.graphs.specs.Implications.Implications.{AreFollowing, Follows, concludes}
use Rattle.graphs.specs.declared.implications.Implication.{Implication}
use Rattle.source_places.specs.States.{AreAlikeIn, AreMarked, AreSpliced, AreSteps, HasGrown, IsAloneStep, IsBetween, IsFlagged, IsInBody, IsInMarked, IsMember, IsSplicedIn, IsStep, IsInMap, alone, bit, by_itself, ends_of, fact_of, from_one, in_its_brackets, in_its_group, itself, named_alone, named_in_group, named_in_map, plain_name, step_alone, step_in_group, step_in_map, step_of_rule, unwrapped_name}
use Rattle.source_places.proofs.Stepping.{below, get_there, some_then}
use Rattle.source_pieces.specs.declared.piece.NameAt.{NameAt}
use Rattle.source_pieces.specs.declared.piece.PieceAt.{PieceAt}
use Rattle.source_pieces.specs.declared.rules.RuleAt.{RuleAt}
use Rattle.source_places.specs.declared.sources.TypesInText.{TypesInText}
use Rattle.source_pieces.specs.declared.span.Span.{Span}

-- a name is told by its number among facts

pub same_name : (n m : NameAt) → n.number ≡ m.number → n.is_unwrapped ≡ m.is_unwrapped → n ≡ m
same_name n m e f = ap (λ (i : ℕ). record { number = i; is_unwrapped = n.is_unwrapped }) e ∙ ap (λ (b : Bool). record { number = m.number; is_unwrapped = b }) f

one_name : (n m : NameAt) → fact_of n ≡ fact_of m → n ≡ m
one_name n m e = let w = by n.number m.number n.is_unwrapped m.is_unwrapped e in same_name n m w.0 w.1
  where
    by : (i j : ℕ) (b c : Bool) → 2 * i + bit b ≡ 2 * j + bit c → (i ≡ j) × (b ≡ c)
    by i j true true e = (omega (arith, e), refl)
    by i j false false e = (omega (arith, e), refl)
    by i j true false e = absurd (omega (arith, e))
    by i j false true e = absurd (omega (arith, e))

small_bit : (b : Bool) → bit b ≤ 1
small_bit true = omega arith
small_bit false = omega arith

fact_below : (n : NameAt) (k : ℕ) → n.number < k → fact_of n < 2 * k
fact_below n k l = let b = small_bit n.is_unwrapped in omega (arith, l, b)

number_below : (n : NameAt) (k : ℕ) → fact_of n < 2 * k → n.number < k
number_below n k l = omega (arith, l)

module _ (x : TypesInText) (map : PieceAt) (steps : List Implication) (are : AreSteps (IsStep x map) steps) where
  -- the name is the one that a step has
  named_so : (n m : NameAt) → fact_of n ≡ fact_of m → n.number < x.names → (m.number < x.names → IsSplicedIn x map m) → IsSplicedIn x map n
  named_so n m e known f = let same = one_name n m e in subst (IsSplicedIn x map) (sym same) (f (subst (λ (z : NameAt). z.number < x.names) same known))

  one_step : (a : PieceAt) (i : Implication) → IsStep x map a i → (n : NameAt) → fact_of n ≡ i.then → n.number < x.names → ((m : NameAt) → i.first ≡ Some (fact_of m) → IsSplicedIn x map m) → IsSplicedIn x map n
  one_step a i (step_in_map {n = k} m b) n e known rest = named_so n k e known (λ l. named_in_map l m b)
  one_step a i (step_in_group {n = k} {m = j} m b) n e known rest = named_so n k e known (λ l. named_in_group l m b (rest j refl))
  one_step a i (step_alone {n = k} {m = j} m b) n e known rest = named_so n (unwrapped_name k) e known (λ l. named_alone l m b (rest (unwrapped_name j) refl))

  from_steps : {k : ℕ} → Follows (2 * x.names) steps k → (n : NameAt) → fact_of n ≡ k → IsSplicedIn x map n
  from_steps (concludes place i there known first second) n e =
      let w = are.each i (contains_at steps place i there) in
      one_step w.0 i w.1 n e (number_below n x.names (subst (λ (j : ℕ). j < 2 * x.names) (sym e) known)) (λ m f. from_steps (first (fact_of m) f) m refl)

  by_step : (a : PieceAt) (i : Implication) → IsStep x map a i → i.then < 2 * x.names → ((p : ℕ) → i.first ≡ Some p → Follows (2 * x.names) steps p) → ((p : ℕ) → i.second ≡ Some p → Follows (2 * x.names) steps p) → Follows (2 * x.names) steps i.then
  by_step a i h known first second = let w = place_of steps i (are.all a i h) in concludes w.0 i w.1 known first second

  in_steps : {n : NameAt} → IsSplicedIn x map n → Follows (2 * x.names) steps (fact_of n)
  in_steps (named_in_map {n = n} {a = a} known m b) = by_step a (by_itself (fact_of n)) (step_in_map m b) (fact_below n x.names known) (λ p e. cc) (λ p e. cc)
  in_steps (named_in_group {n = n} {m = j} {a = a} known m b g) = by_step a (from_one (fact_of n) (fact_of j)) (step_in_group m b) (fact_below n x.names known) (λ p e. subst (Follows (2 * x.names) steps) (same_some e) (in_steps g)) (λ p e. cc)
  in_steps (named_alone {n = n} {m = j} {a = a} known m b g) = by_step a (from_one (fact_of (unwrapped_name n)) (fact_of (unwrapped_name j))) (step_alone m b) (fact_below (unwrapped_name n) x.names known) (λ p e. subst (Follows (2 * x.names) steps) (same_some e) (in_steps g)) (λ p e. cc)

  pub are_spliced : (flags : List Bool) → AreFollowing (2 * x.names) steps flags → AreSpliced x map flags
  are_spliced flags h = record { each = λ n. (λ e. from_steps ((h.each (fact_of n)).0 e) n refl, λ g. (h.each (fact_of n)).1 (in_steps g)) }

-- a value, by the flag of the rule that it is in
pub by_flag : (x : TypesInText) (map a : PieceAt) (flags : List Bool) → AreSpliced x map flags → (b : Bool) → (IsBetween map a → ⊥) → IsTrue b ↔ IsFlagged x flags a → IsTrue b ↔ IsInMap x map a
by_flag x map a flags are b none e = (λ t. let f = e.0 t in in_its_group f.1 ((are.each f.0).0 f.2), back)
  where
    back : IsInMap x map a → IsTrue b
    back (in_its_brackets h) = absurd (none h)
    back (in_its_group {n = n} h g) = e.1 (n, h, (are.each n).1 g)

pub not_true : (b : Bool) → b ≡ false → IsTrue b → ⊥
not_true true e t = cc
not_true false e t = cc

-- what follows from the first pieces

module _ (x : TypesInText) (step : PieceAt → Implication → Type 0) where
  pub record AreStepsTo (steps : List Implication) (k : ℕ) : Type 0 where
    pub each : (i : Implication) → Contains steps i → (a : PieceAt) × step a i
    pub all : (j : ℕ) (a : PieceAt) (i : Implication) → j < k → slice_get x.pieces.items j ≡ Some a → step a i → Contains steps i

  pub no_steps : AreStepsTo [] 0
  no_steps = record { each = λ i c. absurd (none_in i c); all = λ j a i l. absurd (omega (arith, l)) }

  next_steps : (steps next : List Implication) (k : ℕ) (a : PieceAt) → slice_get x.pieces.items k ≡ Some a → HasGrown (step a) steps next → AreStepsTo steps k → AreStepsTo next (k + 1)
  next_steps steps next k a there g h = record {
    each = λ i c. elim (g.each i c) [ inl d ↦ h.each i d | inr s ↦ (a, s) ];
    all = λ j b i l f s.
        elim (below j k l) [
          | inl m ↦ g.kept i (h.all j b i m f s)
          | inr m ↦
              let same : a ≡ b = same_some (sym there ∙ ap (slice_get x.pieces.items) (sym m) ∙ f) in
              g.all i (subst (λ (q : PieceAt). step q i) (sym same) s)
        ];
  }

  pub next_at : (steps next : List Implication) (xs : List PieceAt) (k : ℕ) (d : PieceAt) → xs ≡ x.pieces.items → k < length xs → (Contains x.pieces.items (get_or xs k d) → HasGrown (step (get_or xs k d)) steps next) → AreStepsTo steps k → AreStepsTo next (k + 1)
  next_at steps next xs k d e l g h =
      let there = subst (λ (ys : List PieceAt). slice_get ys k ≡ Some (get_or xs k d)) e (get_there xs k d l) in
      next_steps steps next k (get_or xs k d) there (g (contains_at x.pieces.items k (get_or xs k d) there)) h

  pub all_steps : ((a : PieceAt) (i : Implication) → step a i → Contains x.pieces.items a) → (steps : List Implication) (k : ℕ) → length x.pieces.items ≤ k → AreStepsTo steps k → AreSteps step steps
  all_steps is_piece steps k le h = record {
    each = h.each;
    all = λ a i g.
        let w = place_of x.pieces.items a (is_piece a i g) in
        let l = within x.pieces.items w.0 a w.1 in
        h.all w.0 a i (omega (arith, l, le)) w.1 g;
  }

pub step_piece : (x : TypesInText) (map a : PieceAt) (i : Implication) → IsStep x map a i → Contains x.pieces.items a
step_piece x map a i (step_in_map m b) = m.contained
step_piece x map a i (step_in_group m b) = m.contained
step_piece x map a i (step_alone m b) = m.contained

-- what one piece adds

pub no_growth : (step : Implication → Type 0) (xs : List Implication) → ((i : Implication) → step i → ⊥) → HasGrown step xs xs
no_growth step xs none = record { each = λ i c. inl c; kept = λ i c. c; all = λ i h. absurd (none i h) }

one_cases : (xs : List Implication) (o : Option Implication) (i : Implication) → Contains (xs ++ option_to_list o) i → Contains xs i ⊎ (o ≡ Some i)
one_cases xs None i c = inl (subst (λ (ys : List Implication). Contains ys i) (append-nil xs) c)
one_cases xs (Some j) i c = elim (Contains-push_cases xs j i c) [ inl d ↦ inl d | inr e ↦ inr (ap Some e) ]

one_there : (xs : List Implication) (o : Option Implication) (i : Implication) → o ≡ Some i → Contains (xs ++ option_to_list o) i
one_there xs o i e = subst (λ (p : Option Implication). Contains (xs ++ option_to_list p) i) (sym e) (Contains-push xs i)

if_some : {A : Type 0} (o : Option A) (P : A → Type 0) (a : A) → IfSome o P → o ≡ Some a → P a
if_some None P a h e = absurd (no_some e)
if_some (Some b) P a h e = subst P (same_some e) h

module _ (step : Implication → Type 0) (o : Option Implication) (old new : List Implication) (e : new ≡ old ++ option_to_list o) where
  one_grown : IfSome o step → (i : Implication) → Contains new i → Contains old i ⊎ step i
  one_grown h i c = elim (one_cases old o i (subst (λ (xs : List Implication). Contains xs i) e c)) [ inl d ↦ inl d | inr f ↦ inr (if_some o step i h f) ]

  one_kept : (i : Implication) → Contains old i → Contains new i
  one_kept i c = subst (λ (xs : List Implication). Contains xs i) (sym e) (Contains-append_left old (option_to_list o) i c)

  one_added : (i : Implication) → o ≡ Some i → Contains new i
  one_added i f = subst (λ (xs : List Implication). Contains xs i) (sym e) (one_there old o i f)

  pub grown_by_one : IfSome o step → ((i : Implication) → step i → o ≡ Some i) → HasGrown step old new
  grown_by_one h all = record { each = one_grown h; kept = one_kept; all = λ i s. one_added i (all i s) }

-- one that is added where the piece is one of these
pub grown_by_contained : (step : Implication → Type 0) (o : Option Implication) (old new : List Implication) → new ≡ old ++ option_to_list o → (piece : Type 0) → piece → IfSome o (λ i. piece → step i) → ((i : Implication) → step i → o ≡ Some i) → HasGrown step old new
grown_by_contained step o old new e piece there some all = grown_by_one step o old new e (by o some) all
  where
    by : (p : Option Implication) → IfSome p (λ i. piece → step i) → IfSome p step
    by None h = tt
    by (Some i) h = h there

pub grown_by_three : (step : Implication → Type 0) (old one two new : List Implication) (o p q : Option Implication) → IfSome o step → IfSome p step → IfSome q step → ((i : Implication) → step i → (o ≡ Some i) ⊎ ((p ≡ Some i) ⊎ (q ≡ Some i))) → one ≡ old ++ option_to_list o → two ≡ one ++ option_to_list p → new ≡ two ++ option_to_list q → HasGrown step old new
grown_by_three step old one two new o p q f g h all e k l = record {
  each = λ i c.
      elim (one_grown step q two new l h i c) [
        | inr s ↦ inr s
        | inl d ↦ elim (one_grown step p one two k g i d) [ inr s ↦ inr s | inl b ↦ one_grown step o old one e f i b ]
      ];
  kept = λ i c. from_one_list i (one_kept step o old one e i c);
  all = λ i s.
      elim (all i s) [
        | inl d ↦ from_one_list i (one_added step o old one e i d)
        | inr m ↦ elim m [ inl d ↦ one_kept step q two new l i (one_added step p one two k i d) | inr d ↦ one_added step q two new l i d ]
      ];
}
  where
    from_one_list : (i : Implication) → Contains one i → Contains new i
    from_one_list i c = one_kept step q two new l i (one_kept step p one two k i c)

-- all that follows from a member with this name, in a group for which that name stands, if one does
pub each_step : (x : TypesInText) (map a : PieceAt) (n : NameAt) (body : Option NameAt) (o p q : Option Implication) → ((m : NameAt) → a.entry ≡ None → a.name ≡ Some m → Some n ≡ Some m) → ((m : NameAt) → IsInBody x a m → body ≡ Some m) → (IsBetween map a → o ≡ Some (by_itself (fact_of n))) → ((m : NameAt) → body ≡ Some m → p ≡ Some (from_one (fact_of n) (fact_of m))) → ((i j : ℕ) → n ≡ plain_name i → body ≡ Some (plain_name j) → q ≡ Some (from_one (fact_of (unwrapped_name i)) (fact_of (unwrapped_name j)))) → (i : Implication) → IsStep x map a i → (o ≡ Some i) ⊎ ((p ≡ Some i) ⊎ (q ≡ Some i))
each_step x map a n body o p q own in_body f g h i (step_in_map {n = k} m b) =
    let same : n ≡ k = same_some (own k m.alone m.name) in
    inl (f b ∙ ap (λ (z : NameAt). Some (by_itself (fact_of z))) same)
each_step x map a n body o p q own in_body f g h i (step_in_group {n = k} {m = j} m b) =
    let same : n ≡ k = same_some (own k m.alone m.name) in
    inr (inl (g j (in_body j b) ∙ ap (λ (z : NameAt). Some (from_one (fact_of z) (fact_of j))) same))
each_step x map a n body o p q own in_body f g h i (step_alone {n = k} {m = j} m b) = inr (inr (h k j (same_some (own (plain_name k) m.alone m.name)) (in_body (plain_name j) b)))

-- the names of which `~` gives what it gives of one

module _ (x : TypesInText) (n : ℕ) (steps : List Implication) (are : AreSteps (IsAloneStep x) steps) where
  alone_so : (a : PieceAt) (i : Implication) → IsAloneStep x a i → i.then < x.names → ((p : ℕ) → i.first ≡ Some p → AreAlikeIn x n p) → AreAlikeIn x n i.then
  alone_so a i (step_of_rule {m = j} m b) known rest = alone known m b (rest j refl)

  alike_so : (i : Implication) → Contains steps i ⊎ (by_itself n ≡ i) → i.then < x.names → ((p : ℕ) → i.first ≡ Some p → AreAlikeIn x n p) → AreAlikeIn x n i.then
  alike_so i (inl c) known rest = let w = are.each i c in alone_so w.0 i w.1 known rest
  alike_so i (inr e) known rest =
      let same : n ≡ i.then = ap (λ (j : Implication). j.then) e in
      subst (AreAlikeIn x n) same (itself (subst (λ (k : ℕ). k < x.names) (sym same) known))

  from_marks : {k : ℕ} → Follows x.names (steps ++ by_itself n ∷ []) k → AreAlikeIn x n k
  from_marks (concludes place i there known first second) = alike_so i (Contains-push_cases steps (by_itself n) i (contains_at (steps ++ by_itself n ∷ []) place i there)) known (λ p e. from_marks (first p e))

  to_marks : {k : ℕ} → AreAlikeIn x n k → Follows x.names (steps ++ by_itself n ∷ []) k
  to_marks (itself known) = let w = place_of (steps ++ by_itself n ∷ []) (by_itself n) (Contains-push steps (by_itself n)) in concludes w.0 (by_itself n) w.1 known (λ p e. cc) (λ p e. cc)
  to_marks (alone {k = k} {m = j} {a = a} known m b g) =
      let w = place_of (steps ++ by_itself n ∷ []) (from_one k j) (Contains-append_left steps (by_itself n ∷ []) (from_one k j) (are.all a (from_one k j) (step_of_rule m b))) in
      concludes w.0 (from_one k j) w.1 known (λ p e. subst (Follows x.names (steps ++ by_itself n ∷ [])) (same_some e) (to_marks g)) (λ p e. cc)

  pub are_marked : (flags : List Bool) → AreFollowing x.names (steps ++ by_itself n ∷ []) flags → AreMarked x n flags
  are_marked flags h = record { each = λ k. (λ e. from_marks ((h.each k).0 e), λ g. (h.each k).1 (to_marks g)) }

pub alone_piece : (x : TypesInText) (a : PieceAt) (i : Implication) → IsAloneStep x a i → Contains x.pieces.items a
alone_piece x a i (step_of_rule m b) = m.contained

pub no_alone : (x : TypesInText) (a : PieceAt) (i : Implication) → ((n : NameAt) → IsInBody x a n → ⊥) → IsAloneStep x a i → ⊥
no_alone x a i none (step_of_rule {m = j} m b) = none (plain_name j) b

pub is_alone : (x : TypesInText) (a : PieceAt) (n m : NameAt) → Contains x.pieces.items a → a.entry ≡ None → a.name ≡ Some n → IsInBody x a m → n.is_unwrapped ≡ false → m.is_unwrapped ≡ false → IsAloneStep x a (from_one n.number m.number)
is_alone x a n m there entry name b f g =
    let e = same_name n (plain_name n.number) refl f in
    let d = same_name m (plain_name m.number) refl g in
    step_of_rule (record { contained = there; alone = entry; name = name ∙ ap Some e }) (subst (IsInBody x a) d b)

pub marked_by : (x : TypesInText) (a : PieceAt) (flags : List Bool) (n : NameAt) → IsInBody x a n → ((m : NameAt) → IsInBody x a m → Some n ≡ Some m) → n.is_unwrapped ≡ true → (b : Bool) → IsTrue b ↔ (slice_get flags n.number ≡ Some true) → IsTrue b ↔ IsInMarked x flags a
marked_by x a flags n h only e b g = (
  λ t. record { name = n.number; body = subst (IsInBody x a) (same_name n (unwrapped_name n.number) refl e) h; flag = g.0 t },
  λ m.
      let same : n ≡ unwrapped_name m.name = same_some (only (unwrapped_name m.name) m.body) in
      g.1 (subst (λ (z : NameAt). slice_get flags z.number ≡ Some true) (sym same) m.flag),
)

-- the name that stands for a piece's group, by the rule and by what is round the group

module _ (x : TypesInText) (a : PieceAt) (r : RuleAt) where
  pub in_body : (b : Bool) → slice_get x.rules.items a.rule ≡ Some r → a.around ≡ ends_of b r → IsInBody x a (record { number = r.number; is_unwrapped = b })
  in_body b e f = record { rule = record { at = r; there = e; same = refl }; around = f }

  its_ends : slice_get x.rules.items a.rule ≡ Some r → (n : NameAt) → IsInBody x a n → (r.number ≡ n.number) × (a.around ≡ ends_of n.is_unwrapped r)
  its_ends e n h =
      let same : h.rule.at ≡ r = same_some (sym h.rule.there ∙ e) in
      (ap (λ (z : RuleAt). z.number) (sym same) ∙ h.rule.same, h.around ∙ ap (ends_of n.is_unwrapped) same)

  same_flag : (b c : Bool) → ends_of b r ≡ ends_of c r → b ≡ c
  same_flag true true e = refl
  same_flag false false e = refl
  same_flag true false e = absurd (some_none e)
  same_flag false true e = absurd (no_some e)

  pub only_body : (b : Bool) → slice_get x.rules.items a.rule ≡ Some r → a.around ≡ ends_of b r → (n : NameAt) → IsInBody x a n → record { number = r.number; is_unwrapped = b } ≡ n
  only_body b e f n h =
      let w = its_ends e n h in
      same_name (record { number = r.number; is_unwrapped = b }) n w.0 (same_flag b n.is_unwrapped (sym f ∙ w.1))

  pub no_body : slice_get x.rules.items a.rule ≡ Some r → {s : Span} → a.around ≡ Some s → (a.around ≡ Some r.body → ⊥) → (n : NameAt) → IsInBody x a n → ⊥
  no_body e {s = s} f none n h = by n.is_unwrapped (its_ends e n h).1
    where
      by : (b : Bool) → a.around ≡ ends_of b r → ⊥
      by true g = none g
      by false g = some_none (sym f ∙ g)

-- what is pushed follows

module _ (x : TypesInText) (map a : PieceAt) (n : NameAt) where
  pub map_stepped : IsMember x n a → (o : Option Implication) → IfSome o (λ i. IsBetween map a × (i ≡ by_itself (fact_of n))) → IfSome o (IsStep x map a)
  map_stepped m o h = some_then o _ _ (λ i w. subst (IsStep x map a) (sym w.1) (step_in_map m w.0)) h

  pub group_stepped : (body : Option NameAt) → IsMember x n a → IfSome body (IsInBody x a) → (o : Option Implication) → IfSome o (λ i. (m : NameAt) × (body ≡ Some m) × (i ≡ from_one (fact_of n) (fact_of m))) → IfSome o (IsStep x map a)
  group_stepped body m b o h = some_then o _ _ (λ i w. subst (IsStep x map a) (sym w.2) (step_in_group m (if_some body (IsInBody x a) w.0 b w.1))) h

  pub alone_stepped : (body : Option NameAt) → IsMember x n a → IfSome body (IsInBody x a) → (o : Option Implication) → IfSome o (λ i. (j k : ℕ) × (n ≡ plain_name j) × (body ≡ Some (plain_name k)) × (i ≡ from_one (fact_of (unwrapped_name j)) (fact_of (unwrapped_name k)))) → IfSome o (IsStep x map a)
  alone_stepped body m b o h = some_then o _ _ (λ i w. subst (IsStep x map a) (sym w.4) (step_alone (subst (λ (z : NameAt). IsMember x z a) w.2 m) (if_some body (IsInBody x a) (plain_name w.1) b w.3))) h
