-- Rows in turn, parts before wholes: what has a place holds a parameter, and the rest stays.
use Rattle.std.proofs.Common.{◌≡◌, ℕ, zero, suc, ◌+◌, ◌<◌, List, [], ◌∷◌, ◌++◌, length, Option, Some, None, ◌⊎◌, inl, inr, IfSome, Bool, true, false, true≢false, nat_eq, refl, sym, ap, subst, ◌∙◌, arith, eqb-true, ◌||◌, Vec, Global}
use Rattle.std.specs.Prelude.{slice_get, option_map, if◌then◌else◌, is_some}
use Rattle.std.proofs.lemmas.Cmp.{nat_eq_equiv}
use Rattle.std.proofs.lemmas.Option.{same_Some, slice_get_within}
use Rattle.cddl_language.specs.Terms.{Text}
use Rattle.check_terms.specs.declared.row.Row.{Row}
use Rattle.check_terms.specs.Filled.{tree_or}
use Rattle.check_terms.specs.Table.{Table, Tree, node, Holds, no_part, part}
use Rattle.check_terms.specs.declared.fill.template.Step.{Step}
use Rattle.check_terms.specs.Fill.Making.{AreSlots, if_needed, look_up, or_some, place_in, places_after, row_step, slot_after, step_from, step_of, steps_after, with_place}
use Rattle.check_terms.specs.Fill.Rows.{IsAmong, IsUnfolded, PartsAre, PartsFollow}
use Rattle.check_terms.specs.Fill.Templates.{IsTemplate, AreSteps, no_steps, further_step, IsPlaced, IsStep, step, Stays, at_place}
use Rattle.check_terms.proofs.OfFill.Filled.{parts_of}
use Rattle.check_terms.proofs.OfFill.Replacing.{slot_right}
use Rattle.check_terms.proofs.OfFill.Unfolding.{among_cases, follows_back, follows_then, last_parts}

-- Places of parameters.

pub same_slot : (slots : ℕ → Option ℕ) (k i : ℕ) → is_some (slots k) ≡ true → (n : ℕ) → slots n ≡ slot_after slots k i n
same_slot slots k i some n = by (slots n) refl (nat_eq k n) refl
  where
    by : (o : Option ℕ) → slots n ≡ o → (b : Bool) → nat_eq k n ≡ b → o ≡ or_some o (if b then Some i else None)
    by (Some j) e b f = refl
    by None e false f = refl
    by None e true f = absurd (true≢false (sym some ∙ ap is_some (ap slots (eqb-true k n f) ∙ e)))

pub new_slot : (slots : ℕ → Option ℕ) (k i : ℕ) → is_some (slots k) ≡ false → (n : ℕ) → with_place slots k i n ≡ slot_after slots k i n
new_slot slots k i none n = by (slots n) refl (nat_eq k n) refl
  where
    by : (o : Option ℕ) → slots n ≡ o → (b : Bool) → nat_eq k n ≡ b → (if b then Some i else o) ≡ or_some o (if b then Some i else None)
    by None e true f = refl
    by None e false f = refl
    by (Some j) e false f = refl
    by (Some j) e true f = absurd (true≢false (sym (ap is_some (ap slots (eqb-true k n f) ∙ e)) ∙ none))

place_at_end : (ks : List ℕ) (k n : ℕ) → place_in (ks ++ k ∷ []) n ≡ or_some (place_in ks n) (if nat_eq k n then Some (length ks) else None)
place_at_end [] k n = by (nat_eq k n)
  where
    by : (b : Bool) → (if b then Some 0 else option_map suc (place_in [] n)) ≡ or_some None (if b then Some 0 else None)
    by true = refl
    by false = refl
place_at_end (m ∷ ks) k n = by (nat_eq m n) (place_in ks n) (place_in (ks ++ k ∷ []) n) (nat_eq k n) (place_at_end ks k n)
  where
    by : (b : Bool) (o p : Option ℕ) (c : Bool) → p ≡ or_some o (if c then Some (length ks) else None) → (if b then Some 0 else option_map suc p) ≡ or_some (if b then Some 0 else option_map suc o) (if c then Some (suc (length ks)) else None)
    by true o p c e = refl
    by false (Some i) p c e = ap (option_map suc) e
    by false None p true e = ap (option_map suc) e
    by false None p false e = ap (option_map suc) e

pub one_slot : (old : ℕ → Option ℕ) (ks : List ℕ) (k i : ℕ) → i ≡ length ks → ((n : ℕ) → old n ≡ place_in ks n) → (n : ℕ) → slot_after old k i n ≡ place_in (ks ++ k ∷ []) n
one_slot old ks k i e h n = (λ j. or_some (h n j) (if nat_eq k n then Some (e j) else None)) ∙ sym (place_at_end ks k n)

pub no_elements : {A : Type 0} (xs : List A) → length xs ≡ 0 → xs ≡ []
no_elements [] e = refl
no_elements (x ∷ xs) e = absurd (omega (arith, e))

pub nothing_left : (n : ℕ) → (0 < n → ⊥) → n ≡ 0
nothing_left zero h = refl
nothing_left (suc n) h = absurd (h (omega arith))

-- Lists of trees.

tree_before : (xs ys : List Tree) (i : ℕ) (x : Tree) → slice_get xs i ≡ Some x → slice_get (xs ++ ys) i ≡ Some x
tree_before [] ys i x e = cc
tree_before (z ∷ xs) ys zero x e = e
tree_before (z ∷ xs) ys (suc i) x e = tree_before xs ys i x e

tree_added : (xs : List Tree) (x : Tree) → slice_get (xs ++ x ∷ []) (length xs) ≡ Some x
tree_added [] x = refl
tree_added (z ∷ xs) x = tree_added xs x

length_more : (xs : List Tree) (x : Tree) → length (xs ++ x ∷ []) ≡ suc (length xs)
length_more [] x = refl
length_more (z ∷ xs) x = ap suc (length_more xs x)

how_many : (t : Table) (ps : List Text) (before : List Tree) (ss : List Step) (all : List Tree) → AreSteps t ps before ss all → length all ≡ length before + length ss
how_many t ps before [] all no_steps = omega arith
how_many t ps before (s ∷ ss) all (further_step {x = x} h hs) =
    let rest = how_many t ps (before ++ x ∷ []) ss all hs in
    let more = length_more before x in
    omega (arith, rest, more)

one_step : (t : Table) (ps : List Text) (before : List Tree) (ss : List Step) (all : List Tree) (s : Step) (x : Tree) → AreSteps t ps before ss all → IsStep t ps all s x → AreSteps t ps before (ss ++ s ∷ []) (all ++ x ∷ [])
one_step t ps before [] all s x no_steps k = further_step k no_steps
one_step t ps before (r ∷ ss) all s x (further_step h hs) k = further_step h (one_step t ps _ ss all s x hs k)

-- What is needed.

unneeded : (s : Step) → if_needed s ≡ None → (s.argument ≡ None) × (s.first ≡ None) × (s.second ≡ None)
unneeded s e = by s.argument s.first s.second e
  where
    by : (a b c : Option ℕ) → (if is_some a || is_some b || is_some c then Some s else None) ≡ None → (a ≡ None) × (b ≡ None) × (c ≡ None)
    by None None None e = (refl, refl, refl)
    by None None (Some k) e = cc
    by None (Some j) c e = cc
    by (Some i) b c e = cc

needed : (s r : Step) → if_needed s ≡ Some r → s ≡ r
needed s r e = by s.argument s.first s.second e
  where
    by : (a b c : Option ℕ) → (if is_some a || is_some b || is_some c then Some s else None) ≡ Some r → s ≡ r
    by None None None e = cc
    by None None (Some k) e = cc
    by None (Some j) c e = cc
    by (Some i) b c e = cc

-- a row without a step stays
step_stays : (t : Table) (ps : List Text) (before : List Tree) (s : Step) (x : Tree) → (s.argument ≡ None) × (s.first ≡ None) × (s.second ≡ None) → IsStep t ps before s x → Stays ps x
step_stays t ps before s x none (step {f = f} {w = w} {a = a} {b = b} h r p q) ys =
    let first = subst (λ o. IsPlaced ps before o a) none.1 p in
    let second = subst (λ o. IsPlaced ps before o b) none.2 q in
    let whole = r ys ∙ ap (at_place ys) none.0 in
    λ i. tree_or (whole i) (node f w (first ys i) (second ys i))

-- The number has a place, or what it stands for stays.
abbrev pub IsSettled : Table → List Text → (ℕ → Option ℕ) → ℕ → Type 0
IsSettled t ps places n = (x : Tree) → Holds t (Some n) x → places n ≡ None → Stays ps x

-- Some rows have their steps, and these rows are left, from the last on.
pub record IsMade (t : Table) (ps : List Text) (body : ℕ) (places : ℕ → Option ℕ) (steps : List Step) (rows : List ℕ) : Type 0 where
  pub trees : List Tree
  pub are_steps : AreSteps t ps [] steps trees
  pub found : (n i : ℕ) → places n ≡ Some i → (x : Tree) × (slice_get trees i ≡ Some x) × Holds t (Some n) x
  pub follow : PartsFollow t (IsSettled t ps places) rows
  pub begins : IsAmong body rows ⊎ IsSettled t ps places body

pub none_made : (t : Table) (ps : List Text) (body : ℕ) (places : ℕ → Option ℕ) (rows : List ℕ) → ((n : ℕ) → places n ≡ None) → IsUnfolded t body rows → IsMade t ps body places [] rows
none_made t ps body places rows empty h = record {
  trees = [];
  are_steps = no_steps;
  found = λ n i e. absurd (none n i e);
  follow = follows_then t (λ m. ⊥) (IsSettled t ps places) (λ m g. absurd g) rows h.parts_follow;
  begins = inl h.begins;
}
  where
    none : (n i : ℕ) → places n ≡ Some i → ⊥
    none n i e = let f = empty n in cc

same_made : (t : Table) (ps : List Text) (body : ℕ) (steps : List Step) (rows : List ℕ) (places now : ℕ → Option ℕ) → ((n : ℕ) → now n ≡ places n) → IsMade t ps body places steps rows → IsMade t ps body now steps rows
same_made t ps body steps rows places now is h = record {
  trees = h.trees;
  are_steps = h.are_steps;
  found = λ n i e. h.found n i (sym (is n) ∙ e);
  follow = follows_then t (IsSettled t ps places) (IsSettled t ps now) kept rows h.follow;
  begins = begins h.begins;
}
  where
    kept : (m : ℕ) → IsSettled t ps places m → IsSettled t ps now m
    kept m g x held e = g x held (sym (is m) ∙ e)

    begins : IsAmong body rows ⊎ IsSettled t ps places body → IsAmong body rows ⊎ IsSettled t ps now body
    begins (inl g) = inl g
    begins (inr g) = inr (kept body g)

module _ (t : Table) (ps : List Text) (one_tree : (t : Table) (n : Option ℕ) (x y : Tree) → Holds t n x → Holds t n y → x ≡ y) where
  -- where a part's tree is found
  pub placed : (places : ℕ → Option ℕ) (trees : List Tree) → ((n i : ℕ) → places n ≡ Some i → (x : Tree) × (slice_get trees i ≡ Some x) × Holds t (Some n) x) → (o : Option ℕ) (a : Tree) → Holds t o a → IfSome o (IsSettled t ps places) → IsPlaced ps trees (look_up places o) a
  placed places trees found None a no_part h = λ ys. refl
  placed places trees found (Some n) a held h = by (places n) refl
    where
      by : (o : Option ℕ) → places n ≡ o → IsPlaced ps trees o a
      by None e = h a held e
      by (Some i) e =
          let x = found n i e in
          x.1 ∙ ap Some (one_tree t (Some n) x.0 a x.2 held)

  -- where all rows have their steps
  pub all_made : (body : ℕ) (places : ℕ → Option ℕ) (steps : Vec Step Global) (rows : List ℕ) (place : Option ℕ) (x : Tree) → rows ≡ [] → place ≡ look_up places (Some body) → IsMade t ps body places steps.items rows → Holds t (Some body) x → IsTemplate t ps (record { body = body; place = place; steps = steps }) x
  all_made body places steps rows place x none e so held = record {
    trees = so.trees;
    are_steps = so.are_steps;
    holds = held;
    is_placed = subst (λ o. IsPlaced ps so.trees o x) (sym e) (placed places so.trees so.found (Some body) x held (settled (subst (λ ns. IsAmong body ns ⊎ IsSettled t ps places body) none so.begins)));
  }
    where
      settled : IsAmong body [] ⊎ IsSettled t ps places body → IsSettled t ps places body
      settled (inl g) = absurd g
      settled (inr g) = g

  module _ (slots : ℕ → Option ℕ) (right : AreSlots t ps slots) (body : ℕ) (places : ℕ → Option ℕ) (steps : List Step) (k : ℕ) (rows left : List ℕ) (last : rows ≡ left ++ k ∷ []) (so : IsMade t ps body places steps rows) where
    parts : PartsAre t (IsSettled t ps places) k
    parts = last_parts t (IsSettled t ps places) k left (subst (PartsFollow t (IsSettled t ps places)) last so.follow)

    row_is_step : (r : Row) (x : Tree) → slice_get t.rows k ≡ Some r → Holds t (Some k) x → IsStep t ps so.trees (row_step t.rows slots places k r) x
    row_is_step r x e (part {f = f} {x = w} {a = a} {b = b} h d u v) =
        let held = part h d u v in
        let its = parts_of t k r f w a b e held in
        let settled = parts r e in
        step held (λ ys. slot_right t ps slots right ys r f a its.0 its.2) (placed places so.trees so.found r.first a its.2 settled.0) (placed places so.trees so.found r.second b its.3 settled.1)

    begins_back : (P : ℕ → Type 0) → ((m : ℕ) → IsSettled t ps places m → P m) → P k → IsAmong body left ⊎ P body
    begins_back P kept it = by so.begins
      where
        among : (body ≡ k) ⊎ IsAmong body left → IsAmong body left ⊎ P body
        among (inl e) = inr (subst P (sym e) it)
        among (inr g) = inl g

        by : IsAmong body rows ⊎ IsSettled t ps places body → IsAmong body left ⊎ P body
        by (inl g) = among (among_cases left k body (subst (IsAmong body) last g))
        by (inr g) = inr (kept body g)

    -- a row without a step
    pub without_step : step_of t.rows slots places k ≡ None → IsMade t ps body places steps left
    without_step none = record {
      trees = so.trees;
      are_steps = so.are_steps;
      found = so.found;
      follow = follows_back t (IsSettled t ps places) (IsSettled t ps places) k (λ m g. g) settled left (subst (PartsFollow t (IsSettled t ps places)) last so.follow);
      begins = begins_back (IsSettled t ps places) (λ m g. g) settled;
    }
      where
        settled : IsSettled t ps places k
        settled x (part {f = f} {m = m} {i = i} {j = j} h d u v) e =
            let r : Row = record { form = f; text = m; first = i; second = j } in
            let unused : if_needed (row_step t.rows slots places k r) ≡ None = subst (λ o. step_from t.rows slots places k o ≡ None) h none in
            step_stays t ps so.trees (row_step t.rows slots places k r) x (unneeded (row_step t.rows slots places k r) unused) (row_is_step r x h (part h d u v))

    module _ (stand : (n : ℕ) → n < length t.rows → (x : Tree) × Holds t (Some n) x) (s : Step) (some : step_of t.rows slots places k ≡ Some s) where
      its_tree : (x : Tree) × Holds t (Some k) x × IsStep t ps so.trees s x × (s.row ≡ k)
      its_tree = by (slice_get t.rows k) refl some
        where
          by : (o : Option Row) → slice_get t.rows k ≡ o → step_from t.rows slots places k o ≡ Some s → (x : Tree) × Holds t (Some k) x × IsStep t ps so.trees s x × (s.row ≡ k)
          by None e f = cc
          by (Some r) e f =
              let x = stand k (slice_get_within t.rows k r e) in
              let same = needed (row_step t.rows slots places k r) s f in
              (x.0, x.1, subst (λ (q : Step). IsStep t ps so.trees q x.0) same (row_is_step r x.0 e x.1), sym (ap (λ (q : Step). q.row) same))

      module _ (now : ℕ → Option ℕ) (is : (n : ℕ) → now n ≡ with_place places k (length steps) n) where
        was_none : (n : ℕ) → now n ≡ None → places n ≡ None
        was_none n e = by (nat_eq k n) (sym (is n) ∙ e)
          where
            by : (b : Bool) → (if b then Some (length steps) else places n) ≡ None → places n ≡ None
            by true f = cc
            by false f = f

        kept : (m : ℕ) → IsSettled t ps places m → IsSettled t ps now m
        kept m g x h e = g x h (was_none m e)

        settled_now : IsSettled t ps now k
        settled_now x h e = absurd (none (sym (is k) ∙ e))
          where
            none : (if nat_eq k k then Some (length steps) else places k) ≡ None → ⊥
            none f = let g = subst (λ b. (if b then Some (length steps) else places k) ≡ None) (nat_eq_equiv.refl k) f in cc

        found_now : (n i : ℕ) → now n ≡ Some i → (x : Tree) × (slice_get (so.trees ++ its_tree.0 ∷ []) i ≡ Some x) × Holds t (Some n) x
        found_now n i e = by (nat_eq k n) refl (sym (is n) ∙ e)
          where
            as_long : length so.trees ≡ length steps
            as_long = let h = how_many t ps [] steps so.trees so.are_steps in omega (arith, h)

            by : (b : Bool) → nat_eq k n ≡ b → (if b then Some (length steps) else places n) ≡ Some i → (x : Tree) × (slice_get (so.trees ++ its_tree.0 ∷ []) i ≡ Some x) × Holds t (Some n) x
            by true f g =
                let here : length so.trees ≡ i = as_long ∙ same_Some (length steps) i g in
                (its_tree.0, subst (λ j. slice_get (so.trees ++ its_tree.0 ∷ []) j ≡ Some its_tree.0) here (tree_added so.trees its_tree.0), subst (λ m. Holds t (Some m) its_tree.0) (eqb-true k n f) its_tree.1)
            by false f g =
                let x = so.found n i g in
                (x.0, tree_before so.trees (its_tree.0 ∷ []) i x.0 x.1, x.2)

        -- a row with a step
        pub with_step : IsMade t ps body now (steps ++ s ∷ []) left
        with_step = record {
          trees = so.trees ++ its_tree.0 ∷ [];
          are_steps = one_step t ps [] steps so.trees s its_tree.0 so.are_steps its_tree.2;
          found = found_now;
          follow = follows_back t (IsSettled t ps places) (IsSettled t ps now) k kept settled_now left (subst (PartsFollow t (IsSettled t ps places)) last so.follow);
          begins = begins_back (IsSettled t ps now) kept settled_now;
        }

    -- the next row
    pub next_made : ((n : ℕ) → n < length t.rows → (x : Tree) × Holds t (Some n) x) → (o : Option Step) → o ≡ step_of t.rows slots places k → (now : ℕ → Option ℕ) → ((n : ℕ) → now n ≡ places_after places (length steps) o n) → (added : List Step) → added ≡ steps_after steps o → IsMade t ps body now added left
    next_made stand None e now is added f = subst (λ ss. IsMade t ps body now ss left) (sym f) (same_made t ps body steps left places now is (without_step (sym e)))
    next_made stand (Some s) e now is added f =
        let some = sym e in
        let row = (its_tree stand s some).3 in
        subst (λ ss. IsMade t ps body now ss left) (sym f) (with_step stand s some now (λ n. is n ∙ ap (λ m. with_place places m (length steps) n) row))
