-- The root among the instances is found by its row.
use Rattle.std.proofs.Common.{◌≡◌, ◌≢◌, ℕ, zero, suc, nat_eq, Bool, true, false, ◌&&◌, if◌then◌else◌, ◌⊎◌, inl, inr, List, [], ◌∷◌, Option, Some, None, slice_get, refl, sym, ap, subst, ◌∙◌, true≢false}
use Rattle.std.proofs.lemmas.Bool.Decides.{eqb_tells}
use Rattle.lists.proofs.Lemmas.{from_contains, from_get, is_equal as same_number, to_contains, to_get}
use Rattle.cddl_meaning.specs.Alike.{AlikeAll, none, both}
use Rattle.cddl_language.specs.Terms.{Text, Ref, call, Terms, no_terms, term, Definition}
use Rattle.cddl_language.specs.Reach.{at_root}
use Rattle.check_terms.specs.declared.row.Form.TheVariants as F
use Rattle.check_terms.specs.Table.{IsTable, Table, Holds, part, some_text}
use Rattle.check_terms.specs.Trees.{IsRef, IsTerms, terms_tree}
use Rattle.check_instances.specs.declared.closed.closed.Closed.{Closed}
use Rattle.check_instances.specs.declared.closed.closed.Meaning.{Meaning}
use Rattle.check_instances.specs.Closed.Closed.{IsClosed, IsMeaning}
use Rattle.cddl_table.specs.Root.{has_none, is_root, is_root_by, place_at, root_place, root_row, there}

both_true : (a b : Bool) → a && b ≡ true → (a ≡ true) × (b ≡ true)
both_true true b h = (refl, h)
both_true false b h = absurd (true≢false (sym h))

itself : (a : ℕ) → nat_eq a a ≡ true
itself a = by (eqb_tells a a)
  where
    by : ((nat_eq a a ≡ true) × (a ≡ a)) ⊎ ((nat_eq a a ≡ false) × (a ≢ a)) → nat_eq a a ≡ true
    by (inl h) = h.0
    by (inr h) = absurd (h.1 refl)

alike_back : {A B : Type 0} (R : A → B → Type 0) (xs : List A) (ys : List B) → AlikeAll R xs ys → (k : ℕ) (y : B) → slice_get ys k ≡ Some y → (x : A) × (slice_get xs k ≡ Some x) × R x y
alike_back R xs ys none k y e = cc
alike_back R xs ys (both {n = x} {m = v} {ns = us} {ms = vs} h hs) zero y e = (x, refl, subst (R x) same h)
  where
    same : v ≡ y
    same = cc
alike_back R xs ys (both {ns = us} {ms = vs} h hs) (suc k) y e = alike_back R us vs hs k y e

there_at : (o : Option (Option ℕ)) (k : ℕ) → there o ≡ Some k → o ≡ Some (Some k)
there_at None k e = cc
there_at (Some i) k e = ap Some e

module _ (t : Table) where
  no_arguments : (k : ℕ) (ts : Terms) → IsTerms t k ts → has_none (slice_get t.rows k) ≡ true → ts ≡ no_terms
  no_arguments k no_terms h e = refl
  no_arguments k (term x xs) (part r h a b) e = absurd (true≢false (sym e ∙ ap has_none r))

  -- A row that is told to be the root's is.
  is_the_root : (n root : ℕ) (name : Text) (q : Ref) → slice_get t.texts root ≡ Some name → IsRef t n q → is_root t.rows root (slice_get t.rows n) ≡ true → q ≡ call name no_terms
  is_the_root n root name (call x ts) r (part {i = i} e (some_text {n = m} g) a b) d = by i a (sym (ap (is_root t.rows root) e) ∙ d)
    where
      named : m ≡ root → x ≡ name
      named k = same (slice_get t.texts m) g (ap (slice_get t.texts) k ∙ r)
        where
          same : (o : Option Text) → o ≡ Some x → o ≡ Some name → x ≡ name
          same o e f = cc

      by : (i : Option ℕ) → Holds t i (terms_tree ts) → is_root_by t.rows root F.Call (Some m) i ≡ true → call x ts ≡ call name no_terms
      by None a d = absurd (true≢false (sym d))
      by (Some k) a d = let h = both_true (nat_eq m root) (has_none (slice_get t.rows k)) d in ap (λ (y : Text). call y ts) (named (same_number m root h.0)) ∙ ap (call name) (no_arguments k ts a h.1)

  -- The root's row is told to be.
  root_is_told : IsTable t → (n root : ℕ) (name : Text) → slice_get t.texts root ≡ Some name → IsRef t n (call name no_terms) → is_root t.rows root (slice_get t.rows n) ≡ true
  root_is_told is n root name r (part {i = i} e (some_text {n = m} g) a b) = ap (is_root t.rows root) e ∙ by i a
    where
      by : (i : Option ℕ) → Holds t i (terms_tree no_terms) → is_root_by t.rows root F.Call (Some m) i ≡ true
      by i (part {n = k} h c a b) = ap (λ (j : ℕ). nat_eq j root && has_none (slice_get t.rows k)) (is.texts m root name g r) ∙ ap (λ (x : Bool). x && has_none (slice_get t.rows k)) (itself root) ∙ ap has_none h

  -- The search goes to the first such row.

  found_row : (root : ℕ) (ms : List Meaning) (n : ℕ) → root_row t.rows root ms ≡ Some n → (k : ℕ) × (m : Meaning) × (slice_get ms k ≡ Some m) × (m.call ≡ n) × (is_root t.rows root (slice_get t.rows n) ≡ true)
  found_row root [] n e = cc
  found_row root (m ∷ ms) n e = by (is_root t.rows root (slice_get t.rows m.call)) refl e (found_row root ms n)
    where
      by : (b : Bool) → is_root t.rows root (slice_get t.rows m.call) ≡ b → (if b then Some m.call else root_row t.rows root ms) ≡ Some n → (root_row t.rows root ms ≡ Some n → (k : ℕ) × (q : Meaning) × (slice_get ms k ≡ Some q) × (q.call ≡ n) × (is_root t.rows root (slice_get t.rows n) ≡ true)) → (k : ℕ) × (q : Meaning) × (slice_get (m ∷ ms) k ≡ Some q) × (q.call ≡ n) × (is_root t.rows root (slice_get t.rows n) ≡ true)
      by true h e go = (zero, m, refl, same, subst (λ (j : ℕ). is_root t.rows root (slice_get t.rows j) ≡ true) same h)
        where
          same : m.call ≡ n
          same = cc
      by false h e go = let q = go e in (suc q.0, q.1, q.2, q.3, q.4)

  some_row : (root : ℕ) (ms : List Meaning) (k : ℕ) (m : Meaning) → slice_get ms k ≡ Some m → is_root t.rows root (slice_get t.rows m.call) ≡ true → root_row t.rows root ms ≡ None → ⊥
  some_row root [] k m e h f = cc
  some_row root (q ∷ ms) k m e h f = by k e (is_root t.rows root (slice_get t.rows q.call)) refl f (λ j. some_row root ms j m)
    where
      first : (b : Bool) → is_root t.rows root (slice_get t.rows q.call) ≡ b → q ≡ m → b ≡ true
      first b d s = sym d ∙ ap (λ (x : Meaning). is_root t.rows root (slice_get t.rows x.call)) s ∙ h

      by : (k : ℕ) → slice_get (q ∷ ms) k ≡ Some m → (b : Bool) → is_root t.rows root (slice_get t.rows q.call) ≡ b → (if b then Some q.call else root_row t.rows root ms) ≡ None → ((j : ℕ) → slice_get ms j ≡ Some m → is_root t.rows root (slice_get t.rows m.call) ≡ true → root_row t.rows root ms ≡ None → ⊥) → ⊥
      by k e true d f go = cc
      by zero e false d f go = true≢false (sym (first false d same))
        where
          same : q ≡ m
          same = cc
      by (suc k) e false d f go = go k e h f

  module _ (xs : List Definition) (name : Text) (refs : List Ref) (c : Closed) (root : ℕ) (is : IsTable t) (closed : IsClosed xs name refs t c) (text : slice_get t.texts root ≡ Some name) where
    pub root_found : (k : ℕ) → root_place t.rows c root ≡ Some k → slice_get refs k ≡ Some (call name no_terms)
    root_found k e = by (root_row t.rows root c.meanings.items) refl e
      where
        by : (o : Option ℕ) → root_row t.rows root c.meanings.items ≡ o → place_at c.places.items o ≡ Some k → slice_get refs k ≡ Some (call name no_terms)
        by None h e = cc
        by (Some n) h e =
            let told = closed.places.told n k (there_at (slice_get c.places.items n) k e) in
            told.1 ∙ ap Some (is_the_root n root name told.0 text told.2 (found_row root c.meanings.items n h).4)

    pub root_there : ((k : ℕ) (r : Ref) → slice_get refs k ≡ Some r → (m : Meaning) × (slice_get c.meanings.items k ≡ Some m) × IsMeaning xs t r m) → root_place t.rows c root ≡ None → ⊥
    root_there meaning e = by (root_row t.rows root c.meanings.items) refl e
      where
        place : (k : ℕ) × (slice_get refs k ≡ Some (call name no_terms))
        place = to_get refs (call name no_terms) (from_contains refs (call name no_terms) (closed.instances.all (call name no_terms) at_root))

        mine : (m : Meaning) × (slice_get c.meanings.items place.0 ≡ Some m) × IsMeaning xs t (call name no_terms) m
        mine = meaning place.0 (call name no_terms) place.1

        by : (o : Option ℕ) → root_row t.rows root c.meanings.items ≡ o → place_at c.places.items o ≡ None → ⊥
        by None h e = some_row root c.meanings.items place.0 mine.0 mine.1 (root_is_told is mine.0.call root name text mine.2.ref) h
        by (Some n) h e =
            let f = found_row root c.meanings.items n h in
            let q = alike_back (IsMeaning xs t) refs c.meanings.items closed.meanings f.0 f.1 f.2 in
            let p = closed.places.found n q.0 (subst (λ (j : ℕ). IsRef t j q.0) f.3 q.2.ref) (to_contains refs q.0 (from_get refs f.0 q.0 q.1)) in
            some_is_none p.0 (sym (ap there p.1) ∙ e)
          where
            some_is_none : (k : ℕ) → Some k ≡ None → ⊥
            some_is_none k e = cc
