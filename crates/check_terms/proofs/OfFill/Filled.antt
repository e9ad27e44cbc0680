-- A step makes the filled tree of its row, from what the steps before it made.
use Rattle.std.proofs.Common.{◌≡◌, ℕ, zero, suc, List, [], ◌∷◌, ◌++◌, map, Option, Some, None, refl, sym, ap, subst, ◌∙◌, ◌+◌, ◌<◌, length, drop, get_or, drop-cons, add-one, arith}
use Rattle.std.specs.Prelude.{slice_get, option_map, IfOk}
use Rattle.std.specs.Option.{ok_or}
use Rattle.std.proofs.lemmas.Option.{slice_get-map, same_Some}
use Rattle.std.proofs.lemmas.List.{map-append}
use Rattle.cddl_language.specs.Terms.{Text}
use Rattle.check_terms.specs.declared.row.Form.{Form}
use Rattle.check_terms.specs.declared.row.Row.{Row}
use Rattle.check_terms.specs.Filled.{filled, tree_or}
use Rattle.check_terms.specs.Table.{Table, Tree, node, Holds, part as is_part, HoldsText, Grows}
use Rattle.check_terms.specs.declared.fill.template.Step.{Step}
use Rattle.check_terms.specs.declared.fill.template.Template.{Template}
use Rattle.check_terms.specs.Fill.Filling as by
use Rattle.check_terms.specs.Fill.Templates.{AreTrees, no_trees, further_tree, IsStep, step, IsTemplate, AreSteps, no_steps, further_step, IsPlaced, at_place}
use Rattle.check_terms.proofs.OfFill.Growing.{still_trees, still_step}

-- what the parts of a row stand for
pub parts_of : (t : Table) (n : ℕ) (r : Row) (f : Form) (w : Option Text) (a b : Tree) → slice_get t.rows n ≡ Some r → Holds t (Some n) (node f w a b) → (r.form ≡ f) × HoldsText t.texts r.text w × Holds t r.first a × Holds t r.second b
parts_of t n r f w a b e (is_part {m = m} {i = i} {j = j} h d u v) =
    let same : record { form = f; text = m; first = i; second = j } ≡ r = same_Some _ _ (sym h ∙ e) in
    (sym (ap (λ (q : Row). q.form) same), subst (λ (q : Row). HoldsText t.texts q.text w) same d, subst (λ (q : Row). Holds t q.first a) same u, subst (λ (q : Row). Holds t q.second b) same v)

-- Numbers and trees, one for one.

number_at : (t : Table) (ns : List ℕ) (xs : List Tree) → AreTrees t ns xs → (i : ℕ) (x : Tree) → slice_get xs i ≡ Some x → (n : ℕ) × (slice_get ns i ≡ Some n) × Holds t (Some n) x
number_at t [] [] no_trees i x e = cc
number_at t [] (y ∷ ys) h i x e = elim h [ ]
number_at t (n ∷ ns) [] h i x e = elim h [ ]
number_at t (n ∷ ns) (y ∷ ys) (further_tree h hs) zero x e = (n, refl, subst (Holds t (Some n)) (same_Some y x e) h)
number_at t (n ∷ ns) (y ∷ ys) (further_tree h hs) (suc i) x e = number_at t ns ys hs i x e

tree_at : (t : Table) (ns : List ℕ) (xs : List Tree) → AreTrees t ns xs → (i n : ℕ) → slice_get ns i ≡ Some n → (x : Tree) × (slice_get xs i ≡ Some x) × Holds t (Some n) x
tree_at t [] [] no_trees i n e = cc
tree_at t [] (y ∷ ys) h i n e = elim h [ ]
tree_at t (m ∷ ns) [] h i n e = elim h [ ]
tree_at t (m ∷ ns) (y ∷ ys) (further_tree h hs) zero n e = (y, refl, subst (λ k. Holds t (Some k) y) (same_Some m n e) h)
tree_at t (m ∷ ns) (y ∷ ys) (further_tree h hs) (suc i) n e = tree_at t ns ys hs i n e

none_at : (t : Table) (ns : List ℕ) (xs : List Tree) → AreTrees t ns xs → (i : ℕ) → slice_get ns i ≡ None → slice_get xs i ≡ None
none_at t [] [] no_trees i e = refl
none_at t [] (y ∷ ys) h i e = elim h [ ]
none_at t (m ∷ ns) [] h i e = elim h [ ]
none_at t (m ∷ ns) (y ∷ ys) (further_tree h hs) zero e = cc
none_at t (m ∷ ns) (y ∷ ys) (further_tree h hs) (suc i) e = none_at t ns ys hs i e

one_more : (t : Table) (ns : List ℕ) (xs : List Tree) (n : ℕ) (x : Tree) → AreTrees t ns xs → Holds t (Some n) x → AreTrees t (ns ++ n ∷ []) (xs ++ x ∷ [])
one_more t [] [] n x no_trees h = further_tree h no_trees
one_more t [] (y ∷ ys) n x hs h = elim hs [ ]
one_more t (m ∷ ns) [] n x hs h = elim hs [ ]
one_more t (m ∷ ns) (y ∷ ys) n x (further_tree k hs) h = further_tree k (one_more t ns ys n x hs h)

module _ (t : Table) (ps : List Text) (ys : List Tree) (arguments : List ℕ) (held : AreTrees t arguments ys) where
  tree_at_place : (place : Option ℕ) (n : ℕ) → at_place arguments place ≡ Some n → (y : Tree) × (at_place ys place ≡ Some y) × Holds t (Some n) y
  tree_at_place None n e = cc
  tree_at_place (Some i) n e = tree_at t arguments ys held i n e

  none_at_place : (place : Option ℕ) → at_place arguments place ≡ None → at_place ys place ≡ None
  none_at_place None e = refl
  none_at_place (Some i) e = none_at t arguments ys held i e

  -- an argument in the place of the row
  pub replaced_by : (before : List Tree) (s : Step) (x : Tree) (n : ℕ) → at_place arguments s.argument ≡ Some n → IsStep t ps before s x → Holds t (Some n) (filled ps ys x)
  replaced_by before s x n e (step {f = f} {w = w} {a = a} {b = b} h r p q) =
      let y = tree_at_place s.argument n e in
      subst (λ (z : Option Tree). Holds t (Some n) (tree_or z (node f w (filled ps ys a) (filled ps ys b)))) (sym (r ys ∙ y.1)) y.2

  module _ (before : List Tree) (made : List ℕ) (are : AreTrees t made (map (filled ps ys) before)) where
    filled_part : (place own : Option ℕ) (a : Tree) → IsPlaced ps before place a → Holds t own a → Holds t (by.part made place own) (filled ps ys a)
    filled_part None own a p h = subst (Holds t own) (sym (p ys)) h
    filled_part (Some i) own a p h =
        let n = number_at t made (map (filled ps ys) before) are i (filled ps ys a) (slice_get-map (filled ps ys) before i ∙ ap (option_map (filled ps ys)) p) in
        subst (λ (o : Option ℕ). Holds t o (filled ps ys a)) (sym n.1) n.2

    -- a row of filled parts
    pub rebuilt : (s : Step) (r : Row) (x : Tree) (new : Table) (n : ℕ) → at_place arguments s.argument ≡ None → slice_get t.rows s.row ≡ Some r → ((v : Option Text) (a b : Tree) → HoldsText t.texts r.text v → Holds t (by.part made s.first r.first) a → Holds t (by.part made s.second r.second) b → Holds new (Some n) (node r.form v a b)) → IsStep t ps before s x → Holds new (Some n) (filled ps ys x)
    rebuilt s r x new n none e stands (step {f = f} {w = w} {a = a} {b = b} h q first second) =
        let are_parts = parts_of t s.row r f w a b e h in
        let row = stands w (filled ps ys a) (filled ps ys b) are_parts.1 (filled_part s.first r.first a first are_parts.2) (filled_part s.second r.second b second are_parts.3) in
        let same = subst (λ (g : Form). Holds new (Some n) (node g w (filled ps ys a) (filled ps ys b))) are_parts.0 row in
        subst (λ (z : Option Tree). Holds new (Some n) (tree_or z (node f w (filled ps ys a) (filled ps ys b)))) (sym (q ys ∙ none_at_place s.argument none)) same

-- The steps so far have their numbers, and these steps are left.
pub record AreFilled (old now : Table) (steps left : List Step) (arguments made : List ℕ) : Type 0 where
  pub grown : Grows old now
  pub texts : now.texts ≡ old.texts
  pub are_made : (ps : List Text) (ys all : List Tree) → AreSteps old ps [] steps all → AreTrees old arguments ys → (before : List Tree) × AreSteps old ps before left all × AreTrees now made (map (filled ps ys) before)

pub none_filled : (t : Table) (steps : List Step) (arguments : List ℕ) → Grows t t → AreFilled t t steps steps arguments []
none_filled t steps arguments same = record { grown = same; texts = refl; are_made = λ ps ys all h k. ([], h, no_trees) }

module _ (further : (a b c : Table) → Grows a b → Grows b c → Grows a c) (tree : (old new : Table) → Grows old new → (n : Option ℕ) (x : Tree) → Holds old n x → Holds new n x) (old now : Table) (steps left : List Step) (arguments made : List ℕ) where
  pub one_filled : (s : Step) (new : Table) (n : ℕ) → AreFilled old now steps (s ∷ left) arguments made → Grows now new → new.texts ≡ now.texts → ((ps : List Text) (before ys : List Tree) (x : Tree) → IsStep now ps before s x → AreTrees now arguments ys → AreTrees now made (map (filled ps ys) before) → Holds new (Some n) (filled ps ys x)) → AreFilled old new steps left arguments (made ++ n ∷ [])
  one_filled s new n so grows texts fills = record {
    grown = further old now new so.grown grows;
    texts = texts ∙ so.texts;
    are_made = λ ps ys all h k. let b = so.are_made ps ys all h k in next ps ys all b.0 k b.1 b.2;
  }
    where
      next : (ps : List Text) (ys all before : List Tree) → AreTrees old arguments ys → AreSteps old ps before (s ∷ left) all → AreTrees now made (map (filled ps ys) before) → (later : List Tree) × AreSteps old ps later left all × AreTrees new (made ++ n ∷ []) (map (filled ps ys) later)
      next ps ys all before k (further_step {x = x} h hs) are =
          let made_now = fills ps before ys x (still_step old now (tree old now so.grown) ps before s x h) (still_trees old now (tree old now so.grown) arguments ys k) are in
          let more = one_more new made (map (filled ps ys) before) n (filled ps ys x) (still_trees now new (tree now new grows) made (map (filled ps ys) before) are) made_now in
          (before ++ x ∷ [], hs, subst (AreTrees new (made ++ n ∷ [])) (sym (map-append (filled ps ys) before (x ∷ []))) more)

  -- what is made when no step is left
  pub all_filled : left ≡ [] → AreFilled old now steps left arguments made → (ps : List Text) (ys all : List Tree) → AreSteps old ps [] steps all → AreTrees old arguments ys → AreTrees now made (map (filled ps ys) all)
  all_filled none so ps ys all h k =
      let b = so.are_made ps ys all h k in
      last ps ys all b.0 (subst (λ ss. AreSteps old ps b.0 ss all) none b.1) b.2
    where
      last : (ps : List Text) (ys all before : List Tree) → AreSteps old ps before [] all → AreTrees now made (map (filled ps ys) before) → AreTrees now made (map (filled ps ys) all)
      last ps ys all before no_steps are = are

  -- the same by the place of the step
  pub next_filled : (i : ℕ) (d : Step) (items : List Step) (shown pushed : List ℕ) (new : Table) (n : ℕ) → items ≡ steps → i < length items → shown ≡ made → pushed ≡ made ++ n ∷ [] → AreFilled old now steps (drop i steps) arguments made → Grows now new → new.texts ≡ now.texts → ((ps : List Text) (before ys : List Tree) (x : Tree) → IsStep now ps before (get_or items i d) x → AreTrees now arguments ys → AreTrees now shown (map (filled ps ys) before) → Holds new (Some n) (filled ps ys x)) → left ≡ drop (i + 1) steps → AreFilled old new steps left arguments pushed
  next_filled i d items shown pushed new n same within shown_made are so grows texts fills e =
      let here : i < length steps = omega (arith, within, ap length same) in
      let parts : drop i steps ≡ get_or steps i d ∷ left = drop-cons steps i d here ∙ ap (λ (ss : List Step). get_or steps i d ∷ ss) (ap (λ j. drop j steps) (sym (add-one i)) ∙ sym e) in
      let one = one_filled (get_or steps i d) new n (subst (λ ss. AreFilled old now steps ss arguments made) parts so) grows texts (λ ps before ys x h k l. fills ps before ys x (subst (λ ss. IsStep now ps before (get_or ss i d) x) (sym same) h) k (subst (λ ns. AreTrees now ns (map (filled ps ys) before)) (sym shown_made) l)) in
      subst (AreFilled old new steps left arguments) (sym are) one

-- the number of the body
pub body_filled : (t : Table) (ps : List Text) (ys all : List Tree) (made : List ℕ) (place : Option ℕ) (body n : ℕ) (x : Tree) → AreTrees t made (map (filled ps ys) all) → IsPlaced ps all place x → Holds t (Some body) x → by.part made place (Some body) ≡ Some n → Holds t (Some n) (filled ps ys x)
body_filled t ps ys all made None body n x are p h e = subst (λ (o : Option ℕ). Holds t o (filled ps ys x)) e (subst (Holds t (Some body)) (sym (p ys)) h)
body_filled t ps ys all made (Some i) body n x are p h e =
    let m = number_at t made (map (filled ps ys) all) are i (filled ps ys x) (slice_get-map (filled ps ys) all i ∙ ap (option_map (filled ps ys)) p) in
    subst (λ (o : Option ℕ). Holds t o (filled ps ys x)) (sym m.1 ∙ e) m.2

-- the number is that of the filled template
abbrev pub IsFilled : Table → Table → Template → List ℕ → ℕ → Type 0
IsFilled old now m arguments n = (ps : List Text) (ys : List Tree) (x : Tree) → IsTemplate old ps m x → AreTrees old arguments ys → Holds now (Some n) (filled ps ys x)

pub ok_then : {E : Type 0} (o : Option ℕ) (e : E) (P : ℕ → Type 0) → ((n : ℕ) → o ≡ Some n → P n) → IfOk (ok_or o e) P
ok_then None e P h = tt
ok_then (Some n) e P h = h n refl
