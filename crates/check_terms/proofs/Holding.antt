-- A number stands for one tree, a tree for one number, and further rows change neither.
use Rattle.std.proofs.Common.{◌≡◌, ℕ, zero, suc, ◌<◌, ◌≤◌, List, [], ◌∷◌, ◌↔◌, ◌⊎◌, inl, inr, Option, None, Some, IfSome, get_or, length, refl, sym, ap, subst, ◌∙◌, slice_get, arith}
use Rattle.std.specs.Prelude.{Result, Ok, Err, IfOk}
use Rattle.std.proofs.lemmas.Option.{slice_get_within, slice_get_cases, slice_get-get_or}
use Rattle.lists.proofs.Lemmas.{get_front as get-before}
use borrow.Author.Count.{below_more}
use Rattle.cddl_language.specs.Terms.{Text}
use Rattle.check_terms.specs.declared.row.Row.{Row}
use Rattle.check_terms.specs.Table.{Table, IsTable, AreDistinct, Adds, AddsRow, AddsText, Tree, nothing, node, HoldsText, no_text, some_text, Holds, no_part, part}

pub one_text : (xs : List Text) (n : Option ℕ) (x y : Option Text) → HoldsText xs n x → HoldsText xs n y → x ≡ y
one_text xs n x y no_text no_text = refl
one_text xs n x y (some_text e) (some_text f) = sym e ∙ f

pub one_text_number : (xs : List Text) → AreDistinct xs → (n m : Option ℕ) (x : Option Text) → HoldsText xs n x → HoldsText xs m x → n ≡ m
one_text_number xs distinct n m x no_text no_text = refl
one_text_number xs distinct n m x (some_text e) (some_text f) = ap Some (distinct _ _ _ e f)

some_same : {A : Type 0} {x y : A} → Some x ≡ Some y → x ≡ y
some_same e = cc

pub one_tree : (t : Table) (n : Option ℕ) (x y : Tree) → Holds t n x → Holds t n y → x ≡ y
one_tree t n x y no_part no_part = refl
one_tree t n x y (part {f = f} {m = m} {i = i} {j = j} {x = w} {a = a'} {b = b'} e d a b) (part {f = g} {m = k} {i = p} {j = q} {x = w'} {a = u'} {b = v'} h c u v) =
    let same : record { form = f; text = m; first = i; second = j } ≡ record { form = g; text = k; first = p; second = q } = some_same (sym e ∙ h) in
    let text : w ≡ w' = one_text t.texts m w w' d (subst (λ o. HoldsText t.texts o w') (sym (ap (λ (r : Row). r.text) same)) c) in
    let first : a' ≡ u' = one_tree t i a' u' a (subst (λ o. Holds t o u') (sym (ap (λ (r : Row). r.first) same)) u) in
    let second : b' ≡ v' = one_tree t j b' v' b (subst (λ o. Holds t o v') (sym (ap (λ (r : Row). r.second) same)) v) in
    λ z. node (ap (λ (r : Row). r.form) same z) (text z) (first z) (second z)

pub one_number : (t : Table) → IsTable t → (n m : Option ℕ) (x : Tree) → Holds t n x → Holds t m x → n ≡ m
one_number t is n m x no_part no_part = refl
one_number t is n m x (part {n = n'} {f = f} {m = k} {i = i} {j = j} e d a b) (part {n = m'} {m = l} {i = p} {j = q} h c u v) =
    let text : k ≡ l = one_text_number t.texts is.texts k l _ d c in
    let first : i ≡ p = one_number t is i p _ a u in
    let second : j ≡ q = one_number t is j q _ b v in
    let row : record { form = f; text = k; first = i; second = j } ≡ record { form = f; text = l; first = p; second = q } = (λ z. record { form = f; text = text z; first = first z; second = second z }) in
    ap Some (is.rows n' m' _ e (h ∙ ap Some (sym row)))

pub still_text : (old new : List Text) (x : Text) → Adds old x new → (n : Option ℕ) (y : Option Text) → HoldsText old n y → HoldsText new n y
still_text old new x adds n y no_text = no_text
still_text old new x (inl same) n y (some_text {n = k} {x = z} e) = some_text (subst (λ xs. slice_get xs k ≡ Some z) (sym same) e)
still_text old new x (inr same) n y (some_text {n = k} {x = z} e) = some_text (subst (λ xs. slice_get xs k ≡ Some z) (sym same) (get-before old (x ∷ []) k z e))

pub still_get : {A : Type 0} (old new : List A) (x : A) → Adds old x new → (n : ℕ) (y : A) → slice_get old n ≡ Some y → slice_get new n ≡ Some y
still_get old new x (inl same) n y e = subst (λ xs. slice_get xs n ≡ Some y) (sym same) e
still_get old new x (inr same) n y e = subst (λ xs. slice_get xs n ≡ Some y) (sym same) (get-before old (x ∷ []) n y e)

pub still : (old new : Table) → ((n : Option ℕ) (y : Option Text) → HoldsText old.texts n y → HoldsText new.texts n y) → ((n : ℕ) (y : Row) → slice_get old.rows n ≡ Some y → slice_get new.rows n ≡ Some y) → (n : Option ℕ) (x : Tree) → Holds old n x → Holds new n x
still old new texts rows n x no_part = no_part
still old new texts rows n x (part e d a b) = part (rows _ _ e) (texts _ _ d) (still old new texts rows _ _ a) (still old new texts rows _ _ b)

pub still_row : (old new : Table) (r : Row) → AddsRow old r new → (n : Option ℕ) (x : Tree) → Holds old n x → Holds new n x
still_row old new r adds n x d = still old new (λ m y e. subst (λ xs. HoldsText xs m y) (sym adds.0) e) (still_get old.rows new.rows r adds.1) n x d

pub still_with_text : (old new : Table) (s : Text) → AddsText old s new → (n : Option ℕ) (x : Tree) → Holds old n x → Holds new n x
still_with_text old new s adds n x d = still old new (still_text old.texts new.texts s adds.1) (λ m y e. subst (λ xs. slice_get xs m ≡ Some y) (sym adds.0) e) n x d

-- what a row stands for, from what its parts stood for before it was added
pub stands : (old new : Table) (r : Row) → AddsRow old r new → (n : ℕ) → slice_get new.rows n ≡ Some r → (x : Option Text) (a b : Tree) → HoldsText old.texts r.text x → Holds old r.first a → Holds old r.second b → Holds new (Some n) (node r.form x a b)
stands old new r adds n there x a b d e f = part there (subst (λ xs. HoldsText xs r.text x) (sym adds.0) d) (still_row old new r adds r.first a e) (still_row old new r adds r.second b f)

pub ok_then : {A E : Type 0} (r : Result A E) (P Q : A → Type 0) → ((x : A) → P x → Q x) → IfOk r P → IfOk r Q
ok_then (Ok x) P Q f p = f x p
ok_then (Err e) P Q f p = p

pub within : (t : Table) (n : ℕ) (x : Tree) → Holds t (Some n) x → n < length t.rows
within t n x (part e d a b) = slice_get_within t.rows n _ e

-- each row stands for a tree, since its parts are rows before it
module _ (t : Table) (is : IsTable t) where
  text_stands : (m : Option ℕ) → IfSome m (λ n. n < length t.texts) → (x : Option Text) × HoldsText t.texts m x
  text_stands None p = (None, no_text)
  text_stands (Some n) p = (Some (get_or t.texts n []), some_text (slice_get-get_or t.texts n [] p))

  part_stands : (k : ℕ) → ((n : ℕ) → n < k → (x : Tree) × Holds t (Some n) x) → (m : Option ℕ) → IfSome m (λ n. n < k) → (x : Tree) × Holds t m x
  part_stands k before None p = (nothing, no_part)
  part_stands k before (Some n) p = before n p

  row_stands : (k : ℕ) → ((n : ℕ) → n < k → (x : Tree) × Holds t (Some n) x) → k < length t.rows → (x : Tree) × Holds t (Some k) x
  row_stands k before h = by (slice_get_cases t.rows k).1
    where
      by : ((r : Row) × (k < length t.rows) × (slice_get t.rows k ≡ Some r) × (get_or t.rows k r ≡ r)) ⊎ ((length t.rows ≤ k) × (slice_get t.rows k ≡ None)) → (x : Tree) × Holds t (Some k) x
      by (inr q) = absurd (omega (arith, q.0, h))
      by (inl q) =
          let r = q.0 in
          let below = is.earlier k r q.2 in
          let x = text_stands r.text below.0 in
          let a = part_stands k before r.first below.1 in
          let b = part_stands k before r.second below.2 in
          (node r.form x.0 a.0 b.0, part q.2 x.1 a.1 b.1)

  rows_below : (k : ℕ) → k ≤ length t.rows → (n : ℕ) → n < k → (x : Tree) × Holds t (Some n) x
  rows_below zero h = λ n p. absurd (omega (arith, p))
  rows_below (suc k) h = λ n p. below_more (λ m. (x : Tree) × Holds t (Some m) x) k (rows_below k (omega (arith, h))) (row_stands k (rows_below k (omega (arith, h))) (omega (arith, h))) n (omega (arith, p))

  pub each_stands : (n : ℕ) → n < length t.rows → (x : Tree) × Holds t (Some n) x
  each_stands = rows_below (length t.rows) (omega arith)

-- where a tree tells what it was made of, equal numbers are equal things
module _ {A : Type 0} (tree : A → Tree) (from : Tree → A) (back : (x : A) → from (tree x) ≡ x) where
  pub same : (t : Table) → IsTable t → (n m : ℕ) (x y : A) → Holds t (Some n) (tree x) → Holds t (Some m) (tree y) → (n ≡ m) ↔ (x ≡ y)
  same t is n m x y d e = (there, here)
    where
      there : n ≡ m → x ≡ y
      there p = sym (back x) ∙ ap from (one_tree t (Some n) (tree x) (tree y) d (subst (λ k. Holds t (Some k) (tree y)) (sym p) e)) ∙ back y

      here : x ≡ y → n ≡ m
      here p = some_same (one_number t is (Some n) (Some m) (tree x) d (subst (λ z. Holds t (Some m) (tree z)) (sym p) e))
