-- What is told of rows are the literals of the types that they stand for.
use Rattle.std.proofs.Common.{◌≡◌, ◌≢◌, ◌↔◌, ℕ, zero, suc, ◌+◌, ◌<◌, ◌≤◌, nat_le, ◌⊎◌, inl, inr, Bool, true, false, if◌then◌else◌, List, [], ◌∷◌, length, Option, Some, None, slice_get, refl, sym, ap, ap₂, subst, ◌∙◌, arith}
use Rattle.std.specs.Prelude.{Contains}
use Rattle.cddl_literal.specs.Numbers.{Meaning}
use Rattle.cddl_literal.specs.declared.operators.Fault.{Fault}
use Rattle.check_literals.specs.Values.Values.{Answers}
use Rattle.cddl_language.specs.Controls.{Computation, control_of}
use Rattle.cddl_language.specs.Terms.{Text, Literal, Term, literal, named, parens, map_of, array_of, unwrapped, choice_of, choice_of_name, tagged, tagged_by, simple_by, hash, range, control, or, Ref, Definition, name_of}
use Rattle.cddl_language.specs.Substitution.{type_choices}
use Rattle.cddl_language.specs.Kinds.{is_group}
use Rattle.cddl_language.specs.Reach.{most_instances}
use Rattle.cddl_language.specs.Literals.{Means, Values, computed_literal, controlled_literal, literal_by, literal_in, only_choice}
use Rattle.check_terms.specs.Table.{Table}
use Rattle.check_terms.specs.Trees.{IsTerm}
use Rattle.check_literals.specs.Found.{IsTold}
use Rattle.check_literals.specs.Literals.{IsKnown, computed_fault}
use Rattle.check_literals.specs.Needs.{Need, parts}
use Rattle.check_literals.proofs.Knowing.{IsNeedOf, of_literal, of_parens, of_name, of_control, of_other, computes}
use Rattle.check_literals.proofs.Stepping.{same_or}

-- a row is in the order or not
pub in_order_or : (order : List ℕ) (n : ℕ) → Contains order n ⊎ (Contains order n → ⊥)
in_order_or [] n = inr (λ c. omega (arith, c.1))
in_order_or (m ∷ order) n = by (same_or m n) (in_order_or order n)
  where
    by : (m ≡ n) ⊎ (m ≢ n) → Contains order n ⊎ (Contains order n → ⊥) → Contains (m ∷ order) n ⊎ (Contains (m ∷ order) n → ⊥)
    by (inl e) rest = inl (0, omega arith, e)
    by (inr ne) (inl c) = inl (suc c.0, omega (arith, c.1), c.2)
    by (inr ne) (inr out) = inr (λ c. at c.0 c.1 c.2)
      where
        at : (k : ℕ) → k < suc (length order) → Rattle.std.proofs.Common.get_or (m ∷ order) k n ≡ n → ⊥
        at zero h e = ne e
        at (suc k) h e = out (k, omega (arith, h), e)

pub sole : (m n : ℕ) → Contains (m ∷ []) n → m ≡ n
sole m n c = by c.0 c.1 c.2
  where
    by : (k : ℕ) → k < 1 → Rattle.std.proofs.Common.get_or (m ∷ []) k n ≡ n → m ≡ n
    by zero h e = e
    by (suc k) h e = absurd (omega (arith, h))

pub one_of : (l m n : ℕ) → Contains (l ∷ m ∷ []) n → (l ≡ n) ⊎ (m ≡ n)
one_of l m n c = by c.0 c.1 c.2
  where
    by : (k : ℕ) → k < 2 → Rattle.std.proofs.Common.get_or (l ∷ m ∷ []) k n ≡ n → (l ≡ n) ⊎ (m ≡ n)
    by zero h e = inl e
    by (suc zero) h e = inr e
    by (suc (suc k)) h e = absurd (omega (arith, h))

computed_none : (c : Computation) (u : Option Meaning) → computed_literal c u None ≡ None
computed_none c None = refl
computed_none c (Some u) = refl

pub fault_none : (c : Computation) (u : Option Meaning) → computed_fault c u None ≡ None
fault_none c None = refl
fault_none c (Some u) = refl

module _ (worth : Values) (xs : List Definition) where
  in_parens : (k : ℕ) (y : Term) → literal_in worth xs k (parens y) ≡ literal_in worth xs k y
  in_parens zero y = refl
  in_parens (suc k) y = refl

  in_control : (k : ℕ) (a b : Term) (m : Text) → literal_in worth xs k (control a m b) ≡ controlled_literal (control_of m) (literal_in worth xs k a) (literal_in worth xs k b)
  in_control zero a b m = refl
  in_control (suc k) a b m = refl

  in_literal : (k : ℕ) (v : Literal) → literal_in worth xs k (literal v) ≡ Some (worth v)
  in_literal zero v = refl
  in_literal (suc k) v = refl

  by_choice : (next : Term → Option Meaning) (r : Ref) (y : Term) → is_group xs (name_of r) ≡ false → type_choices xs r ≡ y ∷ [] → literal_by worth xs next (named r) ≡ next y
  by_choice next r y e q = ap₂ (λ g zs. if g then None else only_choice worth xs next zs) e q

  in_other : (k : ℕ) (x : Term) → ((next : Term → Option Meaning) → literal_by worth xs next x ≡ None) → literal_in worth xs k x ≡ None
  in_other zero x e = e (λ u. None)
  in_other (suc k) x e = e (λ u. literal_in worth xs k u)

  module _ (root : Text) (t : Table) (one : (w : Literal) (m : Meaning) (o : Option Meaning) → Means w m → Answers (Means w) o → o ≡ Some m) where
    -- what is told of a row, where what is told of those that it needs is right
    pub told_right : (n : ℕ) (x : Term) (d : Need) → IsNeedOf xs root worth t n x d → (s : ℕ → ℕ → Option Meaning) (v : ℕ → Option Meaning) (f : Option Fault) → IsTold t d s v f → ((m : ℕ) (y : Term) → Contains (parts d) m → IsTerm t m y → IsKnown xs root worth y → (k : ℕ) → k ≤ most_instances → literal_in worth xs k y ≡ s m k) → (k : ℕ) → k ≤ most_instances → literal_in worth xs k x ≡ v k
    told_right n x d (of_literal {v = w} e h) s v f told right k le = in_literal k w ∙ sym (one w (worth w) (v k) h (told w e k))
    told_right n x d (of_parens {m = m} {y = y} h known) s v f told right k le = in_parens k y ∙ right m y (0, omega arith, refl) h known k le ∙ sym (told k)
    told_right n x d (of_name {m = m} {r = r} {y = y} e q h known) s v f told right zero le = by_choice (λ u. None) r y e q ∙ sym told.0
    told_right n x d (of_name {m = m} {r = r} {y = y} e q h known) s v f told right (suc k) le = by_choice (λ u. literal_in worth xs k u) r y e q ∙ right m y (0, omega arith, refl) h known k (omega (arith, le)) ∙ sym (told.1 k (omega (arith, le)))
    told_right n x d (of_control {i = i} {j = j} {a = a} {b = b} {m = m} {c = c} e h p g q) s v f told right k le =
        in_control k a b m ∙ computes (control_of m) c (literal_in worth xs k a) (literal_in worth xs k b) e ∙ ap₂ (computed_literal c) (right i a (0, omega arith, refl) h p k le) (right j b (1, omega arith, refl) g q k le) ∙ sym (told.0 k)
    told_right n x d (of_other e) s v f told right k le = in_other k x e ∙ sym (told k)

    -- A row that needs a row that needs a row, and so on without end, has no literal.
    module _ (Out : ℕ → Type 0) (need : ℕ → Need) (is_need : (n : ℕ) (x : Term) → IsTerm t n x → IsKnown xs root worth x → IsNeedOf xs root worth t n x (need n)) (leads : (n : ℕ) (x : Term) → Out n → IsTerm t n x → (m : ℕ) × Contains (parts (need n)) m × Out m) where
      abbrev NoneAt : (Term → Option Meaning) → Term → Type 0
      NoneAt f x = (n : ℕ) → Out n → IsTerm t n x → IsKnown xs root worth x → f x ≡ None

      module _ (next : Term → Option Meaning) (no_next : (y : Term) → NoneAt next y) where
        none_of_parens : (y : Term) → NoneAt (literal_by worth xs next) y → (n : ℕ) (d : Need) → IsNeedOf xs root worth t n (parens y) d → (m : ℕ) → Contains (parts d) m → Out m → literal_by worth xs next (parens y) ≡ None
        none_of_parens y rest n d (of_parens {m = i} h known) m c out = rest i (subst Out (sym (sole i m c)) out) h known
        none_of_parens y rest n d (of_other e) m c out = e next

        none_of_name : (r : Ref) (n : ℕ) (d : Need) → IsNeedOf xs root worth t n (named r) d → (m : ℕ) → Contains (parts d) m → Out m → literal_by worth xs next (named r) ≡ None
        none_of_name r n d (of_name {m = i} {y = y} e q h known) m c out = by_choice next r y e q ∙ no_next y i (subst Out (sym (sole i m c)) out) h known
        none_of_name r n d (of_other e) m c out = e next

        none_of_control : (a b : Term) (l : Text) → NoneAt (literal_by worth xs next) a → NoneAt (literal_by worth xs next) b → (n : ℕ) (d : Need) → IsNeedOf xs root worth t n (control a l b) d → (m : ℕ) → Contains (parts d) m → Out m → literal_by worth xs next (control a l b) ≡ None
        none_of_control a b l first second n d (of_control {i = i} {j = j} {c = c} e h p g q) m k out =
            computes (control_of l) c (literal_by worth xs next a) (literal_by worth xs next b) e ∙ by (one_of i j m k)
          where
            by : (i ≡ m) ⊎ (j ≡ m) → computed_literal c (literal_by worth xs next a) (literal_by worth xs next b) ≡ None
            by (inl same) = ap (λ u. computed_literal c u (literal_by worth xs next b)) (first i (subst Out (sym same) out) h p)
            by (inr same) = ap (computed_literal c (literal_by worth xs next a)) (second j (subst Out (sym same) out) g q) ∙ computed_none c (literal_by worth xs next a)
        none_of_control a b l first second n d (of_other e) m k out = e next

        none_of_literal : (v : Literal) (n : ℕ) (d : Need) → IsNeedOf xs root worth t n (literal v) d → (m : ℕ) → Contains (parts d) m → literal_by worth xs next (literal v) ≡ None
        none_of_literal v n d (of_literal e h) m c = absurd (omega (arith, c.1))
        none_of_literal v n d (of_other e) m c = e next

        none_by : (x : Term) → NoneAt (literal_by worth xs next) x
        none_by (literal v) n out h known = let l = leads n (literal v) out h in none_of_literal v n (need n) (is_need n (literal v) h known) l.0 l.1
        none_by (named r) n out h known = let l = leads n (named r) out h in none_of_name r n (need n) (is_need n (named r) h known) l.0 l.1 l.2
        none_by (parens y) n out h known = let l = leads n (parens y) out h in none_of_parens y (none_by y) n (need n) (is_need n (parens y) h known) l.0 l.1 l.2
        none_by (control a m b) n out h known = let l = leads n (control a m b) out h in none_of_control a b m (none_by a) (none_by b) n (need n) (is_need n (control a m b) h known) l.0 l.1 l.2
        none_by (map_of g) n out h known = refl
        none_by (array_of g) n out h known = refl
        none_by (unwrapped r) n out h known = refl
        none_by (choice_of g) n out h known = refl
        none_by (choice_of_name r) n out h known = refl
        none_by (tagged s y) n out h known = refl
        none_by (tagged_by y z) n out h known = refl
        none_by (simple_by y) n out h known = refl
        none_by (hash s) n out h known = refl
        none_by (range y b z) n out h known = refl
        none_by (or y z) n out h known = refl

      pub none_in : (k : ℕ) (x : Term) → NoneAt (literal_in worth xs k) x
      none_in zero x = none_by (λ u. None) (λ y n out h known. refl) x
      none_in (suc k) x = none_by (λ u. literal_in worth xs k u) (none_in k) x
