-- Rows, and the terms that they stand for.
use Rattle.std.proofs.Common.{◌≡◌, ℕ, Bool, true, false, [], Option, Some, None, IfSome, ◌<◌, refl, sym, ap, subst, ◌∙◌, slice_get, true≢false}
use Rattle.cddl_language.specs.Terms.{Text, number, text, bytes, Term, literal, named, parens, map_of, array_of, unwrapped, choice_of, choice_of_name, tagged, tagged_by, simple_by, hash, range, control, or, call, stripped}
use Rattle.check_terms.specs.declared.row.Form.{Form}
use Rattle.check_terms.specs.declared.row.Form.TheVariants as F
use Rattle.check_terms.specs.declared.row.Row.{Row}
use Rattle.check_terms.specs.Table.{IsTable, Table, Tree, node, nothing, Holds, no_part, part, some_text}
use Rattle.check_terms.specs.Trees.{IsTerm, term_tree, terms_tree}
use Rattle.check_names.specs.declared.kinds.heads.Head.TheVariants as HeadV
use Rattle.check_names.specs.Kinds.Heads.{HoldsRow, row_of, is_parens, IsHead, is_name, is_unwrapped, is_container, is_tag, is_other, head_by, name_at, text_in, name_head, unwrapped_head, other, top_type}

pub row_there : (t : Table) (n : ℕ) (x : Tree) (r : Row) → Holds t (Some n) x → slice_get t.rows n ≡ Some r → HoldsRow t r x
row_there t n x r (part e h a b) g = subst (λ s. HoldsRow t s x) (one _ _ _ e g) (row_of refl h a b)
  where
    one : (o : Option Row) (s r : Row) → o ≡ Some s → o ≡ Some r → s ≡ r
    one o s r e g = cc

not_so : {g : Form} (f : Form) → is_parens f ≡ false → g ≡ f → is_parens g ≡ true → ⊥
not_so f n e k = true≢false (sym k ∙ ap is_parens e ∙ n)

-- what is in the parentheses
pub inside : (t : Table) (r : Row) (x : Term) → HoldsRow t r (term_tree x) → is_parens r.form ≡ true → (y : Term) × (x ≡ parens y) × Holds t r.first (term_tree y)
inside t r (parens y) (row_of e h a b) k = (y, refl, a)
inside t r (literal (number n)) (row_of e h a b) k = absurd (not_so F.Number refl e k)
inside t r (literal (text n)) (row_of e h a b) k = absurd (not_so F.Text refl e k)
inside t r (literal (bytes n)) (row_of e h a b) k = absurd (not_so F.Bytes refl e k)
inside t r (named s) (row_of e h a b) k = absurd (not_so F.Named refl e k)
inside t r (map_of g) (row_of e h a b) k = absurd (not_so F.MapOf refl e k)
inside t r (array_of g) (row_of e h a b) k = absurd (not_so F.ArrayOf refl e k)
inside t r (unwrapped s) (row_of e h a b) k = absurd (not_so F.Unwrapped refl e k)
inside t r (choice_of g) (row_of e h a b) k = absurd (not_so F.ChoiceOf refl e k)
inside t r (choice_of_name s) (row_of e h a b) k = absurd (not_so F.ChoiceOfName refl e k)
inside t r (tagged n y) (row_of e h a b) k = absurd (not_so F.Tagged refl e k)
inside t r (tagged_by z y) (row_of e h a b) k = absurd (not_so F.TaggedBy refl e k)
inside t r (simple_by y) (row_of e h a b) k = absurd (not_so F.SimpleBy refl e k)
inside t r (hash n) (row_of e h a b) k = absurd (not_so F.Hash refl e k)
inside t r (range y true z) (row_of e h a b) k = absurd (not_so F.Range refl e k)
inside t r (range y false z) (row_of e h a b) k = absurd (not_so F.RangeBelow refl e k)
inside t r (control y n z) (row_of e h a b) k = absurd (not_so F.Control refl e k)
inside t r (or y z) (row_of e h a b) k = absurd (not_so F.Or refl e k)

pub outside : (t : Table) (r : Row) (x : Term) → HoldsRow t r (term_tree x) → is_parens r.form ≡ false → stripped x ≡ x
outside t r (parens y) (row_of e h a b) k = absurd (true≢false (sym (ap is_parens e) ∙ k))
outside t r (literal v) h k = refl
outside t r (named s) h k = refl
outside t r (map_of g) h k = refl
outside t r (array_of g) h k = refl
outside t r (unwrapped s) h k = refl
outside t r (choice_of g) h k = refl
outside t r (choice_of_name s) h k = refl
outside t r (tagged n y) h k = refl
outside t r (tagged_by z y) h k = refl
outside t r (simple_by y) h k = refl
outside t r (hash n) h k = refl
outside t r (range y c z) h k = refl
outside t r (control y n z) h k = refl
outside t r (or y z) h k = refl

-- the number of a reference's name
name_there : (t : Table) (o : Option ℕ) (n : Text) (a b : Tree) → Holds t o (node F.Call (Some n) a b) → (m : ℕ) × (name_at t.rows o ≡ Some m) × (slice_get t.texts m ≡ Some n)
name_there t o n a b (part {n = k} {m = m} e (some_text {n = i} g) h l) = (i, ap text_in e, g)

plain : (t : Table) (f g : Form) (o : Option ℕ) → f ≡ g → head_by g o ≡ HeadV.Other → IsHead t.texts (head_by f o) other
plain t f g o e h = subst (λ x. IsHead t.texts x other) (sym (ap (λ (k : Form). head_by k o) e ∙ h)) is_other

pub head_there : (t : Table) (r : Row) (x : Term) → HoldsRow t r (term_tree x) → IsHead t.texts (head_by r.form (name_at t.rows r.first)) (top_type [] x)
head_there t r (named (call n ts)) (row_of e h a b) =
    let m = name_there t r.first n (terms_tree ts) _ a in
    subst (λ x. IsHead t.texts x (top_type [] (named (call n ts)))) (sym (ap (λ (k : Form). head_by k (name_at t.rows r.first)) e ∙ ap name_head m.1)) (is_name m.2)
head_there t r (unwrapped (call n ts)) (row_of e h a b) =
    let m = name_there t r.first n (terms_tree ts) _ a in
    subst (λ x. IsHead t.texts x (top_type [] (unwrapped (call n ts)))) (sym (ap (λ (k : Form). head_by k (name_at t.rows r.first)) e ∙ ap unwrapped_head m.1)) (is_unwrapped m.2)
head_there t r (map_of g) (row_of e h a b) = subst (λ x. IsHead t.texts x (top_type [] (map_of g))) (sym (ap (λ (k : Form). head_by k (name_at t.rows r.first)) e)) is_container
head_there t r (array_of g) (row_of e h a b) = subst (λ x. IsHead t.texts x (top_type [] (array_of g))) (sym (ap (λ (k : Form). head_by k (name_at t.rows r.first)) e)) is_container
head_there t r (tagged n y) (row_of e h a b) = subst (λ x. IsHead t.texts x (top_type [] (tagged n y))) (sym (ap (λ (k : Form). head_by k (name_at t.rows r.first)) e)) is_tag
head_there t r (tagged_by z y) (row_of e h a b) = subst (λ x. IsHead t.texts x (top_type [] (tagged_by z y))) (sym (ap (λ (k : Form). head_by k (name_at t.rows r.first)) e)) is_tag
head_there t r (parens y) (row_of e h a b) = plain t _ F.Parens _ e refl
head_there t r (literal (number n)) (row_of e h a b) = plain t _ F.Number _ e refl
head_there t r (literal (text n)) (row_of e h a b) = plain t _ F.Text _ e refl
head_there t r (literal (bytes n)) (row_of e h a b) = plain t _ F.Bytes _ e refl
head_there t r (choice_of g) (row_of e h a b) = plain t _ F.ChoiceOf _ e refl
head_there t r (choice_of_name s) (row_of e h a b) = plain t _ F.ChoiceOfName _ e refl
head_there t r (simple_by y) (row_of e h a b) = plain t _ F.SimpleBy _ e refl
head_there t r (hash n) (row_of e h a b) = plain t _ F.Hash _ e refl
head_there t r (range y true z) (row_of e h a b) = plain t _ F.Range _ e refl
head_there t r (range y false z) (row_of e h a b) = plain t _ F.RangeBelow _ e refl
head_there t r (control y n z) (row_of e h a b) = plain t _ F.Control _ e refl
head_there t r (or y z) (row_of e h a b) = plain t _ F.Or _ e refl

-- The way from a type to what is in its parentheses.

abbrev is_node : Tree → Bool
is_node nothing = false
is_node (node f x a b) = true

term_is_node : (x : Term) → is_node (term_tree x) ≡ true
term_is_node (literal (number n)) = refl
term_is_node (literal (text n)) = refl
term_is_node (literal (bytes n)) = refl
term_is_node (named s) = refl
term_is_node (parens y) = refl
term_is_node (map_of g) = refl
term_is_node (array_of g) = refl
term_is_node (unwrapped s) = refl
term_is_node (choice_of g) = refl
term_is_node (choice_of_name s) = refl
term_is_node (tagged n y) = refl
term_is_node (tagged_by z y) = refl
term_is_node (simple_by y) = refl
term_is_node (hash n) = refl
term_is_node (range y c z) = refl
term_is_node (control y n z) = refl
term_is_node (or y z) = refl

none_there : (t : Table) (x : Tree) → Holds t None x → is_node x ≡ false
none_there t x no_part = refl

abbrev pub LeadsTo : Table → ℕ → ℕ → Type 0
LeadsTo t n m = (x : Term) → IsTerm t n x → (y : Term) × IsTerm t m y × (stripped y ≡ stripped x)

module _ (t : Table) (n m : ℕ) (way : LeadsTo t n m) (r : Row) (there : Some r ≡ slice_get t.rows m) where
  pub found : false ≡ is_parens r.form → (x : Term) → IsTerm t n x → (s : Row) × (Some r ≡ Some s) × HoldsRow t s (term_tree (stripped x))
  found e x h =
      let y = way x h in
      let row = row_there t m (term_tree y.0) r y.1 (sym there) in
      (r, refl, subst (λ z. HoldsRow t r (term_tree z)) (sym (outside t r y.0 row (sym e)) ∙ y.2) row)

  pub further : true ≡ is_parens r.form → (k : ℕ) → r.first ≡ Some k → LeadsTo t n k
  further e k f x h =
      let y = way x h in
      let z = inside t r y.0 (row_there t m (term_tree y.0) r y.1 (sym there)) (sym e) in
      (z.0, subst (λ o. Holds t o (term_tree z.0)) f z.2, sym (ap stripped z.1) ∙ y.2)

  pub missing : true ≡ is_parens r.form → r.first ≡ None → (x : Term) → IsTerm t n x → ⊥
  missing e f x h =
      let y = way x h in
      let z = inside t r y.0 (row_there t m (term_tree y.0) r y.1 (sym there)) (sym e) in
      true≢false (sym (term_is_node z.0) ∙ none_there t (term_tree z.0) (subst (λ o. Holds t o (term_tree z.0)) f z.2))

  pub smaller : IsTable t → (k : ℕ) → r.first ≡ Some k → k < m
  smaller is k f = by r.first f (is.earlier m r (sym there)).1
    where
      by : (o : Option ℕ) → o ≡ Some k → IfSome o (λ i. i < m) → k < m
      by None e h = cc
      by (Some i) e h = subst (λ j. j < m) (one i e) h
        where
          one : (i : ℕ) → Some i ≡ Some k → i ≡ k
          one i e = cc

pub some_row : (r s : Row) → Some r ≡ Some s → s ≡ r
some_row r s e = cc
