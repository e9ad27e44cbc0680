-- A text without a fault keeps all that is asked for its live sites to be reached.
use Rattle.std.proofs.Common.{◌≡◌, ◌≢◌, ◌↔◌, ◌⊎◌, inl, inr, ℕ, zero, suc, ◌<◌, Bool, true, false, ◌&&◌, if◌then◌else◌, nat_eq, List, [], ◌∷◌, length, get_or, Some, None, refl, sym, ap, subst, ◌∙◌, arith, true≢false}
use Rattle.std.specs.List.{Contains}
use Rattle.std.specs.Cmp.Lexicographic.{same_text}
use Rattle.std.proofs.lemmas.Bool.Decides.{eqb_tells}
use Rattle.std.proofs.lemmas.Cmp.{nat_list_eq_equiv}
use Rattle.tree_nodes.specs.Syntax.Syntax as S
use Rattle.cddl_language.specs.Terms as L
use Rattle.cddl_language.specs.Terms.{Text}
use Rattle.cddl_language.specs.Environment as E
use Rattle.cddl_language.specs.Environment.{is_same}
use Rattle.cddl_language.specs.Faults.{IsFaultAt, Specification, first_equals, other_equals, rules}
use Rattle.cddl_language.specs.Literals.{Values}
use Rattle.cddl_language.specs.Reading.{definition_of, definitions_in, name_in, rules_of, sign_of}
use Rattle.cddl_language.specs.Live.Live.{IsClear}
use Rattle.check_terms.specs.declared.definition.Body.{Body}
use Rattle.check_terms.specs.declared.definition.Body.TheVariants as BodyV
use Rattle.check_terms.specs.declared.definition.Definition.{Definition}
use Rattle.check_terms.specs.declared.definition.Sign.{Sign}
use Rattle.check_terms.specs.declared.definition.Sign.TheVariants as SignV
use Rattle.check_terms.specs.Definitions.{AreDefinitions, further_definition, AreSame, IsDefinition}
use Rattle.check_terms.specs.Table.{Table}
use Rattle.tree_nodes.specs.declared.tree.Tree.{Tree}
use Rattle.tree_nodes.specs.View.{view}
use Rattle.check_reading.specs.declared.survey.survey.Survey.{Survey}
use Rattle.check_reading.specs.Survey.Survey.{IsSurvey}
use Rattle.check_text.specs.Codes.{text_codes}
use Rattle.check_text.specs.First.{IsFirst}

-- it is so, or it is not

abbrev Decided : Type 0 → Type 0
Decided A = A ⊎ (A → ⊥)

number_decided : (m n : ℕ) → Decided (m ≡ n)
number_decided m n = by (eqb_tells m n)
  where
    by : ((nat_eq m n ≡ true) × (m ≡ n)) ⊎ ((nat_eq m n ≡ false) × (m ≢ n)) → Decided (m ≡ n)
    by (inl h) = inl h.1
    by (inr h) = inr h.1

numbers_decided : (ms ns : List ℕ) → Decided (ms ≡ ns)
numbers_decided ms ns = by (is_same ms ns) refl
  where
    by : (b : Bool) → is_same ms ns ≡ b → Decided (ms ≡ ns)
    by true h = inl (same_text ms ns (sym h))
    by false h = inr (λ e. true≢false (sym (subst (λ ks. is_same ms ks ≡ true) e (nat_list_eq_equiv.refl ms)) ∙ h))

sign_decided : (a b : Sign) → Decided (a ≡ b)
sign_decided SignV.Is SignV.Is = inl refl
sign_decided SignV.TypeOr SignV.TypeOr = inl refl
sign_decided SignV.GroupOr SignV.GroupOr = inl refl
sign_decided SignV.Is SignV.TypeOr = inr (λ e. cc)
sign_decided SignV.Is SignV.GroupOr = inr (λ e. cc)
sign_decided SignV.TypeOr SignV.Is = inr (λ e. cc)
sign_decided SignV.TypeOr SignV.GroupOr = inr (λ e. cc)
sign_decided SignV.GroupOr SignV.Is = inr (λ e. cc)
sign_decided SignV.GroupOr SignV.TypeOr = inr (λ e. cc)

types_same : (m n : ℕ) → BodyV.Types m ≡ BodyV.Types n → m ≡ n
types_same m n e = cc

entry_same : (m n : ℕ) → BodyV.Entry m ≡ BodyV.Entry n → m ≡ n
entry_same m n e = cc

body_decided : (a b : Body) → Decided (a ≡ b)
body_decided (BodyV.Types m) (BodyV.Types n) = by (number_decided m n)
  where
    by : Decided (m ≡ n) → Decided (BodyV.Types m ≡ BodyV.Types n)
    by (inl e) = inl (ap (λ k. BodyV.Types k) e)
    by (inr h) = inr (λ e. h (types_same m n e))
body_decided (BodyV.Entry m) (BodyV.Entry n) = by (number_decided m n)
  where
    by : Decided (m ≡ n) → Decided (BodyV.Entry m ≡ BodyV.Entry n)
    by (inl e) = inl (ap (λ k. BodyV.Entry k) e)
    by (inr h) = inr (λ e. h (entry_same m n e))
body_decided (BodyV.Types m) (BodyV.Entry n) = inr (λ e. cc)
body_decided (BodyV.Entry m) (BodyV.Types n) = inr (λ e. cc)

same_decided : (d e : Definition) → Decided (AreSame d e)
same_decided d e = by (number_decided d.name e.name) (numbers_decided d.parameters.items e.parameters.items) (sign_decided d.sign e.sign) (body_decided d.body e.body)
  where
    by : Decided (d.name ≡ e.name) → Decided (d.parameters.items ≡ e.parameters.items) → Decided (d.sign ≡ e.sign) → Decided (d.body ≡ e.body) → Decided (AreSame d e)
    by (inl n) (inl p) (inl s) (inl b) = inl (record { name = n; parameters = p; sign = s; body = b })
    by (inr n) p s b = inr (λ h. n h.name)
    by (inl n) (inr p) s b = inr (λ h. p h.parameters)
    by (inl n) (inl p) (inr s) b = inr (λ h. s h.sign)
    by (inl n) (inl p) (inl s) (inr b) = inr (λ h. b h.body)

-- The rules that a list contains, and their definitions by number.

at_first : (r : S.Rule) (rs : List S.Rule) → Contains (r ∷ rs) r
at_first r rs = (0, omega arith, refl)

later : (q r : S.Rule) (rs : List S.Rule) → Contains rs r → Contains (q ∷ rs) r
later q r rs h = let lt : h.0 < length rs = h.1 in (suc h.0, omega arith, h.2)

one_rule : (q r : S.Rule) → Some q ≡ Some r → q ≡ r
one_rule q r e = cc

first_there : (rs : List S.Rule) (n : Text) (q : S.Rule) → first_equals rs n ≡ Some q → Contains rs q
first_there [] n q e = cc
first_there (r ∷ rs) n q e = by (is_same (name_in r) n && E.is_equals (sign_of r)) (first_there rs n q) e
  where
    by : (b : Bool) → (first_equals rs n ≡ Some q → Contains rs q) → (if b then Some r else first_equals rs n) ≡ Some q → Contains (r ∷ rs) q
    by true h f = subst (λ x. Contains (r ∷ rs) x) (one_rule r q f) (at_first r rs)
    by false h f = later r q rs (h f)

definition_at : (t : Table) (ds : List Definition) (rs : List S.Rule) (k : ℕ) (r : S.Rule) → AreDefinitions t ds (definitions_in rs) → k < length rs → get_or rs k r ≡ r → (d : Definition) × IsDefinition t d (definition_of r)
definition_at t [] [] k r h lt e = absurd (omega arith)
definition_at t (d ∷ ds) [] k r h lt e = elim h [ ]
definition_at t [] (q ∷ rs) k r h lt e = elim h [ ]
definition_at t (d ∷ ds) (q ∷ rs) zero r (further_definition h hs) lt e = (d, subst (λ x. IsDefinition t d (definition_of x)) e h)
definition_at t (d ∷ ds) (q ∷ rs) (suc k) r (further_definition h hs) lt e = definition_at t ds rs k r hs (omega arith) e

definition_there : (t : Table) (ds : List Definition) (rs : List S.Rule) (r : S.Rule) → AreDefinitions t ds (definitions_in rs) → Contains rs r → (d : Definition) × IsDefinition t d (definition_of r)
definition_there t ds rs r h c = definition_at t ds rs c.0 r h c.1 c.2

module _ (t : Table) (equal : (d e : Definition) (x y : L.Definition) → IsDefinition t d x → IsDefinition t e y → AreSame d e ↔ (x ≡ y)) where
  -- what is not different is the same
  not_different : (d e : Definition) (x y : L.Definition) → IsDefinition t d x → IsDefinition t e y → (x ≢ y → ⊥) → x ≡ y
  not_different d e x y h k f = by (same_decided d e)
    where
      by : Decided (AreSame d e) → x ≡ y
      by (inl g) = (equal d e x y h k).0 g
      by (inr g) = absurd (f (λ i. g ((equal d e x y h k).1 i)))

  pub clear_text : (s : Specification) (tree : Tree) (v : Survey) (worth : Values) → s.tree ≡ view tree → IsSurvey t tree v → IsFirst (IsFaultAt s worth) text_codes None → IsClear s
  clear_text s tree v worth of is clear = record {
    one_equals = λ {q} {r} there equals first. one_equals q r there equals first;
    no_duplicate = clear.0;
    no_wrong_arity = clear.1.1.1.0;
    no_group_as_type = clear.1.1.1.1.1.1.0;
  }
    where
      read : AreDefinitions t v.definitions.items (definitions_in (rules s))
      read = subst (λ x. AreDefinitions t v.definitions.items (definitions_in (rules_of x))) (sym of) is.text_read

      one_equals : (q r : S.Rule) → Contains (rules s) r → E.is_equals (sign_of r) ≡ true → first_equals (rules s) (name_in r) ≡ Some q → definition_of r ≡ definition_of q
      one_equals q r there equals first =
          let d = definition_there t v.definitions.items (rules s) r read there in
          let e = definition_there t v.definitions.items (rules s) q read (first_there (rules s) (name_in r) q first) in
          not_different d.0 e.0 (definition_of r) (definition_of q) d.1 e.1 (λ f. clear.0 _ (other_equals there equals first f refl))
