-- Definitions by `=` that say something else than the first one of their name, and all that is told of one rule.
use Rattle.std.proofs.Common.{◌≡◌, ◌≢◌, ◌↔◌, ◌⊎◌, inl, inr, ℕ, zero, suc, ◌+◌, ◌≤◌, Bool, true, false, not, ◌&&◌, if◌then◌else◌, List, [], ◌∷◌, map, Option, Some, None, refl, sym, ap, subst, ◌∙◌, slice_get, arith, true≢false}
use Rattle.std.specs.List.{Contains}
use Rattle.std.specs.Cmp.Lexicographic.{same_text}
use Rattle.std.proofs.lemmas.Cmp.{nat_list_eq_equiv}
use Rattle.lists.proofs.Lemmas.{and_false, both as and_true, is_equal as same_eq, lesser_least as either, one_of, same_least as alike, test_equal as eq_same}
use Rattle.cddl_token.specs.declared.Token.{Token}
use Rattle.tree_nodes.specs.Syntax.Syntax as S
use Rattle.cddl_language.specs.Terms as L
use Rattle.cddl_language.specs.Terms.{Text}
use Rattle.cddl_language.specs.Environment as E
use Rattle.cddl_language.specs.Faults as F
use Rattle.cddl_language.specs.Faults.{IsDuplicate, Specification, rules}
use Rattle.cddl_language.specs.Reading.{definition_of, definitions_in, name_at, name_in, parameter_tokens, rule_head, rules_of, sign_of, text_of, texts_of}
use Rattle.check_terms.specs.declared.definition.Body.{Body}
use Rattle.check_terms.specs.declared.definition.Body.TheVariants as BodyV
use Rattle.check_terms.specs.declared.definition.Definition.{Definition}
use Rattle.check_terms.specs.declared.definition.Sign.{Sign}
use Rattle.check_terms.specs.declared.definition.Sign.TheVariants as SignV
use Rattle.check_terms.specs.Definitions as T
use Rattle.check_terms.specs.Definitions.{AreDefinitions, further_definition, AreSame, AreTexts, further_text, IsDefinition}
use Rattle.check_terms.specs.Table.{Table}
use Rattle.check_names.specs.Environment.Environment.{equals_from}
use Rattle.check_names.specs.Environment.Places.{first_of, is_equals}
use Rattle.tree_nodes.specs.declared.tree.Tree.{Tree}
use Rattle.tree_nodes.specs.View.{view}
use Rattle.check_reading.specs.declared.survey.survey.Survey.{Survey}
use Rattle.lists.specs.Least.{IsLeast, lesser_of}
use Rattle.check_reading.specs.Survey.Survey.{IsSurvey, parameters_at, token_at}
use Rattle.check_text.specs.RuleFaults.Duplicates.{IsDuplicateAt, other_equals, parameter_twice, IsRepeated, differs, differs_there, first_place, other_equals_by, same_body, same_definition, same_sign}
use Rattle.check_text.proofs.OfRuleFaults.Arities.{name_there}
use Rattle.check_text.proofs.OfRuleFaults.Rules.{IsRest, definition_at, rest_first, rest_further, rule_there, whole}
use Rattle.check_text.proofs.OfRuleFaults.Telling.{OneOf}

-- Definitions are compared by all their numbers.

and_both : (a b : Bool) → a ≡ true → b ≡ true → (a && b) ≡ true
and_both a b e f = ap (λ (c : Bool). c && b) e ∙ f

one_sign : (s z : Sign) → same_sign s z ≡ true → s ≡ z
one_sign SignV.Is SignV.Is e = refl
one_sign SignV.TypeOr SignV.TypeOr e = refl
one_sign SignV.GroupOr SignV.GroupOr e = refl
one_sign SignV.Is SignV.TypeOr e = cc
one_sign SignV.Is SignV.GroupOr e = cc
one_sign SignV.TypeOr SignV.Is e = cc
one_sign SignV.TypeOr SignV.GroupOr e = cc
one_sign SignV.GroupOr SignV.Is e = cc
one_sign SignV.GroupOr SignV.TypeOr e = cc

own_sign : (s : Sign) → same_sign s s ≡ true
own_sign SignV.Is = refl
own_sign SignV.TypeOr = refl
own_sign SignV.GroupOr = refl

one_body : (b c : Body) → same_body b c ≡ true → b ≡ c
one_body (BodyV.Types n) (BodyV.Types m) e = ap (λ k. BodyV.Types k) (same_eq n m e)
one_body (BodyV.Entry n) (BodyV.Entry m) e = ap (λ k. BodyV.Entry k) (same_eq n m e)
one_body (BodyV.Types n) (BodyV.Entry m) e = cc
one_body (BodyV.Entry n) (BodyV.Types m) e = cc

own_body : (b : Body) → same_body b b ≡ true
own_body (BodyV.Types n) = eq_same n n refl
own_body (BodyV.Entry n) = eq_same n n refl

are_same : (d e : Definition) → same_definition d e ≡ true → AreSame d e
are_same d e h =
    let a = and_true _ _ h in
    let b = and_true _ _ a.1 in
    let c = and_true _ _ b.1 in
    record { name = same_eq d.name e.name a.0; parameters = same_text d.parameters.items e.parameters.items (sym c.1); sign = one_sign d.sign e.sign b.0; body = one_body d.body e.body c.0 }

told_same : (d e : Definition) → AreSame d e → same_definition d e ≡ true
told_same d e h = and_both _ _ (eq_same d.name e.name h.name) (and_both _ _ (subst (λ s. same_sign d.sign s ≡ true) h.sign (own_sign d.sign)) (and_both _ _ (subst (λ b. same_body d.body b ≡ true) h.body (own_body d.body)) (subst (λ ns. E.is_same d.parameters.items ns ≡ true) h.parameters (nat_list_eq_equiv.refl d.parameters.items))))

sign_told : (s : Sign) (z : L.Sign) → T.sign_of s ≡ z → E.is_equals z ≡ is_equals s
sign_told SignV.Is z e = ap E.is_equals (sym e)
sign_told SignV.TypeOr z e = ap E.is_equals (sym e)
sign_told SignV.GroupOr z e = ap E.is_equals (sym e)

-- The first rule of a name by `=` is at the first place.

abbrev at_place : List S.Rule → Option ℕ → Option S.Rule
at_place all None = None
at_place all (Some p) = slice_get all p

first_there : (n : Text) (all : List S.Rule) (i : ℕ) (rs : List S.Rule) → IsRest all i rs → F.first_equals rs n ≡ at_place all (first_of (equals_from i n (definitions_in rs)))
first_there n all i [] h = refl
first_there n all i (r ∷ rs) h = by (E.is_same (name_in r) n && E.is_equals (sign_of r)) (first_there n all (i + 1) rs (rest_further all i r rs h))
  where
    by : (b : Bool) → F.first_equals rs n ≡ at_place all (first_of (equals_from (i + 1) n (definitions_in rs))) → (if b then Some r else F.first_equals rs n) ≡ at_place all (first_of (if b then i ∷ equals_from (i + 1) n (definitions_in rs) else equals_from (i + 1) n (definitions_in rs)))
    by true k = sym (rest_first all i r rs h)
    by false k = k

none_there : (t : Table) (ds : List Definition) (rs : List S.Rule) (p : ℕ) → AreDefinitions t ds (definitions_in rs) → slice_get rs p ≡ None → slice_get ds p ≡ None
none_there t [] rs p h e = refl
none_there t (d ∷ ds) [] p h e = elim h [ ]
none_there t (d ∷ ds) (r ∷ rs) zero h e = cc
none_there t (d ∷ ds) (r ∷ rs) (suc p) (further_definition h hs) e = none_there t ds rs p hs e

pub record IsOther (rs : List S.Rule) (r : S.Rule) (at : ℕ) : Type 0 where
  pub first : S.Rule
  pub equals : E.is_equals (sign_of r) ≡ true
  pub first_so : F.first_equals rs (name_in r) ≡ Some first
  pub differs : definition_of r ≢ definition_of first
  pub offset : at ≡ name_at r

abbrev pub SameDefinitions : Table → Type 0
SameDefinitions t = (d e : Definition) (x y : L.Definition) → IsDefinition t d x → IsDefinition t e y → AreSame d e ↔ (x ≡ y)

one_rule : (o : Option S.Rule) (q r : S.Rule) → o ≡ Some q → o ≡ Some r → q ≡ r
one_rule o q r e f = cc

no_rule : (o : Option S.Rule) (q : S.Rule) → o ≡ None → o ≡ Some q → ⊥
no_rule o q e f = cc

module _ (t : Table) (tree : Tree) (s : Survey) (is : IsSurvey t tree s) (law : SameDefinitions t) (r : S.Rule) (d : Definition) (h : IsDefinition t d (definition_of r)) where
  abbrev rs : List S.Rule
  rs = rules_of (view tree)

  abbrev Told : Bool → Type 0
  Told b = IsLeast (IsOther (rules_of (view tree)) r) (if b then Some (name_at r) else None)

  not_told : F.first_equals (rules_of (view tree)) (name_in r) ≡ None → Told false
  not_told e = λ at f. no_rule _ f.first e f.first_so

  compared : (q : S.Rule) → F.first_equals (rules_of (view tree)) (name_in r) ≡ Some q → (e : Definition) → IsDefinition t e (definition_of q) → (a c : Bool) → is_equals d.sign ≡ a → same_definition d e ≡ c → Told (a && not c)
  compared q f e g true false i j = (record { first = q; equals = sign_told d.sign (sign_of r) h.sign ∙ i; first_so = f; differs = λ k. true≢false (sym (told_same d e ((law d e (definition_of r) (definition_of q) h g).1 k)) ∙ j); offset = refl }, λ at k. least at k.offset)
    where
      least : (at : ℕ) → at ≡ name_at r → name_at r ≤ at
      least at k = omega (arith, k)
  compared q f e g true true i j = λ at k. k.differs ((law d e (definition_of r) (definition_of q) h g).0 (are_same d e j) ∙ ap definition_of (one_rule _ q k.first f k.first_so))
  compared q f e g false c i j = λ at k. true≢false (sym k.equals ∙ sign_told d.sign (sign_of r) h.sign ∙ i)

  pub others : IsLeast (IsOther (rules_of (view tree)) r) (other_equals_by s.definitions.items s.names.items d (name_at r))
  others =
      let v = name_there t tree s is d.name (name_in r) h.name in
      let stands = is.names_stand d.name (name_in r) v.0 h.name v.1 in
      subst (λ o. Told (is_equals d.sign && differs s.definitions.items d (first_place o))) (sym v.1) (by v.0.first_equals (first_there (name_in r) (rules_of (view tree)) 0 (rules_of (view tree)) (whole (rules_of (view tree))) ∙ ap (at_place (rules_of (view tree))) (sym stands.first_equals)))
    where
      there : (p : ℕ) (o : Option S.Rule) → slice_get (rules_of (view tree)) p ≡ o → F.first_equals (rules_of (view tree)) (name_in r) ≡ o → Told (is_equals d.sign && differs s.definitions.items d (Some p))
      there p None e f = subst (λ o. Told (is_equals d.sign && differs_there d o)) (sym (none_there t s.definitions.items (rules_of (view tree)) p is.text_read e)) (subst (λ b. Told b) (sym (and_false (is_equals d.sign))) (not_told f))
      there p (Some q) e f =
          let g = definition_at t s.definitions.items (definitions_in (rules_of (view tree))) p (definition_of q) is.text_read (rule_there (rules_of (view tree)) p q e) in
          subst (λ o. Told (is_equals d.sign && differs_there d o)) (sym g.1) (compared q f g.0 g.2 (is_equals d.sign) (same_definition d g.0) refl refl)

      by : (o : Option ℕ) → F.first_equals (rules_of (view tree)) (name_in r) ≡ at_place (rules_of (view tree)) o → Told (is_equals d.sign && differs s.definitions.items d o)
      by None f = subst (λ b. Told b) (sym (and_false (is_equals d.sign))) (not_told f)
      by (Some p) f = there p (slice_get (rules_of (view tree)) p) refl f

  -- Parameters by their texts and by their numbers.

  by_token : (ns : List ℕ) (ts : List Token) → AreTexts t.texts ns (texts_of ts) → (j : ℕ) (u : Token) → slice_get ts j ≡ Some u → (n : ℕ) × (slice_get ns j ≡ Some n) × (slice_get t.texts n ≡ Some (text_of u))
  by_token [] [] a j u e = cc
  by_token [] (x ∷ ts) a j u e = elim a [ ]
  by_token (n ∷ ns) [] a j u e = elim a [ ]
  by_token (n ∷ ns) (x ∷ ts) (further_text g a) zero u e = (n, refl, g ∙ ap text_in e)
    where
      text_in : Option Token → Option Text
      text_in (Some y) = Some (text_of y)
      text_in None = None
  by_token (n ∷ ns) (x ∷ ts) (further_text g a) (suc j) u e = by_token ns ts a j u e

  by_number : (ns : List ℕ) (ts : List Token) → AreTexts t.texts ns (texts_of ts) → (j n : ℕ) → slice_get ns j ≡ Some n → (u : Token) × (slice_get ts j ≡ Some u) × (slice_get t.texts n ≡ Some (text_of u))
  by_number [] [] a j n e = cc
  by_number [] (x ∷ ts) a j n e = elim a [ ]
  by_number (m ∷ ns) [] a j n e = elim a [ ]
  by_number (m ∷ ns) (x ∷ ts) (further_text g a) zero n e = (x, refl, subst (λ k. slice_get t.texts k ≡ Some (text_of x)) (one m n e) g)
    where
      one : (m n : ℕ) → Some m ≡ Some n → m ≡ n
      one m n e = cc
  by_number (m ∷ ns) (x ∷ ts) (further_text g a) (suc j) n e = by_number ns ts a j n e

  one_text : (o : Option Text) (x y : Text) → o ≡ Some x → o ≡ Some y → x ≡ y
  one_text o x y e f = cc

  -- the offset at a place, and the token there
  offset_there : (ts : List Token) (j : ℕ) (u : Token) → slice_get ts j ≡ Some u → slice_get (map token_at ts) j ≡ Some u.start
  offset_there [] j u e = cc
  offset_there (x ∷ ts) zero u e = ap start_in e
    where
      start_in : Option Token → Option ℕ
      start_in (Some y) = Some y.start
      start_in None = None
  offset_there (x ∷ ts) (suc j) u e = offset_there ts j u e

  pub to_duplicate : (at : ℕ) → IsOther (rules_of (view tree)) r at ⊎ IsRepeated d.parameters.items (parameters_at r) at → IsDuplicateAt (rules_of (view tree)) r at
  to_duplicate at (inl f) = other_equals f.equals f.first_so f.differs f.offset
  to_duplicate at (inr f) =
      let x = by_number d.parameters.items (parameter_tokens (rule_head r)) h.parameters f.earlier f.number f.first in
      let y = by_number d.parameters.items (parameter_tokens (rule_head r)) h.parameters f.later f.number f.second in
      parameter_twice f.before x.1 y.1 (one_text (slice_get t.texts f.number) (text_of x.0) (text_of y.0) x.2 y.2) (one_of (slice_get (parameters_at r) f.later) at y.0.start f.there (offset_there (parameter_tokens (rule_head r)) f.later y.0 y.1))

  pub from_duplicate : (at : ℕ) → IsDuplicateAt (rules_of (view tree)) r at → IsOther (rules_of (view tree)) r at ⊎ IsRepeated d.parameters.items (parameters_at r) at
  from_duplicate at (other_equals {q = q} a f g i) = inl (record { first = q; equals = a; first_so = f; differs = g; offset = i })
  from_duplicate at (parameter_twice {t = u} {u = v} {j = j} {k = m} l a b same i) =
      let x = by_token d.parameters.items (parameter_tokens (rule_head r)) h.parameters j u a in
      let y = by_token d.parameters.items (parameter_tokens (rule_head r)) h.parameters m v b in
      let equal = is.table.texts x.0 y.0 (text_of u) x.2 (y.2 ∙ ap Some (sym same)) in
      inr (record { earlier = j; later = m; number = x.0; before = l; first = x.1; second = y.1 ∙ ap Some (sym equal); there = offset_there (parameter_tokens (rule_head r)) m v b ∙ ap Some (sym i) })

  pub both : (o p : Option ℕ) → o ≡ other_equals_by s.definitions.items s.names.items d (name_at r) → IsLeast (IsRepeated d.parameters.items (parameters_at r)) p → IsLeast (IsDuplicateAt (rules_of (view tree)) r) (lesser_of o p)
  both o p e k = alike _ _ to_duplicate from_duplicate _ (either _ _ o p (subst (IsLeast (IsOther (rules_of (view tree)) r)) (sym e) others) k)

module _ (tree : Tree) (z : Specification) (e : z.tree ≡ view tree) where
  same_rules : rules z ≡ rules_of (view tree)
  same_rules = ap rules_of e

  pub duplicate_in_text : (p : ℕ) → OneOf (IsDuplicateAt (rules_of (view tree))) (rules z) p → IsDuplicate z p
  duplicate_in_text p k = by k.rule k.present k.fault
    where
      by : (r : S.Rule) → Contains (rules z) r → IsDuplicateAt (rules_of (view tree)) r p → IsDuplicate z p
      by r c (other_equals {q = q} a f g i) = F.other_equals c a (subst (λ rs. F.first_equals rs (name_in r) ≡ Some q) (sym same_rules) f) g i
      by r c (parameter_twice l a b f i) = F.parameter_twice c l a b f i

  pub duplicate_at_rule : (p : ℕ) → IsDuplicate z p → OneOf (IsDuplicateAt (rules_of (view tree))) (rules z) p
  duplicate_at_rule p (F.other_equals {q = q} {r = r} c a f g i) = record { rule = r; present = c; fault = other_equals a (subst (λ rs. F.first_equals rs (name_in r) ≡ Some q) same_rules f) g i }
  duplicate_at_rule p (F.parameter_twice {r = r} c l a b f i) = record { rule = r; present = c; fault = parameter_twice l a b f i }

  pub duplicates : (o : Option ℕ) → IsLeast (OneOf (IsDuplicateAt (rules_of (view tree))) (rules z)) o → IsLeast (IsDuplicate z) o
  duplicates o h = alike (OneOf (IsDuplicateAt (rules_of (view tree))) (rules z)) (IsDuplicate z) duplicate_in_text duplicate_at_rule o h
