-- The root of a text.
use Rattle.std.proofs.Common.{◌≡◌, ◌≢◌, ◌⊎◌, inl, inr, ℕ, zero, suc, ◌+◌, ◌≤◌, Bool, true, false, ◌||◌, if◌then◌else◌, List, [], ◌∷◌, ◌++◌, length, map, Option, Some, None, refl, sym, ap, subst, ◌∙◌, slice_get, arith, true≢false}
use Rattle.std.specs.Cmp.Lexicographic.{same_text}
use Rattle.std.proofs.lemmas.Cmp.{nat_list_eq_equiv}
use Rattle.tree_nodes.specs.Syntax.Syntax as S
use Rattle.cddl_language.specs.Terms as L
use Rattle.cddl_language.specs.Terms.{Text}
use Rattle.cddl_language.specs.Environment as E
use Rattle.cddl_language.specs.Environment.{definitions_of, has_equals, is_same, named_so}
use Rattle.cddl_language.specs.Prelude.{prelude}
use Rattle.cddl_language.specs.Kinds.{is_group}
use Rattle.cddl_language.specs.Faults as F
use Rattle.cddl_language.specs.Faults.{HasBadRoot, HasNoRoot, Specification, definitions, first_rule, no_rule, no_such, root_of, root_or, rules}
use Rattle.cddl_language.specs.Reading.{definition_of, definitions_in, name_at, name_in, parameters_in, rules_of}
use Rattle.check_terms.specs.declared.definition.Definition.{Definition}
use Rattle.check_terms.specs.Definitions.{AreDefinitions, no_definitions, further_definition}
use Rattle.check_terms.specs.Table.{Table}
use Rattle.tree_nodes.specs.declared.tree.Tree.{Tree}
use Rattle.tree_nodes.specs.View.{view}
use Rattle.check_names.specs.declared.environment.environment.Name.{Name}
use Rattle.check_names.specs.Environment.Environment.{named_from}
use Rattle.check_names.specs.Environment.Places.{first_of}
use Rattle.check_names.specs.Kinds.Kinds.{is_group_there}
use Rattle.check_reading.specs.declared.survey.survey.Survey.{Survey}
use Rattle.lists.specs.Least.{IsLeast}
use Rattle.check_reading.specs.Survey.Survey.{IsSurvey}
use Rattle.check_text.specs.RuleFaults.Root.{bad_at, bad_by, bad_first, either_number, first_number, has_some, is_text, number_of_name, root_number}
use Rattle.check_text.proofs.OfRuleFaults.Arities.{name_there}
use Rattle.check_text.proofs.OfRuleFaults.Rules.{IsRest, as_many, definition_at, rest_first, rest_further, rule_there, whole}

-- The number of a name among definitions.

abbrev IsNamed : List Text → Text → List L.Definition → Option ℕ → Type 0
IsNamed texts n ys None = named_so n ys ≡ []
IsNamed texts n ys (Some k) = (slice_get texts k ≡ Some n) × (named_so n ys ≢ [])

some_left : {A : Type 0} (x : A) (xs : List A) → x ∷ xs ≢ []
some_left x xs e = cc

named_number : (t : Table) (n : Text) (ds : List Definition) (ys : List L.Definition) → AreDefinitions t ds ys → IsNamed t.texts n ys (number_of_name t.texts n ds)
named_number t n [] [] no_definitions = refl
named_number t n [] (y ∷ ys) h = elim h [ ]
named_number t n (d ∷ ds) [] h = elim h [ ]
named_number t n (d ∷ ds) (y ∷ ys) (further_definition h hs) = subst (λ o. IsNamed t.texts n (y ∷ ys) (if is_text n o then Some d.name else number_of_name t.texts n ds)) (sym h.name) (by (is_same y.name n) refl (number_of_name t.texts n ds) (named_number t n ds ys hs))
  where
    cons : (b : Bool) → is_same y.name n ≡ b → (if b then y ∷ named_so n ys else named_so n ys) ≡ named_so n (y ∷ ys)
    cons b e = ap (λ c. if c then y ∷ named_so n ys else named_so n ys) (sym e)

    by : (b : Bool) → is_same y.name n ≡ b → (o : Option ℕ) → IsNamed t.texts n ys o → IsNamed t.texts n (y ∷ ys) (if b then Some d.name else o)
    by true e o k = (h.name ∙ ap Some (same_text y.name n (sym e)), λ f. some_left y (named_so n ys) (cons true e ∙ f))
    by false e None k = sym (cons false e) ∙ k
    by false e (Some i) k = (k.0, λ f. k.1 (cons false e ∙ f))

defined_own : (n : Text) (xs : List L.Definition) → named_so n xs ≢ [] → definitions_of xs n ≢ []
defined_own n xs h = by (named_so n xs) h (if has_equals (named_so n xs) then [] else named_so n prelude)
  where
    after : (zs : List L.Definition) (y : L.Definition) (ws : List L.Definition) → zs ++ (y ∷ ws) ≢ []
    after [] y ws e = some_left y ws e
    after (z ∷ zs) y ws e = some_left z (zs ++ (y ∷ ws)) e

    by : (ys : List L.Definition) → ys ≢ [] → (zs : List L.Definition) → zs ++ E.counting false ys ≢ []
    by [] k zs = absurd (k refl)
    by (y ∷ ys) k zs = after zs y _

defined_known : (n : Text) (xs : List L.Definition) → named_so n xs ≡ [] → named_so n prelude ≢ [] → definitions_of xs n ≢ []
defined_known n xs h k e = by (named_so n prelude) k (sym (ap (λ ys. (if has_equals ys then [] else named_so n prelude) ++ E.counting false ys) h) ∙ e)
  where
    by : (zs : List L.Definition) → zs ≢ [] → zs ++ [] ≡ [] → ⊥
    by [] k e = k refl
    by (z ∷ zs) k e = some_left z (zs ++ []) e

nowhere : (n : Text) (xs : List L.Definition) → named_so n xs ≡ [] → named_so n prelude ≡ [] → definitions_of xs n ≡ []
nowhere n xs h k = ap (λ ys. (if has_equals ys then [] else named_so n prelude) ++ E.counting false ys) h ∙ ap (λ zs. zs ++ []) k

-- the number is that of the root, which is defined; or there is no root
abbrev pub IsRoot : Table → Specification → Option ℕ → Type 0
IsRoot t z None = HasNoRoot z 0
IsRoot t z (Some k) = (n : Text) × (root_of z ≡ Some n) × (slice_get t.texts k ≡ Some n) × (definitions_of (definitions z) n ≢ [])

-- where the rule at a place begins

abbrev start_in : Option S.Rule → Option ℕ
start_in None = None
start_in (Some r) = Some (name_at r)

starts_there : (rs : List S.Rule) (p : ℕ) → slice_get (map name_at rs) p ≡ start_in (slice_get rs p)
starts_there [] p = refl
starts_there (r ∷ rs) zero = refl
starts_there (r ∷ rs) (suc p) = starts_there rs p

module _ (t : Table) (tree : Tree) (s : Survey) (is : IsSurvey t tree s) (z : Specification) (of : z.tree ≡ view tree) where
  text_read : AreDefinitions t s.definitions.items (definitions z)
  text_read = subst (λ x. AreDefinitions t s.definitions.items (definitions_in (rules_of x))) (sym of) is.text_read

  given_root : (n : Text) → z.given ≡ Some n → IsRoot t z (either_number (number_of_name t.texts n s.definitions.items) (number_of_name t.texts n s.known.items))
  given_root n e = by (number_of_name t.texts n s.definitions.items) (number_of_name t.texts n s.known.items) (named_number t n s.definitions.items (definitions z) text_read) (named_number t n s.known.items prelude is.prelude_read)
    where
      rooted : root_of z ≡ Some n
      rooted = ap (λ g. root_or g (rules z)) e

      by : (o p : Option ℕ) → IsNamed t.texts n (definitions z) o → IsNamed t.texts n prelude p → IsRoot t z (either_number o p)
      by (Some k) p h g = (n, rooted, h.0, defined_own n (definitions z) h.1)
      by None (Some k) h g = (n, rooted, g.0, defined_known n (definitions z) h g.1)
      by None None h g = no_such rooted (nowhere n (definitions z) h g) refl

  first_root : z.given ≡ None → IsRoot t z (first_number s.definitions.items)
  first_root e = by s.definitions.items (rules z) refl text_read
    where
      by : (ds : List Definition) (rs : List S.Rule) → rules z ≡ rs → AreDefinitions t ds (definitions_in rs) → IsRoot t z (first_number ds)
      by [] [] f no_definitions = no_rule (ap (λ g. root_or g (rules z)) e ∙ ap F.first_name f) refl
      by [] (r ∷ rs) f h = elim h [ ]
      by (d ∷ ds) [] f h = elim h [ ]
      by (d ∷ ds) (r ∷ rs) f (further_definition h hs) = (name_in r, ap (λ g. root_or g (rules z)) e ∙ ap F.first_name f, h.name, defined_own (name_in r) (definitions z) (λ i. some_left (definition_of r) (named_so (name_in r) (definitions_in rs)) (ap (λ b. if b then definition_of r ∷ named_so (name_in r) (definitions_in rs) else named_so (name_in r) (definitions_in rs)) (sym (nat_list_eq_equiv.refl (name_in r))) ∙ sym (ap (λ q. named_so (name_in r) (definitions_in q)) f) ∙ i)))

  pub is_root : (g : Option Text) → z.given ≡ g → IsRoot t z (root_number t.texts s.known.items s.definitions.items g)
  is_root (Some n) e = given_root n e
  is_root None e = first_root e

  pub has_root : (k : ℕ) → IsRoot t z (Some k) → (p : ℕ) → HasNoRoot z p → ⊥
  has_root k h p (no_rule e f) = none h.0 (sym h.1 ∙ e)
    where
      none : (n : Text) → Some n ≡ None → ⊥
      none n e = cc
  has_root k h p (no_such {n = m} e d f) = h.3 (subst (λ x. definitions_of (definitions z) x ≡ []) (one m h.0 (sym e ∙ h.1)) d)
    where
      one : (m n : Text) → Some m ≡ Some n → m ≡ n
      one m n e = cc

  -- the first rule of a name is at the first place

  abbrev at_place : List S.Rule → Option ℕ → Option S.Rule
  at_place all None = None
  at_place all (Some p) = slice_get all p

  first_there : (n : Text) (all : List S.Rule) (i : ℕ) (rs : List S.Rule) → IsRest all i rs → first_rule rs n ≡ at_place all (first_of (named_from i n (definitions_in rs)))
  first_there n all i [] h = refl
  first_there n all i (r ∷ rs) h = by (is_same (name_in r) n) (first_there n all (i + 1) rs (rest_further all i r rs h))
    where
      by : (b : Bool) → first_rule rs n ≡ at_place all (first_of (named_from (i + 1) n (definitions_in rs))) → (if b then Some r else first_rule rs n) ≡ at_place all (first_of (if b then i ∷ named_from (i + 1) n (definitions_in rs) else named_from (i + 1) n (definitions_in rs)))
      by true k = sym (rest_first all i r rs h)
      by false k = k

  some_parameters : (ks : List ℕ) (ps : List Text) → length ks ≡ length ps → (b : Bool) → has_some ks ≡ b → (b ≡ true → ps ≢ []) × (b ≡ false → ps ≡ [])
  some_parameters [] [] e b h = (λ f g. true≢false (sym f ∙ sym h), λ f. refl)
  some_parameters [] (p ∷ ps) e b h = absurd (omega (arith, e))
  some_parameters (k ∷ ks) [] e b h = absurd (omega (arith, e))
  some_parameters (k ∷ ks) (p ∷ ps) e b h = (λ f. some_left p ps, λ f. absurd (true≢false (h ∙ f)))

  -- what is told of the root's first rule
  module _ (n : Text) (rooted : root_of z ≡ Some n) where
    none_bad : first_rule (rules z) n ≡ None → (p : ℕ) → HasBadRoot z p → ⊥
    none_bad e p f = none f.rule (sym e ∙ subst (λ m. first_rule (rules z) m ≡ Some f.rule) (one f.root n (sym f.rooted ∙ rooted)) f.first)
      where
        none : (r : S.Rule) → None ≡ Some r → ⊥
        none r e = cc

        one : (m n : Text) → Some m ≡ Some n → m ≡ n
        one m n e = cc

    one_bad : (r : S.Rule) → first_rule (rules z) n ≡ Some r → (group some : Bool) → is_group (definitions z) n ≡ group → (some ≡ true → parameters_in r ≢ []) → (some ≡ false → parameters_in r ≡ []) → IsLeast (HasBadRoot z) (if group || some then Some (name_at r) else None)
    one_bad r e true some g h k = (record { root = n; rule = r; rooted = rooted; first = e; bad = inl g; offset = refl }, λ p f. at_rule p f)
      where
        at_rule : (p : ℕ) → HasBadRoot z p → name_at r ≤ p
        at_rule p f = least (sym (f.offset ∙ ap name_at (one f.rule r (sym (subst (λ m. first_rule (rules z) m ≡ Some f.rule) (name f.root n (sym f.rooted ∙ rooted)) f.first) ∙ e))))
          where
            one : (q r : S.Rule) → Some q ≡ Some r → q ≡ r
            one q r e = cc

            name : (m n : Text) → Some m ≡ Some n → m ≡ n
            name m n e = cc

            least : name_at r ≡ p → name_at r ≤ p
            least e = omega (arith, e)
    one_bad r e false true g h k = (record { root = n; rule = r; rooted = rooted; first = e; bad = inr (h refl); offset = refl }, λ p f. at_rule p f)
      where
        at_rule : (p : ℕ) → HasBadRoot z p → name_at r ≤ p
        at_rule p f = least (sym (f.offset ∙ ap name_at (one f.rule r (sym (subst (λ m. first_rule (rules z) m ≡ Some f.rule) (name f.root n (sym f.rooted ∙ rooted)) f.first) ∙ e))))
          where
            one : (q r : S.Rule) → Some q ≡ Some r → q ≡ r
            one q r e = cc

            name : (m n : Text) → Some m ≡ Some n → m ≡ n
            name m n e = cc

            least : name_at r ≡ p → name_at r ≤ p
            least e = omega (arith, e)
    one_bad r e false false g h k = λ p f. not_bad p f f.bad
      where
        not_bad : (p : ℕ) → (f : HasBadRoot z p) → (is_group (definitions z) f.root ≡ true) ⊎ (parameters_in f.rule ≢ []) → ⊥
        not_bad p f (inl i) = true≢false (sym i ∙ ap (is_group (definitions z)) (name f.root n (sym f.rooted ∙ rooted)) ∙ g)
          where
            name : (m n : Text) → Some m ≡ Some n → m ≡ n
            name m n e = cc
        not_bad p f (inr i) = i (ap parameters_in (one f.rule r (sym (subst (λ m. first_rule (rules z) m ≡ Some f.rule) (name f.root n (sym f.rooted ∙ rooted)) f.first) ∙ e)) ∙ k refl)
          where
            one : (q r : S.Rule) → Some q ≡ Some r → q ≡ r
            one q r e = cc

            name : (m n : Text) → Some m ≡ Some n → m ≡ n
            name m n e = cc

  -- the offset that is told
  pub is_bad : (k : ℕ) (n : Text) → root_of z ≡ Some n → slice_get t.texts k ≡ Some n → IsLeast (HasBadRoot z) (bad_at s.kinds s.definitions.items s.starts.items k (slice_get s.names.items k))
  is_bad k n rooted e =
      let v = name_there t tree s is k n e in
      subst (λ o. IsLeast (HasBadRoot z) (bad_at s.kinds s.definitions.items s.starts.items k o)) (sym v.1) (by v.0.first (slice_first v.0 (is.names_stand k n v.0 e v.1).first))
    where
      here : rules_of (view tree) ≡ rules z
      here = ap rules_of (sym of)

      slice_first : (v : Name) → v.first ≡ first_of (named_from 0 n (definitions_in (rules_of (view tree)))) → first_rule (rules z) n ≡ at_place (rules z) v.first
      slice_first v h = first_there n (rules z) 0 (rules z) (whole (rules z)) ∙ ap (at_place (rules z)) (ap (λ rs. first_of (named_from 0 n (definitions_in rs))) (sym here) ∙ sym h)

      group : is_group_there s.kinds k ≡ is_group (definitions z) n
      group = is.kinds_found.groups k n e ∙ ap (λ x. is_group (definitions_in (rules_of x)) n) (sym of)

      nothing : (d : Option Definition) → None ≡ bad_by (is_group_there s.kinds k) d None
      nothing None = refl
      nothing (Some d) = refl

      there : (p : ℕ) (o : Option S.Rule) → slice_get (rules z) p ≡ o → first_rule (rules z) n ≡ o → IsLeast (HasBadRoot z) (bad_by (is_group_there s.kinds k) (slice_get s.definitions.items p) (start_in o))
      there p None h f = subst (λ d. IsLeast (HasBadRoot z) d) (nothing (slice_get s.definitions.items p)) (none_bad n rooted f)
      there p (Some r) h f =
          let d = definition_at t s.definitions.items (definitions z) p (definition_of r) text_read (rule_there (rules z) p r h) in
          let some = some_parameters d.0.parameters.items (parameters_in r) (as_many t.texts d.0.parameters.items (parameters_in r) d.2.parameters) (has_some d.0.parameters.items) refl in
          subst (λ o. IsLeast (HasBadRoot z) (bad_by (is_group_there s.kinds k) o (Some (name_at r)))) (sym d.1) (one_bad n rooted r f (is_group_there s.kinds k) (has_some d.0.parameters.items) (sym group) some.0 some.1)

      by : (o : Option ℕ) → first_rule (rules z) n ≡ at_place (rules z) o → IsLeast (HasBadRoot z) (bad_first (is_group_there s.kinds k) s.definitions.items s.starts.items o)
      by None f = none_bad n rooted f
      by (Some p) f =
          subst (λ o. IsLeast (HasBadRoot z) (bad_by (is_group_there s.kinds k) (slice_get s.definitions.items p) o)) (sym (ap (λ ks. slice_get ks p) (is.starts_found ∙ ap (map name_at) here) ∙ starts_there (rules z) p)) (there p (slice_get (rules z) p) refl f)

  pub no_bad : HasNoRoot z 0 → (p : ℕ) → HasBadRoot z p → ⊥
  no_bad (no_rule e f) p b = none b.root (sym e ∙ b.rooted)
    where
      none : (n : Text) → None ≡ Some n → ⊥
      none n e = cc
  no_bad (no_such {n = n} e d f) p b = unnamed b.root b.rule (subst (λ m. definitions_of (definitions z) m ≡ []) (one n b.root (sym e ∙ b.rooted)) d) b.first
    where
      one : (m n : Text) → Some m ≡ Some n → m ≡ n
      one m n e = cc

      first_named : (n : Text) (rs : List S.Rule) (r : S.Rule) → first_rule rs n ≡ Some r → named_so n (definitions_in rs) ≢ []
      first_named n [] r e = cc
      first_named n (q ∷ rs) r e = by (is_same (name_in q) n) (first_named n rs r) e
        where
          by : (b : Bool) → (first_rule rs n ≡ Some r → named_so n (definitions_in rs) ≢ []) → (if b then Some q else first_rule rs n) ≡ Some r → (if b then definition_of q ∷ named_so n (definitions_in rs) else named_so n (definitions_in rs)) ≢ []
          by true h e = some_left (definition_of q) (named_so n (definitions_in rs))
          by false h e = h e

      unnamed : (n : Text) (r : S.Rule) → definitions_of (definitions z) n ≡ [] → first_rule (rules z) n ≡ Some r → ⊥
      unnamed n r d e = defined_own n (definitions z) (first_named n (rules z) r e) d
