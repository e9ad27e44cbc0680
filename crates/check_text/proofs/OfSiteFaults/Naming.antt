-- What a survey says of a name by its number is what the definitions say of the name.
use Rattle.std.proofs.Common.{◌≡◌, ◌≢◌, ℕ, zero, suc, ◌<◌, ◌⊎◌, inl, inr, nat_eq, Bool, true, false, if◌then◌else◌, ◌||◌, is_some, List, [], ◌∷◌, ◌++◌, length, Option, Some, slice_get, refl, sym, ap, subst, ◌∙◌, arith}
use Rattle.std.specs.Cmp.Lexicographic.{same_text}
use Rattle.std.proofs.lemmas.Bool.Decides.{eqb_tells}
use Rattle.std.proofs.lemmas.Cmp.{nat_list_eq_equiv}
use Rattle.std.proofs.lemmas.Option.{slice_get_within}
use Rattle.tree_nodes.specs.Syntax.Syntax as S
use Rattle.tree_nodes.specs.declared.tree.Tree.{Tree}
use Rattle.tree_nodes.specs.View.{view}
use Rattle.cddl_language.specs.Terms as L
use Rattle.cddl_language.specs.Terms.{Text}
use Rattle.cddl_language.specs.Environment.{counting, definitions_of, has_any, has_equals, is_in, is_same, named_so}
use Rattle.cddl_language.specs.Faults.{first_count, parameter_count}
use Rattle.cddl_language.specs.Kinds.{is_group}
use Rattle.cddl_language.specs.Prelude.{prelude}
use Rattle.cddl_language.specs.Reading.{definition_of, definitions_in, parameters_in, rules_of}
use Rattle.cddl_language.specs.Sites.{is_parameter}
use Rattle.check_terms.specs.declared.definition.Definition.{Definition}
use Rattle.check_terms.specs.Definitions.{AreDefinitions, no_definitions, further_definition, AreTexts, no_texts, further_text, IsDefinition}
use Rattle.check_terms.specs.Table.{AreDistinct, Table}
use Rattle.check_names.specs.declared.environment.environment.Name.{Name}
use Rattle.check_names.specs.Environment.Environment.{AreAt, IsStanding, named_from, none_there, one_there}
use Rattle.check_names.specs.Environment.Names.{standing}
use Rattle.check_names.specs.Environment.Places.{first_of}
use Rattle.check_reading.specs.Survey.Survey.{defined_in}
use Rattle.check_reading.specs.declared.survey.survey.Survey.{Survey}
use Rattle.check_text.specs.SiteFaults.Marks.{has_mark, is_among, is_parameter_of}
use Rattle.check_text.specs.SiteFaults.Names.{count_first, count_in, count_there, is_defined_there}
use Rattle.check_names.specs.Kinds.Kinds.{is_group_there}
use Rattle.check_text.specs.SiteFaults.Reads.{IsRead}
use Rattle.check_text.specs.declared.site_faults.marks.Mark.{Mark}
use Rattle.lists.proofs.Lemmas.{one_of}

element : {X : Type 0} (xs : List X) (k : ℕ) → k < length xs → (x : X) × (slice_get xs k ≡ Some x)
element [] k h = absurd (omega (arith, h))
element (x ∷ xs) zero h = (x, refl)
element (x ∷ xs) (suc k) h = element xs k (omega (arith, h))

same_itself : (n : Text) → is_same n n ≡ true
same_itself n = nat_list_eq_equiv.refl n

-- of a name with a number

module _ (texts : List Text) (distinct : AreDistinct texts) (k : ℕ) (n : Text) (named : slice_get texts k ≡ Some n) where
  same_name : (p : ℕ) (x : Text) → slice_get texts p ≡ Some x → nat_eq k p ≡ is_same x n
  same_name p x h = by (eqb_tells k p)
    where
      other : k ≢ p → (b : Bool) → b ≡ is_same x n → false ≡ b
      other e false f = refl
      other e true f = absurd (e (distinct k p n named (h ∙ ap Some (same_text x n f))))

      by : ((nat_eq k p ≡ true) × (k ≡ p)) ⊎ ((nat_eq k p ≡ false) × (k ≢ p)) → nat_eq k p ≡ is_same x n
      by (inl e) = e.0 ∙ sym (subst (λ m. is_same m n ≡ true) (one_of (slice_get texts k) n x named (ap (slice_get texts) e.1 ∙ h)) (same_itself n))
      by (inr e) = e.0 ∙ other e.1 (is_same x n) refl

  same_among : (ps : List ℕ) (ns : List Text) → AreTexts texts ps ns → is_among k ps ≡ is_in ns n
  same_among [] [] no_texts = refl
  same_among [] (x ∷ ns) h = elim h [ ]
  same_among (p ∷ ps) [] h = elim h [ ]
  same_among (p ∷ ps) (x ∷ ns) (further_text e h) = λ i. same_name p x e i || same_among ps ns h i

-- the definitions at places

rule_definition : (rs : List S.Rule) (k : ℕ) (r : S.Rule) → slice_get rs k ≡ Some r → slice_get (definitions_in rs) k ≡ Some (definition_of r)
rule_definition [] k r e = cc
rule_definition (x ∷ rs) zero r e = let same : x ≡ r = cc in ap (λ (y : S.Rule). Some (definition_of y)) same
rule_definition (x ∷ rs) (suc k) r e = rule_definition rs k r e

definition_there : (t : Table) (ds : List Definition) (xs : List L.Definition) (p : ℕ) (x : L.Definition) → AreDefinitions t ds xs → slice_get xs p ≡ Some x → (d : Definition) × (slice_get ds p ≡ Some d) × IsDefinition t d x
definition_there t [] [] p x no_definitions e = cc
definition_there t [] (y ∷ xs) p x h e = elim h [ ]
definition_there t (d ∷ ds) [] p x h e = elim h [ ]
definition_there t (d ∷ ds) (y ∷ xs) zero x (further_definition h hs) e = (d, refl, subst (IsDefinition t d) (one y x e) h)
  where
    one : (y x : L.Definition) → Some y ≡ Some x → y ≡ x
    one y x e = cc
definition_there t (d ∷ ds) (y ∷ xs) (suc p) x (further_definition h hs) e = definition_there t ds xs p x hs e

as_many_texts : (texts : List Text) (ps : List ℕ) (ns : List Text) → AreTexts texts ps ns → length ps ≡ length ns
as_many_texts texts [] [] no_texts = refl
as_many_texts texts [] (x ∷ ns) h = elim h [ ]
as_many_texts texts (p ∷ ps) [] h = elim h [ ]
as_many_texts texts (p ∷ ps) (x ∷ ns) (further_text e h) = ap suc (as_many_texts texts ps ns h)

counted_first : (t : Table) (ds : List Definition) (xs : List L.Definition) → AreDefinitions t ds xs → (ps : List ℕ) (ys : List L.Definition) → AreAt xs ps ys → count_first ds (first_of ps) ≡ first_count ys
counted_first t ds xs h [] [] none_there = refl
counted_first t ds xs h [] (y ∷ ys) a = elim a [ ]
counted_first t ds xs h (p ∷ ps) [] a = elim a [ ]
counted_first t ds xs h (p ∷ ps) (y ∷ ys) (one_there e a) =
    let d = definition_there t ds xs p y h e in
    ap count_in d.1 ∙ ap Some (as_many_texts t.texts d.0.parameters.items y.parameters d.2.parameters)

any_first : (xs : List L.Definition) (ps : List ℕ) (ys : List L.Definition) → AreAt xs ps ys → is_some (first_of ps) ≡ has_any ys
any_first xs [] [] none_there = refl
any_first xs [] (y ∷ ys) a = elim a [ ]
any_first xs (p ∷ ps) [] a = elim a [ ]
any_first xs (p ∷ ps) (y ∷ ys) (one_there e a) = refl

any_defined : (ys xs : List L.Definition) → has_any ((if has_equals xs then [] else ys) ++ counting false xs) ≡ (has_any ys || has_any xs)
any_defined [] [] = refl
any_defined (y ∷ ys) [] = refl
any_defined ys (x ∷ xs) = by ys (has_equals (x ∷ xs))
  where
    by : (ys : List L.Definition) (b : Bool) → has_any ((if b then [] else ys) ++ counting false (x ∷ xs)) ≡ (has_any ys || true)
    by [] true = refl
    by [] false = refl
    by (y ∷ ys) true = refl
    by (y ∷ ys) false = refl

module _ (t : Table) (tree : Tree) (s : Survey) (ms : List Mark) (is : IsRead t tree s ms) where
  standing_at : (k : ℕ) (n : Text) → slice_get t.texts k ≡ Some n → (v : Name) × (slice_get s.names.items k ≡ Some v) × IsStanding (defined_in tree) n (standing v)
  standing_at k n e =
      let v = element s.names.items k (subst (λ m. k < m) (sym is.survey.names_found.all) (slice_get_within t.texts k n e)) in
      (v.0, v.1, is.survey.names_stand k n v.0 e v.1)

  -- what is said of the name n by the number k of its text

  pub same_parameter : (rule k : ℕ) (r : S.Rule) (n : Text) → slice_get (rules_of (view tree)) rule ≡ Some r → slice_get t.texts k ≡ Some n → has_mark ms rule k ≡ is_parameter r n
  same_parameter rule k r n place h =
      let d = definition_there t s.definitions.items (defined_in tree) rule (definition_of r) is.survey.text_read (rule_definition (rules_of (view tree)) rule r place) in
      is.marked rule k ∙ ap (λ (x : Option Definition). is_parameter_of x k) d.1 ∙ same_among t.texts is.survey.table.texts k n h d.0.parameters.items (parameters_in r) d.2.parameters

  pub same_defined : (n : Text) (k : ℕ) → slice_get t.texts k ≡ Some n → is_defined_there (slice_get s.names.items k) ≡ has_any (definitions_of (defined_in tree) n)
  same_defined n k h =
      let v = standing_at k n h in
      ap is_defined_there v.1 ∙ (λ i. v.2.in_prelude i || (ap is_some v.2.first ∙ any_first (defined_in tree) (named_from 0 n (defined_in tree)) (named_so n (defined_in tree)) v.2.defined) i) ∙ sym (any_defined (named_so n prelude) (named_so n (defined_in tree)))

  pub same_count : (n : Text) (k : ℕ) → slice_get t.texts k ≡ Some n → count_there s.definitions.items (slice_get s.names.items k) ≡ parameter_count (defined_in tree) n
  same_count n k h =
      let v = standing_at k n h in
      ap (count_there s.definitions.items) v.1 ∙ (λ i. if v.2.in_prelude i then Some 0 else (ap (count_first s.definitions.items) v.2.first ∙ counted_first t s.definitions.items (defined_in tree) is.survey.text_read (named_from 0 n (defined_in tree)) (named_so n (defined_in tree)) v.2.defined) i)

  pub same_kind : (n : Text) (k : ℕ) → slice_get t.texts k ≡ Some n → is_group_there s.kinds k ≡ is_group (defined_in tree) n
  same_kind n k h = is.survey.kinds_found.groups k n h
