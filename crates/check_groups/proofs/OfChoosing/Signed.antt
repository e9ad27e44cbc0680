-- A name whose `~` opens something is a type's.
use Rattle.std.proofs.Common.{◌≡◌, ℕ, zero, suc, Bool, true, false, if◌then◌else◌, not, ◌&&◌, List, [], ◌∷◌, ◌++◌, Option, Some, None, inl, inr, refl, sym, ap, subst, ◌∙◌}
use Rattle.std.specs.Prelude.{Contains}
use Rattle.std.specs.Cmp.Lexicographic.{same_text}
use Rattle.lists.proofs.Lemmas.{IsIn, from_contains, never_some as never, to_contains}
use Rattle.tree_nodes.specs.Syntax.Syntax as S
use Rattle.cddl_language.specs.Terms.{Text, Term, literal, named, parens, map_of, array_of, unwrapped, choice_of, choice_of_name, tagged, tagged_by, simple_by, hash, range, control, or, Ref, call, Entry, Body, of_types, of_entry, Definition, Sign, is, type_or, group_or, stripped, term_list, name_of}
use Rattle.cddl_language.specs.Environment.{is_same, is_in, definitions_of, named_so, counting, has_any, has_equals, is_equals, is_socket, is_group_socket, is_in_prelude, most_names}
use Rattle.cddl_language.specs.Prelude.{prelude}
use Rattle.cddl_language.specs.Reading.{definition_of, definitions_in, sign_of, entry_of}
use Rattle.cddl_language.specs.Substitution.{fill_ref}
use Rattle.cddl_language.specs.Kinds.{Opened, opened, opened_term, opened_body, opened_by, opened_in, is_group, is_group_type, is_group_body, defines_group, first_defines_group, is_group_in}
use Rattle.check_groups.specs.Choosing.Signs.{HaveEntries}

-- the first definition of a name is one of all, and of this name
first_named : (n : Text) (ds : List Definition) (d : Definition) (es : List Definition) → named_so n ds ≡ d ∷ es → IsIn d ds × (d.name ≡ n)
first_named n [] d es e = cc
first_named n (x ∷ xs) d es e = by (is_same x.name n) refl (first_named n xs d es) e
  where
    by : (b : Bool) → b ≡ is_same x.name n → (named_so n xs ≡ d ∷ es → IsIn d xs × (d.name ≡ n)) → (if b then x ∷ named_so n xs else named_so n xs) ≡ d ∷ es → IsIn d (x ∷ xs) × (d.name ≡ n)
    by true h again g = (inl same, ap (λ (y : Definition). y.name) same ∙ same_text x.name n h)
      where
        same : d ≡ x
        same = cc
    by false h again g = let r = again g in (inr r.0, r.1)

module _ (f : Ref → Option Opened) (ts : List Term) (o : Opened) where
  only_one : (d : Definition) (es : List Definition) → opened_by f ts (d ∷ es) ≡ Some o → opened_body f d.parameters ts d.body ≡ Some o
  only_one d [] e = e
  only_one d (c ∷ es) e = absurd (never o e)

  of_own : (own : List Definition) → opened_by f ts (counting false own) ≡ Some o → (d : Definition) × (es : List Definition) × (own ≡ d ∷ es) × (opened_body f d.parameters ts d.body ≡ Some o)
  of_own [] e = absurd (never o e)
  of_own (d ∷ es) e = (d, es, refl, only_one d (counting (is_equals d.sign) es) e)

  -- where the prelude has no definition of the name
  of_text : (b : Bool) (pre own : List Definition) → has_any pre ≡ false → opened_by f ts ((if b then [] else pre) ++ counting false own) ≡ Some o → (d : Definition) × (es : List Definition) × (own ≡ d ∷ es) × (opened_body f d.parameters ts d.body ≡ Some o)
  of_text true pre own h e = of_own own e
  of_text false [] own h e = of_own own e
  of_text false (p ∷ pre) own h e = cc

module _ (xs : List Definition) (have : HaveEntries xs) where
  module _ (f : Ref → Option Opened) (next : Text → Bool) (o : Opened) (again : (r : Ref) → f r ≡ Some o → next (name_of r) ≡ false) where
    through : (b : Bool) (ps : List Text) (ts : List Term) (r : Ref) → (if b then None else f (fill_ref ps ts r)) ≡ Some o → (not b && next (name_of r)) ≡ false
    through true ps ts r e = refl
    through false ps ts (call n us) e = again (fill_ref ps ts (call n us)) e

    of_type : (ps : List Text) (ts : List Term) (t : Term) → opened_term f ps ts t ≡ Some o → is_group_type next xs ps t ≡ false
    of_type ps ts (named r) e = through (is_in ps (name_of r)) ps ts r e
    of_type ps ts (unwrapped r) e = absurd (never o e)
    of_type ps ts (literal v) e = refl
    of_type ps ts (parens t) e = refl
    of_type ps ts (map_of g) e = refl
    of_type ps ts (array_of g) e = refl
    of_type ps ts (choice_of g) e = refl
    of_type ps ts (choice_of_name r) e = refl
    of_type ps ts (tagged n t) e = refl
    of_type ps ts (tagged_by h t) e = refl
    of_type ps ts (simple_by h) e = refl
    of_type ps ts (hash n) e = refl
    of_type ps ts (range a c b) e = refl
    of_type ps ts (control a n b) e = refl
    of_type ps ts (or t u) e = refl

    of_body : (ps : List Text) (ts : List Term) (b : Body) → opened_body f ps ts b ≡ Some o → is_group_body next xs ps b ≡ false
    of_body ps ts (of_types t) e = of_type ps ts (stripped t) e
    of_body ps ts (of_entry x) e = absurd (never o e)

    of_definition : (ts : List Term) (d : Definition) → Contains xs d → is_group_socket d.name ≡ false → opened_body f d.parameters ts d.body ≡ Some o → defines_group next xs d d.sign ≡ false
    of_definition ts d c g e = by d.sign refl
      where
        by : (s : Sign) → d.sign ≡ s → defines_group next xs d s ≡ false
        by is h = ap (λ b. if b then true else is_group_body next xs d.parameters d.body) g ∙ of_body d.parameters ts d.body e
        by type_or h = refl
        by group_or h = let k = have d c h in absurd (never o (subst (λ b. opened_body f d.parameters ts b ≡ Some o) k.1 e))

    of_name : (n : Text) (ts : List Term) (g s p : Bool) → g ≡ is_group_socket n → p ≡ is_in_prelude n → (if g then None else opened_by f ts (definitions_of xs n)) ≡ Some o → (if s then g else (if p then false else first_defines_group next xs (named_so n xs))) ≡ false
    of_name n ts true s p h k e = absurd (never o e)
    of_name n ts false true p h k e = refl
    of_name n ts false false true h k e = refl
    of_name n ts false false false h k e =
        let d = of_text f ts o (has_equals (named_so n xs)) (named_so n prelude) (named_so n xs) (sym k) e in
        let i = first_named n xs d.0 d.1 d.2 in
        subst (λ ds. first_defines_group next xs ds ≡ false) (sym d.2) (of_definition ts d.0 (to_contains xs d.0 i.0) (ap is_group_socket i.1 ∙ sym h) d.3)

  not_group_in : (k j : ℕ) (r : Ref) (o : Opened) → opened_in k xs r ≡ Some o → is_group_in j xs (name_of r) ≡ false
  not_group_in zero j r o e = absurd (never o e)
  not_group_in (suc k) zero r o e = refl
  not_group_in (suc k) (suc j) (call n ts) o e = of_name (λ r. opened_in k xs r) (λ m. is_group_in j xs m) o (λ r h. not_group_in k j r o h) n (term_list ts) (is_group_socket n) (is_socket n) (is_in_prelude n) refl refl e

  pub opened_is_no_group : (r : Ref) (o : Opened) → opened xs r ≡ Some o → is_group xs (name_of r) ≡ false
  opened_is_no_group r o e = not_group_in (most_names xs) (most_names xs) r o e

-- The rules of a text.

by_rule : (r : S.Rule) → sign_of r ≡ group_or → (e : Entry) × ((definition_of r).body ≡ of_entry e)
by_rule (S.type_rule n (S.type_is t) x) e = cc
by_rule (S.type_rule n (S.type_or t) x) e = cc
by_rule (S.group_rule n a x) e = (entry_of x, refl)

by_rules : (rs : List S.Rule) (d : Definition) → IsIn d (definitions_in rs) → d.sign ≡ group_or → (e : Entry) × (d.body ≡ of_entry e)
by_rules [] d h s = absurd h
by_rules (r ∷ rs) d (inl e) s = subst (λ (c : Definition). (x : Entry) × (c.body ≡ of_entry x)) (sym e) (by_rule r (subst (λ (c : Definition). c.sign ≡ group_or) e s))
by_rules (r ∷ rs) d (inr h) s = by_rules rs d h s

pub have_entries : (rs : List S.Rule) → HaveEntries (definitions_in rs)
have_entries rs d c s = by_rules rs d (from_contains (definitions_in rs) d c) s
