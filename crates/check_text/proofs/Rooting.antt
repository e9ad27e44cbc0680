-- A text without a fault has a root, which is defined, and is no group.
use Rattle.std.proofs.Common.{◌≡◌, ◌≢◌, inl, inr, ◌⊎◌, ℕ, zero, suc, Bool, true, false, if◌then◌else◌, ◌++◌, nat_eq, List, [], ◌∷◌, Option, Some, None, refl, sym, ap, subst, ◌∙◌, true≢false}
use Rattle.std.proofs.lemmas.Bool.Decides.{eqb_tells}
use Rattle.tree_nodes.specs.Syntax.Syntax as S
use Rattle.cddl_language.specs.Terms as L
use Rattle.cddl_language.specs.Terms.{Text}
use Rattle.cddl_language.specs.Environment as E
use Rattle.cddl_language.specs.Environment.{definitions_of, has_any, has_equals, is_group_socket, is_in_prelude, is_same, is_socket, most_names, named_so}
use Rattle.cddl_language.specs.Faults.{HasBadRoot, HasNoRoot, IsFaultAt, Specification, definitions, first_rule, no_rule, no_such, root_of, rules}
use Rattle.cddl_language.specs.Kinds.{first_defines_group, is_group, is_group_in}
use Rattle.cddl_language.specs.Literals.{Values}
use Rattle.cddl_language.specs.Prelude.{prelude}
use Rattle.cddl_language.specs.Reading.{definition_of, definitions_in, name_at, name_in, parameters_in}
use Rattle.check_text.specs.Codes.{text_codes}
use Rattle.check_text.specs.First.{IsFirst}

-- Names of the prelude begin with letters, so none is a socket.

no_dollar : (bs : List ℕ) → named_so (36 ∷ bs) prelude ≡ []
unfolding prelude
no_dollar bs = refl

is_dollar : (b : ℕ) → nat_eq b 36 ≡ true → b ≡ 36
is_dollar b e = by (eqb_tells b 36)
  where
    by : ((nat_eq b 36 ≡ true) × (b ≡ 36)) ⊎ ((nat_eq b 36 ≡ false) × (b ≢ 36)) → b ≡ 36
    by (inl h) = h.1
    by (inr h) = absurd (true≢false (sym e ∙ h.0))

no_socket : (n : Text) → is_in_prelude n ≡ true → is_socket n ≡ false
no_socket [] h = refl
no_socket (b ∷ bs) h = by (nat_eq b 36) refl
  where
    by : (c : Bool) → nat_eq b 36 ≡ c → c ≡ false
    by false e = refl
    by true e = absurd (true≢false (sym h ∙ ap has_any (subst (λ x. named_so (x ∷ bs) prelude ≡ []) (sym (is_dollar b e)) (no_dollar bs))))

-- Names of the prelude are types.
known_type : (k : ℕ) (ds : List L.Definition) (n : Text) → is_in_prelude n ≡ true → is_group_in k ds n ≡ false
known_type zero ds n h = refl
known_type (suc k) ds n h = by (is_socket n) (is_in_prelude n) (no_socket n h) h (is_group_socket n) (first_defines_group (λ m. is_group_in k ds m) ds (named_so n ds))
  where
    by : (a b : Bool) → a ≡ false → b ≡ true → (x y : Bool) → (if a then x else (if b then false else y)) ≡ false
    by a b e f x y = subst (λ c. (if c then x else (if b then false else y)) ≡ false) (sym e) (subst (λ c. (if c then false else y) ≡ false) (sym f) refl)

unnamed : (n : Text) (rs : List S.Rule) → first_rule rs n ≡ None → named_so n (definitions_in rs) ≡ []
unnamed n [] e = refl
unnamed n (r ∷ rs) e = by (is_same (name_in r) n) (unnamed n rs) e
  where
    some : (x : S.Rule) → Some x ≡ None → ⊥
    some x e = cc

    by : (b : Bool) → (first_rule rs n ≡ None → named_so n (definitions_in rs) ≡ []) → (if b then Some r else first_rule rs n) ≡ None → (if b then definition_of r ∷ named_so n (definitions_in rs) else named_so n (definitions_in rs)) ≡ []
    by true h f = absurd (some r f)
    by false h f = h f

not_known : (n : Text) → is_in_prelude n ≡ false → named_so n prelude ≡ []
not_known n h = by (named_so n prelude) h
  where
    by : (ys : List L.Definition) → has_any ys ≡ false → ys ≡ []
    by [] e = refl
    by (y ∷ ys) e = absurd (true≢false e)

nowhere : (n : Text) (xs : List L.Definition) → named_so n xs ≡ [] → named_so n prelude ≡ [] → definitions_of xs n ≡ []
nowhere n xs h k = ap (λ ys. (if has_equals ys then [] else named_so n prelude) ++ E.counting false ys) h ∙ ap (λ zs. zs ++ []) k

module _ (s : Specification) (worth : Values) (clear : IsFirst (IsFaultAt s worth) text_codes None) where
  no_missing : (p : ℕ) → HasNoRoot s p → ⊥
  no_missing = clear.1.1.1.1.0

  no_bad : (p : ℕ) → HasBadRoot s p → ⊥
  no_bad = clear.1.1.1.1.1.0

  pub present : (root : Text) × (root_of s ≡ Some root)
  present = by (root_of s) refl
    where
      by : (o : Option Text) → root_of s ≡ o → (root : Text) × (root_of s ≡ Some root)
      by None e = absurd (no_missing 0 (no_rule e refl))
      by (Some n) e = (n, e)

  module _ (root : Text) (rooted : root_of s ≡ Some root) where
    pub defined : definitions_of (definitions s) root ≢ []
    defined e = no_missing 0 (no_such rooted e refl)

    pub ruled : is_in_prelude root ≡ false → (r : S.Rule) × (first_rule (rules s) root ≡ Some r)
    ruled h = by (first_rule (rules s) root) refl
      where
        by : (o : Option S.Rule) → first_rule (rules s) root ≡ o → (r : S.Rule) × (first_rule (rules s) root ≡ Some r)
        by None e = absurd (defined (nowhere root (definitions s) (unnamed root (rules s) e) (not_known root h)))
        by (Some r) e = (r, e)

    pub plain : (r : S.Rule) → first_rule (rules s) root ≡ Some r → parameters_in r ≡ []
    plain r e = by (parameters_in r) refl
      where
        some : (p : Text) (ps : List Text) → p ∷ ps ≡ [] → ⊥
        some p ps e = cc

        by : (ps : List Text) → parameters_in r ≡ ps → ps ≡ []
        by [] f = refl
        by (p ∷ ps) f = absurd (no_bad (name_at r) (record { root = root; rule = r; rooted = rooted; first = e; bad = inr (λ g. some p ps (sym f ∙ g)); offset = refl }))

    pub is_type : is_group (definitions s) root ≡ false
    is_type = by (is_in_prelude root) refl
      where
        by : (b : Bool) → is_in_prelude root ≡ b → is_group (definitions s) root ≡ false
        by true h = known_type (most_names (definitions s)) (definitions s) root h
        by false h = of (is_group (definitions s) root) refl
          where
            of : (g : Bool) → is_group (definitions s) root ≡ g → g ≡ false
            of false e = refl
            of true e = absurd (no_bad (name_at (ruled h).0) (record { root = root; rule = (ruled h).0; rooted = rooted; first = (ruled h).1; bad = inl e; offset = refl }))
