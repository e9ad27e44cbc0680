-- The number of the root's name.
use Rattle.std.proofs.Common.{◌≡◌, ℕ, Bool, true, false, if◌then◌else◌, List, [], ◌∷◌, ◌++◌, Option, Some, None, refl, sym, ap, subst, ◌∙◌, slice_get}
use Rattle.std.specs.Cmp.Lexicographic.{same_text}
use Rattle.tree_nodes.specs.Syntax.Syntax as S
use Rattle.cddl_language.specs.Terms as L
use Rattle.cddl_language.specs.Terms.{Text}
use Rattle.cddl_language.specs.Environment as E
use Rattle.cddl_language.specs.Environment.{definitions_of, has_equals, is_same, named_so}
use Rattle.cddl_language.specs.Prelude.{prelude}
use Rattle.cddl_language.specs.Faults as F
use Rattle.cddl_language.specs.Faults.{HasNoRoot, Specification, definitions, no_rule, no_such, root_of, root_or, rules}
use Rattle.cddl_language.specs.Reading.{definitions_in, name_in}
use Rattle.check_terms.specs.declared.definition.Definition.{Definition}
use Rattle.check_terms.specs.Definitions.{AreDefinitions, no_definitions, further_definition}
use Rattle.check_terms.specs.Table.{Table}
use Rattle.check_text.specs.RuleFaults.Root.{either_number, first_number, is_text, number_of_name, root_number}

-- The number of a name among definitions.

abbrev IsNamed : List Text → Text → List L.Definition → Option ℕ → Type 0
IsNamed texts n ys None = named_so n ys ≡ []
IsNamed texts n ys (Some k) = slice_get texts k ≡ Some n

named_number : (t : Table) (n : Text) (ds : List Definition) (ys : List L.Definition) → AreDefinitions t ds ys → IsNamed t.texts n ys (number_of_name t.texts n ds)
named_number t n [] [] no_definitions = refl
named_number t n [] (y ∷ ys) h = elim h [ ]
named_number t n (d ∷ ds) [] h = elim h [ ]
named_number t n (d ∷ ds) (y ∷ ys) (further_definition h hs) = subst (λ o. IsNamed t.texts n (y ∷ ys) (if is_text n o then Some d.name else number_of_name t.texts n ds)) (sym h.name) (by (is_same y.name n) refl (number_of_name t.texts n ds) (named_number t n ds ys hs))
  where
    cons : (b : Bool) → is_same y.name n ≡ b → (if b then y ∷ named_so n ys else named_so n ys) ≡ named_so n (y ∷ ys)
    cons b e = ap (λ c. if c then y ∷ named_so n ys else named_so n ys) (sym e)

    by : (b : Bool) → is_same y.name n ≡ b → (o : Option ℕ) → IsNamed t.texts n ys o → IsNamed t.texts n (y ∷ ys) (if b then Some d.name else o)
    by true e o k = h.name ∙ ap Some (same_text y.name n (sym e))
    by false e None k = sym (cons false e) ∙ k
    by false e (Some i) k = k

nowhere : (n : Text) (xs : List L.Definition) → named_so n xs ≡ [] → named_so n prelude ≡ [] → definitions_of xs n ≡ []
nowhere n xs h k = ap (λ ys. (if has_equals ys then [] else named_so n prelude) ++ E.counting false ys) h ∙ ap (λ zs. zs ++ []) k

-- the number is that of the root, or there is no root
abbrev pub IsRoot : Table → Specification → Option ℕ → Type 0
IsRoot t z None = HasNoRoot z 0
IsRoot t z (Some k) = (n : Text) × (root_of z ≡ Some n) × (slice_get t.texts k ≡ Some n)

module _ (t : Table) (known own : List Definition) (z : Specification) (prelude_read : AreDefinitions t known prelude) (text_read : AreDefinitions t own (definitions z)) where
  given_root : (n : Text) → z.given ≡ Some n → IsRoot t z (either_number (number_of_name t.texts n own) (number_of_name t.texts n known))
  given_root n e = by (number_of_name t.texts n own) (number_of_name t.texts n known) (named_number t n own (definitions z) text_read) (named_number t n known prelude prelude_read)
    where
      rooted : root_of z ≡ Some n
      rooted = ap (λ g. root_or g (rules z)) e

      by : (o p : Option ℕ) → IsNamed t.texts n (definitions z) o → IsNamed t.texts n prelude p → IsRoot t z (either_number o p)
      by (Some k) p h g = (n, rooted, h)
      by None (Some k) h g = (n, rooted, g)
      by None None h g = no_such rooted (nowhere n (definitions z) h g) refl

  first_root : z.given ≡ None → IsRoot t z (first_number own)
  first_root e = by own (rules z) refl text_read
    where
      by : (ds : List Definition) (rs : List S.Rule) → rules z ≡ rs → AreDefinitions t ds (definitions_in rs) → IsRoot t z (first_number ds)
      by [] [] f no_definitions = no_rule (ap (λ g. root_or g (rules z)) e ∙ ap F.first_name f) refl
      by [] (r ∷ rs) f h = elim h [ ]
      by (d ∷ ds) [] f h = elim h [ ]
      by (d ∷ ds) (r ∷ rs) f (further_definition h hs) = (name_in r, ap (λ g. root_or g (rules z)) e ∙ ap F.first_name f, h.name)

  pub is_root : (g : Option Text) → z.given ≡ g → IsRoot t z (root_number t.texts known own g)
  is_root (Some n) e = given_root n e
  is_root None e = first_root e
