-- Tables that stand for specifications.
use Rattle.std.specs.Prelude.{◌≡◌, ℕ, zero, suc, ◌<◌, ◌≤◌, List, [], ◌∷◌, map, Contains, codes, false}
use Rattle.std.proofs.Common.{None, refl, sym, subst, arith}
use Rattle.cbor_data.specs.Value.{Value}
use Rattle.cddl_meaning.specs.Alike.{AlikeTypes, plain, choices, both, none}
use Rattle.cddl_meaning.specs.Forms as F
use Rattle.cddl_meaning.specs.Forms.{Language}
use Rattle.cddl_meaning.specs.Judges.{Answer, Says}
use Rattle.cddl_meaning.proofs.Lemmas.{says_too, said_before}
use Rattle.cddl_meaning.proofs.Lemmas.{same_forms}
use Rattle.cddl_language.proofs.Basics.{beyond_two, none_in, only}
use Rattle.cddl_language.specs.Terms.{Text, Ref, Definition, call, no_terms, hash}
use Rattle.cddl_language.specs.Examples as E
use Rattle.cddl_language.specs.Kinds.{is_group}
use Rattle.cddl_language.specs.Language.{TypeName, GroupName, type, language, type_node, reference}
use Rattle.cddl_language.specs.Literals.{Values}
use Rattle.cddl_language.specs.Prelude.{prelude}
use Rattle.cddl_language.specs.Substitution.{type_choices}
use Rattle.cddl_language.specs.Reach.{Point, Reaches, at_root, onward, points_in}
use Rattle.cddl_language.specs.StandsFor.{StandsFor, HasNode, of_type}
use Rattle.cddl_meaning.specs.Ranks.Ranked.{Name, a_type, a_group, IsFree, in_type, in_group, member, alternative}

module _ (worth : Values) (ds : List Definition) (root : Text) (l : Language ℕ ℕ) (top : ℕ) (rank : Name ℕ ℕ → ℕ) (ranks : ℕ) (table : StandsFor worth ds root l top rank ranks) where
  pub says : (p w : ℕ) (x : Value) (a : Answer) → Says (language worth ds) (type_node worth ds (reference (call root no_terms))) p x a w → Says l (l.type_at top) p x a w
  says p w x a d = says_too (language worth ds) l _ _ table.alike d (table.alike.types (reference (call root no_terms)) top table.root_node)

  pub said : (p w : ℕ) (x : Value) (a : Answer) → Says l (l.type_at top) p x a w → Says (language worth ds) (type_node worth ds (reference (call root no_terms))) p x a w
  said p w x a d = said_before (language worth ds) l _ _ table.alike {n = reference (call root no_terms)} {m = top} table.root_node d

-- The table of `a = #`: a choice of one type, and that type.

meaning : type_choices E.anything (E.a_ref (codes "a")) ≡ hash (codes "#") ∷ []
unfolding prelude
meaning = refl

is_a_type : is_group E.anything (codes "a") ≡ false
unfolding prelude
is_a_type = refl

no_points : points_in E.anything (E.a_ref (codes "a")) ≡ []
unfolding prelude
no_points = refl

abbrev types : List (TypeName × ℕ)
types = (reference (E.a_ref (codes "a")), 0) ∷ (type (hash (codes "#")), 1) ∷ []

abbrev IsFor : TypeName → ℕ → Type 0
IsFor t n = Contains types (t, n)

abbrev NoGroup : GroupName → ℕ → Type 0
NoGroup t g = Contains {X = GroupName × ℕ} [] (t, g)

-- the same form, as a fact of a pair
abbrev HaveSameForm : Values → TypeName × ℕ → Type 0
HaveSameForm worth c = AlikeTypes IsFor NoGroup (type_node worth E.anything (c.0)) (E.one_test.type_at (c.1))

same_form : (worth : Values) (c : TypeName × ℕ) → Contains types c → HaveSameForm worth c
same_form worth c (zero, h, e) = subst (HaveSameForm worth) e (subst (λ ts. AlikeTypes IsFor NoGroup (F.Choice (map type ts)) (E.one_test.type_at 0)) (sym meaning) (choices (both (1, omega arith, refl) none)))
same_form worth c (suc zero, h, e) = subst (HaveSameForm worth) e plain
same_form worth c (suc (suc k), h, e) = absurd (beyond_two k h)

reached : (r : Ref) → Reaches E.anything (codes "a") r → r ≡ E.a_ref (codes "a")
reached r h = go r h
  where
    step : (r s : Ref) (p : Point) → r ≡ E.a_ref (codes "a") → Contains (points_in E.anything r) p → s ≡ E.a_ref (codes "a")
    step r s p e c = absurd (none_in (subst (λ ps. Contains ps p) no_points (subst (λ q. Contains (points_in E.anything q) p) e c)))

    go : (r : Ref) → Reaches E.anything (codes "a") r → r ≡ E.a_ref (codes "a")
    go r at_root = refl
    go s (onward {r = r} {p = p} h c f) = step r s p (go r h) c

goes_down : (a b : Name ℕ ℕ) → IsFree E.one_test a b → E.rank_at b < E.rank_at a
goes_down (a_type zero) b (in_type (member c)) = subst (λ k. E.rank_at (a_type k) < 1) (sym (only c)) (omega arith)
goes_down (a_type (suc m)) b (in_type h) = elim h [ ]
goes_down (a_group g) b (in_group (alternative c)) = absurd (none_in c)

up_to_one : (a : Name ℕ ℕ) → E.rank_at a ≤ 1
up_to_one (a_type zero) = omega arith
up_to_one (a_type (suc m)) = omega arith
up_to_one (a_group g) = omega arith

pub stands : (worth : Values) → StandsFor worth E.anything (codes "a") E.one_test 0 E.rank_at 1
stands worth = record {
  types = types;
  groups = [];
  alike = record { types = λ t n c. same_form worth (t, n) c; groups = λ t g c. absurd (none_in c); counting = same_forms (type_node worth E.anything) E.node_at IsFor NoGroup (λ t n c. same_form worth (t, n) c) };
  root_node = (0, omega arith, refl);
  instances = E.a_ref (codes "a") ∷ [];
  are_instances = record { all = λ r h. (0, omega arith, sym (reached r h)); only = λ r c. subst (Reaches E.anything (codes "a")) (sym (only c)) at_root; once = λ i j d h k. absurd (none_later i j h k) };
  have_nodes = λ r c. subst (HasNode E.anything types []) (sym (only c)) (of_type 0 is_a_type (0, omega arith, refl));
  ranked = record { down = goes_down; most = up_to_one };
}
  where
    none_later : (i j : ℕ) → i < j → j < 1 → ⊥
    none_later i j h k = omega arith
