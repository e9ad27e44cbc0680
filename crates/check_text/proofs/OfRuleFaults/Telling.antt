-- The least offset of what is told at rules, from what is told at each.
use Rattle.std.proofs.Common.{◌≡◌, ◌⊎◌, inl, inr, ℕ, ◌+◌, ◌≤◌, List, [], ◌∷◌, length, map, Option, Some, None, sym, ap, subst, ◌∙◌, slice_get, drop}
use Rattle.std.specs.List.{Contains}
use Rattle.tree_nodes.specs.Syntax.Syntax as S
use Rattle.cddl_language.specs.Faults.{Specification, rules}
use Rattle.cddl_language.specs.Reading.{name_at, rules_of}
use Rattle.tree_nodes.specs.declared.tree.Tree.{Tree}
use Rattle.tree_nodes.specs.View.{view}
use Rattle.lists.specs.Least.{IsLeast, lesser_of}
use Rattle.lists.proofs.Lemmas.{same_least as alike, lesser_least as either}
use Rattle.check_text.proofs.OfRuleFaults.Rules.{at_first, first_or_later, later, lesser_last, lesser_none, none_in, none_left, rest_of, rule_at}

-- one of the rules has it at this offset
pub record OneOf (P : S.Rule → ℕ → Type 0) (rs : List S.Rule) (at : ℕ) : Type 0 where
  pub rule : S.Rule
  pub present : Contains rs rule
  pub fault : P rule at

-- What is so far the least, with the least in the rules from this place on, gives the least in all.
pub record Goes (P : S.Rule → ℕ → Type 0) (all : List S.Rule) (i : ℕ) (least : Option ℕ) : Type 0 where
  pub go : (o : Option ℕ) → IsLeast (OneOf P (drop i all)) o → IsLeast (OneOf P all) (lesser_of least o)

module _ (P : S.Rule → ℕ → Type 0) where
  pub begins : (all : List S.Rule) → Goes P all 0 None
  begins all = record { go = λ o h. h }

  first_or_further : (r : S.Rule) (more : List S.Rule) (a o : Option ℕ) → IsLeast (P r) a → IsLeast (OneOf P more) o → IsLeast (OneOf P (r ∷ more)) (lesser_of a o)
  first_or_further r more a o h k = alike (λ p. P r p ⊎ OneOf P more p) (OneOf P (r ∷ more)) to from (lesser_of a o) (either (P r) (OneOf P more) a o h k)
    where
      to : (p : ℕ) → P r p ⊎ OneOf P more p → OneOf P (r ∷ more) p
      to p (inl x) = record { rule = r; present = at_first r more; fault = x }
      to p (inr x) = record { rule = x.rule; present = later r x.rule more x.present; fault = x.fault }

      from : (p : ℕ) → OneOf P (r ∷ more) p → P r p ⊎ OneOf P more p
      from p x = by (first_or_later r more x.rule x.present)
        where
          by : (r ≡ x.rule) ⊎ Contains more x.rule → P r p ⊎ OneOf P more p
          by (inl e) = inl (subst (λ q. P q p) (sym e) x.fault)
          by (inr g) = inr (record { rule = x.rule; present = g; fault = x.fault })

  -- (starts: where the rules begin)
  pub goes_on : (all : List S.Rule) (starts : List ℕ) (i at : ℕ) (least a new : Option ℕ) → starts ≡ map name_at all → slice_get starts i ≡ Some at → ((r : S.Rule) → slice_get all i ≡ Some r → at ≡ name_at r → IsLeast (P r) a) → new ≡ lesser_of least a → Goes P all i least → Goes P all (i + 1) new
  goes_on all starts i at least a new same is told n g =
      let it = rule_at all starts i at same is in
      record {
        go = λ o k. subst (IsLeast (OneOf P all)) (sym (ap (λ x. lesser_of x o) n ∙ lesser_last least a o)) (g.go (lesser_of a o) (subst (λ rs. IsLeast (OneOf P rs) (lesser_of a o)) (sym (rest_of all i it.0 it.1)) (first_or_further it.0 (drop (i + 1) all) a o (told it.0 it.1 it.2) k)));
      }

  pub ends : (all : List S.Rule) (starts : List ℕ) (i : ℕ) (least : Option ℕ) → starts ≡ map name_at all → length starts ≤ i → Goes P all i least → IsLeast (OneOf P all) least
  ends all starts i least same l g = subst (IsLeast (OneOf P all)) (lesser_none least) (g.go None (subst (λ rs. (p : ℕ) → OneOf P rs p → ⊥) (sym (none_left all starts i same l)) none))
    where
      none : (p : ℕ) → OneOf P [] p → ⊥
      none p h = none_in h.rule h.present

-- the rules are those of a specification
pub in_rules : (tree : Tree) (z : Specification) → z.tree ≡ view tree → (P : S.Rule → ℕ → Type 0) (o : Option ℕ) → IsLeast (OneOf P (rules_of (view tree))) o → IsLeast (OneOf P (rules z)) o
in_rules tree z e P o h = subst (λ rs. IsLeast (OneOf P rs) o) (sym (ap rules_of e)) h
