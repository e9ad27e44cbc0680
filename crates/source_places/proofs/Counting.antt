-- How many alternatives the rules of a name make.
use Rattle.std.proofs.Common.{◌≡◌, ℕ, zero, suc, ◌+◌, drop, if◌then◌else◌, nat_eq, arith, Bool, true, false, List, [], ◌∷◌, Some, slice_get, refl, sym, ap, subst, ◌∙◌}
use Rattle.lists.proofs.Lemmas.{is_equal, is_unequal, no_some, same_some, test_equal, unequal_number}
use Rattle.tree_nodes.specs.Syntax.Syntax as S
use Rattle.cddl_language.specs.Language.{TypeName}
use Rattle.cddl_language.specs.Reading.{name_in}
use Rattle.cddl_language.specs.Terms.{Text}
use Rattle.check_terms.specs.Table.{AreDistinct, Table}
use Rattle.table_nodes.specs.declared.nodes.TypeId.{TypeId}
use Rattle.source_pieces.specs.Pieces.{alternatives_of}
use Rattle.source_places.specs.Places.{Make, another, no_rules, one_more}
use Rattle.source_pieces.specs.Rules.{IsRuleAt}
use Rattle.source_places.specs.States.{counted}
use Rattle.source_pieces.specs.declared.rules.RuleAt.{RuleAt}

module _ (rules : List S.Rule) (names : TypeName → TypeId → Type 0) (t : Table) (distinct : AreDistinct t.texts) where
  pub record AreLike (rs : List S.Rule) (xs : List RuleAt) : Type 0 where
    pub told : (i : ℕ) (a : RuleAt) → slice_get xs i ≡ Some a → (r : S.Rule) × (slice_get rs i ≡ Some r) × IsRuleAt t r a
    pub all : (i : ℕ) (r : S.Rule) → slice_get rs i ≡ Some r → (a : RuleAt) × (slice_get xs i ≡ Some a)

  like_tail : (r : S.Rule) (rs : List S.Rule) (a : RuleAt) (xs : List RuleAt) → AreLike (r ∷ rs) (a ∷ xs) → AreLike rs xs
  like_tail r rs a xs h = record { told = λ i b e. h.told (suc i) b e; all = λ i q e. h.all (suc i) q e }

  pub like_drop : (i : ℕ) (rs : List S.Rule) (xs : List RuleAt) → AreLike rs xs → AreLike (drop i rs) (drop i xs)
  like_drop zero rs xs h = h
  like_drop (suc i) [] [] h = h
  like_drop (suc i) [] (a ∷ xs) h = let w = h.told 0 a refl in absurd (no_some w.1)
  like_drop (suc i) (r ∷ rs) [] h = let w = h.all 0 r refl in absurd (no_some w.1)
  like_drop (suc i) (r ∷ rs) (a ∷ xs) h = like_drop i rs xs (like_tail r rs a xs h)

  module _ (n : ℕ) (y : Text) (e : slice_get t.texts n ≡ Some y) where
    is_named : (r : S.Rule) (a : RuleAt) → IsRuleAt t r a → a.number ≡ n → name_in r ≡ y
    is_named r a h f = same_some (sym h.number ∙ ap (slice_get t.texts) f ∙ e)

    pub has_number : (r : S.Rule) (a : RuleAt) → IsRuleAt t r a → name_in r ≡ y → a.number ≡ n
    has_number r a h f = distinct a.number n y (h.number ∙ ap Some f) e

    pub make : (rs : List S.Rule) (xs : List RuleAt) → AreLike rs xs → Make rules names y rs (counted n xs)
    make [] [] h = no_rules
    make [] (a ∷ xs) h = let w = h.told 0 a refl in absurd (no_some w.1)
    make (r ∷ rs) [] h = let w = h.all 0 r refl in absurd (no_some w.1)
    make (r ∷ rs) (a ∷ xs) h = by (make rs xs (like_tail r rs a xs h)) (nat_eq a.number n) refl
      where
        w : (q : S.Rule) × (Some r ≡ Some q) × IsRuleAt t q a
        w = h.told 0 a refl

        at : IsRuleAt t r a
        at = subst (λ (q : S.Rule). IsRuleAt t q a) (sym (same_some w.1)) w.2

        by : Make rules names y rs (counted n xs) → (b : Bool) → nat_eq a.number n ≡ b → Make rules names y (r ∷ rs) (counted n (a ∷ xs))
        by rest true f =
            let same : alternatives_of r + counted n xs ≡ counted n (a ∷ xs) = ap (λ (m : ℕ). m + counted n xs) (sym at.alternatives ∙ sym (ap (λ (b : Bool). if b then a.alternatives else 0) f)) in
            subst (λ (m : ℕ). Make rules names y (r ∷ rs) m) same (one_more (is_named r a at (is_equal a.number n f)) rest)
        by rest false f =
            let none : 0 + counted n xs ≡ counted n xs = omega arith in
            let same : counted n xs ≡ counted n (a ∷ xs) = sym (ap (λ (b : Bool). (if b then a.alternatives else 0) + counted n xs) f ∙ none) in
            subst (λ (m : ℕ). Make rules names y (r ∷ rs) m) same (another (λ g. is_unequal a.number n f (has_number r a at g)) rest)

    pub counted_so : (rs : List S.Rule) (xs : List RuleAt) (m : ℕ) → AreLike rs xs → Make rules names y rs m → counted n xs ≡ m
    counted_so [] [] m h no_rules = refl
    counted_so [] (a ∷ xs) m h d = let w = h.told 0 a refl in absurd (no_some w.1)
    counted_so (r ∷ rs) [] m h d = let w = h.all 0 r refl in absurd (no_some w.1)
    counted_so (r ∷ rs) (a ∷ xs) m h (one_more {k = j} f d) =
        let w = h.told 0 a refl in
        let at : IsRuleAt t r a = subst (λ (q : S.Rule). IsRuleAt t q a) (sym (same_some w.1)) w.2 in
        let equal : nat_eq a.number n ≡ true = test_equal a.number n (has_number r a at f) in
        ap (λ (b : Bool). (if b then a.alternatives else 0) + counted n xs) equal ∙ ap (λ (c : ℕ). c + counted n xs) at.alternatives ∙ ap (λ (c : ℕ). alternatives_of r + c) (counted_so rs xs j (like_tail r rs a xs h) d)
    counted_so (r ∷ rs) (a ∷ xs) m h (another f d) =
        let w = h.told 0 a refl in
        let at : IsRuleAt t r a = subst (λ (q : S.Rule). IsRuleAt t q a) (sym (same_some w.1)) w.2 in
        let other : nat_eq a.number n ≡ false = unequal_number a.number n (λ g. f (is_named r a at g)) in
        let none : 0 + counted n xs ≡ counted n xs = omega arith in
        ap (λ (b : Bool). (if b then a.alternatives else 0) + counted n xs) other ∙ none ∙ counted_so rs xs m (like_tail r rs a xs h) d
