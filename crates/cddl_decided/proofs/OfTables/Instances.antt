-- Where instances are few, it can't be that no list has them all.
use Rattle.std.proofs.Common.{ℕ, zero, suc, ◌+◌, ◌<◌, ◌≤◌, inl, inr, List, [], ◌∷◌, length, refl, sym, subst, arith}
use Rattle.lists.proofs.Lemmas.{IsIn, from_contains, to_contains}
use Rattle.cddl_language.specs.Terms.{Text, Ref, Definition, call, no_terms}
use Rattle.cddl_language.specs.Reach.{Point, Reaches, at_root, onward, points_in, ref_at}
use Rattle.cddl_language.specs.StandsFor.{AreInstances}
use Rattle.cddl_meaning.proofs.OfRanks.Lemmas.{AreAll}
use Rattle.cddl_decided.proofs.Apart.{AreApart, pairs}
use Rattle.cddl_decided.proofs.OfTables.Sure.{IsSure, all_sure, at_all}

module _ (ds : List Definition) (root : Text) where
  -- what is referred to in these is one of these
  abbrev StaysIn : List Ref → Ref → Type 0
  StaysIn rs r = AreAll (λ (p : Point). IsIn (ref_at p) rs) (points_in ds r)

  abbrev IsWhole : List Ref → Type 0
  IsWhole rs = IsIn (call root no_terms) rs × AreAll (StaysIn rs) rs

  has_all : (rs : List Ref) → IsWhole rs → (r : Ref) → Reaches ds root r → IsIn r rs
  has_all rs w r at_root = w.0
  has_all rs w s (onward {r = r} {p = p} h c e) = subst (λ q. IsIn q rs) (sym e) (at_all (λ q. IsIn (ref_at q) rs) (points_in ds r) (at_all (StaysIn rs) rs w.1 r (has_all rs w r h)) p (from_contains (points_in ds r) p c))

  abbrev AllReach : List Ref → Type 0
  AllReach rs = (r : Ref) → IsIn r rs → Reaches ds root r

  instances : (rs : List Ref) → AllReach rs → AreApart rs → IsWhole rs → AreInstances ds root rs
  instances rs all apart w = record { all = λ r h. to_contains rs r (has_all rs w r h); only = λ r c. all r (from_contains rs r c); once = pairs rs apart }

  and_this : (r : Ref) (rs : List Ref) → Reaches ds root r → AllReach rs → AllReach (r ∷ rs)
  and_this r rs h all q (inl e) = subst (λ z. Reaches ds root z) (sym e) h
  and_this r rs h all q (inr i) = all q i

  module _ (most : ℕ) (few : (rs : List Ref) → AllReach rs → AreApart rs → length rs ≤ most) where
    -- where nothing is known to be left out
    closing : (rs : List Ref) → AllReach rs → AreApart rs → ((r : Ref) → Reaches ds root r → IsSure (IsIn r rs)) → IsSure ((qs : List Ref) × AreInstances ds root qs)
    closing rs all apart there = λ n. there (call root no_terms) at_root (λ i. all_sure (StaysIn rs) rs (λ r j. all_sure (λ p. IsIn (ref_at p) rs) (points_in ds r) (λ p m. there (ref_at p) (onward (all r j) (to_contains (points_in ds r) p m) refl))) (λ c. n (rs, instances rs all apart (i, c))))

    -- from these on
    more : (k : ℕ) (rs : List Ref) → AllReach rs → AreApart rs → most < length rs + k → IsSure ((qs : List Ref) × AreInstances ds root qs)
    more zero rs all apart full = absurd (let h = few rs all apart in omega (arith, h, full))
    more (suc k) rs all apart full = λ n. closing rs all apart (λ r h. λ out. more k (r ∷ rs) (and_this r rs h all) (out, apart) (omega (arith, full)) n) n

    pub some_instances : IsSure ((rs : List Ref) × AreInstances ds root rs)
    some_instances = more (suc most) [] (λ r i. absurd i) tt (omega arith)
