-- What groups with occurrences have, of alternatives whose members are the same.
use Rattle.std.proofs.Common.{◌≡◌, ◌↔◌, ℕ, zero, suc, nat_eq, nat_le, Bool, true, false, if◌then◌else◌, ◌&&◌, ◌||◌, List, ◌++◌, map, Option, Some, None, refl, sym, ap, subst, ◌∙◌}
use Rattle.std.specs.List.{list_all}
use Rattle.cddl_meaning.specs.Alike as A
use Rattle.cddl_meaning.specs.Alike.{AlikeAll}
use Rattle.check_terms.specs.Texts.Occurrence.{most_in}
use Rattle.cddl_language.specs.Terms.{Text}
use Rattle.cddl_language.specs.Numbers as N
use Rattle.cddl_language.specs.Maps as M
use Rattle.check_terms.specs.Table.{Table}
use Rattle.alternatives.specs.declared.Bounds.{Bounds}
use Rattle.alternatives.specs.declared.Member.{Member}
use Rattle.alternatives.specs.Splices as S
use Rattle.check_groups.specs.Splices.Parts.{HasBounds}
use Rattle.check_groups.specs.Splices.Maps.{IsMember, AreAlternatives}

some_none : {A : Type 0} {x : A} → Some x ≡ None → ⊥
some_none e = cc

pub appended : {N O : Type 0} {R : N → O → Type 0} {xs us : List N} {ys vs : List O} → AlikeAll R xs ys → AlikeAll R us vs → AlikeAll R (xs ++ us) (ys ++ vs)
appended A.none k = k
appended (A.both h hs) k = A.both h (appended hs k)

same_all : {N O : Type 0} {R : N → O → Type 0} (f : N → Bool) (g : O → Bool) → ((x : N) (y : O) → R x y → f x ≡ g y) → {xs : List N} {ys : List O} → AlikeAll R xs ys → list_all f xs ≡ list_all g ys
same_all f g same A.none = refl
same_all f g same (A.both {n = x} {m = y} {ns = xs} {ms = ys} h hs) = ap (λ b. b && list_all f xs) (same x y h) ∙ ap (λ b. g y && b) (same_all f g same hs)

module _ (t : Table) where
  abbrev Same : List M.Member → List Member → Type 0
  Same ms ns = AlikeAll (IsMember t) ms ns

  put_after : {ms : List M.Member} {ns : List Member} {mss : M.Alternatives} {nss : S.Alternatives} → Same ms ns → AreAlternatives t mss nss → AreAlternatives t (map (λ us. ms ++ us) mss) (S.behind ns nss)
  put_after h A.none = A.none
  put_after h (A.both k ks) = A.both (appended h k) (put_after h ks)

  pub ways : {mss pss : M.Alternatives} {nss qss : S.Alternatives} → AreAlternatives t mss nss → AreAlternatives t pss qss → AreAlternatives t (M.ways mss pss) (S.ways nss qss)
  ways A.none k = A.none
  ways (A.both h hs) k = appended (put_after h k) (ways hs k)

  members : {mss : M.Alternatives} {nss : S.Alternatives} → AreAlternatives t mss nss → Same (M.members mss) (S.members nss)
  members A.none = A.none
  members (A.both h hs) = appended h (members hs)

  from : (k : ℕ) {m : M.Member} {n : Member} → IsMember t m n → IsMember t (M.from k m) (S.from k n)
  from k h = record { least = refl; most = refl; entry = h.entry }

  all_from : (k : ℕ) {ms : List M.Member} {ns : List Member} → Same ms ns → Same (map (M.from k) ms) (map (S.from k) ns)
  all_from k A.none = A.none
  all_from k (A.both h hs) = A.both (from k h) (all_from k hs)

  each_needed : {before ms : List M.Member} {ahead ns : List Member} → Same before ahead → Same ms ns → AreAlternatives t (M.each_needed before ms) (S.each_needed ahead ns)
  each_needed b A.none = A.none
  each_needed b (A.both h hs) = A.both (appended b (A.both (from 1 h) (all_from 0 hs))) (each_needed (appended b (A.both (from 0 h) A.none)) hs)

  -- What is asked of members and of alternatives.

  optional : (m : M.Member) (n : Member) → IsMember t m n → M.is_optional m ≡ S.is_optional n
  optional m n h = ap (λ k. nat_eq k 0) (sym h.least)

  open_by : (o : Option ℕ) → M.is_open (most_in o) ≡ S.is_open o
  open_by (Some k) = refl
  open_by None = refl

  is_open : (m : M.Member) (n : Member) → IsMember t m n → M.is_open m.most ≡ S.is_open n.bounds.most
  is_open m n h = ap M.is_open (sym h.most) ∙ open_by n.bounds.most

  single : {ms : List M.Member} {ns : List Member} → Same ms ns → M.is_single ms ≡ S.is_single ns
  single A.none = refl
  single (A.both h A.none) = ap (λ k. nat_le k 1) (sym h.least)
  single (A.both h (A.both k ks)) = refl

  needed : (ms : List M.Member) (ns : List Member) → Same ms ns → M.is_needed ms ≡ S.is_needed ns
  needed _ _ A.none = refl
  needed _ _ (A.both h A.none) = ap (λ k. nat_eq k 1) (sym h.least)
  needed _ _ (A.both h (A.both k ks)) = refl

  may_repeat : (ms : List M.Member) (ns : List Member) → Same ms ns → M.may_repeat ms ≡ S.may_repeat ns
  may_repeat ms ns h =
      ap (λ b. (b || list_all M.is_optional ms) && list_all (λ (m : M.Member). M.is_open m.most) ms) (single h)
      ∙ (ap (λ b. (S.is_single ns || b) && list_all (λ (m : M.Member). M.is_open m.most) ms) (same_all M.is_optional S.is_optional optional h)
      ∙ ap (λ b. (S.is_single ns || list_all S.is_optional ns) && b) (same_all (λ (m : M.Member). M.is_open m.most) (λ (n : Member). S.is_open n.bounds.most) is_open h))

  -- both are refused, or have the same
  pub data Alike : Option M.Alternatives → Option S.Alternatives → Type 0 where
    nones : Alike None None
    somes : {mss : M.Alternatives} {nss : S.Alternatives} → AreAlternatives t mss nss → Alike (Some mss) (Some nss)

  chosen : (b c : Bool) → b ≡ c → {mss : M.Alternatives} {nss : S.Alternatives} → AreAlternatives t mss nss → Alike (if b then Some mss else None) (if c then Some nss else None)
  chosen true true e h = somes h
  chosen true false e h = cc
  chosen false true e h = cc
  chosen false false e h = nones

  occurring : (least : ℕ) (most : Option ℕ) {mss : M.Alternatives} {nss : S.Alternatives} → AreAlternatives t mss nss → Alike (M.occurring least (most_in most) mss) (S.occurring least most nss)
  occurring zero (Some zero) h = nones
  occurring zero (Some (suc zero)) h = somes (appended h (A.both A.none A.none))
  occurring zero (Some (suc (suc k))) h = nones
  occurring zero None {mss = mss} {nss = nss} h = chosen (list_all M.may_repeat mss) (list_all S.may_repeat nss) (same_all M.may_repeat S.may_repeat may_repeat h) (A.both (all_from 0 (members h)) A.none)
  occurring (suc zero) (Some zero) h = nones
  occurring (suc zero) (Some (suc zero)) h = somes h
  occurring (suc zero) (Some (suc (suc k))) h = nones
  occurring (suc zero) None {mss = mss} {nss = nss} h = chosen (list_all M.is_needed mss) (list_all S.is_needed nss) (same_all M.is_needed S.is_needed needed h) (each_needed A.none (members h))
  occurring (suc (suc k)) most h = nones

  pub occurs : (o : Option Text) (b : Bounds) → HasBounds o b → {mss : M.Alternatives} {nss : S.Alternatives} → AreAlternatives t mss nss → Alike (M.occurs o mss) (S.occurring b.least b.most nss)
  occurs o b h {mss = mss} {nss = nss} a =
      subst (λ k. Alike (M.occurring k (N.most_of o) mss) (S.occurring b.least b.most nss)) h.least (subst (λ k. Alike (M.occurring b.least k mss) (S.occurring b.least b.most nss)) h.most (occurring b.least b.most a))

  -- either may occur so where the other may
  pub refused_alike : (o : Option Text) (b : Bounds) → HasBounds o b → (mss : M.Alternatives) (nss : S.Alternatives) → AreAlternatives t mss nss → (M.occurs o mss ≡ None) ↔ (S.occurring b.least b.most nss ≡ None)
  refused_alike o b h mss nss a = by (M.occurs o mss) (S.occurring b.least b.most nss) (occurs o b h a)
    where
      by : (p : Option M.Alternatives) (q : Option S.Alternatives) → Alike p q → (p ≡ None) ↔ (q ≡ None)
      by _ _ nones = ((λ e. refl), (λ e. refl))
      by _ _ (somes l) = ((λ e. absurd (some_none e)), (λ e. absurd (some_none e)))
