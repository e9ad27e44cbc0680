-- What the parts of rows stand for is what maps have.
use Rattle.std.proofs.Common.{◌≡◌, ℕ, zero, suc, List, [], ◌∷◌, ◌++◌, Option, Some, None, refl, sym, ap, subst, ◌∙◌, arith, slice_get}
use Rattle.std.proofs.lemmas.List.Elements.{Contains-append_left, Contains-append_right}
use Rattle.lists.proofs.Lemmas.{no_some, same_some, there, within}
use Rattle.cddl_meaning.specs.Alike as A
use Rattle.cddl_language.specs.Terms.{Text, Term, Ref, Group, sole, orelse, Entries, no_entries, entries, Entry, typed, keyed, grouped, Definition, alternatives, lone}
use Rattle.cddl_language.specs.Kinds.{Part, asks_type, names_group, opens, part_of}
use Rattle.cddl_language.specs.Maps as M
use Rattle.cddl_language.specs.Maps.{alternatives_of_both, combined, occurring_so, in_part, in_group, in_entries, in_entry, alternatives_in}
use Rattle.cddl_language.specs.MapFaults.{group_of_part}
use Rattle.cddl_language.specs.Reach.{Point, Reaches, points, group_points, entries_points, entry_points}
use Rattle.check_terms.specs.Table.{Table, Tree, Holds, part}
use Rattle.check_terms.specs.Trees.{IsGroup, IsEntries, IsEntry, group_tree, entries_tree, entry_tree}
use Rattle.check_instances.specs.Closed.Closed.{AreReached}
use Rattle.alternatives.specs.declared.Bounds.{Bounds}
use Rattle.alternatives.specs.declared.Part as P
use Rattle.alternatives.specs.declared.Part.TheVariants as PartV
use Rattle.alternatives.specs.Splices as S
use Rattle.alternatives.specs.Splices.{HasAlternatives, stands}
use Rattle.check_groups.specs.Splices.Parts.{HasBounds, IsOf, no_choices, choices_of, IsPartOfGroup, of_sole, of_orelse, IsPartOfEntries, of_none, of_more, IsPartOfEntry, of_type, of_named, of_keyed, of_grouped, AreParts}
use Rattle.check_groups.specs.Splices.Maps.{AreAlternatives}
use Rattle.check_groups.proofs.OfSplices.Alike.{Alike, nones, somes, appended, occurs, ways}
use Rattle.check_groups.proofs.OfSplices.Options.{both_combined, both_joined, lone_has, occurring_some}
use Rattle.check_groups.proofs.OfSplices.Through.{Carries, carried_part, group_is, in_is, names_in}

left : (xs : List Definition) (root : Text) (ps qs : List Point) → AreReached xs root (ps ++ qs) → AreReached xs root ps
left xs root ps qs h p i = h p (Contains-append_left ps qs p i)

right : (xs : List Definition) (root : Text) (ps qs : List Point) → AreReached xs root (ps ++ qs) → AreReached xs root qs
right xs root ps qs h p i = h p (Contains-append_right ps qs p i)

-- what an entry has that names or opens a group with these choices
module _ (xs : List Definition) (next : List Entries → Option M.Alternatives) where
  part_none : (p : Part) (o : Option Text) (mss : M.Alternatives) → group_of_part xs p ≡ None → occurring_so o (in_part xs next p) ≡ Some mss → ⊥
  part_none asks_type o mss i e = no_some e
  part_none (names_group r) o mss i e = no_some (sym i)
  part_none (opens r g) o mss i e = no_some (sym i)

  part_next : (p : Part) (ess : List Entries) → group_of_part xs p ≡ Some ess → in_part xs next p ≡ next ess
  part_next asks_type ess i = absurd (no_some i)
  part_next (names_group r) ess i = ap next (same_some i)
  part_next (opens r g) ess i = ap next (same_some i)

module _ (xs : List Definition) (root : Text) (t : Table) (parts : List P.Part) (are : AreParts xs root t parts) where
  -- The part stands for these alternatives.
  record StandsSo (n : ℕ) (mss : M.Alternatives) : Type 0 where
    own : S.Alternatives
    stands_for : HasAlternatives parts n own
    alike : AreAlternatives t mss own

  part_there : (n : ℕ) (x : Tree) → Holds t (Some n) x → (p : P.Part) × (slice_get parts n ≡ Some p)
  part_there n x (part e h a b) = there parts n (let l = within t.rows n _ e in let k = are.all in omega (arith, l, k))

  module _ (next : List Entries → Option M.Alternatives) (none : (mss : M.Alternatives) → next [] ≡ Some mss → mss ≡ []) (again : (n : ℕ) (g : Group) → IsGroup t n g → AreReached xs root (group_points g) → (mss : M.Alternatives) → next (alternatives g) ≡ Some mss → StandsSo n mss) where
    choices_stand : (n : ℕ) (ess : List Entries) → IsOf xs root t ess n → (mss : M.Alternatives) → next ess ≡ Some mss → StandsSo n mss
    choices_stand n _ no_choices mss e = record { own = []; stands_for = stands are.nothing S.nothing; alike = subst (λ ns. AreAlternatives t ns []) (sym (none mss e)) A.none }
    choices_stand n _ (choices_of g h r) mss e = again n g h r mss e

    occurring_stands : (n a : ℕ) (o : Option Text) (b : Bounds) → HasBounds o b → slice_get parts n ≡ Some (PartV.Occurs b a) → (own mss : M.Alternatives) → M.occurs o own ≡ Some mss → StandsSo a own → StandsSo n mss
    occurring_stands n a o b h i own mss e s = by (M.occurs o own) (S.occurring b.least b.most s.own) refl e (occurs t o b h s.alike)
      where
        by : (p : Option M.Alternatives) (q : Option S.Alternatives) → q ≡ S.occurring b.least b.most s.own → p ≡ Some mss → Alike t p q → StandsSo n mss
        by _ _ j k nones = absurd (no_some k)
        by _ _ j k (somes {nss = nss} l) = record { own = nss; stands_for = stands i (S.occurs s.stands_for (sym j)); alike = subst (λ ns. AreAlternatives t ns nss) (same_some k) l }

    mutual
      group_stands : (n : ℕ) (g : Group) → IsGroup t n g → AreReached xs root (group_points g) → (mss : M.Alternatives) → in_group xs next g ≡ Some mss → StandsSo n mss
      group_stands n (sole es) h r mss e = let c = part_there n (group_tree (sole es)) h in by (λ m k. entries_stand m es k r mss e) c.0 c.1 ((are.each n c.0 c.1).group (sole es) h)
        where
          by : ((m : ℕ) → IsEntries t m es → StandsSo m mss) → (p : P.Part) → slice_get parts n ≡ Some p → IsPartOfGroup t (sole es) p → StandsSo n mss
          by f p i (of_sole {n = m} k) = let s = f m k in record { own = s.own; stands_for = stands i (S.same s.stands_for); alike = s.alike }
      group_stands n (orelse g es) h r mss e =
          let c = part_there n (group_tree (orelse g es)) h in
          let j = both_joined (in_group xs next g) (in_entries xs next es) mss e in
          by j.0 j.1 j.4 (λ m k. group_stands m g k (left xs root (group_points g) (entries_points es) r) j.0 j.2) (λ m k. entries_stand m es k (right xs root (group_points g) (entries_points es) r) j.1 j.3) c.0 c.1 ((are.each n c.0 c.1).group (orelse g es) h)
        where
          by : (ms ns : M.Alternatives) → ms ++ ns ≡ mss → ((m : ℕ) → IsGroup t m g → StandsSo m ms) → ((m : ℕ) → IsEntries t m es → StandsSo m ns) → (p : P.Part) → slice_get parts n ≡ Some p → IsPartOfGroup t (orelse g es) p → StandsSo n mss
          by ms ns l f q p i (of_orelse {n = a} {m = b} k v) =
              let s = f a k in
              let u = q b v in
              record { own = s.own ++ u.own; stands_for = stands i (S.either s.stands_for u.stands_for); alike = subst (λ ws. AreAlternatives t ws (s.own ++ u.own)) l (appended s.alike u.alike) }

      entries_stand : (n : ℕ) (es : Entries) → IsEntries t n es → AreReached xs root (entries_points es) → (mss : M.Alternatives) → in_entries xs next es ≡ Some mss → StandsSo n mss
      entries_stand n no_entries h r mss e = let c = part_there n (entries_tree no_entries) h in by c.0 c.1 ((are.each n c.0 c.1).entries no_entries h)
        where
          by : (p : P.Part) → slice_get parts n ≡ Some p → IsPartOfEntries t no_entries p → StandsSo n mss
          by p i of_none = record { own = [] ∷ []; stands_for = stands i S.empty; alike = subst (λ ws. AreAlternatives t ws ([] ∷ [])) (same_some e) (A.both A.none A.none) }
      entries_stand n (entries es x d) h r mss e =
          let c = part_there n (entries_tree (entries es x d)) h in
          let j = both_combined (in_entries xs next es) (in_entry xs next x) mss e in
          by j.0 j.1 j.4 (λ m k. entries_stand m es k (left xs root (entries_points es) (entry_points x) r) j.0 j.2) (λ m k. entry_stands m x k (right xs root (entries_points es) (entry_points x) r) j.1 j.3) c.0 c.1 ((are.each n c.0 c.1).entries (entries es x d) h)
        where
          by : (ms ns : M.Alternatives) → M.ways ms ns ≡ mss → ((m : ℕ) → IsEntries t m es → StandsSo m ms) → ((m : ℕ) → IsEntry t m x → StandsSo m ns) → (p : P.Part) → slice_get parts n ≡ Some p → IsPartOfEntries t (entries es x d) p → StandsSo n mss
          by ms ns l f q p i (of_more {n = a} {m = b} k v) =
              let s = f a k in
              let u = q b v in
              record { own = S.ways s.own u.own; stands_for = stands i (S.both s.stands_for u.stands_for); alike = subst (λ ws. AreAlternatives t ws (S.ways s.own u.own)) l (ways t s.alike u.alike) }

      entry_stands : (n : ℕ) (x : Entry) → IsEntry t n x → AreReached xs root (entry_points x) → (mss : M.Alternatives) → in_entry xs next x ≡ Some mss → StandsSo n mss
      entry_stands n (typed o x) h r mss e = let c = part_there n (entry_tree (typed o x)) h in by c.0 c.1 ((are.each n c.0 c.1).entry (typed o x) h r)
        where
          by : (p : P.Part) → slice_get parts n ≡ Some p → IsPartOfEntry xs root t (typed o x) p → StandsSo n mss
          by p i (of_type k) = absurd (part_none xs next (part_of xs x) o mss k e)
          by p i (of_named {ess = ess} {b = b} {n = a} k l m) =
              let j = occurring_some o (in_part xs next (part_of xs x)) mss e in
              occurring_stands n a o b k i j.0 mss j.2 (choices_stand a ess m j.0 (sym (part_next xs next (part_of xs x) ess l) ∙ j.1))
      entry_stands n (keyed o q x) h r mss e = let c = part_there n (entry_tree (keyed o q x)) h in by c.0 c.1 ((are.each n c.0 c.1).entry (keyed o q x) h r)
        where
          by : (p : P.Part) → slice_get parts n ≡ Some p → IsPartOfEntry xs root t (keyed o q x) p → StandsSo n mss
          by p i (of_keyed {b = b} k) = record { own = S.entry_of n b; stands_for = stands i S.entry; alike = subst (λ ws. AreAlternatives t ws (S.entry_of n b)) (same_some e) (A.both (A.both (record { least = k.least; most = k.most; entry = (o, h) }) A.none) A.none) }
      entry_stands n (grouped o g) h r mss e =
          let c = part_there n (entry_tree (grouped o g)) h in
          let j = occurring_some o (in_group xs next g) mss e in
          by j.0 j.2 (λ m k. group_stands m g k r j.0 j.1) c.0 c.1 ((are.each n c.0 c.1).entry (grouped o g) h r)
        where
          by : (own : M.Alternatives) → M.occurs o own ≡ Some mss → ((m : ℕ) → IsGroup t m g → StandsSo m own) → (p : P.Part) → slice_get parts n ≡ Some p → IsPartOfEntry xs root t (grouped o g) p → StandsSo n mss
          by own l f p i (of_grouped {b = b} {n = a} k m) = occurring_stands n a o b k i own mss l (f a m)

  complete : (k n : ℕ) (g : Group) → IsGroup t n g → AreReached xs root (group_points g) → (mss : M.Alternatives) → in_group xs (names_in xs k) g ≡ Some mss → StandsSo n mss
  complete zero n g h r mss e = group_stands (names_in xs zero) (λ ms i. absurd (no_some i)) (λ m f a b ms i. absurd (no_some i)) n g h r mss e
  complete (suc zero) n g h r mss e = group_stands (names_in xs (suc zero)) (λ ms i. sym (same_some i)) (λ m f a b ms i. complete zero m f a b ms (sym (group_is xs zero f) ∙ i)) n g h r mss e
  complete (suc (suc k)) n g h r mss e = group_stands (names_in xs (suc (suc k))) (λ ms i. sym (same_some i)) (λ m f a b ms i. complete (suc k) m f a b ms (sym (group_is xs (suc k) f) ∙ i)) n g h r mss e

  pub choices_stand_so : (k n : ℕ) (ess : List Entries) → IsOf xs root t ess n → (mss : M.Alternatives) → alternatives_in xs k ess ≡ Some mss → (nss : S.Alternatives) × HasAlternatives parts n nss × AreAlternatives t mss nss
  choices_stand_so k n _ no_choices mss e = ([], stands are.nothing S.nothing, subst (λ ns. AreAlternatives t ns []) (same_some (sym (in_is xs k []) ∙ e)) A.none)
  choices_stand_so k n _ (choices_of g h r) mss e = let s = complete k n g h r mss (sym (group_is xs k g) ∙ e) in (s.own, s.stands_for, s.alike)

  complete_entry : (k n : ℕ) (x : Entry) → IsEntry t n x → AreReached xs root (entry_points x) → (mss : M.Alternatives) → in_entry xs (names_in xs k) x ≡ Some mss → StandsSo n mss
  complete_entry zero n x h r mss e = entry_stands (names_in xs zero) (λ ms i. absurd (no_some i)) (λ m f a b ms i. absurd (no_some i)) n x h r mss e
  complete_entry (suc zero) n x h r mss e = entry_stands (names_in xs (suc zero)) (λ ms i. sym (same_some i)) (λ m f a b ms i. complete zero m f a b ms (sym (group_is xs zero f) ∙ i)) n x h r mss e
  complete_entry (suc (suc k)) n x h r mss e = entry_stands (names_in xs (suc (suc k))) (λ ms i. sym (same_some i)) (λ m f a b ms i. complete (suc k) m f a b ms (sym (group_is xs (suc k) f) ∙ i)) n x h r mss e

  lone_is : (k : ℕ) (x : Entry) → alternatives_in xs k (lone x ∷ []) ≡ in_entry xs (names_in xs k) x
  lone_is k x = in_is xs k (lone x ∷ []) ∙ lone_has xs (names_in xs k) x

  pub entry_stands_so : (k n : ℕ) (x : Entry) → IsEntry t n x → AreReached xs root (entry_points x) → (mss : M.Alternatives) → alternatives_in xs k (lone x ∷ []) ≡ Some mss → (nss : S.Alternatives) × HasAlternatives parts n nss × AreAlternatives t mss nss
  entry_stands_so k n x h r mss e = let s = complete_entry k n x h r mss (sym (lone_is k x) ∙ e) in (s.own, s.stands_for, s.alike)

  -- What a part stands for, maps have, where one name more adds nothing.
  module _ (part_reached : (x : Term) (r : Ref) → AreReached xs root (points x) → part_of xs x ≡ names_group r → Reaches xs root r) (opening_reached : (x : Term) (r : Ref) (g : Group) → AreReached xs root (points x) → part_of xs x ≡ opens r g → Reaches xs root r) (m : ℕ) (back : Carries xs root (names_in xs (suc m)) (names_in xs m)) where
    abbrev next : List Entries → Option M.Alternatives
    next = names_in xs m

    record Has (o : Option M.Alternatives) (nss : S.Alternatives) : Type 0 where
      own : M.Alternatives
      is : o ≡ Some own
      alike : AreAlternatives t own nss

    joined_has : {o q : Option M.Alternatives} {nss oss : S.Alternatives} → Has o nss → Has q oss → Has (alternatives_of_both o q) (nss ++ oss)
    joined_has {o = o} {q = q} h k = record { own = h.own ++ k.own; is = ap (λ p. alternatives_of_both p q) h.is ∙ ap (alternatives_of_both (Some h.own)) k.is; alike = appended h.alike k.alike }

    combined_has : {o q : Option M.Alternatives} {nss oss : S.Alternatives} → Has o nss → Has q oss → Has (combined o q) (S.ways nss oss)
    combined_has {o = o} {q = q} h k = record { own = M.ways h.own k.own; is = ap (λ p. combined p q) h.is ∙ ap (combined (Some h.own)) k.is; alike = ways t h.alike k.alike }

    occurs_has : (o : Option Text) (b : Bounds) → HasBounds o b → {q : Option M.Alternatives} {nss oss : S.Alternatives} → Has q nss → S.occurring b.least b.most nss ≡ Some oss → Has (occurring_so o q) oss
    occurs_has o b h {q = q} {nss = nss} {oss = oss} k e = by (M.occurs o k.own) (S.occurring b.least b.most nss) refl e (occurs t o b h k.alike)
      where
        by : (p : Option M.Alternatives) (s : Option S.Alternatives) → M.occurs o k.own ≡ p → s ≡ Some oss → Alike t p s → Has (occurring_so o q) oss
        by _ _ i j nones = absurd (no_some j)
        by _ _ i j (somes {mss = mss} l) = record { own = mss; is = ap (occurring_so o) k.is ∙ i; alike = subst (AreAlternatives t mss) (same_some j) l }

    only_nothing : {n : ℕ} {p : P.Part} {nss : S.Alternatives} → S.Splices parts n p nss → p ≡ PartV.Nothing → nss ≡ []
    only_nothing S.entry e = cc
    only_nothing S.empty e = cc
    only_nothing S.nothing e = refl
    only_nothing (S.same s) e = cc
    only_nothing (S.both s u) e = cc
    only_nothing (S.either s u) e = cc
    only_nothing (S.occurs s i) e = cc

    is_nothing : {n : ℕ} {nss : S.Alternatives} → HasAlternatives parts n nss → slice_get parts n ≡ Some PartV.Nothing → nss ≡ []
    is_nothing (stands e s) i = only_nothing s (same_some (sym e ∙ i))

    choices_have : {n : ℕ} {nss : S.Alternatives} → HasAlternatives parts n nss → ((g : Group) → IsGroup t n g → AreReached xs root (group_points g) → Has (in_group xs next g) nss) → (ess : List Entries) → IsOf xs root t ess n → Has (alternatives_in xs m ess) nss
    choices_have {nss = nss} s told _ no_choices = record { own = []; is = in_is xs m []; alike = subst (AreAlternatives t []) (sym (is_nothing s are.nothing)) A.none }
    choices_have s told _ (choices_of g h r) = let k = told g h r in record { own = k.own; is = group_is xs m g ∙ k.is; alike = k.alike }

    named_has : (x : Term) (ess : List Entries) (nss : S.Alternatives) → AreReached xs root (points x) → group_of_part xs (part_of xs x) ≡ Some ess → Has (alternatives_in xs m ess) nss → Has (in_part xs next (part_of xs x)) nss
    named_has x ess nss r i k = record { own = k.own; is = carried_part xs root part_reached opening_reached (names_in xs (suc m)) next back x (part_of xs x) refl r k.own (part_next xs (names_in xs (suc m)) (part_of xs x) ess i ∙ k.is); alike = k.alike }

    mutual
      group_told : {n : ℕ} {nss : S.Alternatives} → HasAlternatives parts n nss → (g : Group) → IsGroup t n g → AreReached xs root (group_points g) → Has (in_group xs next g) nss
      group_told {n = n} (stands {p = p} e s) g h r = group_by g ((are.each n p e).group g h) s r

      group_by : {n : ℕ} {p : P.Part} {nss : S.Alternatives} → (g : Group) → IsPartOfGroup t g p → S.Splices parts n p nss → AreReached xs root (group_points g) → Has (in_group xs next g) nss
      group_by (sole es) (of_sole k) (S.same s) r = entries_told s es k r
      group_by (orelse g es) (of_orelse k l) (S.either s u) r = joined_has (group_told s g k (left xs root (group_points g) (entries_points es) r)) (entries_told u es l (right xs root (group_points g) (entries_points es) r))

      entries_told : {n : ℕ} {nss : S.Alternatives} → HasAlternatives parts n nss → (es : Entries) → IsEntries t n es → AreReached xs root (entries_points es) → Has (in_entries xs next es) nss
      entries_told {n = n} (stands {p = p} e s) es h r = entries_by es ((are.each n p e).entries es h) s r

      entries_by : {n : ℕ} {p : P.Part} {nss : S.Alternatives} → (es : Entries) → IsPartOfEntries t es p → S.Splices parts n p nss → AreReached xs root (entries_points es) → Has (in_entries xs next es) nss
      entries_by no_entries of_none S.empty r = record { own = [] ∷ []; is = refl; alike = A.both A.none A.none }
      entries_by (entries es x c) (of_more k l) (S.both s u) r = combined_has (entries_told s es k (left xs root (entries_points es) (entry_points x) r)) (entry_told u x l (right xs root (entries_points es) (entry_points x) r))

      entry_told : {n : ℕ} {nss : S.Alternatives} → HasAlternatives parts n nss → (x : Entry) → IsEntry t n x → AreReached xs root (entry_points x) → Has (in_entry xs next x) nss
      entry_told {n = n} (stands {p = p} e s) x h r = entry_by x h ((are.each n p e).entry x h r) s r

      entry_by : {n : ℕ} {p : P.Part} {nss : S.Alternatives} → (x : Entry) → IsEntry t n x → IsPartOfEntry xs root t x p → S.Splices parts n p nss → AreReached xs root (entry_points x) → Has (in_entry xs next x) nss
      entry_by (typed o x) h (of_type k) s r = elim s [ ]
      entry_by (typed o x) h (of_named {ess = ess} {b = b} k l a) (S.occurs {mss = mss} s i) r = occurs_has o b k (named_has x ess mss r l (choices_have s (λ g c d. group_told s g c d) ess a)) i
      entry_by (keyed o q x) h (of_keyed k) S.entry r = record { own = _; is = refl; alike = A.both (A.both (record { least = k.least; most = k.most; entry = (o, h) }) A.none) A.none }
      entry_by (grouped o g) h (of_grouped {b = b} k a) (S.occurs s i) r = occurs_has o b k (group_told s g a r) i

    pub choices_told : (n : ℕ) (ess : List Entries) → IsOf xs root t ess n → (nss : S.Alternatives) → HasAlternatives parts n nss → (mss : M.Alternatives) × (alternatives_in xs m ess ≡ Some mss) × AreAlternatives t mss nss
    choices_told n ess a nss s = let k = choices_have s (λ g h r. group_told s g h r) ess a in (k.own, k.is, k.alike)

    pub lone_told : (n : ℕ) (x : Entry) → IsEntry t n x → AreReached xs root (entry_points x) → (nss : S.Alternatives) → HasAlternatives parts n nss → (mss : M.Alternatives) × (alternatives_in xs m (lone x ∷ []) ≡ Some mss) × AreAlternatives t mss nss
    lone_told n x h r nss s = let k = entry_told s x h r in (k.own, lone_is m x ∙ k.is, k.alike)
