-- Groups that have too many alternatives, themselves or in a part.
use Rattle.std.proofs.Common.{◌≡◌, ◌↔◌, ◌⊎◌, inl, inr, ℕ, List, [], ◌∷◌, ◌++◌, Some, sym, subst, ◌∙◌, arith, slice_get}
use Rattle.std.specs.Prelude.{Contains}
use Rattle.lists.proofs.Lemmas.{IsIn, in_cases, same_some}
use Rattle.cddl_language.specs.Terms.{Text, Group, sole, orelse, Entries, no_entries, entries, Entry, Definition, alternatives, lone, entry_list}
use Rattle.cddl_language.specs.Maps as M
use Rattle.cddl_language.specs.Maps.{alternatives_of}
use Rattle.cddl_language.specs.MapFaults as F
use Rattle.cddl_language.specs.MapFaults.{group_in, all_entries, IsSplicedInto, its_own, further, HasTooMany, whole, an_entry, its_group}
use Rattle.cddl_language.specs.Reach.{group_points, entries_points, entry_points}
use Rattle.check_terms.specs.Table.{Table}
use Rattle.check_terms.specs.Trees.{IsGroup, IsEntries, IsEntry, group_tree, entries_tree}
use Rattle.check_instances.specs.Closed.Closed.{AreReached}
use Rattle.alternatives.specs.declared.Bounds.{Bounds}
use Rattle.alternatives.specs.declared.Part as P
use Rattle.alternatives.specs.declared.Part.TheVariants as PartV
use Rattle.alternatives.specs.Splices.{Has, has_same, has_first, has_second, has_one, has_other, has_group}
use Rattle.alternatives.specs.Splices as S
use Rattle.alternatives.specs.Splices.{HasAlternatives, stands}
use Rattle.alternatives.specs.Summaries as Y
use Rattle.check_groups.specs.Splices.Parts.{IsOf, no_choices, choices_of, IsPartOfGroup, of_sole, of_orelse, IsPartOfEntries, of_none, of_more, AreParts}
use Rattle.check_maps.specs.MapFaults.Large as L
use Rattle.check_maps.specs.MapFaults.Large.{HasLarge, IsLarge}
use Rattle.check_maps.proofs.Entries.{in_choices, in_earlier, in_last, in_last_choice, in_lone, of_choices, of_one}
use Rattle.check_maps.proofs.OfMapFaults.Sizes.{too_many}
use Rattle.check_maps.proofs.OfMapFaults.Parts.{StandAlike, IsGroupAt, refused_at, keyed_at, group_at, entry_at, group_there, group_told, left, part_there, right}

-- choices that stand for too many
record IsMany (xs : List Definition) (ess : List Entries) : Type 0 where
  alternatives : M.Alternatives
  stands_for : alternatives_of xs ess ≡ Some alternatives
  too_many : F.AreTooMany alternatives

-- choices into which an entry is spliced that is too many, by itself or in its group
data HasMany (xs : List Definition) (ess : List Entries) : Type 0 where
  entry_many : {e : Entry} → IsSplicedInto xs e ess → IsMany xs (lone e ∷ []) → HasMany xs ess
  group_many : {e : Entry} {fss : List Entries} → IsSplicedInto xs e ess → group_in xs e ≡ Some fss → IsMany xs fss → HasMany xs ess

module _ (xs : List Definition) where
  wider_entry : (ess fss : List Entries) → ((e : Entry) → Contains (all_entries ess) e → Contains (all_entries fss) e) → (e : Entry) → IsSplicedInto xs e ess → IsSplicedInto xs e fss
  wider_entry ess fss f e (its_own c) = its_own (f e c)
  wider_entry ess fss f e (further {d = d} c g s) = further (f d c) g s

  wider : (ess fss : List Entries) → ((e : Entry) → Contains (all_entries ess) e → Contains (all_entries fss) e) → HasMany xs ess → HasMany xs fss
  wider ess fss f (entry_many {e = e} s m) = entry_many (wider_entry ess fss f e s) m
  wider ess fss f (group_many {e = e} s g m) = group_many (wider_entry ess fss f e s) g m

  inside : (ess fss : List Entries) (d : Entry) → Contains (all_entries fss) d → group_in xs d ≡ Some ess → HasMany xs ess → HasMany xs fss
  inside ess fss d c g (entry_many s m) = entry_many (further c g s) m
  inside ess fss d c g (group_many s h m) = group_many (further c g s) h m

  as_fault : (ess : List Entries) → HasMany xs ess → HasTooMany xs ess
  as_fault ess (entry_many s m) = record { part = _; is_part = an_entry s; alternatives = m.alternatives; stands_for = m.stands_for; too_many = m.too_many }
  as_fault ess (group_many s g m) = record { part = _; is_part = its_group s g; alternatives = m.alternatives; stands_for = m.stands_for; too_many = m.too_many }

module _ (xs : List Definition) (root : Text) (t : Table) (parts : List P.Part) (are : AreParts xs root t parts) where
  module _ (same : StandAlike xs root t parts) where
    group_is_many : (n : ℕ) (ess : List Entries) → IsOf xs root t ess n → IsLarge parts n → IsMany xs ess
    group_is_many n ess i l =
        let k = same.group_only n ess i l.alternatives l.stands_for in
        record { alternatives = k.0; stands_for = k.1; too_many = (too_many t k.0 l.alternatives k.2).1 l.too_many }

    entry_is_many : (n : ℕ) (e : Entry) → IsEntry t n e → AreReached xs root (entry_points e) → IsLarge parts n → IsMany xs (lone e ∷ [])
    entry_is_many n e h r l =
        let k = same.entry_only n e h r l.alternatives l.stands_for in
        record { alternatives = k.0; stands_for = k.1; too_many = (too_many t k.0 l.alternatives k.2).1 l.too_many }

    group_is_large : (n : ℕ) (ess : List Entries) → IsOf xs root t ess n → IsMany xs ess → IsLarge parts n
    group_is_large n ess i m =
        let k = same.group_some n ess i m.alternatives m.stands_for in
        record { alternatives = k.0; stands_for = k.1; too_many = (too_many t m.alternatives k.0 k.2).0 m.too_many }

    entry_is_large : (n : ℕ) (e : Entry) → IsEntry t n e → AreReached xs root (entry_points e) → IsMany xs (lone e ∷ []) → IsLarge parts n
    entry_is_large n e h r m =
        let k = same.entry_some n e h r m.alternatives m.stands_for in
        record { alternatives = k.0; stands_for = k.1; too_many = (too_many t m.alternatives k.0 k.2).0 m.too_many }

    -- What has a large part has too many.

    record ManyAt (n : ℕ) : Type 0 where
      group : (g : Group) → IsGroup t n g → AreReached xs root (group_points g) → HasMany xs (alternatives g)
      entries : (es : Entries) → IsEntries t n es → AreReached xs root (entries_points es) → HasMany xs (es ∷ [])
      entry : (e : Entry) → IsEntry t n e → AreReached xs root (entry_points e) → HasMany xs (lone e ∷ [])

    group_no_occurs : (g : Group) (b : Bounds) (a : ℕ) → IsPartOfGroup t g (PartV.Occurs b a) → ⊥
    group_no_occurs g b a h = elim h [ ]

    entries_no_occurs : (es : Entries) (b : Bounds) (a : ℕ) → IsPartOfEntries t es (PartV.Occurs b a) → ⊥
    entries_no_occurs es b a h = elim h [ ]

    by_group : (n : ℕ) (e : Entry) (b : Bounds) (a : ℕ) → IsEntry t n e → AreReached xs root (entry_points e) → IsGroupAt xs root t parts are e (PartV.Occurs b a) → IsLarge parts n ⊎ IsLarge parts a → HasMany xs (lone e ∷ [])
    by_group n e b a h r (group_at k hb i) (inl l) = entry_many (its_own (in_lone e)) (entry_is_many n e h r l)
    by_group n e b a h r (group_at {fss = fss} k hb i) (inr l) = group_many (its_own (in_lone e)) k (group_is_many a fss i l)

    nothing_large : (n : ℕ) → slice_get parts n ≡ Some PartV.Nothing → HasLarge parts n → ⊥
    nothing_large n e (L.group b a g h) = occurs_nothing (same_some (sym g ∙ e))
      where
        occurs_nothing : PartV.Occurs b a ≡ PartV.Nothing → ⊥
        occurs_nothing i = cc
    nothing_large n e (L.further {m = m} l h) = has_nothing l.part m (same_some (sym l.there ∙ e)) l.has
      where
        has_nothing : (p : P.Part) (m : ℕ) → p ≡ PartV.Nothing → Has p m → ⊥
        has_nothing _ _ i has_same = cc
        has_nothing _ _ i has_first = cc
        has_nothing _ _ i has_second = cc
        has_nothing _ _ i has_one = cc
        has_nothing _ _ i has_other = cc
        has_nothing _ _ i has_group = cc

    group_further : (g : Group) (p : P.Part) (m : ℕ) → IsPartOfGroup t g p → Has p m → ManyAt m → AreReached xs root (group_points g) → HasMany xs (alternatives g)
    group_further (sole es) _ m (of_sole k) has_same f r = f.entries es k r
    group_further (orelse g es) _ m (of_orelse k l) has_one f r = wider xs (alternatives g) (alternatives g ++ es ∷ []) (in_choices (alternatives g) es) (f.group g k (left xs root t parts are (group_points g) (entries_points es) r))
    group_further (orelse g es) _ m (of_orelse k l) has_other f r = wider xs (es ∷ []) (alternatives g ++ es ∷ []) (in_last_choice (alternatives g) es) (f.entries es l (right xs root t parts are (group_points g) (entries_points es) r))

    entries_further : (es : Entries) (p : P.Part) (m : ℕ) → IsPartOfEntries t es p → Has p m → ManyAt m → AreReached xs root (entries_points es) → HasMany xs (es ∷ [])
    entries_further no_entries _ m of_none h f r = elim h [ ]
    entries_further (entries es x c) _ m (of_more k l) has_first f r = wider xs (es ∷ []) (entries es x c ∷ []) (in_earlier es x c) (f.entries es k (left xs root t parts are (entries_points es) (entry_points x) r))
    entries_further (entries es x c) _ m (of_more k l) has_second f r = wider xs (lone x ∷ []) (entries es x c ∷ []) (in_last es x c) (f.entry x l (right xs root t parts are (entries_points es) (entry_points x) r))

    choices_further : (ess : List Entries) (m : ℕ) → IsOf xs root t ess m → HasLarge parts m → ManyAt m → HasMany xs ess
    choices_further _ m no_choices h f = absurd (nothing_large m are.nothing h)
    choices_further _ m (choices_of g k r) h f = f.group g k r

    entry_further : (e : Entry) (p : P.Part) (m : ℕ) → IsGroupAt xs root t parts are e p → Has p m → HasLarge parts m → ManyAt m → HasMany xs (lone e ∷ [])
    entry_further e _ m (refused_at k) h l f = elim h [ ]
    entry_further e _ m (keyed_at k) h l f = elim h [ ]
    entry_further e _ m (group_at {fss = fss} k hb i) has_group l f = inside xs fss (lone e ∷ []) e (in_lone e) k (choices_further fss m i l f)

    many_at : (n : ℕ) → HasLarge parts n → ManyAt n
    many_at n (L.group b a i h) = record {
      group = λ g k r. absurd (group_no_occurs g b a ((are.each n (PartV.Occurs b a) i).group g k));
      entries = λ es k r. absurd (entries_no_occurs es b a ((are.each n (PartV.Occurs b a) i).entries es k));
      entry = λ e k r. by_group n e b a k r (group_told xs root t parts are e (PartV.Occurs b a) ((are.each n (PartV.Occurs b a) i).entry e k r) r) h;
    }
    many_at n (L.further {m = m} l h) =
        let f = many_at m h in
        record {
          group = λ g k r. group_further g l.part m ((are.each n l.part l.there).group g k) l.has f r;
          entries = λ es k r. entries_further es l.part m ((are.each n l.part l.there).entries es k) l.has f r;
          entry = λ e k r. entry_further e l.part m (group_told xs root t parts are e l.part ((are.each n l.part l.there).entry e k r) r) l.has h f;
        }

    large_has : (n : ℕ) (g : Group) → IsGroup t n g → AreReached xs root (group_points g) → IsLarge parts n ⊎ HasLarge parts n → HasTooMany xs (alternatives g)
    large_has n g h r (inl l) =
        let m = group_is_many n (alternatives g) (choices_of g h r) l in
        record { part = alternatives g; is_part = whole; alternatives = m.alternatives; stands_for = m.stands_for; too_many = m.too_many }
    large_has n g h r (inr l) = as_fault xs (alternatives g) ((many_at n l).group g h r)

    -- What has too many has a large part.

    -- a row of the entry, from which the part goes on
    record RowBelow (n : ℕ) (e : Entry) : Type 0 where
      row : ℕ
      at : IsEntry t row e
      reached : AreReached xs root (entry_points e)
      up : HasLarge parts row → HasLarge parts n

    further_up : (n m : ℕ) (e : Entry) (p : P.Part) → slice_get parts n ≡ Some p → Has p m → RowBelow m e → RowBelow n e
    further_up n m e p i h b = record { row = b.row; at = b.at; reached = b.reached; up = λ l. L.further (record { part = p; there = i; has = h }) (b.up l) }

    entries_row : (n : ℕ) (es : Entries) (e : Entry) → IsEntries t n es → AreReached xs root (entries_points es) → IsIn e (entry_list es) → RowBelow n e
    entries_row n no_entries e h r i = absurd i
    entries_row n (entries es x c) e h r i =
        let p = part_there xs root t parts are n (entries_tree (entries es x c)) h in
        by p.0 p.1 ((are.each n p.0 p.1).entries (entries es x c) h) (in_cases (entry_list es) (x ∷ []) e i) (λ m k j. entries_row m es e k (left xs root t parts are (entries_points es) (entry_points x) r) j)
      where
        last : (m : ℕ) → IsEntry t m x → e ≡ x → RowBelow m e
        last m k j = record { row = m; at = subst (IsEntry t m) (sym j) k; reached = subst (λ d. AreReached xs root (entry_points d)) (sym j) (right xs root t parts are (entries_points es) (entry_points x) r); up = λ l. l }

        by : (p : P.Part) → slice_get parts n ≡ Some p → IsPartOfEntries t (entries es x c) p → IsIn e (entry_list es) ⊎ IsIn e (x ∷ []) → ((m : ℕ) → IsEntries t m es → IsIn e (entry_list es) → RowBelow m e) → RowBelow n e
        by p g (of_more {n = a} {m = b} k l) (inl j) f = further_up n a e p g has_first (f a k j)
        by p g (of_more {n = a} {m = b} k l) (inr (inl j)) f = further_up n b e p g has_second (last b l j)
        by p g (of_more {n = a} {m = b} k l) (inr (inr j)) f = absurd j

    group_row : (n : ℕ) (g : Group) (e : Entry) → IsGroup t n g → AreReached xs root (group_points g) → Contains (all_entries (alternatives g)) e → RowBelow n e
    group_row n (sole es) e h r c = let p = part_there xs root t parts are n (group_tree (sole es)) h in by p.0 p.1 ((are.each n p.0 p.1).group (sole es) h)
      where
        by : (p : P.Part) → slice_get parts n ≡ Some p → IsPartOfGroup t (sole es) p → RowBelow n e
        by p i (of_sole {n = m} k) = further_up n m e p i has_same (entries_row m es e k r (of_one es e c))
    group_row n (orelse g es) e h r c =
        let p = part_there xs root t parts are n (group_tree (orelse g es)) h in
        by p.0 p.1 ((are.each n p.0 p.1).group (orelse g es) h) (of_choices (alternatives g) es e c) (λ m k j. group_row m g e k (left xs root t parts are (group_points g) (entries_points es) r) j)
      where
        by : (p : P.Part) → slice_get parts n ≡ Some p → IsPartOfGroup t (orelse g es) p → Contains (all_entries (alternatives g)) e ⊎ IsIn e (entry_list es) → ((m : ℕ) → IsGroup t m g → Contains (all_entries (alternatives g)) e → RowBelow m e) → RowBelow n e
        by p i (of_orelse {n = a} {m = b} k l) (inl j) f = further_up n a e p i has_one (f a k j)
        by p i (of_orelse {n = a} {m = b} k l) (inr j) f = further_up n b e p i has_other (entries_row b es e l (right xs root t parts are (group_points g) (entries_points es) r) j)

    choices_row : (n : ℕ) (ess : List Entries) (e : Entry) → IsOf xs root t ess n → Contains (all_entries ess) e → RowBelow n e
    choices_row n _ e no_choices (k, l, i) = absurd (omega (arith, l))
    choices_row n _ e (choices_of g h r) c = group_row n g e h r c

    spliced_row : (e : Entry) (n : ℕ) (ess : List Entries) → IsOf xs root t ess n → IsSplicedInto xs e ess → RowBelow n e
    spliced_row e n ess i (its_own c) = choices_row n ess e i c
    spliced_row e n ess i (further {fss = fss} {d = d} c g s) =
        let b = choices_row n ess d i c in
        let k = group_there xs root t parts are b.row d b.at b.reached fss g in
        let m = spliced_row e k.1 fss k.4 s in
        record { row = m.row; at = m.at; reached = m.reached; up = λ l. b.up (L.further (record { part = PartV.Occurs k.0 k.1; there = k.2; has = has_group }) (m.up l)) }

    one_is_not_large : (n : ℕ) (b : Bounds) (mss : S.Alternatives) → S.Splices parts n (PartV.Entry b) mss → Y.AreTooMany mss → ⊥
    one_is_not_large n b _ S.entry (inl l) = omega (arith, l)
    one_is_not_large n b _ S.entry (inr l) = omega (arith, l)

    refused_is_not_large : (n : ℕ) (mss : S.Alternatives) → S.Splices parts n PartV.Refused mss → ⊥
    refused_is_not_large n mss s = elim s [ ]

    splices_so : (n : ℕ) (p : P.Part) (mss : S.Alternatives) → slice_get parts n ≡ Some p → HasAlternatives parts n mss → S.Splices parts n p mss
    splices_so n p mss e (stands {p = q} g s) = subst (λ o. S.Splices parts n o mss) (same_some (sym g ∙ e)) s

    entry_large : (n : ℕ) (e : Entry) (p : P.Part) → slice_get parts n ≡ Some p → IsGroupAt xs root t parts are e p → IsLarge parts n → HasLarge parts n
    entry_large n e _ g (refused_at k) l = absurd (refused_is_not_large n l.alternatives (splices_so n PartV.Refused l.alternatives g l.stands_for))
    entry_large n e _ g (keyed_at {b = b} k) l = absurd (one_is_not_large n b l.alternatives (splices_so n (PartV.Entry b) l.alternatives g l.stands_for) l.too_many)
    entry_large n e _ g (group_at {b = b} {a = a} k hb i) l = L.group b a g (inl l)

    part_large : (n : ℕ) (ess : List Entries) (part : List Entries) → IsOf xs root t ess n → F.IsPartOf xs ess part → IsMany xs part → IsLarge parts n ⊎ HasLarge parts n
    part_large n ess _ i whole m = inl (group_is_large n ess i m)
    part_large n ess _ i (an_entry {e = e} s) m =
        let b = spliced_row e n ess i s in
        let p = entry_at xs root t parts are b.row e b.at b.reached in
        inr (b.up (entry_large b.row e p.0 p.1 p.2 (entry_is_large b.row e b.at b.reached m)))
    part_large n ess _ i (its_group {e = e} {fss = fss} s g) m =
        let b = spliced_row e n ess i s in
        let k = group_there xs root t parts are b.row e b.at b.reached fss g in
        inr (b.up (L.group k.0 k.1 k.2 (inr (group_is_large k.1 fss k.4 m))))

    pub has_too_many : (n : ℕ) (g : Group) → IsGroup t n g → AreReached xs root (group_points g) → (IsLarge parts n ⊎ HasLarge parts n) ↔ HasTooMany xs (alternatives g)
    has_too_many n g h r = (large_has n g h r, (λ (k : HasTooMany xs (alternatives g)). part_large n (alternatives g) k.part (choices_of g h r) k.is_part (record { alternatives = k.alternatives; stands_for = k.stands_for; too_many = k.too_many })))
