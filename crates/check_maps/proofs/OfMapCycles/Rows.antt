-- The rows of entries that are spliced into a group, and ways to them.
use Rattle.std.proofs.Common.{◌≡◌, ◌⊎◌, inl, inr, ℕ, ◌<◌, List, [], ◌∷◌, ◌++◌, length, Option, Some, None, refl, sym, subst, ◌∙◌, arith, slice_get}
use Rattle.std.specs.Prelude.{Bool, Contains}
use Rattle.std.proofs.lemmas.List.Elements.{Contains-append_left, Contains-append_right}
use Rattle.lists.proofs.Lemmas.{IsIn, from_contains, from_flat, in_cases, in_left, in_right, same_some, there, to_contains, to_flat, within}
use Rattle.cddl_language.specs.Terms.{Text, Group, sole, orelse, Entries, no_entries, entries, Entry, typed, keyed, grouped, Definition, alternatives, lone, entry_list}
use Rattle.cddl_language.specs.MapFaults.{group_in, all_entries, IsSplicedInto, its_own, further}
use Rattle.cddl_language.specs.Reach.{Point, group_points, entries_points, entry_points}
use Rattle.check_terms.specs.Table.{Table, Tree, Holds, part}
use Rattle.check_terms.specs.Trees.{IsGroup, IsEntries, IsEntry, group_tree, entries_tree, entry_tree}
use Rattle.check_instances.specs.Closed.Closed.{AreReached}
use Rattle.alternatives.specs.declared.Bounds.{Bounds}
use Rattle.alternatives.specs.declared.Part as P
use Rattle.alternatives.specs.declared.Part.TheVariants as PartV
use Rattle.alternatives.specs.Splices.{Has, has_same, has_first, has_second, has_one, has_other, has_group}
use Rattle.check_groups.specs.Splices.Parts.{IsOf, no_choices, choices_of, IsPartOfGroup, of_sole, of_orelse, IsPartOfEntries, of_more, IsPartOfEntry, of_type, of_named, of_keyed, of_grouped, AreParts}
use Rattle.check_maps.specs.declared.spliced.listing.Spliced.{Spliced}
use Rattle.check_maps.specs.declared.spliced.owners.Owner.{Owner}
use Rattle.check_maps.specs.declared.map_cycles.layout.Layout.{Layout}
use Rattle.check_maps.specs.MapCycles.Edges.{nodes}
use Rattle.check_maps.proofs.OfMapCycles.Owners.{none_is_some}
use Rattle.check_maps.proofs.OfMapCycles.Ways.{Link, to_part, Way, onward}
use Rattle.check_maps.proofs.Entries.{of_one, of_choices}

-- What is spliced into a group of what is spliced in is spliced in.

module _ (xs : List Definition) where
  pub deeper : {d e : Entry} {ess fss : List Entries} → IsSplicedInto xs d ess → group_in xs d ≡ Some fss → IsSplicedInto xs e fss → IsSplicedInto xs e ess
  deeper (its_own c) h i = further c h i
  deeper (further c k s) h i = further c k (deeper s h i)

  pub wider : (ess fss : List Entries) → ((e : Entry) → Contains (all_entries ess) e → Contains (all_entries fss) e) → (e : Entry) → IsSplicedInto xs e ess → IsSplicedInto xs e fss
  wider ess fss f e (its_own c) = its_own (f e c)
  wider ess fss f e (further {d = d} c g s) = further (f d c) g s

pub row_within : (t : Table) (n : ℕ) (y : Tree) → Holds t (Some n) y → n < length t.rows
row_within t n y (part e h a b) = within t.rows n _ e

module _ (xs : List Definition) (root : Text) (t : Table) (parts : List P.Part) (are : AreParts xs root t parts) where
  pub left : (ps qs : List Point) → AreReached xs root (ps ++ qs) → AreReached xs root ps
  left ps qs h p i = h p (Contains-append_left ps qs p i)

  pub right : (ps qs : List Point) → AreReached xs root (ps ++ qs) → AreReached xs root qs
  right ps qs h p i = h p (Contains-append_right ps qs p i)

  pub part_there : (n : ℕ) (x : Tree) → Holds t (Some n) x → (p : P.Part) × (slice_get parts n ≡ Some p)
  part_there n x h = there parts n (let l = row_within t n x h in let k = are.all in omega (arith, l, k))

  -- the part of an entry: no group, or one
  pub data IsGroupAt (e : Entry) : P.Part → Type 0 where
    refused_at : group_in xs e ≡ None → IsGroupAt e PartV.Refused
    keyed_at : {b : Bounds} → group_in xs e ≡ None → IsGroupAt e (PartV.Entry b)
    group_at : {fss : List Entries} {b : Bounds} {a : ℕ} → group_in xs e ≡ Some fss → IsOf xs root t fss a → IsGroupAt e (PartV.Occurs b a)

  pub group_told : (e : Entry) (p : P.Part) → IsPartOfEntry xs root t e p → AreReached xs root (entry_points e) → IsGroupAt e p
  group_told (typed o x) _ (of_type k) r = refused_at k
  group_told (typed o x) _ (of_named h k i) r = group_at k i
  group_told (keyed o q x) _ (of_keyed h) r = keyed_at refl
  group_told (grouped o g) _ (of_grouped h i) r = group_at refl (choices_of g i r)

  pub group_there : (n : ℕ) (e : Entry) → IsEntry t n e → AreReached xs root (entry_points e) → (fss : List Entries) → group_in xs e ≡ Some fss → (b : Bounds) × (a : ℕ) × (slice_get parts n ≡ Some (PartV.Occurs b a)) × IsOf xs root t fss a
  group_there n e h r fss i = let c = part_there n (entry_tree e) h in by c.0 c.1 (group_told e c.0 ((are.each n c.0 c.1).entry e h r) r)
    where
      by : (p : P.Part) → slice_get parts n ≡ Some p → IsGroupAt e p → (b : Bounds) × (a : ℕ) × (slice_get parts n ≡ Some (PartV.Occurs b a)) × IsOf xs root t fss a
      by _ g (refused_at k) = none_is_some (sym k ∙ i)
      by _ g (keyed_at k) = none_is_some (sym k ∙ i)
      by _ g (group_at {b = b} {a = a} k m) = (b, a, g, subst (λ gss. IsOf xs root t gss a) (same_some (sym k ∙ i)) m)

  pub of_within : (ess : List Entries) (n : ℕ) → IsOf xs root t ess n → n < length parts
  of_within _ n no_choices = let k = are.all in omega (arith, k)
  of_within _ n (choices_of g h r) = let l = row_within t n (group_tree g) h in let k = are.all in omega (arith, l, k)

  pub row_inside : (n : ℕ) (x : Tree) → Holds t (Some n) x → n < length parts
  row_inside n x h = let l = row_within t n x h in let k = are.all in omega (arith, l, k)

  module _ (l : Layout) (all : l.parts ≡ length parts) (targets : List (Option Owner)) (spliced : List Spliced) where
    abbrev On : ℕ → ℕ → Type 0
    On = Way l parts targets spliced

    pub node_within : (n : ℕ) → n < length parts → n < nodes l
    node_within n h = omega (arith, h, all)

    pub part_link : (n m : ℕ) (p : P.Part) → slice_get parts n ≡ Some p → Has p m → m < length parts → Link l parts targets spliced n m
    part_link n m p i h k = let w = within parts n p i in record { step = to_part (omega (arith, w, all)) i h; begins = node_within n w; ends = node_within m k }

    -- a row of the entry, to which the part leads
    pub record RowBelow (n : ℕ) (e : Entry) : Type 0 where
      pub row : ℕ
      pub at : IsEntry t row e
      pub reached : AreReached xs root (entry_points e)
      pub way : (o : ℕ) → On row o → On n o

    further_up : (n m : ℕ) (e : Entry) (p : P.Part) → slice_get parts n ≡ Some p → Has p m → m < length parts → RowBelow m e → RowBelow n e
    further_up n m e p i h k b = record { row = b.row; at = b.at; reached = b.reached; way = λ o w. onward (part_link n m p i h k) (b.way o w) }

    entries_row : (n : ℕ) (es : Entries) (e : Entry) → IsEntries t n es → AreReached xs root (entries_points es) → IsIn e (entry_list es) → RowBelow n e
    entries_row n no_entries e h r i = absurd i
    entries_row n (entries es x c) e h r i =
        let p = part_there n (entries_tree (entries es x c)) h in
        by p.0 p.1 ((are.each n p.0 p.1).entries (entries es x c) h) (in_cases (entry_list es) (x ∷ []) e i) (λ m k j. entries_row m es e k (left (entries_points es) (entry_points x) r) j)
      where
        last : (m : ℕ) → IsEntry t m x → e ≡ x → RowBelow m e
        last m k j = record { row = m; at = subst (IsEntry t m) (sym j) k; reached = subst (λ d. AreReached xs root (entry_points d)) (sym j) (right (entries_points es) (entry_points x) r); way = λ o w. w }

        by : (p : P.Part) → slice_get parts n ≡ Some p → IsPartOfEntries t (entries es x c) p → IsIn e (entry_list es) ⊎ IsIn e (x ∷ []) → ((m : ℕ) → IsEntries t m es → IsIn e (entry_list es) → RowBelow m e) → RowBelow n e
        by p g (of_more {n = a} {m = b} k l) (inl j) f = further_up n a e p g has_first (row_inside a (entries_tree es) k) (f a k j)
        by p g (of_more {n = a} {m = b} k l) (inr (inl j)) f = further_up n b e p g has_second (row_inside b (entry_tree x) l) (last b l j)
        by p g (of_more {n = a} {m = b} k l) (inr (inr j)) f = absurd j

    group_row : (n : ℕ) (g : Group) (e : Entry) → IsGroup t n g → AreReached xs root (group_points g) → Contains (all_entries (alternatives g)) e → RowBelow n e
    group_row n (sole es) e h r c = let p = part_there n (group_tree (sole es)) h in by p.0 p.1 ((are.each n p.0 p.1).group (sole es) h)
      where
        by : (p : P.Part) → slice_get parts n ≡ Some p → IsPartOfGroup t (sole es) p → RowBelow n e
        by p i (of_sole {n = m} k) = further_up n m e p i has_same (row_inside m (entries_tree es) k) (entries_row m es e k r (of_one es e c))
    group_row n (orelse g es) e h r c =
        let p = part_there n (group_tree (orelse g es)) h in
        by p.0 p.1 ((are.each n p.0 p.1).group (orelse g es) h) (of_choices (alternatives g) es e c) (λ m k j. group_row m g e k (left (group_points g) (entries_points es) r) j)
      where
        by : (p : P.Part) → slice_get parts n ≡ Some p → IsPartOfGroup t (orelse g es) p → Contains (all_entries (alternatives g)) e ⊎ IsIn e (entry_list es) → ((m : ℕ) → IsGroup t m g → Contains (all_entries (alternatives g)) e → RowBelow m e) → RowBelow n e
        by p i (of_orelse {n = a} {m = b} k l) (inl j) f = further_up n a e p i has_one (row_inside a (group_tree g) k) (f a k j)
        by p i (of_orelse {n = a} {m = b} k l) (inr j) f = further_up n b e p i has_other (row_inside b (entries_tree es) l) (entries_row b es e l (right (group_points g) (entries_points es) r) j)

    choices_row : (n : ℕ) (ess : List Entries) (e : Entry) → IsOf xs root t ess n → Contains (all_entries ess) e → RowBelow n e
    choices_row n _ e no_choices (k, l, i) = absurd (omega (arith, l))
    choices_row n _ e (choices_of g h r) c = group_row n g e h r c

    pub spliced_row : (e : Entry) (n : ℕ) (ess : List Entries) → IsOf xs root t ess n → IsSplicedInto xs e ess → RowBelow n e
    spliced_row e n ess i (its_own c) = choices_row n ess e i c
    spliced_row e n ess i (further {fss = fss} {d = d} c g s) =
        let b = choices_row n ess d i c in
        let k = group_there b.row d b.at b.reached fss g in
        let m = spliced_row e k.1 fss k.3 s in
        record { row = m.row; at = m.at; reached = m.reached; way = λ o w. b.way o (onward (part_link b.row k.1 (PartV.Occurs k.0 k.1) k.2 has_group (of_within fss k.1 k.3)) (m.way o w)) }
