-- A language of finitely many names, of which what is asked ends, as one of numbers with ranks.
use Rattle.std.proofs.Common.{◌≡◌, ℕ, ◌+◌, ◌<◌, ◌≤◌, inl, inr, List, [], ◌∷◌, ◌++◌, map, Option, Some, None, refl, sym, ap, subst, slice_get, slice_index_or, arith}
use Rattle.lists.proofs.Lemmas.{IsIn, from_contains, in_left, in_right, to_contains}
use Rattle.cddl_meaning.specs.Alike.{AlikeAll, AlikeCounting, AlikeGroups, AlikeTypes, AreAlike}
use Rattle.cddl_meaning.specs.Forms.{Node, Plain, Ref, Choice, ArrayOf, TagOf, SimpleBy, MapOf, Both, Such, Holding, one_item, sequence_of_items, Group, Entry, GroupRef, Sequence, Alternatives, Repeat, Language, by_forms}
use Rattle.cddl_meaning.specs.Ranks.Ranked.{Name, a_type, a_group, IsFree, in_type, in_group, IsFreeInType, same_item, member, all_items, its_number, left_side, right_side, tested, holder, sequence_held, IsFreePart, front, past_empty, IsFreeInGroup, same_list, part, alternative, a_round, IsRanked}
use Rattle.cddl_meaning.proofs.Lemmas.{same_forms}
use Rattle.cddl_meaning.proofs.OfRanks.Lemmas.{AreFounded, HasGroupParts, HasTypeParts}
use Rattle.cddl_decided.proofs.Freedom.{FreeType, FreeItems, FreeGroup, free_type, free_items, free_group, free_types_alike, free_items_alike, free_group_alike}
use Rattle.cddl_decided.proofs.OfTables.Heights.{IsHeight, goes_down, height}
use Rattle.cddl_decided.proofs.OfTables.Numbered.{group_numbers, type_numbers}
use Rattle.cddl_decided.proofs.OfTables.Places.{IsPlaced, alike_at, alike_back, at_place, has_place, made, number_at, to_place, total, within_total}
use Rattle.cddl_decided.proofs.OfTables.Sure.{IsSure, at_all, list_sure}

-- back from what is free, form by form
module _ {N G : Type 0} where
  to_free : (f : Node N G) (m : N) → FreeType f m → IsFreeInType f (a_type m)
  to_free (Plain t) m h = absurd h
  to_free (Ref n) m e = subst (λ z. IsFreeInType {N = N} {G = G} (Ref n) (a_type z)) (sym e) same_item
  to_free (Choice ns) m i = member (to_contains ns m i)
  to_free (ArrayOf g) m h = absurd h
  to_free (TagOf t n) m h = absurd h
  to_free (SimpleBy n) m e = subst (λ z. IsFreeInType {N = N} {G = G} (SimpleBy n) (a_type z)) (sym e) its_number
  to_free (MapOf ess) m h = absurd h
  to_free (Both n o) m (inl e) = subst (λ z. IsFreeInType {N = N} {G = G} (Both n o) (a_type z)) (sym e) left_side
  to_free (Both n o) m (inr e) = subst (λ z. IsFreeInType {N = N} {G = G} (Both n o) (a_type z)) (sym e) right_side
  to_free (Such n t) m e = subst (λ z. IsFreeInType {N = N} {G = G} (Such n t) (a_type z)) (sym e) tested
  to_free (Holding n one_item o) m e = subst (λ z. IsFreeInType {N = N} {G = G} (Holding n one_item o) (a_type z)) (sym e) holder
  to_free (Holding n sequence_of_items o) m (inl e) = subst (λ z. IsFreeInType {N = N} {G = G} (Holding n sequence_of_items o) (a_type z)) (sym e) holder
  to_free (Holding n sequence_of_items o) m (inr e) = subst (λ z. IsFreeInType {N = N} {G = G} (Holding n sequence_of_items o) (a_type z)) (sym e) sequence_held

  to_items : (f : Node N G) (g : G) → FreeItems f g → IsFreeInType f (a_group g)
  to_items (ArrayOf h) g e = subst (λ z. IsFreeInType {N = N} {G = G} (ArrayOf h) (a_group z)) (sym e) all_items
  to_items (Plain t) g h = absurd h
  to_items (Ref n) g h = absurd h
  to_items (Choice ns) g h = absurd h
  to_items (TagOf t n) g h = absurd h
  to_items (SimpleBy n) g h = absurd h
  to_items (MapOf ess) g h = absurd h
  to_items (Both n o) g h = absurd h
  to_items (Such n t) g h = absurd h
  to_items (Holding n c o) g h = absurd h

  to_group : (l : Language N G) (f : Group N G) (h : G) → FreeGroup l f h → IsFreeInGroup l f h
  to_group l (Entry n) h k = absurd k
  to_group l (GroupRef g) h e = subst (λ z. IsFreeInGroup l (GroupRef g) z) (sym e) same_list
  to_group l (Sequence gs) h k = part k
  to_group l (Alternatives gs) h i = alternative (to_contains gs h i)
  to_group l (Repeat least most g) h e = subst (λ z. IsFreeInGroup l (Repeat least most g) z) (sym e) a_round

  nothing_free : (b : Name N G) → IsFreeInType (Choice []) b → ⊥
  nothing_free b (member c) = from_contains [] _ c

  none_free : (l : Language N G) (h : G) → IsFreeInGroup l (Alternatives []) h → ⊥
  none_free l h (alternative c) = from_contains [] h c

mapped : {A B : Type 0} (f : A → B) (xs : List A) (x : A) → IsIn x xs → IsIn (f x) (map f xs)
mapped f [] x h = absurd h
mapped f (y ∷ ys) x (inl e) = inl (ap f e)
mapped f (y ∷ ys) x (inr i) = inr (mapped f ys x i)

abbrev node_or_none : Option (Node ℕ ℕ) → Node ℕ ℕ
node_or_none (Some k) = k
node_or_none None = Choice []

abbrev group_or_none : Option (Group ℕ ℕ) → Group ℕ ℕ
group_or_none (Some k) = k
group_or_none None = Alternatives []

abbrev language_in : List (Node ℕ ℕ) → List (Group ℕ ℕ) → Language ℕ ℕ
language_in ks gs = record { type_at = λ i. node_or_none (slice_get ks i); group_at = λ i. group_or_none (slice_get gs i); counting = by_forms (λ i. node_or_none (slice_get ks i)) }

abbrev rank_in : List ℕ → List ℕ → Name ℕ ℕ → ℕ
rank_in hs gs (a_type i) = slice_index_or hs i 0
rank_in hs gs (a_group i) = slice_index_or gs i 0

module _ {N G : Type 0} (l : Language N G) (P : N → Type 0) (Q : G → Type 0) (f : AreFounded l P Q) where
  abbrev Has : Name N G → Type 0
  Has (a_type n) = P n
  Has (a_group g) = Q g

  free_in_type : (m : Node N G) (b : Name N G) → HasTypeParts P Q m → IsFreeInType m b → Has b
  free_in_type m b h same_item = h
  free_in_type m b h (member {ms = ms} {m = n} c) = at_all P ms h n (from_contains ms n c)
  free_in_type m b h all_items = h
  free_in_type m b h its_number = h
  free_in_type m b h left_side = h.0
  free_in_type m b h right_side = h.1
  free_in_type m b h tested = h
  free_in_type m b h holder = h.0
  free_in_type m b h sequence_held = h.1

  part_in : (gs : List G) (g : G) → IsFreePart l gs g → IsIn g gs
  part_in gs g front = inl refl
  part_in gs g (past_empty {gs = hs} e k) = inr (part_in hs g k)

  free_in_group : (m : Group N G) (g : G) → HasGroupParts P Q m → IsFreeInGroup l m g → Q g
  free_in_group m g h same_list = h
  free_in_group m g h (part {gs = gs} c) = at_all Q gs h g (part_in gs g c)
  free_in_group m g h (alternative {gs = gs} c) = at_all Q gs h g (from_contains gs g c)
  free_in_group m g h a_round = h

  goes_on : (a b : Name N G) → Has a → IsFree l a b → Has b
  goes_on a b h (in_type {n = n} k) = free_in_type (l.type_at n) b (f.types n h) k
  goes_on a b h (in_group {g = g} {h = m} k) = free_in_group (l.group_at g) m (f.groups g h) k

  -- these are all of them
  pub record AreTheNames (types : List N) (groups : List G) : Type 0 where
    pub all_types : (n : N) → P n → IsIn n types
    pub only_types : (n : N) → IsIn n types → P n
    pub all_groups : (g : G) → Q g → IsIn g groups
    pub only_groups : (g : G) → IsIn g groups → Q g

  module _ (types : List N) (groups : List G) (are : AreTheNames types groups) where
    abbrev Of : N → ℕ → Type 0
    Of n i = IsPlaced types n i

    abbrev OfGroup : G → ℕ → Type 0
    OfGroup g i = IsPlaced groups g i

    type_number : (n : N) → P n → (i : ℕ) × Of n i
    type_number n p = has_place types n (are.all_types n p)

    group_number : (g : G) → Q g → (i : ℕ) × OfGroup g i
    group_number g q = has_place groups g (are.all_groups g q)

    abbrev IsFormOf : N → Node ℕ ℕ → Type 0
    IsFormOf n k = AlikeTypes Of OfGroup (l.type_at n) k

    abbrev IsGroupFormOf : G → Group ℕ ℕ → Type 0
    IsGroupFormOf g k = AlikeGroups Of OfGroup (l.group_at g) k

    some_nodes : (ks : List (Node ℕ ℕ)) × AlikeAll IsFormOf types ks
    some_nodes = made IsFormOf types (λ n i. type_numbers P Q Of OfGroup type_number group_number (l.type_at n) (f.types n (are.only_types n i)))

    some_groups : (ks : List (Group ℕ ℕ)) × AlikeAll IsGroupFormOf groups ks
    some_groups = made IsGroupFormOf groups (λ g i. group_numbers P Q Of OfGroup type_number group_number (l.group_at g) (f.groups g (are.only_groups g i)))

    -- with these forms
    module _ (ks : List (Node ℕ ℕ)) (gs : List (Group ℕ ℕ)) (forms : AlikeAll IsFormOf types ks) (group_forms : AlikeAll IsGroupFormOf groups gs) where
      has_form : (n : N) (i : ℕ) → Of n i → AlikeTypes Of OfGroup (l.type_at n) (node_or_none (slice_get ks i))
      has_form n i c =
          let k = alike_at IsFormOf types ks forms i n (at_place types n i c) in
          subst (λ o. AlikeTypes Of OfGroup (l.type_at n) (node_or_none o)) (sym k.1) k.2

      has_group_form : (g : G) (i : ℕ) → OfGroup g i → AlikeGroups Of OfGroup (l.group_at g) (group_or_none (slice_get gs i))
      has_group_form g i c =
          let k = alike_at IsGroupFormOf groups gs group_forms i g (at_place groups g i c) in
          subst (λ o. AlikeGroups Of OfGroup (l.group_at g) (group_or_none o)) (sym k.1) k.2

      alike : l.counting ≡ by_forms l.type_at → AreAlike l (language_in ks gs) Of OfGroup
      alike e = record {
        types = has_form;
        groups = has_group_form;
        counting = subst (λ c. AlikeCounting Of c (by_forms (λ i. node_or_none (slice_get ks i)))) (sym e) (same_forms l.type_at (λ i. node_or_none (slice_get ks i)) Of OfGroup has_form);
      }

      -- and these heights
      module _ (e : l.counting ≡ by_forms l.type_at) (hs js : List ℕ) (heights : AlikeAll (λ n h. IsHeight l (a_type n) h) types hs) (group_heights : AlikeAll (λ g h. IsHeight l (a_group g) h) groups js) where
        type_height : (n : N) (i : ℕ) → Of n i → IsHeight l (a_type n) (slice_index_or hs i 0)
        type_height n i c =
            let h = alike_at (λ m k. IsHeight l (a_type m) k) types hs heights i n (at_place types n i c) in
            subst (λ k. IsHeight l (a_type n) k) (number_at hs i h.0 h.1) h.2

        group_height : (g : G) (i : ℕ) → OfGroup g i → IsHeight l (a_group g) (slice_index_or js i 0)
        group_height g i c =
            let h = alike_at (λ m k. IsHeight l (a_group m) k) groups js group_heights i g (at_place groups g i c) in
            subst (λ k. IsHeight l (a_group g) k) (number_at js i h.0 h.1) h.2

        from_type : (n : N) (i : ℕ) → Of n i → (b : Name ℕ ℕ) → IsFreeInType (node_or_none (slice_get ks i)) b → rank_in hs js b < slice_index_or hs i 0
        from_type n i c (a_type m) k =
            let q = free_types_alike l (language_in ks gs) Of OfGroup (alike e) (l.type_at n) (node_or_none (slice_get ks i)) (has_form n i c) m (free_type (node_or_none (slice_get ks i)) m k) in
            goes_down l (a_type n) (a_type q.0) (slice_index_or hs i 0) (slice_index_or hs m 0) (in_type (to_free (l.type_at n) q.0 q.1)) (type_height n i c) (type_height q.0 m q.2)
        from_type n i c (a_group m) k =
            let q = free_items_alike l (language_in ks gs) Of OfGroup (alike e) (l.type_at n) (node_or_none (slice_get ks i)) (has_form n i c) m (free_items (node_or_none (slice_get ks i)) m k) in
            goes_down l (a_type n) (a_group q.0) (slice_index_or hs i 0) (slice_index_or js m 0) (in_type (to_items (l.type_at n) q.0 q.1)) (type_height n i c) (group_height q.0 m q.2)

        from_group : (g : G) (i : ℕ) → OfGroup g i → (m : ℕ) → IsFreeInGroup (language_in ks gs) (group_or_none (slice_get gs i)) m → slice_index_or js m 0 < slice_index_or js i 0
        from_group g i c m k =
            let q = free_group_alike l (language_in ks gs) Of OfGroup (alike e) (l.group_at g) (group_or_none (slice_get gs i)) (has_group_form g i c) m (free_group (language_in ks gs) (group_or_none (slice_get gs i)) m k) in
            goes_down l (a_group g) (a_group q.0) (slice_index_or js i 0) (slice_index_or js m 0) (in_group (to_group l (l.group_at g) q.0 q.1)) (group_height g i c) (group_height q.0 m q.2)

        -- What is not there has nothing free in it.

        type_here : (i : ℕ) (o : Option (Node ℕ ℕ)) → slice_get ks i ≡ o → (b : Name ℕ ℕ) → IsFreeInType (node_or_none o) b → rank_in hs js b < slice_index_or hs i 0
        type_here i None is b k = absurd (nothing_free b k)
        type_here i (Some x) is b k =
            let n = alike_back IsFormOf types ks forms i x is in
            from_type n.0 i (to_place types n.0 i n.1) b (subst (λ (o : Option (Node ℕ ℕ)). IsFreeInType (node_or_none o) b) (sym is) k)

        group_here : (i : ℕ) (o : Option (Group ℕ ℕ)) → slice_get gs i ≡ o → (m : ℕ) → IsFreeInGroup (language_in ks gs) (group_or_none o) m → slice_index_or js m 0 < slice_index_or js i 0
        group_here i None is m k = absurd (none_free (language_in ks gs) m k)
        group_here i (Some x) is m k =
            let g = alike_back IsGroupFormOf groups gs group_forms i x is in
            from_group g.0 i (to_place groups g.0 i g.1) m (subst (λ (o : Option (Group ℕ ℕ)). IsFreeInGroup (language_in ks gs) (group_or_none o) m) (sym is) k)

        down : (a b : Name ℕ ℕ) → IsFree (language_in ks gs) a b → rank_in hs js b < rank_in hs js a
        down a b (in_type {n = i} k) = type_here i (slice_get ks i) refl b k
        down a b (in_group {g = i} {h = m} k) = group_here i (slice_get gs i) refl m k

        most : (a : Name ℕ ℕ) → rank_in hs js a ≤ total hs + total js
        most (a_type i) = let h = within_total hs i in omega (arith, h)
        most (a_group i) = let h = within_total js i in omega (arith, h)

        are_ranked : IsRanked (language_in ks gs) (rank_in hs js) (total hs + total js)
        are_ranked = record { down = down; most = most }

    listed : (a : Name N G) → Has a → IsIn a (map a_type types ++ map a_group groups)
    listed (a_type n) p = in_left (map a_type types) (map a_group groups) (a_type n) (mapped a_type types n (are.all_types n p))
    listed (a_group g) q = in_right (map a_type types) (map a_group groups) (a_group g) (mapped a_group groups g (are.all_groups g q))

    heights_of_types : IsSure ((hs : List ℕ) × AlikeAll (λ n h. IsHeight l (a_type n) h) types hs)
    heights_of_types = list_sure (λ n h. IsHeight l (a_type n) h) types (λ n i. height l Has goes_on (map a_type types ++ map a_group groups) listed (a_type n) (f.type_ends n (are.only_types n i)) (are.only_types n i))

    heights_of_groups : IsSure ((hs : List ℕ) × AlikeAll (λ g h. IsHeight l (a_group g) h) groups hs)
    heights_of_groups = list_sure (λ g h. IsHeight l (a_group g) h) groups (λ g i. height l Has goes_on (map a_type types ++ map a_group groups) listed (a_group g) (f.group_ends g (are.only_groups g i)) (are.only_groups g i))

    -- numbers in the place of the names, with ranks
    pub record IsNumbered (k : Language ℕ ℕ) (rank : Name ℕ ℕ → ℕ) (ranks : ℕ) : Type 0 where
      pub alike : AreAlike l k (λ n i. IsPlaced types n i) (λ g i. IsPlaced groups g i)
      pub ranked : IsRanked k rank ranks

    pub numbered : l.counting ≡ by_forms l.type_at → IsSure ((k : Language ℕ ℕ) × (rank : Name ℕ ℕ → ℕ) × (ranks : ℕ) × IsNumbered k rank ranks)
    numbered e =
        let ks = some_nodes in
        let gs = some_groups in
        λ n. heights_of_types (λ hs. heights_of_groups (λ js. n (language_in ks.0 gs.0, rank_in hs.0 js.0, total hs.0 + total js.0, record { alike = alike ks.0 gs.0 ks.1 gs.1 e; ranked = are_ranked ks.0 gs.0 ks.1 gs.1 e hs.0 js.0 hs.1 js.1 })))
