-- The ranks of the types and groups that are made go down.
use Rattle.std.proofs.Common.{◌≡◌, ℕ, zero, suc, ◌+◌, ◌*◌, ◌<◌, ◌≤◌, List, [], ◌∷◌, map, Option, Some, None, slice_get, slice_index_or, refl, sym, ap, subst, arith}
use Rattle.cddl_meaning.specs.Ranks.Ranked.{Name, a_type, a_group, IsFree, in_type, in_group, IsFreeInType, IsRanked}
use Rattle.cddl_language.specs.Language.{TypeName, GroupName}
use Rattle.check_terms.specs.Table.{Table}
use Rattle.table_nodes.specs.Nodes.{language_in, type_or_none, group_or_none}
use Rattle.table_nodes.specs.Ranks.{rank_in, type_rank_in, group_rank_in}
use Rattle.table_nodes.specs.declared.nodes.Group.{Group}
use Rattle.table_nodes.specs.declared.nodes.GroupId.{GroupId}
use Rattle.table_nodes.specs.declared.nodes.Node.{Node}
use Rattle.table_nodes.specs.declared.nodes.TypeId.{TypeId}
use Rattle.check_recursion.specs.declared.graph.Ranks.{Ranks}
use Rattle.check_recursion.specs.declared.node.Node.TheVariants as N
use Rattle.check_recursion.specs.Order.{rank, bound}
use Rattle.table_making.specs.Basis.{Sense}
use Rattle.table_making.specs.Nodes.{AreNodes, IsNameOfType, IsNameOfGroup}
use Rattle.table_making.specs.declared.making.Nodes.{Nodes}
use Rattle.table_making.specs.declared.origin.GroupOrigin.{GroupOrigin}
use Rattle.table_making.specs.declared.origin.GroupOrigin.TheVariants as G
use Rattle.table_making.specs.declared.origin.TypeOrigin.{TypeOrigin}
use Rattle.table_making.specs.declared.origin.TypeOrigin.TheVariants as T
use Rattle.cddl_table.specs.Ranks.{type_rank, group_rank}
use Rattle.cddl_table.proofs.Lists.{as_long}
use Rattle.cddl_decided.proofs.Lemmas.{FreeType, FreeItems, FreeGroup, free_type, free_items, free_group, free_types_alike, free_items_alike, free_group_alike}
use Rattle.cddl_table.proofs.Down.{Given}
use Rattle.cddl_table.proofs.Types.{types_down, items_down}
use Rattle.cddl_table.proofs.Groups.{groups_down}

module _ {A : Type 0} (f : A → ℕ) where
  read : (xs : List A) (i : ℕ) (x : A) → slice_get xs i ≡ Some x → slice_index_or (map f xs) i 0 ≡ f x
  read [] i x e = cc
  read (y ∷ xs) zero x e = ap f same
    where
      same : y ≡ x
      same = cc
  read (y ∷ xs) (suc i) x e = read xs i x e

  within : (most : ℕ) → ((x : A) → f x ≤ most) → (xs : List A) (i : ℕ) → slice_index_or (map f xs) i 0 ≤ most
  within most h [] i = omega arith
  within most h (y ∷ xs) zero = h y
  within most h (y ∷ xs) (suc i) = within most h xs i

less : (a b c d : ℕ) → a ≡ b → c ≡ d → b < d → a < c
less a b c d e g h = omega (arith, e, g, h)

module _ (s : Sense) (t : Table) (r : Ranks) (given : Given s t r) (v : Nodes) (nodes : AreNodes s t v) where
  abbrev types : List ℕ
  types = map (type_rank r) v.type_origins.items

  abbrev groups : List ℕ
  groups = map (group_rank r) v.group_origins.items

  -- a name for a type that is there
  type_name : (i : TypeId) (x : Node) → slice_get v.types.items i.number ≡ Some x → (n : TypeName) × IsNameOfType s t v n i
  type_name i x e =
      let o = as_long v.types.items v.type_origins.items i.number x nodes.type_count e in
      let n = nodes.types_named i.number o.0 o.1 in
      (n.0, record { origin = o.0; there = o.1; named = n.1 })

  group_name : (i : GroupId) (x : Group) → slice_get v.groups.items i.number ≡ Some x → (n : GroupName) × IsNameOfGroup s t v n i
  group_name i x e =
      let o = as_long v.groups.items v.group_origins.items i.number x nodes.group_count e in
      let n = nodes.groups_named i.number o.0 o.1 in
      (n.0, record { origin = o.0; there = o.1; named = n.1 })

  type_to_type : (i m : TypeId) (n : TypeName) → IsNameOfType s t v n i → FreeType ((language_in v.types.items v.groups.items).type_at i) m → type_rank_in types m < type_rank_in types i
  type_to_type i m n h f =
      let q = free_types_alike _ _ _ _ nodes.alike _ _ (nodes.alike.types n i (nodes.types_found n i h)) m f in
      let k = nodes.types_told q.0 m q.2 in
      less _ _ _ _ (read (type_rank r) v.type_origins.items m.number k.origin k.there) (read (type_rank r) v.type_origins.items i.number h.origin h.there) (types_down s t r given n h.origin h.named q.0 k.origin q.1 k.named)

  type_to_group : (i : TypeId) (m : GroupId) (n : TypeName) → IsNameOfType s t v n i → FreeItems ((language_in v.types.items v.groups.items).type_at i) m → group_rank_in groups m < type_rank_in types i
  type_to_group i m n h f =
      let q = free_items_alike _ _ _ _ nodes.alike _ _ (nodes.alike.types n i (nodes.types_found n i h)) m f in
      let k = nodes.groups_told q.0 m q.2 in
      less _ _ _ _ (read (group_rank r) v.group_origins.items m.number k.origin k.there) (read (type_rank r) v.type_origins.items i.number h.origin h.there) (items_down s t r given n h.origin h.named q.0 k.origin q.1 k.named)

  group_to_group : (i m : GroupId) (n : GroupName) → IsNameOfGroup s t v n i → FreeGroup (language_in v.types.items v.groups.items) ((language_in v.types.items v.groups.items).group_at i) m → group_rank_in groups m < group_rank_in groups i
  group_to_group i m n h f =
      let q = free_group_alike _ _ _ _ nodes.alike _ _ (nodes.alike.groups n i (nodes.groups_found n i h)) m f in
      let k = nodes.groups_told q.0 m q.2 in
      less _ _ _ _ (read (group_rank r) v.group_origins.items m.number k.origin k.there) (read (group_rank r) v.group_origins.items i.number h.origin h.there) (groups_down s t r given n h.origin h.named q.0 k.origin q.1 k.named)

  -- What is not there has nothing free in it.

  type_here : (i m : TypeId) (o : Option Node) → slice_get v.types.items i.number ≡ o → FreeType (type_or_none o) m → type_rank_in types m < type_rank_in types i
  type_here i m None e f = absurd f
  type_here i m (Some x) e f = let n = type_name i x e in type_to_type i m n.0 n.1 (subst (λ (o : Option Node). FreeType (type_or_none o) m) (sym e) f)

  items_here : (i : TypeId) (m : GroupId) (o : Option Node) → slice_get v.types.items i.number ≡ o → FreeItems (type_or_none o) m → group_rank_in groups m < type_rank_in types i
  items_here i m None e f = absurd f
  items_here i m (Some x) e f = let n = type_name i x e in type_to_group i m n.0 n.1 (subst (λ (o : Option Node). FreeItems (type_or_none o) m) (sym e) f)

  group_here : (i m : GroupId) (o : Option Group) → slice_get v.groups.items i.number ≡ o → FreeGroup (language_in v.types.items v.groups.items) (group_or_none o) m → group_rank_in groups m < group_rank_in groups i
  group_here i m None e f = absurd f
  group_here i m (Some x) e f = let n = group_name i x e in group_to_group i m n.0 n.1 (subst (λ (o : Option Group). FreeGroup (language_in v.types.items v.groups.items) (group_or_none o) m) (sym e) f)

  down_from_type : (i : TypeId) (b : Name TypeId GroupId) → IsFreeInType ((language_in v.types.items v.groups.items).type_at i) b → rank_in types groups b < type_rank_in types i
  down_from_type i (a_type m) f = type_here i m (slice_get v.types.items i.number) refl (free_type ((language_in v.types.items v.groups.items).type_at i) m f)
  down_from_type i (a_group m) f = items_here i m (slice_get v.types.items i.number) refl (free_items ((language_in v.types.items v.groups.items).type_at i) m f)

  down : (a b : Name TypeId GroupId) → IsFree (language_in v.types.items v.groups.items) a b → rank_in types groups b < rank_in types groups a
  down a b (in_type {n = i} f) = down_from_type i b f
  down a b (in_group {g = i} {h = m} f) = group_here i m (slice_get v.groups.items i.number) refl (free_group (language_in v.types.items v.groups.items) ((language_in v.types.items v.groups.items).group_at i) m f)

  -- No rank is above twice the bound and one.

  twice_most : (a b : ℕ) → a ≤ b → 2 * a ≤ 2 * b + 1
  twice_most a b h = omega (arith, h)

  twice_and_one_most : (a b : ℕ) → a ≤ b → 2 * a + 1 ≤ 2 * b + 1
  twice_and_one_most a b h = omega (arith, h)

  none_most : (b : ℕ) → 0 ≤ 2 * b + 1
  none_most b = omega arith

  type_most : (o : TypeOrigin) → type_rank r o ≤ 2 * bound r + 1
  type_most (T.Row n) = twice_most (rank r (N.Row n)) (bound r) (given.ranked.most (N.Row n))
  type_most (T.Instance k) = twice_most (rank r (N.Name k)) (bound r) (given.ranked.most (N.Name k))
  type_most (T.Chosen (Some n)) = twice_most (rank r (N.Chosen n)) (bound r) (given.ranked.most (N.Chosen n))
  type_most (T.Chosen None) = none_most (bound r)
  type_most (T.Word n) = none_most (bound r)

  group_most : (o : GroupOrigin) → group_rank r o ≤ 2 * bound r + 1
  group_most (G.Alternatives (Some n)) = twice_most (rank r (N.Row n)) (bound r) (given.ranked.most (N.Row n))
  group_most (G.Alternatives None) = none_most (bound r)
  group_most (G.Sequence n) = twice_most (rank r (N.Row n)) (bound r) (given.ranked.most (N.Row n))
  group_most (G.Entry n) = twice_and_one_most (rank r (N.Row n)) (bound r) (given.ranked.most (N.Row n))
  group_most (G.Round n) = twice_most (rank r (N.Row n)) (bound r) (given.ranked.most (N.Row n))

  most : (a : Name TypeId GroupId) → rank_in types groups a ≤ 2 * bound r + 1
  most (a_type i) = within (type_rank r) (2 * bound r + 1) type_most v.type_origins.items i.number
  most (a_group i) = within (group_rank r) (2 * bound r + 1) group_most v.group_origins.items i.number

  pub are_ranked : IsRanked (language_in v.types.items v.groups.items) (rank_in (map (type_rank r) v.type_origins.items) (map (group_rank r) v.group_origins.items)) (2 * bound r + 1)
  are_ranked = record { down = down; most = most }
