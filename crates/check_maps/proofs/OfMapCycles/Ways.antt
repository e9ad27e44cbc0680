-- The edges of the graph are its steps, and ways go over them.
use Rattle.std.proofs.Common.{◌≡◌, ℕ, zero, suc, ◌+◌, ◌*◌, ◌<◌, ◌≤◌, ◌⊎◌, inl, inr, Bool, true, List, [], ◌∷◌, ◌++◌, length, Option, Some, None, refl, sym, ap, subst, ◌∙◌, slice_get, arith}
use Rattle.lists.proofs.Lemmas.{IsIn, from_get, get_front, get_last, in_cases, in_left, in_right, last_or_below, push_length as length_more, same_some, to_get}
use Rattle.graphs.specs.declared.cycles.Edge.{Edge}
use Rattle.graphs.specs.Cycles.Graph.{IsEdge, LeadsOn, at_once, onwards, AreOnCycles}
use Rattle.alternatives.specs.declared.Bounds.{Bounds}
use Rattle.alternatives.specs.declared.Part.{Part}
use Rattle.alternatives.specs.declared.Part.TheVariants as PartV
use Rattle.alternatives.specs.Splices.{Has, has_same, has_first, has_second, has_one, has_other, has_group}
use Rattle.check_maps.specs.declared.spliced.listing.Spliced.{Spliced}
use Rattle.check_maps.specs.declared.spliced.owners.Owner.{Owner}
use Rattle.check_maps.specs.declared.spliced.owners.Owner.TheVariants as OwnerV
use Rattle.check_maps.specs.declared.map_cycles.layout.Layout.{Layout}
use Rattle.check_maps.specs.MapCycles.Coming.{AreMarked}
use Rattle.check_maps.specs.MapCycles.Edges.{nodes, entry_node, owner_node, edge_to, node_of, target_node, edges_by, part_edges, rows_edges, owned_edges, entry_edges, entries_edges, all_edges, mark_in, flags_below}

abbrev pub edge_of : ℕ → ℕ → Edge
edge_of a b = record { from = a; to = b }

in_edge : (n : ℕ) (o : Option ℕ) (e : Edge) → IsIn e (edge_to n o) → (m : ℕ) × (o ≡ Some m) × (e ≡ edge_of n m)
in_edge n None e h = absurd h
in_edge n (Some m) e (inl f) = (m, refl, f)
in_edge n (Some m) e (inr h) = absurd h

edge_in : (n : ℕ) (o : Option ℕ) (m : ℕ) → o ≡ Some m → IsIn (edge_of n m) (edge_to n o)
edge_in n o m f = subst (λ z. IsIn (edge_of n m) (edge_to n z)) (sym f) (inl refl)

-- The numbers of owners lie after those of the entries, and no two owners have one.

pub owner_behind : (l : Layout) (w : Owner) (n : ℕ) → owner_node l w ≡ Some n → l.parts + l.entries ≤ n
owner_behind l OwnerV.Map n e = cc
owner_behind l (OwnerV.Named k) n e = let f : l.parts + l.entries + 2 * k ≡ n = same_some e in omega (arith, f)
owner_behind l (OwnerV.Opened k) n e = let f : l.parts + l.entries + 2 * k + 1 ≡ n = same_some e in omega (arith, f)

pub one_owner_node : (l : Layout) (v w : Owner) (n : ℕ) → owner_node l v ≡ Some n → owner_node l w ≡ Some n → v ≡ w
one_owner_node l OwnerV.Map w n e f = cc
one_owner_node l (OwnerV.Named k) OwnerV.Map n e f = cc
one_owner_node l (OwnerV.Named k) (OwnerV.Named j) n e f =
    let g : l.parts + l.entries + 2 * k ≡ n = same_some e in
    let h : l.parts + l.entries + 2 * j ≡ n = same_some f in
    ap OwnerV.Named (omega (arith, g, h))
one_owner_node l (OwnerV.Named k) (OwnerV.Opened j) n e f =
    let g : l.parts + l.entries + 2 * k ≡ n = same_some e in
    let h : l.parts + l.entries + 2 * j + 1 ≡ n = same_some f in
    absurd (omega (arith, g, h))
one_owner_node l (OwnerV.Opened k) OwnerV.Map n e f = cc
one_owner_node l (OwnerV.Opened k) (OwnerV.Named j) n e f =
    let g : l.parts + l.entries + 2 * k + 1 ≡ n = same_some e in
    let h : l.parts + l.entries + 2 * j ≡ n = same_some f in
    absurd (omega (arith, g, h))
one_owner_node l (OwnerV.Opened k) (OwnerV.Opened j) n e f =
    let g : l.parts + l.entries + 2 * k + 1 ≡ n = same_some e in
    let h : l.parts + l.entries + 2 * j + 1 ≡ n = same_some f in
    ap OwnerV.Opened (omega (arith, g, h))

module _ (l : Layout) (parts : List Part) (targets : List (Option Owner)) (spliced : List Spliced) where
  abbrev pub edges : List Edge
  edges = all_edges l parts targets spliced

  -- from a row to a part, or to the owner to which it leads; to an entry from its owner, and from it to its row
  pub data Step : ℕ → ℕ → Type 0 where
    to_part : {n m : ℕ} {p : Part} → n < l.parts → slice_get parts n ≡ Some p → Has p m → Step n m
    to_owner : {n a o : ℕ} {b : Bounds} {w : Owner} → n < l.parts → slice_get parts n ≡ Some (PartV.Occurs b a) → slice_get targets n ≡ Some (Some w) → owner_node l w ≡ Some o → Step n o
    to_entry : {i o : ℕ} {x : Spliced} → i < l.entries → slice_get spliced i ≡ Some x → owner_node l x.owner ≡ Some o → Step o (entry_node l i)
    to_row : {i o : ℕ} {x : Spliced} → i < l.entries → slice_get spliced i ≡ Some x → owner_node l x.owner ≡ Some o → Step (entry_node l i) x.row

  abbrev IsStep : Edge → Type 0
  IsStep e = Step e.from e.to

  node_there : (o : Option (Option Owner)) (m : ℕ) → node_of l o ≡ Some m → (w : Owner) × (o ≡ Some (Some w)) × (owner_node l w ≡ Some m)
  node_there None m e = cc
  node_there (Some None) m e = cc
  node_there (Some (Some w)) m e = (w, refl, e)

  in_part : (n : ℕ) (p : Part) (e : Edge) → n < l.parts → slice_get parts n ≡ Some p → IsIn e (edges_by l targets n p) → IsStep e
  in_part n PartV.Refused e h i k = absurd k
  in_part n (PartV.Entry b) e h i k = absurd k
  in_part n PartV.Empty e h i k = absurd k
  in_part n PartV.Nothing e h i k = absurd k
  in_part n (PartV.Same a) e h i (inl f) = subst IsStep (sym f) (to_part h i has_same)
  in_part n (PartV.Same a) e h i (inr f) = absurd f
  in_part n (PartV.Both a b) e h i (inl f) = subst IsStep (sym f) (to_part h i has_first)
  in_part n (PartV.Both a b) e h i (inr (inl f)) = subst IsStep (sym f) (to_part h i has_second)
  in_part n (PartV.Both a b) e h i (inr (inr f)) = absurd f
  in_part n (PartV.Either a b) e h i (inl f) = subst IsStep (sym f) (to_part h i has_one)
  in_part n (PartV.Either a b) e h i (inr (inl f)) = subst IsStep (sym f) (to_part h i has_other)
  in_part n (PartV.Either a b) e h i (inr (inr f)) = absurd f
  in_part n (PartV.Occurs b a) e h i (inl f) = subst IsStep (sym f) (to_part h i has_group)
  in_part n (PartV.Occurs b a) e h i (inr k) =
      let r = in_edge n (target_node l targets n) e k in
      let w = node_there (slice_get targets n) r.0 r.1 in
      subst IsStep (sym r.2) (to_owner h i w.1 w.2)

  in_rows : (n : ℕ) (e : Edge) → n ≤ l.parts → IsIn e (rows_edges l parts targets n) → IsStep e
  in_rows zero e h k = absurd k
  in_rows (suc n) e h k = by (in_cases (rows_edges l parts targets n) (part_edges l targets n (slice_get parts n)) e k) (in_rows n e (omega (arith, h)))
    where
      last : (o : Option Part) → slice_get parts n ≡ o → IsIn e (part_edges l targets n o) → IsStep e
      last None f g = absurd g
      last (Some p) f g = in_part n p e (omega (arith, h)) f g

      by : IsIn e (rows_edges l parts targets n) ⊎ IsIn e (part_edges l targets n (slice_get parts n)) → (IsIn e (rows_edges l parts targets n) → IsStep e) → IsStep e
      by (inl g) more = more g
      by (inr g) more = last (slice_get parts n) refl g

  in_owned : (i : ℕ) (x : Spliced) (e : Edge) (o : Option ℕ) → i < l.entries → slice_get spliced i ≡ Some x → owner_node l x.owner ≡ o → IsIn e (owned_edges (entry_node l i) x.row o) → IsStep e
  in_owned i x e None h f g k = absurd k
  in_owned i x e (Some o) h f g (inl k) = subst IsStep (sym k) (to_entry h f g)
  in_owned i x e (Some o) h f g (inr (inl k)) = subst IsStep (sym k) (to_row h f g)
  in_owned i x e (Some o) h f g (inr (inr k)) = absurd k

  in_entries : (n : ℕ) (e : Edge) → n ≤ l.entries → IsIn e (entries_edges l spliced n) → IsStep e
  in_entries zero e h k = absurd k
  in_entries (suc n) e h k = by (in_cases (entries_edges l spliced n) (entry_edges l n (slice_get spliced n)) e k) (in_entries n e (omega (arith, h)))
    where
      last : (o : Option Spliced) → slice_get spliced n ≡ o → IsIn e (entry_edges l n o) → IsStep e
      last None f g = absurd g
      last (Some x) f g = in_owned n x e (owner_node l x.owner) (omega (arith, h)) f refl g

      by : IsIn e (entries_edges l spliced n) ⊎ IsIn e (entry_edges l n (slice_get spliced n)) → (IsIn e (entries_edges l spliced n) → IsStep e) → IsStep e
      by (inl g) more = more g
      by (inr g) more = last (slice_get spliced n) refl g

  in_all : (e : Edge) → IsIn e edges → IsStep e
  in_all e h = by (in_cases (rows_edges l parts targets l.parts) (entries_edges l spliced l.entries) e h)
    where
      by : IsIn e (rows_edges l parts targets l.parts) ⊎ IsIn e (entries_edges l spliced l.entries) → IsStep e
      by (inl g) = in_rows l.parts e (omega arith) g
      by (inr g) = in_entries l.entries e (omega arith) g

  rows_in : (k n : ℕ) (e : Edge) → n < k → IsIn e (part_edges l targets n (slice_get parts n)) → IsIn e (rows_edges l parts targets k)
  rows_in zero n e h i = absurd (omega (arith, h))
  rows_in (suc k) n e h i = by (last_or_below n k (omega (arith, h))) (λ g. rows_in k n e g i)
    where
      by : (n < k) ⊎ (n ≡ k) → (n < k → IsIn e (rows_edges l parts targets k)) → IsIn e (rows_edges l parts targets (suc k))
      by (inl g) f = in_left (rows_edges l parts targets k) (part_edges l targets k (slice_get parts k)) e (f g)
      by (inr g) f = in_right (rows_edges l parts targets k) (part_edges l targets k (slice_get parts k)) e (subst (λ m. IsIn e (part_edges l targets m (slice_get parts m))) g i)

  of_part : (n : ℕ) (p : Part) (e : Edge) → n < l.parts → slice_get parts n ≡ Some p → IsIn e (edges_by l targets n p) → IsIn e edges
  of_part n p e h f i = in_left (rows_edges l parts targets l.parts) (entries_edges l spliced l.entries) e (rows_in l.parts n e h (subst (λ o. IsIn e (part_edges l targets n o)) (sym f) i))

  entries_in : (k n : ℕ) (e : Edge) → n < k → IsIn e (entry_edges l n (slice_get spliced n)) → IsIn e (entries_edges l spliced k)
  entries_in zero n e h i = absurd (omega (arith, h))
  entries_in (suc k) n e h i = by (last_or_below n k (omega (arith, h))) (λ g. entries_in k n e g i)
    where
      by : (n < k) ⊎ (n ≡ k) → (n < k → IsIn e (entries_edges l spliced k)) → IsIn e (entries_edges l spliced (suc k))
      by (inl g) f = in_left (entries_edges l spliced k) (entry_edges l k (slice_get spliced k)) e (f g)
      by (inr g) f = in_right (entries_edges l spliced k) (entry_edges l k (slice_get spliced k)) e (subst (λ m. IsIn e (entry_edges l m (slice_get spliced m))) g i)

  of_entry : (n o : ℕ) (x : Spliced) (e : Edge) → n < l.entries → slice_get spliced n ≡ Some x → owner_node l x.owner ≡ Some o → IsIn e (owned_edges (entry_node l n) x.row (Some o)) → IsIn e edges
  of_entry n o x e h f g i = in_right (rows_edges l parts targets l.parts) (entries_edges l spliced l.entries) e (entries_in l.entries n e h (subst (λ z. IsIn e (entry_edges l n z)) (sym f) (subst (λ z. IsIn e (owned_edges (entry_node l n) x.row z)) (sym g) i)))

  has_in : (n m : ℕ) (p : Part) → Has p m → IsIn (edge_of n m) (edges_by l targets n p)
  has_in n m _ has_same = inl refl
  has_in n m _ has_first = inl refl
  has_in n m _ has_second = inr (inl refl)
  has_in n m _ has_one = inl refl
  has_in n m _ has_other = inr (inl refl)
  has_in n m _ has_group = inl refl

  step_in : {a b : ℕ} → Step a b → IsIn (edge_of a b) edges
  step_in (to_part {n = n} {m = m} {p = p} h f k) = of_part n p (edge_of n m) h f (has_in n m p k)
  step_in (to_owner {n = n} {a = a} {o = o} {b = b} {w = w} h f g k) = of_part n (PartV.Occurs b a) (edge_of n o) h f (inr (edge_in n (target_node l targets n) o (ap (node_of l) g ∙ k)))
  step_in (to_entry {i = i} {o = o} {x = x} h f g) = of_entry i o x (edge_of o (entry_node l i)) h f g (inl refl)
  step_in (to_row {i = i} {o = o} {x = x} h f g) = of_entry i o x (edge_of (entry_node l i) x.row) h f g (inr (inl refl))

  -- a step between nodes
  pub record Link (a b : ℕ) : Type 0 where
    pub step : Step a b
    pub begins : a < nodes l
    pub ends : b < nodes l

  edge_link : {a b : ℕ} → IsEdge (nodes l) edges a b → Link a b
  edge_link {a = a} {b = b} e = record { step = in_all (edge_of a b) (from_get edges e.place (edge_of a b) e.there); begins = e.begins; ends = e.ends }

  link_edge : {a b : ℕ} → Link a b → IsEdge (nodes l) edges a b
  link_edge {a = a} {b = b} k = let r = to_get edges (edge_of a b) (step_in k.step) in record { place = r.0; there = r.1; begins = k.begins; ends = k.ends }

  -- a way over any number of them
  pub data Way : ℕ → ℕ → Type 0 where
    arrived : {a : ℕ} → Way a a
    onward : {a b c : ℕ} → Link a b → Way b c → Way a c

  pub join : {a b c : ℕ} → Way a b → Way b c → Way a c
  join arrived w = w
  join (onward k v) w = onward k (join v w)

  pub way_of : {a c : ℕ} → LeadsOn (nodes l) edges a c → (b : ℕ) × Link a b × Way b c
  way_of (at_once {b = b} e) = (b, edge_link e, arrived)
  way_of (onwards {b = b} e r) = let w = way_of r in (b, edge_link e, onward w.1 w.2)

  pub leads_on : {a b c : ℕ} → Link a b → Way b c → LeadsOn (nodes l) edges a c
  leads_on k arrived = at_once (link_edge k)
  leads_on k (onward j w) = onwards (link_edge k) (leads_on j w)

-- The flags are the marks of the entries' nodes.

flags_length : (l : Layout) (marks : List Bool) (n : ℕ) → length (flags_below l marks n) ≡ n
flags_length l marks zero = refl
flags_length l marks (suc n) = let h = flags_length l marks n in length_more (flags_below l marks n) (mark_in (slice_get marks (entry_node l n))) ∙ omega (arith, h)

flag_there : (l : Layout) (marks : List Bool) (n i : ℕ) → i < n → slice_get (flags_below l marks n) i ≡ Some (mark_in (slice_get marks (entry_node l i)))
flag_there l marks zero i h = absurd (omega (arith, h))
flag_there l marks (suc n) i h = by (last_or_below i n (omega (arith, h))) (flag_there l marks n i)
  where
    m : Bool
    m = mark_in (slice_get marks (entry_node l n))

    by : (i < n) ⊎ (i ≡ n) → (i < n → slice_get (flags_below l marks n) i ≡ Some (mark_in (slice_get marks (entry_node l i)))) → slice_get (flags_below l marks n ++ m ∷ []) i ≡ Some (mark_in (slice_get marks (entry_node l i)))
    by (inl g) f = get_front (flags_below l marks n) (m ∷ []) i (mark_in (slice_get marks (entry_node l i))) (f g)
    by (inr g) f = get_last (flags_below l marks n) m i (flags_length l marks n ∙ sym g) ∙ ap (λ k. Some (mark_in (slice_get marks (entry_node l k)))) (sym g)

is_marked : (o : Option Bool) → mark_in o ≡ true → o ≡ Some true
is_marked None e = cc
is_marked (Some b) e = ap Some e

pub cycles_marked : (l : Layout) (es : List Edge) (marks flags : List Bool) → AreOnCycles (nodes l) es marks → flags ≡ flags_below l marks l.entries → AreMarked l es flags
cycles_marked l es marks flags are e = record {
  all = ap length e ∙ flags_length l marks l.entries;
  each = λ i h. (
    (λ f. (are.each (entry_node l i)).0 (is_marked (slice_get marks (entry_node l i)) (same_some (sym (there i h) ∙ f)))),
    (λ f. there i h ∙ ap (λ o. Some (mark_in o)) ((are.each (entry_node l i)).1 f)),
  );
}
  where
    there : (i : ℕ) → i < l.entries → slice_get flags i ≡ Some (mark_in (slice_get marks (entry_node l i)))
    there i h = ap (λ (fs : List Bool). slice_get fs i) e ∙ flag_there l marks l.entries i h

pub ranks_marked : (l : Layout) (es : List Edge) (flags : List Bool) → ((i : ℕ) → LeadsOn (nodes l) es i i → ⊥) → flags ≡ flags_below l [] l.entries → AreMarked l es flags
ranks_marked l es flags never e = record {
  all = ap length e ∙ flags_length l [] l.entries;
  each = λ i h. (
    (λ f. absurd (not_true (entry_node l i) (is_marked (slice_get no_marks (entry_node l i)) (same_some (sym (there i h) ∙ f))))),
    (λ f. absurd (never (entry_node l i) f)),
  );
}
  where
    no_marks : List Bool
    no_marks = []

    not_true : (n : ℕ) → slice_get no_marks n ≡ Some true → ⊥
    not_true n f = cc

    there : (i : ℕ) → i < l.entries → slice_get flags i ≡ Some (mark_in (slice_get no_marks (entry_node l i)))
    there i h = ap (λ (fs : List Bool). slice_get fs i) e ∙ flag_there l [] l.entries i h
