-- Ranks go down from what is asked to what it asks: steps, and what numbers are of.
use Rattle.std.proofs.Common.{◌≡◌, ℕ, ◌+◌, ◌*◌, ◌<◌, ◌⊎◌, inl, inr, true, false, List, [], ◌∷◌, ◌++◌, map, Option, Some, slice_get, refl, sym, subst, arith}
use Rattle.lists.proofs.Lemmas.{IsIn, from_contains, in_cases, in_left, in_right, to_contains}
use Rattle.cddl_meaning.specs.Ranks.Ranked.{AllMayBeEmpty}
use Rattle.cddl_language.specs.Terms.{Term, Ref, Group, sole, orelse, Entries, Entry, alternatives, entry_list, name_of}
use Rattle.cddl_language.specs.Free.{MayBeEmpty}
use Rattle.cddl_language.specs.Substitution.{group_choices}
use Rattle.cddl_language.specs.Choices.{can_choose}
use Rattle.cddl_language.specs.Kinds.{is_group, names_group, opens, part_of}
use Rattle.cddl_language.specs.Language.{type, reference, chosen_of, first_of, each_of, entry, language}
use Rattle.cddl_language.specs.Reach.{Point, Reaches, ref_at, points, group_points, entries_points}
use Rattle.check_terms.specs.Table.{Table, Tree, Holds}
use Rattle.check_terms.specs.Trees.{IsTerm, IsGroup, IsEntries, IsEntry}
use Rattle.check_instances.specs.Closed.Closed.{AreAlternatives, no_alternatives, alternatives_of, AreReached}
use Rattle.check_recursion.specs.declared.graph.Ranks.{Ranks}
use Rattle.check_recursion.specs.declared.node.Node.{Node}
use Rattle.check_recursion.specs.declared.node.Node.TheVariants as N
use Rattle.check_recursion.specs.Asking.{Asked, IsReached, Asks}
use Rattle.check_recursion.specs.Standing.{Stands}
use Rattle.check_recursion.specs.Order.{AreRanked, rank}
use Rattle.table_making.specs.Basis.{Sense}
use Rattle.table_making.specs.Origins.{all_points, IsTypeOrigin, of_row, of_instance, of_chosen, IsGroupOrigin, of_alternatives, of_sequence, of_entry}
use Rattle.table_making.specs.declared.origin.GroupOrigin.{GroupOrigin}
use Rattle.table_making.specs.declared.origin.GroupOrigin.TheVariants as G
use Rattle.table_making.specs.declared.origin.TypeOrigin.{TypeOrigin}
use Rattle.table_making.specs.declared.origin.TypeOrigin.TheVariants as T
use Rattle.cddl_table.specs.Ranks.{type_rank, group_rank}
use Rattle.cddl_table.proofs.Rows.{some_alternative, same_group}

pub twice : (a b : ℕ) → a < b → 2 * a < 2 * b
twice a b h = omega (arith, h)

pub twice_and_one : (a b : ℕ) → a < b → 2 * a + 1 < 2 * b
twice_and_one a b h = omega (arith, h)

pub under_one : (a c : ℕ) → a < 2 * c → a < 2 * c + 1
under_one a c h = omega (arith, h)

pub one_more : (a : ℕ) → 2 * a < 2 * a + 1
one_more a = omega arith

pub lifted : (x a b : ℕ) → a < b → x < 2 * a → x < 2 * b
lifted x a b h k = omega (arith, h, k)

pub through : (a b c : ℕ) → a < b → b < c → a < c
through a b c h k = omega (arith, h, k)

pub above_none : (a b : ℕ) → a < b → 0 < 2 * b
above_none a b h = omega (arith, h)

-- What is known of the instances, of rows and of ranks.
pub record Given (s : Sense) (t : Table) (r : Ranks) : Type 0 where
  pub ranked : AreRanked s.definitions s.root s.refs t r
  pub same_row : (n m : ℕ) (x : Tree) → Holds t (Some n) x → Holds t (Some m) x → n ≡ m
  pub instance : (k : ℕ) (q : Ref) → slice_get s.refs k ≡ Some q → Reaches s.definitions s.root q
  pub placed : (q : Ref) → Reaches s.definitions s.root q → (k : ℕ) × (slice_get s.refs k ≡ Some q)
  pub group_row : (q : Ref) → Reaches s.definitions s.root q → (o : Option ℕ) × AreAlternatives t (group_choices s.definitions q) o
  pub group_reached : (q : Ref) (g : Group) → Reaches s.definitions s.root q → alternatives g ≡ group_choices s.definitions q → AreReached s.definitions s.root (group_points g)
  pub part_named : (x : Term) (q : Ref) → AreReached s.definitions s.root (points x) → part_of s.definitions x ≡ names_group q → Reaches s.definitions s.root q
  pub part_opened : (x : Term) (q : Ref) (g : Group) → AreReached s.definitions s.root (points x) → part_of s.definitions x ≡ opens q g → Reaches s.definitions s.root q
  pub empty : (es : Entries) → AllMayBeEmpty (language s.worth s.definitions) (map entry (entry_list es)) → MayBeEmpty s.definitions es

module _ (s : Sense) where
  pub left_reached : (ps qs : List Point) → AreReached s.definitions s.root (ps ++ qs) → AreReached s.definitions s.root ps
  left_reached ps qs reached p c = reached p (to_contains (ps ++ qs) p (in_left ps qs p (from_contains ps p c)))

  pub right_reached : (ps qs : List Point) → AreReached s.definitions s.root (ps ++ qs) → AreReached s.definitions s.root qs
  right_reached ps qs reached p c = reached p (to_contains (ps ++ qs) p (in_right ps qs p (from_contains qs p c)))

  pub one_reached : (p : Point) → Reaches s.definitions s.root (ref_at p) → AreReached s.definitions s.root (p ∷ [])
  one_reached p h q c = subst (λ (x : Point). Reaches s.definitions s.root (ref_at x)) (same q (from_contains (p ∷ []) q c)) h
    where
      same : (q : Point) → IsIn q (p ∷ []) → p ≡ q
      same q (inl e) = sym e
      same q (inr e) = absurd e

  pub it_is_reached : (p : Point) → AreReached s.definitions s.root (p ∷ []) → Reaches s.definitions s.root (ref_at p)
  it_is_reached p h = h p (0, omega arith, refl)

  -- of a group, where they are those of its alternatives

  points_in_both : (p : Point) (xs ys : List Entries) → IsIn p (all_points xs) ⊎ IsIn p (all_points ys) → IsIn p (all_points (xs ++ ys))
  points_in_both p [] ys (inl i) = absurd i
  points_in_both p [] ys (inr i) = i
  points_in_both p (x ∷ xs) ys (inl i) = by (in_cases (entries_points x) (all_points xs) p i) (λ k. points_in_both p xs ys (inl k))
    where
      by : IsIn p (entries_points x) ⊎ IsIn p (all_points xs) → (IsIn p (all_points xs) → IsIn p (all_points (xs ++ ys))) → IsIn p (entries_points x ++ all_points (xs ++ ys))
      by (inl k) go = in_left (entries_points x) (all_points (xs ++ ys)) p k
      by (inr k) go = in_right (entries_points x) (all_points (xs ++ ys)) p (go k)
  points_in_both p (x ∷ xs) ys (inr i) = in_right (entries_points x) (all_points (xs ++ ys)) p (points_in_both p xs ys (inr i))

  points_of_group : (g : Group) (p : Point) → IsIn p (group_points g) → IsIn p (all_points (alternatives g))
  points_of_group (sole es) p i = in_left (entries_points es) [] p i
  points_of_group (orelse g es) p i = by (in_cases (group_points g) (entries_points es) p i) (points_of_group g p)
    where
      by : IsIn p (group_points g) ⊎ IsIn p (entries_points es) → (IsIn p (group_points g) → IsIn p (all_points (alternatives g))) → IsIn p (all_points (alternatives g ++ es ∷ []))
      by (inl k) go = points_in_both p (alternatives g) (es ∷ []) (inl (go k))
      by (inr k) go = points_in_both p (alternatives g) (es ∷ []) (inr (in_left (entries_points es) [] p k))

  pub group_points_reached : (g : Group) → AreReached s.definitions s.root (all_points (alternatives g)) → AreReached s.definitions s.root (group_points g)
  group_points_reached g reached p c = reached p (to_contains (all_points (alternatives g)) p (points_of_group g p (from_contains (group_points g) p c)))

module _ (s : Sense) (t : Table) (r : Ranks) where
  pub step : AreRanked s.definitions s.root s.refs t r → (n m : Node) (a b : Asked) → Stands t s.refs n a → Stands t s.refs m b → IsReached s.definitions s.root a → Asks s.definitions a b → rank r m < rank r n
  step ranked n m a b from to reached asks = ranked.down n m (record { asker = a; asked = b; from = from; to = to; reached = reached; asks = asks })

  -- A type or a group has a rank below twice a number, where the node that it is of has one below that number.

  pub below_row : (x : Term) (p : TypeOrigin) → IsTypeOrigin s t (type x) p → (b : ℕ) → ((n : ℕ) → IsTerm t n x → rank r (N.Row n) < b) → type_rank r p < 2 * b
  below_row x p (of_row {n = n} h c w) b f = twice (rank r (N.Row n)) b (f n h)

  pub below_instance : (q : Ref) (p : TypeOrigin) → IsTypeOrigin s t (reference q) p → (b : ℕ) → ((k : ℕ) → slice_get s.refs k ≡ Some q → is_group s.definitions (name_of q) ≡ false → rank r (N.Name k) < b) → type_rank r p < 2 * b
  below_instance q p (of_instance {k = k} e g) b f = twice (rank r (N.Name k)) b (f k e g)

  chosen_below : (ess : List Entries) (o : Option ℕ) → AreAlternatives t ess o → (b : ℕ) → 0 < 2 * b → ((n : ℕ) (g : Group) → IsGroup t n g → alternatives g ≡ ess → rank r (N.Chosen n) < b) → type_rank r (T.Chosen o) < 2 * b
  chosen_below ess o no_alternatives b z f = z
  chosen_below ess o (alternatives_of {n = n} g h) b z f = twice (rank r (N.Chosen n)) b (f n g h refl)

  pub below_chosen : (ess : List Entries) (p : TypeOrigin) → IsTypeOrigin s t (chosen_of ess) p → (b : ℕ) → 0 < 2 * b → ((n : ℕ) (g : Group) → IsGroup t n g → alternatives g ≡ ess → can_choose s.definitions ess ≡ true → rank r (N.Chosen n) < b) → type_rank r p < 2 * b
  below_chosen ess p (of_chosen {o = o} a c w can) b z f = chosen_below ess o a b z (λ n g h e. f n g h e can)

  alternatives_below : (ess : List Entries) (o : Option ℕ) → AreAlternatives t ess o → (b : ℕ) → 0 < 2 * b → ((n : ℕ) (g : Group) → IsGroup t n g → alternatives g ≡ ess → rank r (N.Row n) < b) → group_rank r (G.Alternatives o) < 2 * b
  alternatives_below ess o no_alternatives b z f = z
  alternatives_below ess o (alternatives_of {n = n} g h) b z f = twice (rank r (N.Row n)) b (f n g h refl)

  pub below_alternatives : (ess : List Entries) (p : GroupOrigin) → IsGroupOrigin s t (first_of ess) p → (b : ℕ) → 0 < 2 * b → ((n : ℕ) (g : Group) → IsGroup t n g → alternatives g ≡ ess → rank r (N.Row n) < b) → group_rank r p < 2 * b
  below_alternatives ess p (of_alternatives {o = o} a c w) b z f = alternatives_below ess o a b z f

  -- the same of a group's own alternatives, of which there is one at least
  one_row : (g : Group) (ess : List Entries) (o : Option ℕ) → AreAlternatives t ess o → ess ≡ alternatives g → (n : ℕ) × (o ≡ Some n) × IsGroup t n g
  one_row g ess o no_alternatives e = absurd (some_alternative g e)
  one_row g ess o (alternatives_of {n = n} p h) e = (n, refl, subst (IsGroup t n) (same_group p g e) h)

  pub below_chosen_group : (g : Group) (p : TypeOrigin) → IsTypeOrigin s t (chosen_of (alternatives g)) p → (b : ℕ) → ((n : ℕ) → IsGroup t n g → can_choose s.definitions (alternatives g) ≡ true → rank r (N.Chosen n) < b) → type_rank r p < 2 * b
  below_chosen_group g p (of_chosen {o = o} a c w can) b f =
      let q = one_row g (alternatives g) o a refl in
      subst (λ (i : Option ℕ). type_rank r (T.Chosen i) < 2 * b) (sym q.1) (twice (rank r (N.Chosen q.0)) b (f q.0 q.2 can))

  pub below_group : (g : Group) (p : GroupOrigin) → IsGroupOrigin s t (first_of (alternatives g)) p → (b : ℕ) → ((n : ℕ) → IsGroup t n g → rank r (N.Row n) < b) → group_rank r p < 2 * b
  below_group g p (of_alternatives {o = o} a c w) b f =
      let q = one_row g (alternatives g) o a refl in
      subst (λ (i : Option ℕ). group_rank r (G.Alternatives i) < 2 * b) (sym q.1) (twice (rank r (N.Row q.0)) b (f q.0 q.2))

  pub below_sequence : (es : Entries) (p : GroupOrigin) → IsGroupOrigin s t (each_of es) p → (b : ℕ) → ((n : ℕ) → IsEntries t n es → rank r (N.Row n) < b) → group_rank r p < 2 * b
  below_sequence es p (of_sequence {n = n} h c w) b f = twice (rank r (N.Row n)) b (f n h)

  pub below_entry : (e : Entry) (p : GroupOrigin) → IsGroupOrigin s t (entry e) p → (b : ℕ) → ((n : ℕ) → IsEntry t n e → rank r (N.Row n) < b) → group_rank r p < 2 * b
  below_entry e p (of_entry {n = n} h c w) b f = twice_and_one (rank r (N.Row n)) b (f n h)
