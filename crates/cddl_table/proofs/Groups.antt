-- What is free in a group has a lower rank.
use Rattle.std.proofs.Common.{◌≡◌, ℕ, ◌+◌, ◌*◌, ◌<◌, ltb, Bool, true, false, if◌then◌else◌, ◌⊎◌, inl, inr, List, [], ◌∷◌, ◌++◌, map, Option, refl, subst}
use Rattle.lists.proofs.Lemmas.{IsIn, in_cases}
use Rattle.cddl_meaning.specs.Forms as F
use Rattle.cddl_meaning.specs.Ranks.Ranked.{AllMayBeEmpty, no_part, this_part, IsFreePart, front, past_empty}
use Rattle.cddl_language.specs.Terms.{Text, Term, Group, sole, orelse, Entries, no_entries, entries, Entry, typed, keyed, grouped, alternatives, entry_list, occurrence_of}
use Rattle.cddl_language.specs.Numbers.{least_of, most_of, occurs_once}
use Rattle.cddl_language.specs.Substitution.{group_choices}
use Rattle.cddl_language.specs.Kinds.{Part, asks_type, names_group, opens, part_of}
use Rattle.cddl_language.specs.Language.{GroupName, each_of, entry, round, language, part_form, round_form, rounds_form, group_form}
use Rattle.cddl_language.specs.Reach.{at_name, at_unwrapping, points, group_points, entries_points, entry_points}
use Rattle.check_terms.specs.Table.{Table}
use Rattle.check_terms.specs.Trees.{IsGroup, IsEntries, IsEntry}
use Rattle.check_instances.specs.Closed.Closed.{AreAlternatives, no_alternatives, alternatives_of, AreReached}
use Rattle.check_recursion.specs.declared.graph.Ranks.{Ranks}
use Rattle.check_recursion.specs.declared.node.Node.TheVariants as N
use Rattle.check_recursion.specs.Asking as A
use Rattle.check_recursion.specs.Asking.{a_group, some_entries, an_entry, a_point}
use Rattle.check_recursion.specs.Standing.{group_row, entries_row, entry_row, name_place, unwrapping_place}
use Rattle.check_recursion.specs.Order.{rank}
use Rattle.table_making.specs.Basis.{Sense}
use Rattle.table_making.specs.Origins.{all_points, IsGroupOrigin, of_alternatives, of_sequence, of_entry, of_round}
use Rattle.table_making.specs.declared.origin.GroupOrigin.{GroupOrigin}
use Rattle.table_making.specs.declared.origin.GroupOrigin.TheVariants as G
use Rattle.cddl_table.specs.Ranks.{group_rank}
use Rattle.cddl_table.proofs.Lists.{in_map}
use Rattle.cddl_table.proofs.Rows.{other_part, earlier_part}
use Rattle.cddl_decided.proofs.Lemmas.{FreeGroup}
use Rattle.cddl_table.proofs.Parts.{named_group, opened_group}
use Rattle.cddl_table.proofs.Down.{Given, through, above_none, lifted, under_one, one_more, left_reached, group_points_reached, one_reached, step, below_alternatives, below_group, below_sequence, below_entry}

module _ (s : Sense) (t : Table) (r : Ranks) (given : Given s t r) where
  -- An alternative is below its group.
  alternative_down : (n : ℕ) (g : Group) → IsGroup t n g → AreReached s.definitions s.root (group_points g) → (es : Entries) → IsIn es (alternatives g) → (m : ℕ) → IsEntries t m es → rank r (N.Row m) < rank r (N.Row n)
  alternative_down n (sole fs) h c es (inl e) m k = step s t r given.ranked (N.Row n) (N.Row m) (a_group (sole fs)) (some_entries fs) (group_row h) (entries_row (subst (IsEntries t m) e k)) c A.sole_entries
  alternative_down n (sole fs) h c es (inr i) m k = absurd i
  alternative_down n (orelse g fs) h c es i m k = by (in_cases (alternatives g) (fs ∷ []) es i) (λ j. alternative_down others.0 g others.1 (left_reached s (group_points g) (entries_points fs) c) es j m k)
    where
      others : (j : ℕ) × IsGroup t j g
      others = other_part t n g fs h

      by : IsIn es (alternatives g) ⊎ IsIn es (fs ∷ []) → (IsIn es (alternatives g) → rank r (N.Row m) < rank r (N.Row others.0)) → rank r (N.Row m) < rank r (N.Row n)
      by (inl j) go = through (rank r (N.Row m)) (rank r (N.Row others.0)) (rank r (N.Row n)) (go j) (step s t r given.ranked (N.Row n) (N.Row others.0) (a_group (orelse g fs)) (a_group g) (group_row h) (group_row others.1) c A.other_alternatives)
      by (inr (inl e)) go = step s t r given.ranked (N.Row n) (N.Row m) (a_group (orelse g fs)) (some_entries fs) (group_row h) (entries_row (subst (IsEntries t m) e k)) c A.last_alternative
      by (inr (inr j)) go = absurd j

  alternatives_down : (ess : List Entries) (o : Option ℕ) → AreAlternatives t ess o → AreReached s.definitions s.root (all_points ess) → (g : GroupName) (p : GroupOrigin) → IsIn g (map each_of ess) → IsGroupOrigin s t g p → group_rank r p < group_rank r (G.Alternatives o)
  alternatives_down ess o no_alternatives c g p i u = absurd i
  alternatives_down ess o (alternatives_of {n = n} q h) c g p i u =
      let es = in_map each_of (alternatives q) g i in
      below_sequence s t r es.0 p (subst (λ (z : GroupName). IsGroupOrigin s t z p) es.2 u) (rank r (N.Row n)) (alternative_down n q h (group_points_reached s q c) es.0 es.1)

  -- The parts of a sequence that are free.

  free_parts : (xs ys : List Entry) (g : GroupName) → IsFreePart (language s.worth s.definitions) (map entry (xs ++ ys)) g → IsFreePart (language s.worth s.definitions) (map entry xs) g ⊎ (AllMayBeEmpty (language s.worth s.definitions) (map entry xs) × IsFreePart (language s.worth s.definitions) (map entry ys) g)
  free_parts [] ys g f = inr (no_part, f)
  free_parts (x ∷ xs) ys g front = inl front
  free_parts (x ∷ xs) ys g (past_empty e f) = by (free_parts xs ys g f)
    where
      by : IsFreePart (language s.worth s.definitions) (map entry xs) g ⊎ (AllMayBeEmpty (language s.worth s.definitions) (map entry xs) × IsFreePart (language s.worth s.definitions) (map entry ys) g) → IsFreePart (language s.worth s.definitions) (map entry (x ∷ xs)) g ⊎ (AllMayBeEmpty (language s.worth s.definitions) (map entry (x ∷ xs)) × IsFreePart (language s.worth s.definitions) (map entry ys) g)
      by (inl k) = inl (past_empty e k)
      by (inr k) = inr (this_part e k.0, k.1)

  no_free_part : (g : GroupName) → IsFreePart (language s.worth s.definitions) [] g → ⊥
  no_free_part g f = elim f [ ]

  lone_part : (e : Entry) (g : GroupName) → IsFreePart (language s.worth s.definitions) (entry e ∷ []) g → g ≡ entry e
  lone_part e g front = refl
  lone_part e g (past_empty k f) = absurd (no_free_part g f)

  sequence_down : (n : ℕ) (es : Entries) → IsEntries t n es → AreReached s.definitions s.root (entries_points es) → (g : GroupName) (p : GroupOrigin) → IsFreePart (language s.worth s.definitions) (map entry (entry_list es)) g → IsGroupOrigin s t g p → group_rank r p < 2 * rank r (N.Row n)
  sequence_down n no_entries h c g p f u = absurd (no_free_part g f)
  sequence_down n (entries es e d) h c g p f u = by (free_parts (entry_list es) (e ∷ []) g f) (λ k. sequence_down before.0 es before.1 (left_reached s (entries_points es) (entry_points e) c) g p k u)
    where
      before : (j : ℕ) × IsEntries t j es
      before = earlier_part t n es e d h

      by : IsFreePart (language s.worth s.definitions) (map entry (entry_list es)) g ⊎ (AllMayBeEmpty (language s.worth s.definitions) (map entry (entry_list es)) × IsFreePart (language s.worth s.definitions) (entry e ∷ []) g) → (IsFreePart (language s.worth s.definitions) (map entry (entry_list es)) g → group_rank r p < 2 * rank r (N.Row before.0)) → group_rank r p < 2 * rank r (N.Row n)
      by (inl k) go = lifted (group_rank r p) (rank r (N.Row before.0)) (rank r (N.Row n)) (step s t r given.ranked (N.Row n) (N.Row before.0) (some_entries (entries es e d)) (some_entries es) (entries_row h) (entries_row before.1) c A.earlier_entries) (go k)
      by (inr k) go = below_entry s t r e p (subst (λ (z : GroupName). IsGroupOrigin s t z p) (lone_part e g k.1) u) (rank r (N.Row n)) (λ m i. step s t r given.ranked (N.Row n) (N.Row m) (some_entries (entries es e d)) (an_entry e) (entries_row h) (entry_row i) c (A.last_entry (given.empty es k.0)))

  -- What one round of an entry asks.

  part_down : (n : ℕ) (o : Option Text) (x : Term) → IsEntry t n (typed o x) → AreReached s.definitions s.root (points x) → (k : Part) → part_of s.definitions x ≡ k → (g : GroupName) (p : GroupOrigin) → FreeGroup (language s.worth s.definitions) (part_form s.worth s.definitions x k) g → IsGroupOrigin s t g p → group_rank r p < 2 * rank r (N.Row n)
  part_down n o x h c asks_type e g p f u = absurd f
  part_down n o x h c (names_group q) e g p f u =
      let reaches = given.part_named x q c e in
      let k = given.placed q reaches in
      let first = step s t r given.ranked (N.Row n) (N.Name k.0) (an_entry (typed o x)) (a_point (at_name q)) (entry_row h) (name_place k.1) c (A.group_name e) in
      below_alternatives s t r (group_choices s.definitions q) p (subst (λ (z : GroupName). IsGroupOrigin s t z p) f u) (rank r (N.Row n)) (above_none (rank r (N.Name k.0)) (rank r (N.Row n)) first) (λ j i a b. through (rank r (N.Row j)) (rank r (N.Name k.0)) (rank r (N.Row n)) (step s t r given.ranked (N.Name k.0) (N.Row j) (a_point (at_name q)) (a_group i) (name_place k.1) (group_row a) (one_reached s (at_name q) reaches) (A.means_group (named_group s.definitions x q e) b)) first)
  part_down n o x h c (opens q i) e g p f u =
      let reaches = given.part_opened x q i c e in
      let k = given.placed q reaches in
      let first = step s t r given.ranked (N.Row n) (N.Unwrapping k.0) (an_entry (typed o x)) (a_point (at_unwrapping q)) (entry_row h) (unwrapping_place k.1) c (A.group_opened e) in
      below_group s t r i p (subst (λ (z : GroupName). IsGroupOrigin s t z p) f u) (rank r (N.Row n)) (λ j a. through (rank r (N.Row j)) (rank r (N.Unwrapping k.0)) (rank r (N.Row n)) (step s t r given.ranked (N.Unwrapping k.0) (N.Row j) (a_point (at_unwrapping q)) (a_group i) (unwrapping_place k.1) (group_row a) (one_reached s (at_unwrapping q) reaches) (A.opens_a_group (opened_group s.definitions x q i e))) first)

  round_down : (n : ℕ) (e : Entry) → IsEntry t n e → AreReached s.definitions s.root (entry_points e) → (g : GroupName) (p : GroupOrigin) → FreeGroup (language s.worth s.definitions) (round_form s.worth s.definitions e) g → IsGroupOrigin s t g p → group_rank r p < 2 * rank r (N.Row n)
  round_down n (typed o x) h c g p f u = part_down n o x h c (part_of s.definitions x) refl g p f u
  round_down n (keyed o k x) h c g p f u = absurd f
  round_down n (grouped o i) h c g p f u = below_group s t r i p (subst (λ (z : GroupName). IsGroupOrigin s t z p) f u) (rank r (N.Row n)) (λ j a. step s t r given.ranked (N.Row n) (N.Row j) (an_entry (grouped o i)) (a_group i) (entry_row h) (group_row a) c A.in_group)

  -- Rounds are those of the same row.

  rounds_free : (e : Entry) (least : ℕ) (most : F.Most) (g : GroupName) → FreeGroup (language s.worth s.definitions) (rounds_form s.worth s.definitions e least most) g → g ≡ round e
  rounds_free e least F.any_number_of g f = f
  rounds_free e least (F.at_most n) g f = by (ltb n least) f
    where
      by : (b : Bool) → FreeGroup (language s.worth s.definitions) (if b then F.Alternatives [] else F.Repeat least (F.at_most n) (round e)) g → g ≡ round e
      by true f = absurd f
      by false f = f

  round_under : (n : ℕ) (e : Entry) → IsEntry t n e → (p : GroupOrigin) → IsGroupOrigin s t (round e) p → group_rank r p < 2 * rank r (N.Row n) + 1
  round_under n e h p (of_round {n = m} k c w) = subst (λ (j : ℕ). 2 * rank r (N.Row j) < 2 * rank r (N.Row n) + 1) (given.same_row n m _ h k) (one_more (rank r (N.Row n)))

  entry_down : (n : ℕ) (e : Entry) → IsEntry t n e → AreReached s.definitions s.root (entry_points e) → (b : Bool) (g : GroupName) (p : GroupOrigin) → FreeGroup (language s.worth s.definitions) (if b then round_form s.worth s.definitions e else rounds_form s.worth s.definitions e (least_of (occurrence_of e)) (most_of (occurrence_of e))) g → IsGroupOrigin s t g p → group_rank r p < 2 * rank r (N.Row n) + 1
  entry_down n e h c true g p f u = under_one (group_rank r p) (rank r (N.Row n)) (round_down n e h c g p f u)
  entry_down n e h c false g p f u = round_under n e h p (subst (λ (z : GroupName). IsGroupOrigin s t z p) (rounds_free e (least_of (occurrence_of e)) (most_of (occurrence_of e)) g f) u)

  -- What is free in a group has a rank below that of the group.
  pub groups_down : (x : GroupName) (o : GroupOrigin) → IsGroupOrigin s t x o → (g : GroupName) (p : GroupOrigin) → FreeGroup (language s.worth s.definitions) (group_form s.worth s.definitions x) g → IsGroupOrigin s t g p → group_rank r p < group_rank r o
  groups_down x o (of_alternatives {o = i} {ess = ess} a c w) g p f u = alternatives_down ess i a c g p f u
  groups_down x o (of_sequence {n = n} {es = es} h c w) g p f u = sequence_down n es h c g p f u
  groups_down x o (of_entry {n = n} {e = e} h c w) g p f u = entry_down n e h c (occurs_once (occurrence_of e)) g p f u
  groups_down x o (of_round {n = n} {e = e} h c w) g p f u = round_down n e h c g p f u
