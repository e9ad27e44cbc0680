-- Lists that grow at their end, by rows.
use Rattle.std.proofs.Common.{◌≡◌, ℕ, ◌<◌, Bool, true, false, true≢false, List, [], ◌∷◌, ◌++◌, reverse, append_assoc, Option, Some, None, IfSome, slice_get, refl, sym, ap, ◌∙◌, subst}
use Rattle.std.specs.Prelude.{if◌then◌else◌}
use Rattle.std.proofs.lemmas.List.{reverse-append}
use Rattle.std.proofs.lemmas.Option.{none-some, same_Some}
use Rattle.cddl_language.specs.Terms.{number, text, bytes, Term, literal, named, parens, map_of, array_of, unwrapped, choice_of, choice_of_name, tagged, tagged_by, simple_by, hash, range, control, or, Group, sole, orelse, Entries, no_entries, entries, Entry, typed, keyed, grouped, choices, alternatives, entry_list}
use Rattle.cddl_meaning.specs.Alike.{AlikeAll, none, both}
use Rattle.check_terms.specs.declared.row.Row.{Row}
use Rattle.check_terms.specs.Table.{IsTable, Table, Tree, nothing, node, Holds, no_part, part}
use Rattle.check_terms.specs.Trees.{IsTerm, IsGroup, IsEntries, term_tree, group_tree, entries_tree, entry_tree}
use Rattle.check_instances.specs.declared.closed.spines.Spine.{Spine}
use Rattle.check_instances.specs.declared.closed.spines.Spine.TheVariants as S
use Rattle.check_instances.specs.Closed.Closed.{TermRow, EntriesRow, EntryRow}
use Rattle.check_instances.specs.Closed.Spines as spine
use Rattle.check_instances.specs.Closed.Spines.{IsWalked, ends, goes, split_at, split_in, in_order, first_at, first_in}
use Rattle.check_instances.proofs.OfClosed.Alike.{alike_push}

-- The walk.

-- What was walked so far, with what is left.
abbrev pub IsSoFar : Spine → List Row → ℕ → List ℕ → ℕ → Type 0
IsSoFar s rows n parts left = (ps : List ℕ) (e : ℕ) → IsWalked s rows left ps e → IsWalked s rows n (parts ++ ps) e

pub none_so_far : (s : Spine) (rows : List Row) (n : ℕ) → IsSoFar s rows n [] n
none_so_far s rows n = λ ps e w. w

pub one_further : (s : Spine) (rows : List Row) (n : ℕ) (parts : List ℕ) (left i j : ℕ) → split_at s rows left ≡ Some (i, j) → IsSoFar s rows n parts left → IsSoFar s rows n (parts ++ j ∷ []) i
one_further s rows n parts left i j e so = λ ps l w. subst (λ qs. IsWalked s rows n qs l) (sym (append_assoc parts (j ∷ []) ps)) (so (j ∷ ps) l (goes e w))

pub falls : (s : Spine) (t : Table) → IsTable t → (n i j : ℕ) → split_at s t.rows n ≡ Some (i, j) → i < n
falls s t is n i j e = by (slice_get t.rows n) refl e
  where
    first : (a b : Option ℕ) → spine.both a b ≡ Some (i, j) → a ≡ Some i
    first (Some x) (Some y) g = ap (λ (c : ℕ × ℕ). Some c.0) (same_Some (x, y) (i, j) g)
    first (Some x) None g = cc
    first None b g = cc

    within : (o : Option ℕ) → IfSome o (λ m. m < n) → o ≡ Some i → i < n
    within o h g = subst (λ p. IfSome p (λ m. m < n)) g h

    row : (r : Row) → slice_get t.rows n ≡ Some r → (b : Bool) → (if b then spine.both r.first r.second else None) ≡ Some (i, j) → i < n
    row r h true g = within r.first (is.earlier n r h).1 (first r.first r.second g)
    row r h false g = cc

    by : (o : Option Row) → slice_get t.rows n ≡ o → split_in s o ≡ Some (i, j) → i < n
    by None h g = cc
    by (Some r) h g = row r h (spine.goes_on s r.form) g

-- Trees are something.

pub is_node : Tree → Bool
is_node nothing = false
is_node (node f x a b) = true

none_holds : (t : Table) (x : Tree) → Holds t None x → is_node x ≡ false
unfolding is_node
none_holds t x no_part = refl

pub something : (t : Table) (i : Option ℕ) (x : Tree) → is_node x ≡ true → Holds t i x → (n : ℕ) × (i ≡ Some n)
something t None x e h = absurd (true≢false (sym e ∙ none_holds t x h))
something t (Some n) x e h = (n, refl)

pub term_node : (u : Term) → is_node (term_tree u) ≡ true
unfolding is_node
term_node (literal (number x)) = refl
term_node (literal (text x)) = refl
term_node (literal (bytes x)) = refl
term_node (named r) = refl
term_node (parens u) = refl
term_node (map_of g) = refl
term_node (array_of g) = refl
term_node (unwrapped r) = refl
term_node (choice_of g) = refl
term_node (choice_of_name r) = refl
term_node (tagged x u) = refl
term_node (tagged_by h u) = refl
term_node (simple_by h) = refl
term_node (hash x) = refl
term_node (range a c b) = refl
term_node (control a x b) = refl
term_node (or u v) = refl

pub group_node : (g : Group) → is_node (group_tree g) ≡ true
unfolding is_node
group_node (sole es) = refl
group_node (orelse g es) = refl

pub entries_node : (es : Entries) → is_node (entries_tree es) ≡ true
unfolding is_node
entries_node no_entries = refl
entries_node (entries es e c) = refl

pub entry_node : (e : Entry) → is_node (entry_tree e) ≡ true
unfolding is_node
entry_node (typed o u) = refl
entry_node (keyed o k u) = refl
entry_node (grouped o g) = refl

-- What is split.

-- the two parts of a row, of which each stands for a tree
pub record AreParts (t : Table) (o : Option (ℕ × ℕ)) (a b : Tree) : Type 0 where
  pub first : ℕ
  pub second : ℕ
  pub same : o ≡ Some (first, second)
  pub holds_first : Holds t (Some first) a
  pub holds_second : Holds t (Some second) b

parts_of : (t : Table) (i j : Option ℕ) (a b : Tree) → is_node a ≡ true → is_node b ≡ true → Holds t i a → Holds t j b → AreParts t (spine.both i j) a b
parts_of t (Some i) (Some j) a b e f g h = record { first = i; second = j; same = refl; holds_first = g; holds_second = h }
parts_of t (Some i) None a b e f g h = let q = something t None b f h in absurd (none-some q.0 q.1)
parts_of t None j a b e f g h = let q = something t None a e g in absurd (none-some q.0 q.1)

module _ (t : Table) where
  or_splits : (n : ℕ) (u v : Term) → IsTerm t n (or u v) → AreParts t (split_at S.Choices t.rows n) (term_tree u) (term_tree v)
  or_splits n u v (part {i = i} {j = j} e d a b) = subst (λ o. AreParts t (split_in S.Choices o) (term_tree u) (term_tree v)) (sym e) (parts_of t i j (term_tree u) (term_tree v) (term_node u) (term_node v) a b)

  orelse_splits : (n : ℕ) (g : Group) (es : Entries) → IsGroup t n (orelse g es) → AreParts t (split_at S.Alternatives t.rows n) (group_tree g) (entries_tree es)
  orelse_splits n g es (part {i = i} {j = j} e d a b) = subst (λ o. AreParts t (split_in S.Alternatives o) (group_tree g) (entries_tree es)) (sym e) (parts_of t i j (group_tree g) (entries_tree es) (group_node g) (entries_node es) a b)

  entries_split : (n : ℕ) (es : Entries) (x : Entry) (c : Bool) → IsEntries t n (entries es x c) → AreParts t (split_at S.Entries t.rows n) (entries_tree es) (entry_tree x)
  entries_split n es x true (part {i = i} {j = j} e d a b) = subst (λ o. AreParts t (split_in S.Entries o) (entries_tree es) (entry_tree x)) (sym e) (parts_of t i j (entries_tree es) (entry_tree x) (entries_node es) (entry_node x) a b)
  entries_split n es x false (part {i = i} {j = j} e d a b) = subst (λ o. AreParts t (split_in S.Entries o) (entries_tree es) (entry_tree x)) (sym e) (parts_of t i j (entries_tree es) (entry_tree x) (entries_node es) (entry_node x) a b)

  sole_ends : (n : ℕ) (es : Entries) → IsGroup t n (sole es) → split_at S.Alternatives t.rows n ≡ None
  sole_ends n es (part e d a b) = ap (split_in S.Alternatives) e

  sole_first : (n : ℕ) (es : Entries) → IsGroup t n (sole es) → (m : ℕ) × (first_at t.rows n ≡ Some m) × IsEntries t m es
  sole_first n es (part {i = i} e d a b) = let q = something t i (entries_tree es) (entries_node es) a in (q.0, ap first_in e ∙ q.1, subst (λ o. Holds t o (entries_tree es)) q.1 a)

  no_entries_end : (n : ℕ) → IsEntries t n no_entries → split_at S.Entries t.rows n ≡ None
  no_entries_end n (part e d a b) = ap (split_in S.Entries) e

  -- a type that is a choice, or is one itself
  data IsChosen : ℕ → Term → Type 0 where
    two : {n : ℕ} {u v : Term} → AreParts t (split_at S.Choices t.rows n) (term_tree u) (term_tree v) → IsChosen n (or u v)
    one : {n : ℕ} {u : Term} → split_at S.Choices t.rows n ≡ None → choices u ≡ u ∷ [] → IsChosen n u

  chosen : (n : ℕ) (u : Term) → IsTerm t n u → IsChosen n u
  chosen n (or u v) h = two (or_splits n u v h)
  chosen n (literal (number x)) (part e d a b) = one (ap (split_in S.Choices) e) refl
  chosen n (literal (text x)) (part e d a b) = one (ap (split_in S.Choices) e) refl
  chosen n (literal (bytes x)) (part e d a b) = one (ap (split_in S.Choices) e) refl
  chosen n (named r) (part e d a b) = one (ap (split_in S.Choices) e) refl
  chosen n (parens u) (part e d a b) = one (ap (split_in S.Choices) e) refl
  chosen n (map_of g) (part e d a b) = one (ap (split_in S.Choices) e) refl
  chosen n (array_of g) (part e d a b) = one (ap (split_in S.Choices) e) refl
  chosen n (unwrapped r) (part e d a b) = one (ap (split_in S.Choices) e) refl
  chosen n (choice_of g) (part e d a b) = one (ap (split_in S.Choices) e) refl
  chosen n (choice_of_name r) (part e d a b) = one (ap (split_in S.Choices) e) refl
  chosen n (tagged x u) (part e d a b) = one (ap (split_in S.Choices) e) refl
  chosen n (tagged_by h u) (part e d a b) = one (ap (split_in S.Choices) e) refl
  chosen n (simple_by h) (part e d a b) = one (ap (split_in S.Choices) e) refl
  chosen n (hash x) (part e d a b) = one (ap (split_in S.Choices) e) refl
  chosen n (range u true v) (part e d a b) = one (ap (split_in S.Choices) e) refl
  chosen n (range u false v) (part e d a b) = one (ap (split_in S.Choices) e) refl
  chosen n (control u x v) (part e d a b) = one (ap (split_in S.Choices) e) refl

  -- What was walked, as parts in order.

  pushed : {A : Type 0} (R : A → ℕ → Type 0) (xs : List A) (x : A) (j : ℕ) (ps : List ℕ) (e : Option ℕ) → AlikeAll R xs (in_order ps e) → R x j → AlikeAll R (xs ++ x ∷ []) (in_order (j ∷ ps) e)
  pushed R xs x j ps (Some e) a h = subst (λ (qs : List ℕ). AlikeAll R (xs ++ x ∷ []) (e ∷ qs)) (sym (reverse-append (j ∷ []) ps)) (alike_push R xs (e ∷ reverse ps) x j a h)
  pushed R xs x j ps None a h = subst (AlikeAll R (xs ++ x ∷ [])) (sym (reverse-append (j ∷ []) ps)) (alike_push R xs (reverse ps) x j a h)

  -- the parts of a row that was split
  at_these : (i j : ℕ) (o : Option (ℕ × ℕ)) (a b : Tree) → o ≡ Some (i, j) → AreParts t o a b → Holds t (Some i) a × Holds t (Some j) b
  at_these i j o a b s q =
      let same = same_Some (q.first, q.second) (i, j) (sym q.same ∙ s) in
      (subst (λ (k : ℕ). Holds t (Some k) a) (ap (λ (c : ℕ × ℕ). c.0) same) q.holds_first, subst (λ (k : ℕ). Holds t (Some k) b) (ap (λ (c : ℕ × ℕ). c.1) same) q.holds_second)

  unsplit : (o : Option (ℕ × ℕ)) (a b : Tree) → o ≡ None → AreParts t o a b → ⊥
  unsplit o a b s q = none-some (q.first, q.second) (sym s ∙ q.same)

  pub choices_walked : (n : ℕ) (ps : List ℕ) (e : ℕ) → IsWalked S.Choices t.rows n ps e → (u : Term) → IsTerm t n u → AlikeAll (TermRow t) (choices u) (in_order ps (Some e))
  choices_walked n ps e (ends {n = m} s) u h = last u h (chosen m u h)
    where
      last : (v : Term) → IsTerm t m v → IsChosen m v → AlikeAll (TermRow t) (choices v) (m ∷ [])
      last v k (one f g) = subst (λ us. AlikeAll (TermRow t) us (m ∷ [])) (sym g) (both k none)
      last v k (two {u = a} {v = b} q) = absurd (unsplit _ (term_tree a) (term_tree b) s q)
  choices_walked n ps e (goes {n = m} {i = i} {j = j} {ps = qs} s w) u h = more u (chosen m u h) (choices_walked i qs e w)
    where
      more : (v : Term) → IsChosen m v → ((y : Term) → IsTerm t i y → AlikeAll (TermRow t) (choices y) (in_order qs (Some e))) → AlikeAll (TermRow t) (choices v) (in_order (j ∷ qs) (Some e))
      more v (one f g) rest = absurd (none-some (i, j) (sym f ∙ s))
      more v (two {u = a} {v = b} q) rest =
          let these = at_these i j _ (term_tree a) (term_tree b) s q in
          pushed (TermRow t) (choices a) b j qs (Some e) (rest a these.0) these.1

  pub alternatives_walked : (n : ℕ) (ps : List ℕ) (e : ℕ) → IsWalked S.Alternatives t.rows n ps e → (g : Group) → IsGroup t n g → AlikeAll (EntriesRow t) (alternatives g) (in_order ps (first_at t.rows e))
  alternatives_walked n ps e (ends {n = m} s) (sole es) h =
      let first = sole_first m es h in
      subst (λ o. AlikeAll (EntriesRow t) (es ∷ []) (in_order [] o)) (sym first.1) (both first.2 none)
  alternatives_walked n ps e (ends {n = m} s) (orelse g es) h = absurd (unsplit _ (group_tree g) (entries_tree es) s (orelse_splits m g es h))
  alternatives_walked n ps e (goes {n = m} {i = i} {j = j} {ps = qs} s w) (sole es) h = absurd (none-some (i, j) (sym (sole_ends m es h) ∙ s))
  alternatives_walked n ps e (goes {n = m} {i = i} {j = j} {ps = qs} s w) (orelse g es) h =
      let these = at_these i j _ (group_tree g) (entries_tree es) s (orelse_splits m g es h) in
      pushed (EntriesRow t) (alternatives g) es j qs (first_at t.rows e) (alternatives_walked i qs e w g these.0) these.1

  pub entries_walked : (n : ℕ) (ps : List ℕ) (e : ℕ) → IsWalked S.Entries t.rows n ps e → (es : Entries) → IsEntries t n es → AlikeAll (EntryRow t) (entry_list es) (in_order ps None)
  entries_walked n ps e (ends {n = m} s) no_entries h = none
  entries_walked n ps e (ends {n = m} s) (entries es x c) h = absurd (unsplit _ (entries_tree es) (entry_tree x) s (entries_split m es x c h))
  entries_walked n ps e (goes {n = m} {i = i} {j = j} {ps = qs} s w) no_entries h = absurd (none-some (i, j) (sym (no_entries_end m h) ∙ s))
  entries_walked n ps e (goes {n = m} {i = i} {j = j} {ps = qs} s w) (entries es x c) h =
      let these = at_these i j _ (entries_tree es) (entry_tree x) s (entries_split m es x c h) in
      pushed (EntryRow t) (entry_list es) x j qs None (entries_walked i qs e w es these.0) these.1

-- the last one in front
pub end_in_front : (ps : List ℕ) (e : ℕ) → reverse (ps ++ e ∷ []) ≡ e ∷ reverse ps
end_in_front ps e = reverse-append ps (e ∷ [])
