-- The rows of parts.
use Rattle.std.proofs.Common.{◌≡◌, ℕ, Bool, List, [], ◌∷◌, ◌++◌, Option, Some, refl, sym, ap, ◌∙◌}
use Rattle.cddl_language.specs.Terms.{Text, number, text, bytes, Term, literal, named, parens, map_of, array_of, unwrapped, choice_of, choice_of_name, tagged, tagged_by, simple_by, hash, range, control, or, Group, sole, orelse, Entries, no_entries, entries, Entry, typed, keyed, grouped, alternatives}
use Rattle.check_terms.specs.declared.row.Form.{Form}
use Rattle.check_terms.specs.Table.{Table, Tree, node, Holds, part}
use Rattle.check_terms.specs.Trees.{IsTerm, IsGroup, IsEntries, IsEntry, term_tree, group_tree, entries_tree, entry_tree}

module _ (t : Table) where
  first_part : (n : ℕ) (f : Form) (x : Option Text) (a b : Tree) → Holds t (Some n) (node f x a b) → (i : Option ℕ) × Holds t i a
  first_part n f x a b (part {i = i} e h k l) = (i, k)

  second_part : (n : ℕ) (f : Form) (x : Option Text) (a b : Tree) → Holds t (Some n) (node f x a b) → (i : Option ℕ) × Holds t i b
  second_part n f x a b (part {j = j} e h k l) = (j, l)

  node_there : (o : Option ℕ) (f : Form) (x : Option Text) (a b : Tree) → Holds t o (node f x a b) → (n : ℕ) × Holds t (Some n) (node f x a b)
  node_there o f x a b (part {n = n} e h k l) = (n, part e h k l)

  group_there : (o : Option ℕ) (g : Group) → Holds t o (group_tree g) → (n : ℕ) × IsGroup t n g
  group_there o (sole es) h = node_there o _ _ _ _ h
  group_there o (orelse g es) h = node_there o _ _ _ _ h

  entries_there : (o : Option ℕ) (es : Entries) → Holds t o (entries_tree es) → (n : ℕ) × IsEntries t n es
  entries_there o no_entries h = node_there o _ _ _ _ h
  entries_there o (entries es e c) h = node_there o _ _ _ _ h

  entry_there : (o : Option ℕ) (e : Entry) → Holds t o (entry_tree e) → (n : ℕ) × IsEntry t n e
  entry_there o (typed p x) h = node_there o _ _ _ _ h
  entry_there o (keyed p k x) h = node_there o _ _ _ _ h
  entry_there o (grouped p g) h = node_there o _ _ _ _ h

  term_there : (o : Option ℕ) (x : Term) → Holds t o (term_tree x) → (n : ℕ) × IsTerm t n x
  term_there o (literal (number x)) h = node_there o _ _ _ _ h
  term_there o (literal (text x)) h = node_there o _ _ _ _ h
  term_there o (literal (bytes x)) h = node_there o _ _ _ _ h
  term_there o (named r) h = node_there o _ _ _ _ h
  term_there o (parens y) h = node_there o _ _ _ _ h
  term_there o (map_of g) h = node_there o _ _ _ _ h
  term_there o (array_of g) h = node_there o _ _ _ _ h
  term_there o (unwrapped r) h = node_there o _ _ _ _ h
  term_there o (choice_of g) h = node_there o _ _ _ _ h
  term_there o (choice_of_name r) h = node_there o _ _ _ _ h
  term_there o (tagged x y) h = node_there o _ _ _ _ h
  term_there o (tagged_by z y) h = node_there o _ _ _ _ h
  term_there o (simple_by y) h = node_there o _ _ _ _ h
  term_there o (hash x) h = node_there o _ _ _ _ h
  term_there o (range y c z) h = node_there o _ _ _ _ h
  term_there o (control y x z) h = node_there o _ _ _ _ h
  term_there o (or y z) h = node_there o _ _ _ _ h

  -- Of a group, of entries, of a choice.

  pub sole_part : (n : ℕ) (es : Entries) → IsGroup t n (sole es) → (m : ℕ) × IsEntries t m es
  sole_part n es h = let p = first_part n _ _ _ _ h in entries_there p.0 es p.1

  pub other_part : (n : ℕ) (g : Group) (es : Entries) → IsGroup t n (orelse g es) → (m : ℕ) × IsGroup t m g
  other_part n g es h = let p = first_part n _ _ _ _ h in group_there p.0 g p.1

  pub last_part : (n : ℕ) (g : Group) (es : Entries) → IsGroup t n (orelse g es) → (m : ℕ) × IsEntries t m es
  last_part n g es h = let p = second_part n _ _ _ _ h in entries_there p.0 es p.1

  pub earlier_part : (n : ℕ) (es : Entries) (e : Entry) (c : Bool) → IsEntries t n (entries es e c) → (m : ℕ) × IsEntries t m es
  earlier_part n es e c h = let p = first_part n _ _ _ _ h in entries_there p.0 es p.1

  pub entry_part : (n : ℕ) (es : Entries) (e : Entry) (c : Bool) → IsEntries t n (entries es e c) → (m : ℕ) × IsEntry t m e
  entry_part n es e c h = let p = second_part n _ _ _ _ h in entry_there p.0 e p.1

  pub chosen_part : (n : ℕ) (g : Group) → IsTerm t n (choice_of g) → (m : ℕ) × IsGroup t m g
  chosen_part n g h = let p = first_part n _ _ _ _ h in group_there p.0 g p.1

  pub first_choice : (n : ℕ) (x y : Term) → IsTerm t n (or x y) → (m : ℕ) × IsTerm t m x
  first_choice n x y h = let p = first_part n _ _ _ _ h in term_there p.0 x p.1

-- A group is known by its alternatives.

last_of : {A : Type 0} (xs ys : List A) (x y : A) → xs ++ x ∷ [] ≡ ys ++ y ∷ [] → (xs ≡ ys) × (x ≡ y)
last_of [] [] x y e = (refl, same)
  where
    same : x ≡ y
    same = cc
last_of [] (z ∷ []) x y e = cc
last_of [] (z ∷ w ∷ ys) x y e = cc
last_of (z ∷ []) [] x y e = cc
last_of (z ∷ w ∷ xs) [] x y e = cc
last_of (z ∷ xs) (w ∷ ys) x y e = let r = last_of xs ys x y rest in (joined r.0, r.1)
  where
    rest : xs ++ x ∷ [] ≡ ys ++ y ∷ []
    rest = cc

    first : z ≡ w
    first = cc

    joined : xs ≡ ys → z ∷ xs ≡ w ∷ ys
    joined k = cc

pub some_alternative : (g : Group) → [] ≡ alternatives g → ⊥
some_alternative (sole es) e = cc
some_alternative (orelse g es) e = by (alternatives g) e
  where
    by : (l : List Entries) → [] ≡ l ++ es ∷ [] → ⊥
    by [] e = cc
    by (f ∷ l) e = cc

pub same_group : (g p : Group) → alternatives g ≡ alternatives p → g ≡ p
same_group (sole es) (sole fs) e = same
  where
    same : sole es ≡ sole fs
    same = ap sole (last_of [] [] es fs e).1
same_group (sole es) (orelse p fs) e = absurd (some_alternative p (last_of [] (alternatives p) es fs e).0)
same_group (orelse g es) (sole fs) e = absurd (some_alternative g (sym (last_of (alternatives g) [] es fs e).0))
same_group (orelse g es) (orelse p fs) e = let r = last_of (alternatives g) (alternatives p) es fs e in ap (λ (q : Group). orelse q es) (same_group g p r.0) ∙ ap (orelse p) r.1
