-- What holds of the row of each type, and of what `&` chooses from, by the rows of its parts.
use Rattle.std.proofs.Common.{◌≡◌, ◌⊎◌, inl, inr, ℕ, zero, suc, ◌<◌, List, [], ◌∷◌, ◌++◌, length, Bool, true, false, if◌then◌else◌, Option, Some, None, slice_get, refl, sym, ap, subst, ◌∙◌, arith}
use Rattle.std.specs.Prelude.{Contains, nat_le, ◌&&◌, ◌||◌}
use Rattle.std.proofs.lemmas.List.Elements.{Contains-append_cases, Contains-append_left, Contains-append_right}
use Rattle.lists.proofs.Lemmas.{IsIn, at_head as first_in, false_true as not_true, from_contains, later_in, test_greater, there, within}
use Rattle.cbor_data.specs.Value as V
use Rattle.cbor_data.specs.Value.{Value}
use Rattle.cddl_literal.specs.Numbers.{Meaning, UintOf, NintOf, TextOf, BytesOf}
use Rattle.cddl_meaning.specs.Alike.{AlikeAll, none, both}
use Rattle.cddl_meaning.specs.Forms.{has_size}
use Rattle.cddl_language.specs.Controls.{Membership}
use Rattle.cddl_language.specs.Numbers.{occurs_once}
use Rattle.cddl_language.specs.MapFaults.{group_of_part}
use Rattle.cddl_language.specs.Terms.{Text, Literal, number, text, bytes, Term, literal, named, parens, map_of, array_of, unwrapped, choice_of, choice_of_name, tagged, tagged_by, simple_by, hash, range, control, or, Ref, call, Group, sole, orelse, Entries, no_entries, entries, Entry, typed, keyed, grouped, Definition, alternatives, stripped, occurrence_of, name_of}
use Rattle.cddl_language.specs.Substitution.{group_choices, type_choices}
use Rattle.cddl_language.specs.Kinds.{Opened, opens_group, opens_type, opened, is_group, Part, asks_type, names_group, opens, opened_part, stripped_part, part_of}
use Rattle.cddl_language.specs.Reach.{at_choice, at_name, Reaches, points, group_points, entries_points, entry_points, key_points}
use Rattle.cddl_language.specs.Literals.{Values, literal_of}
use Rattle.cddl_language.specs.Sizes as L
use Rattle.cddl_language.specs.Sizes.{Behind, a_type, a_group, all_sizes, both_sizes, chosen_sizes, entries_sizes, entry_sizes, group_sizes, one_size, opens_choices, part_sizes, range_sizes, sizes_to, term_sizes}
use Rattle.check_terms.specs.declared.row.Form.TheVariants as F
use Rattle.check_terms.specs.declared.row.Row.{Row}
use Rattle.check_terms.specs.Table.{Holds, HoldsText, Table, Tree, node, nothing, no_part, no_text, part, some_text}
use Rattle.check_terms.specs.Trees.{IsEntries, IsEntry, IsGroup, IsRef, IsTerm, entries_tree, entry_tree, group_tree, ref_tree, term_tree}
use Rattle.check_names.specs.declared.kinds.kinds.Kinds.{Kinds}
use Rattle.check_names.specs.Kinds.Kinds.{AreKinds}
use Rattle.check_instances.specs.declared.closed.closed.Closed.{Closed}
use Rattle.check_instances.specs.declared.closed.closed.Meaning as M
use Rattle.check_instances.specs.Closed.Closed.{AreAlternatives, no_alternatives, alternatives_of, AreReached, IsMeaning, TermRow}
use Rattle.check_groups.specs.declared.causes.rows.GroupRow.{GroupRow}
use Rattle.check_groups.specs.Causes.Rows.{AreRows, IsEntriesRow, of_none, of_more, IsEntryRow, of_type, of_named, of_keyed, of_grouped, IsGroupOf, no_group, group_of, IsGroupRow, of_sole, of_orelse, IsRowAt}
use Rattle.check_groups.specs.Choosing.Occurrences.{is_once_at, is_once_by}
use Rattle.cddl_language.specs.Written.Written.{AllIn, AllInEntries, AllInEntry, AllInGroup, IsMeant}
use Rattle.check_literals.specs.declared.known.Literals.{Literals}
use Rattle.check_literals.specs.Literals.{AreLiterals, IsKnown, literal_at}
use Rattle.check_literals.specs.declared.sizes.sources.Source.{Source}
use Rattle.check_literals.specs.Sizes.Sources.{AreSources, View, no_members, no_numbers, numbers, members_of, members_of_choices, alternatives_at, alternatives_in, both_view, by_name_view, choices_at, choices_in, form_view, group_row_view, group_view, has_group_name, named_view, numbers_between, one_number, range_to, row_source, row_view, uint_at, uint_in, view_at}

-- the members of a type without parts, and its row's numbers
pub data IsOwn : Option L.Sizes → View → Type 0 where
  no_own : IsOwn None no_members
  own : (rs : L.Sizes) (r : ℕ × ℕ) → ((v : Value) → has_size rs v ≡ has_size (r ∷ []) v) → IsOwn (Some rs) (numbers r)

one_own : (o : Option Meaning) → IsOwn (one_size o) (one_number (uint_in o))
one_own None = no_own
one_own (Some (UintOf n)) = own ((n, n) ∷ []) (n, n) (λ v. refl)
one_own (Some (NintOf n)) = no_own
one_own (Some (TextOf b)) = no_own
one_own (Some (BytesOf b)) = no_own

nothing_between : (m : ℕ) → ((nat_le 1 m && nat_le m 0) || false) ≡ false
nothing_between zero = refl
nothing_between (suc k) = by (nat_le 1 (suc k)) (nat_le (suc k) 0) (test_greater (suc k) 0 (omega arith))
  where
    by : (a b : Bool) → b ≡ false → ((a && b) || false) ≡ false
    by true true e = e
    by true false e = refl
    by false b e = refl

no_size : (v : Value) → has_size [] v ≡ has_size ((1, 0) ∷ []) v
no_size (V.uint n) = refl
no_size (V.nint n) = refl
no_size (V.bytes b) = sym (nothing_between (length b))
no_size (V.text b) = sym (nothing_between (length b))
no_size (V.array xs) = refl
no_size (V.pairs ps) = refl
no_size (V.tag n x) = refl
no_size (V.simple n) = refl
no_size (V.float w n) = refl

between_own : (c : Bool) (a b : ℕ) → IsOwn (Some (sizes_to c a b)) (numbers (range_to c a b))
between_own true a b = own ((a, b) ∷ []) (a, b) (λ v. refl)
between_own false a zero = own [] (1, 0) no_size
between_own false a (suc b) = own ((a, b) ∷ []) (a, b) (λ v. refl)

range_own : (c : Bool) (o p : Option Meaning) → IsOwn (range_sizes c o p) (numbers_between c (uint_in o) (uint_in p))
range_own c (Some (UintOf a)) (Some (UintOf b)) = between_own c a b
range_own c (Some (UintOf a)) (Some (NintOf b)) = no_own
range_own c (Some (UintOf a)) (Some (TextOf b)) = no_own
range_own c (Some (UintOf a)) (Some (BytesOf b)) = no_own
range_own c (Some (UintOf a)) None = no_own
range_own c (Some (NintOf a)) p = no_own
range_own c (Some (TextOf a)) p = no_own
range_own c (Some (BytesOf a)) p = no_own
range_own c None p = no_own

-- the row of a part

abbrev is_node : Tree → Bool
is_node nothing = false
is_node (node f x a b) = true

node_row : (t : Table) (o : Option ℕ) (x : Tree) → is_node x ≡ true → Holds t o x → (n : ℕ) × (o ≡ Some n) × Holds t (Some n) x
node_row t o x e no_part = absurd (not_true e)
node_row t o x e (part {n = n} f g a b) = (n, refl, part f g a b)

term_node : (x : Term) → is_node (term_tree x) ≡ true
term_node (literal (number n)) = refl
term_node (literal (text n)) = refl
term_node (literal (bytes n)) = refl
term_node (named r) = refl
term_node (parens y) = refl
term_node (map_of g) = refl
term_node (array_of g) = refl
term_node (unwrapped r) = refl
term_node (choice_of g) = refl
term_node (choice_of_name r) = refl
term_node (tagged n y) = refl
term_node (tagged_by h y) = refl
term_node (simple_by y) = refl
term_node (hash n) = refl
term_node (range y c z) = refl
term_node (control y n z) = refl
term_node (or y z) = refl

term_row : (t : Table) (o : Option ℕ) (x : Term) → Holds t o (term_tree x) → (n : ℕ) × (o ≡ Some n) × IsTerm t n x
term_row t o x h = node_row t o (term_tree x) (term_node x) h

ref_row : (t : Table) (o : Option ℕ) (r : Ref) → Holds t o (ref_tree r) → (n : ℕ) × (o ≡ Some n) × IsRef t n r
ref_row t o (call m ts) h = node_row t o (ref_tree (call m ts)) refl h

group_node : (g : Group) → is_node (group_tree g) ≡ true
group_node (sole es) = refl
group_node (orelse g es) = refl

group_row : (t : Table) (o : Option ℕ) (g : Group) → Holds t o (group_tree g) → (n : ℕ) × (o ≡ Some n) × IsGroup t n g
group_row t o g h = node_row t o (group_tree g) (group_node g) h

pub row_within : (t : Table) (n : ℕ) (x : Tree) → Holds t (Some n) x → n < length t.rows
row_within t n x (part e h a b) = within t.rows n _ e

-- in a list

alike_with : {A : Type 0} (R : A → ℕ → Type 0) (Q : A → Type 0) (ys : List A) (ms : List ℕ) → AlikeAll R ys ms → ((y : A) → Contains ys y → Q y) → AlikeAll (λ (y : A) (m : ℕ). R y m × Q y) ys ms
alike_with R Q ys ms none k = none
alike_with R Q ys ms (both {n = y} {m = m} {ns = zs} {ms = ns} r h) k = both (r, k y (first_in y zs)) (alike_with R Q zs ns h (λ z c. k z (later_in y z zs c)))

-- A type, or what `&` chooses from, or a part of that.
pub data Piece : Type 0 where
  a_term : Term → Piece
  of_group : Group → Piece
  of_entries : Entries → Piece
  of_entry : Entry → Piece

-- all of what stands behind these names
abbrev pub all_behind : (Behind → Option L.Sizes) → List Behind → Option L.Sizes
all_behind next [] = Some []
all_behind next (b ∷ bs) = both_sizes (next b) (all_behind next bs)

abbrev pub types_behind : List Term → List Behind
types_behind [] = []
types_behind (t ∷ ts) = a_type t ∷ types_behind ts

types_are : (next : Behind → Option L.Sizes) (ts : List Term) → all_sizes next ts ≡ all_behind next (types_behind ts)
types_are next [] = refl
types_are next (t ∷ ts) = ap (both_sizes (next (a_type t))) (types_are next ts)

empty_join : (rs : L.Sizes) → rs ++ [] ≡ rs
empty_join [] = refl
empty_join (r ∷ rs) = ap (λ (qs : L.Sizes). r ∷ qs) (empty_join rs)

pub with_none : (o : Option L.Sizes) → both_sizes o (Some []) ≡ o
with_none None = refl
with_none (Some rs) = ap (λ (qs : L.Sizes). Some qs) (empty_join rs)

-- the alternatives of a group are some

not_empty : {A : Type 0} (ys : List A) (y : A) → ys ++ y ∷ [] ≡ [] → ⊥
not_empty [] y e = cc
not_empty (z ∷ ys) y e = cc

some_alternatives : (g : Group) → alternatives g ≡ [] → ⊥
some_alternatives (sole es) e = not_empty [] es e
some_alternatives (orelse g es) e = not_empty (alternatives g) es e

named_sizes : (next : Behind → Option L.Sizes) (ess : List Entries) → (ess ≡ [] → ⊥) → group_sizes next ess ≡ next (a_group ess)
named_sizes next [] f = absurd (f refl)
named_sizes next (es ∷ ess) f = refl

-- a group whose alternatives are of one sort is so
all_in_group : (P : Literal → Type 0) (g : Group) → ((es : Entries) → Contains (alternatives g) es → AllInEntries P es) → AllInGroup P g
all_in_group P (sole es) h = h es (first_in es [])
all_in_group P (orelse g es) h = (all_in_group P g (λ fs c. h fs (Contains-append_left (alternatives g) (es ∷ []) fs c)), h es (Contains-append_right (alternatives g) (es ∷ []) es (first_in es [])))

all_in_alternatives : (P : Literal → Type 0) (g : Group) → AllInGroup P g → (es : Entries) → Contains (alternatives g) es → AllInEntries P es
all_in_alternatives P (sole fs) h es c = by (from_contains (fs ∷ []) es c)
  where
    by : IsIn es (fs ∷ []) → AllInEntries P es
    by (inl e) = subst (AllInEntries P) (sym e) h
    by (inr i) = absurd i
all_in_alternatives P (orelse g fs) h es c = by (all_in_alternatives P g h.0 es) (Contains-append_cases (alternatives g) (fs ∷ []) es c)
  where
    last : IsIn es (fs ∷ []) → AllInEntries P es
    last (inl e) = subst (AllInEntries P) (sym e) h.1
    last (inr i) = absurd i

    by : (Contains (alternatives g) es → AllInEntries P es) → Contains (alternatives g) es ⊎ Contains (fs ∷ []) es → AllInEntries P es
    by f (inl d) = f d
    by f (inr d) = last (from_contains (fs ∷ []) es d)

same_some_list : (ess fss : List Entries) → Some ess ≡ Some fss → ess ≡ fss
same_some_list ess fss e = cc

-- the text of an occurrence says the same as its number
once_told : (texts : List Text) (k : Option ℕ) (o : Option Text) → HoldsText texts k o → is_once_at texts k ≡ occurs_once o
once_told texts k o no_text = refl
once_told texts k o (some_text e) = ap is_once_by e

type_part : (xs : List Definition) (k : Part) → group_of_part xs k ≡ None → k ≡ asks_type
type_part xs asks_type e = refl
type_part xs (names_group r) e = cc
type_part xs (opens r g) e = cc

-- where `~` of a reference opens a group in the place of an entry, that is what it opens
opened_by : (xs : List Definition) (y : Term) (r : Ref) (g : Group) → stripped_part xs y ≡ opens r g → opened xs r ≡ Some (opens_group g)
opened_by xs (unwrapped q) r g e = by (opened xs q) refl e
  where
    by : (o : Option Opened) → opened xs q ≡ o → opened_part q o ≡ opens r g → opened xs r ≡ Some (opens_group g)
    by (Some (opens_group d)) h i = ap (opened xs) (sym (same_ref i)) ∙ (h ∙ ap (λ (x : Group). Some (opens_group x)) (same_group i))
      where
        same_ref : opens q d ≡ opens r g → q ≡ r
        same_ref i = cc

        same_group : opens q d ≡ opens r g → d ≡ g
        same_group i = cc
    by (Some (opens_type z)) h i = cc
    by None h i = cc
opened_by xs (named q) r g e = by (is_group xs (name_of q)) e
  where
    by : (b : Bool) → (if b then names_group q else asks_type) ≡ opens r g → opened xs r ≡ Some (opens_group g)
    by true i = cc
    by false i = cc
opened_by xs (literal v) r g e = cc
opened_by xs (parens y) r g e = cc
opened_by xs (map_of d) r g e = cc
opened_by xs (array_of d) r g e = cc
opened_by xs (choice_of d) r g e = cc
opened_by xs (choice_of_name q) r g e = cc
opened_by xs (tagged m y) r g e = cc
opened_by xs (tagged_by z y) r g e = cc
opened_by xs (simple_by y) r g e = cc
opened_by xs (hash m) r g e = cc
opened_by xs (range y b z) r g e = cc
opened_by xs (control y m z) r g e = cc
opened_by xs (or y z) r g e = cc

module _ (which : Membership) (worth : Values) (xs : List Definition) (next : Behind → Option L.Sizes) where
  abbrev pub piece_sizes : Piece → Option L.Sizes
  piece_sizes (a_term x) = term_sizes which worth xs next x
  piece_sizes (of_group g) = chosen_sizes which worth xs next g
  piece_sizes (of_entries es) = entries_sizes which worth xs next es
  piece_sizes (of_entry e) = entry_sizes which worth xs next e

module _ (which : Membership) (xs : List Definition) (root : Text) (worth : Values) (refs : List Ref) (t : Table) (c : Closed) (ks : Kinds) (ls : Literals) (gs : List GroupRow) (ss : List Source) where
  -- all that is known of the specification
  pub record AreGiven : Type 0 where
    pub kinds : AreKinds t.texts xs ks
    pub values : AreLiterals xs root worth t ls
    pub sources : AreSources which t c ks ls gs ss
    pub rows : AreRows xs root t gs
    pub places : (n : ℕ) (r : Ref) → IsRef t n r → Reaches xs root r → (k : ℕ) × (slice_get c.places.items n ≡ Some (Some k)) × (slice_get refs k ≡ Some r)
    pub meanings : (k : ℕ) (r : Ref) → slice_get refs k ≡ Some r → (m : M.Meaning) × (slice_get c.meanings.items k ≡ Some m) × IsMeaning xs t r m
    pub choices : (r : Ref) (x : Term) → Reaches xs root r → Contains (type_choices xs r) x → IsKnown xs root worth x
    pub groups : (r : Ref) (g : Group) → Reaches xs root r → alternatives g ≡ group_choices xs r → AreReached xs root (group_points g)
    pub written : (r : Ref) (es : Entries) → Reaches xs root r → Contains (group_choices xs r) es → AllInEntries (IsMeant worth) es
    pub opened_written : (r : Ref) (g : Group) → Reaches xs root r → opened xs r ≡ Some (opens_group g) → AllInGroup (IsMeant worth) g
    pub part_named : (x : Term) (r : Ref) → AreReached xs root (points x) → part_of xs x ≡ names_group r → Reaches xs root r
    pub part_opened : (x : Term) (r : Ref) (g : Group) → AreReached xs root (points x) → part_of xs x ≡ opens r g → Reaches xs root r

  abbrev pub KnownPiece : Piece → Type 0
  KnownPiece (a_term x) = IsKnown xs root worth x
  KnownPiece (of_group g) = AreReached xs root (group_points g) × AllInGroup (IsMeant worth) g
  KnownPiece (of_entries es) = AreReached xs root (entries_points es) × AllInEntries (IsMeant worth) es
  KnownPiece (of_entry e) = AreReached xs root (entry_points e) × AllInEntry (IsMeant worth) e

  abbrev pub IsPiece : ℕ → Piece → Type 0
  IsPiece n (a_term x) = IsTerm t n x
  IsPiece n (of_group g) = IsGroup t n g
  IsPiece n (of_entries es) = IsEntries t n es
  IsPiece n (of_entry e) = IsEntry t n e

  -- the row is of a group with these alternatives
  pub record IsKnownGroup (ess : List Entries) (n : ℕ) : Type 0 where
    pub group : Group
    pub same : ess ≡ alternatives group
    pub there : IsGroup t n group
    pub known : KnownPiece (of_group group)

  abbrev pub IsRow : Behind → ℕ → Type 0
  IsRow (a_type x) n = IsTerm t n x × IsKnown xs root worth x
  IsRow (a_group ess) n = IsKnownGroup ess n

  pub behind_within : (n : ℕ) (b : Behind) → IsRow b n → n < length t.rows
  behind_within n (a_type x) h = row_within t n (term_tree x) h.0
  behind_within n (a_group ess) h = row_within t n (group_tree h.group) h.there

  -- What holds of pieces without parts, of those that have the members of one part or of two, and of names, by their parts.
  pub record IsHereditary (P : ℕ → Piece → Type 0) : Type 0 where
    pub leaf : (n : ℕ) (x : Piece) (o : Option L.Sizes) → ((next : Behind → Option L.Sizes) → piece_sizes which worth xs next x ≡ o) → IsOwn o (view_at ss n) → P n x
    pub inner : (n m : ℕ) (x y : Piece) → ((next : Behind → Option L.Sizes) → piece_sizes which worth xs next x ≡ piece_sizes which worth xs next y) → view_at ss n ≡ members_of (m ∷ []) → m < length ss → P m y → P n x
    pub sides : (n a b : ℕ) (x y z : Piece) → ((next : Behind → Option L.Sizes) → piece_sizes which worth xs next x ≡ both_sizes (piece_sizes which worth xs next y) (piece_sizes which worth xs next z)) → view_at ss n ≡ members_of (a ∷ b ∷ []) → a < length ss → b < length ss → P a y → P b z → P n x
    pub name : (n : ℕ) (x : Piece) (bs : List Behind) (ms : List ℕ) → ((next : Behind → Option L.Sizes) → piece_sizes which worth xs next x ≡ all_behind next bs) → view_at ss n ≡ members_of_choices ms → AlikeAll IsRow bs ms → P n x

  types_rows : (ts : List Term) (ms : List ℕ) → AlikeAll (λ (y : Term) (m : ℕ). IsTerm t m y × IsKnown xs root worth y) ts ms → AlikeAll IsRow (types_behind ts) ms
  types_rows ts ms none = none
  types_rows ts ms (both r h) = both r (types_rows _ _ h)

  module _ (given : AreGiven) (P : ℕ → Piece → Type 0) (h : IsHereditary P) where
    at_row : (n : ℕ) (r : Row) → slice_get t.rows n ≡ Some r → view_at ss n ≡ form_view which t c ks ls gs n r.form r.first r.second
    at_row n r e = given.sources.each n (within t.rows n r e) ∙ ap (row_source which t c ks ls gs n) e

    nothing_there : (n : ℕ) (x : Piece) → ((next : Behind → Option L.Sizes) → piece_sizes which worth xs next x ≡ None) → view_at ss n ≡ no_members → P n x
    nothing_there n x e v = h.leaf n x None e (subst (IsOwn None) (sym v) no_own)

    empty_there : (n : ℕ) (x : Piece) → ((next : Behind → Option L.Sizes) → piece_sizes which worth xs next x ≡ Some []) → view_at ss n ≡ no_numbers → P n x
    empty_there n x e v = h.leaf n x (Some []) e (subst (IsOwn (Some [])) (sym v) (own [] (1, 0) no_size))

    value_there : (n : ℕ) (x : Term) → ((next : Behind → Option L.Sizes) → term_sizes which worth xs next x ≡ one_size (literal_of worth xs x)) → view_at ss n ≡ one_number (uint_in (literal_at ls n)) → IsTerm t n x → IsKnown xs root worth x → P n (a_term x)
    value_there n x e v i k = h.leaf n (a_term x) (one_size (literal_of worth xs x)) e (subst (IsOwn (one_size (literal_of worth xs x))) (sym (v ∙ ap (λ (o : Option Meaning). one_number (uint_in o)) (given.values.values n x i k))) (one_own (literal_of worth xs x)))

    uint_is : (o : Option ℕ) (x : Term) → Holds t o (term_tree x) → IsKnown xs root worth x → uint_at ls o ≡ uint_in (literal_of worth xs x)
    uint_is o x i k = let r = term_row t o x i in ap (uint_at ls) r.1 ∙ ap uint_in (given.values.values r.0 x r.2 k)

    range_there : (n : ℕ) (b : Bool) (y z : Term) (i j : Option ℕ) → view_at ss n ≡ numbers_between b (uint_at ls i) (uint_at ls j) → Holds t i (term_tree y) → Holds t j (term_tree z) → IsKnown xs root worth y → IsKnown xs root worth z → P n (a_term (range y b z))
    range_there n b y z i j v p q k l =
        let o = range_sizes b (literal_of worth xs y) (literal_of worth xs z) in
        let is : view_at ss n ≡ numbers_between b (uint_in (literal_of worth xs y)) (uint_in (literal_of worth xs z)) = v ∙ (ap (λ (m : Option ℕ). numbers_between b m (uint_at ls j)) (uint_is i y p k) ∙ ap (λ (m : Option ℕ). numbers_between b (uint_in (literal_of worth xs y)) m) (uint_is j z q l)) in
        h.leaf n (a_term (range y b z)) o (λ next. refl) (subst (IsOwn o) (sym is) (range_own b (literal_of worth xs y) (literal_of worth xs z)))

    first_known : (y z : Term) → (AreReached xs root (points y ++ points z)) × (AllIn (IsMeant worth) y × AllIn (IsMeant worth) z) → IsKnown xs root worth y
    first_known y z k = ((λ p i. k.0 p (Contains-append_left (points y) (points z) p i)), k.1.0)

    second_known : (y z : Term) → (AreReached xs root (points y ++ points z)) × (AllIn (IsMeant worth) y × AllIn (IsMeant worth) z) → IsKnown xs root worth z
    second_known y z k = ((λ p i. k.0 p (Contains-append_right (points y) (points z) p i)), k.1.1)

    group_is : (a : ℕ) (r : Ref) → IsRef t a r → has_group_name ks (slice_get t.rows a) ≡ is_group xs (name_of r)
    group_is a (call m ts) (part e (some_text {n = k} f) x y) = ap (has_group_name ks) e ∙ given.kinds.groups k m f

    part_within : (n : ℕ) (x : Tree) → Holds t (Some n) x → n < length ss
    part_within n x i = (let w = row_within t n x i in let all = given.sources.all in omega (arith, w, all))

    -- names of types

    name_by : (n a : ℕ) (r : Ref) (b : Bool) → view_at ss n ≡ (if has_group_name ks (slice_get t.rows a) then no_members else choices_at c.meanings.items (slice_get c.places.items a)) → is_group xs (name_of r) ≡ b → IsRef t a r → Reaches xs root r → P n (a_term (named r))
    name_by n a r true v e i reached = nothing_there n (a_term (named r)) (λ next. ap (λ (b : Bool). if b then None else all_sizes next (type_choices xs r)) e) (v ∙ ap (λ (b : Bool). if b then no_members else choices_at c.meanings.items (slice_get c.places.items a)) (group_is a r i ∙ e))
    name_by n a r false v e i reached =
        let k = given.places a r i reached in
        let m = given.meanings k.0 r k.2 in
        let is : view_at ss n ≡ members_of_choices m.0.types.items = v ∙ (ap (λ (b : Bool). if b then no_members else choices_at c.meanings.items (slice_get c.places.items a)) (group_is a r i ∙ e) ∙ (ap (choices_at c.meanings.items) k.1 ∙ ap choices_in m.1)) in
        h.name n (a_term (named r)) (types_behind (type_choices xs r)) m.0.types.items (λ next. ap (λ (b : Bool). if b then None else all_sizes next (type_choices xs r)) e ∙ types_are next (type_choices xs r)) is (types_rows (type_choices xs r) m.0.types.items (alike_with (TermRow t) (IsKnown xs root worth) (type_choices xs r) m.0.types.items m.2.types (λ x q. given.choices r x reached q)))

    name_there : (n : ℕ) (o : Option ℕ) (r : Ref) → view_at ss n ≡ named_view t.rows c ks o → Holds t o (ref_tree r) → Reaches xs root r → P n (a_term (named r))
    name_there n o r v i reached = let row = ref_row t o r i in name_by n row.0 r (is_group xs (name_of r)) (v ∙ ap (named_view t.rows c ks) row.1) refl row.2 reached

    -- names of groups

    group_behind : (n a : ℕ) (x : Piece) (ess : List Entries) → ((next : Behind → Option L.Sizes) → piece_sizes which worth xs next x ≡ group_sizes next ess) → view_at ss n ≡ group_view (Some a) → IsKnownGroup ess a → P n x
    group_behind n a x ess e v k = h.name n x (a_group ess ∷ []) (a ∷ []) (λ next. e next ∙ (named_sizes next ess (λ q. some_alternatives k.group (sym k.same ∙ q)) ∙ sym (with_none (next (a_group ess))))) v (both k none)

    no_group_behind : (n : ℕ) (x : Piece) (ess : List Entries) → ((next : Behind → Option L.Sizes) → piece_sizes which worth xs next x ≡ group_sizes next ess) → view_at ss n ≡ group_view None → ess ≡ [] → P n x
    no_group_behind n x ess e v q = empty_there n x (λ next. e next ∙ ap (group_sizes next) q) v

    known_group : (r : Ref) (g : Group) → Reaches xs root r → alternatives g ≡ group_choices xs r → KnownPiece (of_group g)
    known_group r g reached q = (given.groups r g reached q, all_in_group (IsMeant worth) g (λ es i. given.written r es reached (subst (λ (ess : List Entries). Contains ess es) q i)))

    alternatives_there : (n : ℕ) (x : Piece) (r : Ref) (ess : List Entries) (o : Option ℕ) → ((next : Behind → Option L.Sizes) → piece_sizes which worth xs next x ≡ group_sizes next ess) → view_at ss n ≡ group_view o → ess ≡ group_choices xs r → Reaches xs root r → AreAlternatives t ess o → P n x
    alternatives_there n x r ess o e v q reached no_alternatives = no_group_behind n x [] e v refl
    alternatives_there n x r ess o e v q reached (alternatives_of {n = a} g i) = group_behind n a x (alternatives g) e v (record { group = g; same = refl; there = i; known = known_group r g reached q })

    by_name_there : (n : ℕ) (o : Option ℕ) (r : Ref) (b : Bool) → opens_choices which ≡ b → view_at ss n ≡ (if opens_choices which then by_name_view c o else no_members) → Holds t o (ref_tree r) → Reaches xs root r → P n (a_term (choice_of_name r))
    by_name_there n o r false w v i reached = nothing_there n (a_term (choice_of_name r)) (λ next. ap (λ (b : Bool). if b then group_sizes next (group_choices xs r) else None) w) (v ∙ ap (λ (b : Bool). if b then by_name_view c o else no_members) w)
    by_name_there n o r true w v i reached =
        let row = ref_row t o r i in
        let k = given.places row.0 r row.2 reached in
        let m = given.meanings k.0 r k.2 in
        let is : view_at ss n ≡ group_view m.0.group = v ∙ (ap (λ (b : Bool). if b then by_name_view c o else no_members) w ∙ (ap (by_name_view c) row.1 ∙ (ap (alternatives_at c.meanings.items) k.1 ∙ ap alternatives_in m.1))) in
        alternatives_there n (a_term (choice_of_name r)) r (group_choices xs r) m.0.group (λ next. ap (λ (b : Bool). if b then group_sizes next (group_choices xs r) else None) w) is refl reached m.2.group

    -- What stands at the row of a group, of entries or of an entry.

    standing : (n : ℕ) (x : Tree) → Holds t (Some n) x → (r : GroupRow) × (slice_get gs n ≡ Some r) × IsRowAt xs root t n r
    standing n x i =
        let w = row_within t n x i in
        let all = given.rows.all in
        let r = there gs n (omega (arith, w, all)) in
        (r.0, r.1, given.rows.each n r.0 r.1)

    once : (k : Option ℕ) (o : Option Text) (v : View) → HoldsText t.texts k o → (if is_once_at t.texts k then v else no_members) ≡ (if occurs_once o then v else no_members)
    once k o v g = ap (λ (b : Bool). if b then v else no_members) (once_told t.texts k o g)

    -- with an occurrence other than once it has none
    by_once : (n : ℕ) (e : Entry) (b : Bool) (v : View) → occurs_once (occurrence_of e) ≡ b → view_at ss n ≡ (if occurs_once (occurrence_of e) then v else no_members) → (occurs_once (occurrence_of e) ≡ true → view_at ss n ≡ v → P n (of_entry e)) → P n (of_entry e)
    by_once n e true v q w f = f q (w ∙ ap (λ (b : Bool). if b then v else no_members) q)
    by_once n (typed o x) false v q w f = nothing_there n (of_entry (typed o x)) (λ next. ap (λ (b : Bool). if b then part_sizes which worth xs next (part_of xs x) (term_sizes which worth xs next x) else None) q) (w ∙ ap (λ (b : Bool). if b then v else no_members) q)
    by_once n (keyed o k x) false v q w f = nothing_there n (of_entry (keyed o k x)) (λ next. ap (λ (b : Bool). if b then term_sizes which worth xs next x else None) q) (w ∙ ap (λ (b : Bool). if b then v else no_members) q)
    by_once n (grouped o g) false v q w f = nothing_there n (of_entry (grouped o g)) (λ next. ap (λ (b : Bool). if b then chosen_sizes which worth xs next g else None) q) (w ∙ ap (λ (b : Bool). if b then v else no_members) q)

    -- the group that an entry names or opens
    part_there : (n : ℕ) (o : Option Text) (x : Term) (ess : List Entries) (g : Option ℕ) (k : Part) → occurs_once o ≡ true → part_of xs x ≡ k → group_of_part xs k ≡ Some ess → IsGroupOf xs root t ess g → AreReached xs root (points x) → view_at ss n ≡ group_view g → P n (of_entry (typed o x))
    part_there n o x ess g asks_type q p e is reached v = cc
    part_there n o x ess g (names_group r) q p e is reached v = by g is v
      where
        sizes_are : (next : Behind → Option L.Sizes) → entry_sizes which worth xs next (typed o x) ≡ group_sizes next ess
        sizes_are next = ap (λ (b : Bool). if b then part_sizes which worth xs next (part_of xs x) (term_sizes which worth xs next x) else None) q ∙ (ap (λ (d : Part). part_sizes which worth xs next d (term_sizes which worth xs next x)) p ∙ ap (group_sizes next) (same_some_list (group_choices xs r) ess e))

        by : (g : Option ℕ) → IsGroupOf xs root t ess g → view_at ss n ≡ group_view g → P n (of_entry (typed o x))
        by g (no_group f) w = no_group_behind n (of_entry (typed o x)) ess sizes_are w f
        by g (group_of {n = a} d f i re) w = group_behind n a (of_entry (typed o x)) ess sizes_are w (record { group = d; same = f; there = i; known = known_group r d (given.part_named x r reached p) (sym f ∙ sym (same_some_list (group_choices xs r) ess e)) })
    part_there n o x ess g (opens r d) q p e is reached v = by g is v
      where
        sizes_are : (next : Behind → Option L.Sizes) → entry_sizes which worth xs next (typed o x) ≡ group_sizes next ess
        sizes_are next = ap (λ (b : Bool). if b then part_sizes which worth xs next (part_of xs x) (term_sizes which worth xs next x) else None) q ∙ (ap (λ (k : Part). part_sizes which worth xs next k (term_sizes which worth xs next x)) p ∙ ap (group_sizes next) (same_some_list (alternatives d) ess e))

        in_opened : (es : Entries) → Contains (alternatives d) es → AllInEntries (IsMeant worth) es
        in_opened es i = all_in_alternatives (IsMeant worth) d (given.opened_written r d (given.part_opened x r d reached p) (opened_by xs (stripped x) r d p)) es i

        by : (g : Option ℕ) → IsGroupOf xs root t ess g → view_at ss n ≡ group_view g → P n (of_entry (typed o x))
        by g (no_group f) w = no_group_behind n (of_entry (typed o x)) ess sizes_are w f
        by g (group_of {n = a} b f i re) w = group_behind n a (of_entry (typed o x)) ess sizes_are w (record { group = b; same = f; there = i; known = (re, all_in_group (IsMeant worth) b (λ es m. in_opened es (subst (λ (us : List Entries). Contains us es) (sym f ∙ sym (same_some_list (alternatives d) ess e)) m))) })

    entries_known : (es : Entries) (e : Entry) (b : Bool) → KnownPiece (of_entries (entries es e b)) → KnownPiece (of_entries es) × KnownPiece (of_entry e)
    entries_known es e b k = (((λ p i. k.0 p (Contains-append_left (entries_points es) (entry_points e) p i)), k.1.0), ((λ p i. k.0 p (Contains-append_right (entries_points es) (entry_points e) p i)), k.1.1))

    mutual
      pub at_term : (n : ℕ) (x : Term) → IsTerm t n x → IsKnown xs root worth x → P n (a_term x)
      at_term n (literal (number v)) (part e f a b) k = value_there n (literal (number v)) (λ next. refl) (at_row n _ e) (part e f a b) k
      at_term n (literal (text v)) (part e f a b) k = value_there n (literal (text v)) (λ next. refl) (at_row n _ e) (part e f a b) k
      at_term n (literal (bytes v)) (part e f a b) k = value_there n (literal (bytes v)) (λ next. refl) (at_row n _ e) (part e f a b) k
      at_term n (control y m z) (part e f a b) k = value_there n (control y m z) (λ next. refl) (at_row n _ e) (part e f a b) k
      at_term n (range y true z) (part {i = i} {j = j} e f a b) k = range_there n true y z i j (at_row n _ e) a b (first_known y z k) (second_known y z k)
      at_term n (range y false z) (part {i = i} {j = j} e f a b) k = range_there n false y z i j (at_row n _ e) a b (first_known y z k) (second_known y z k)
      at_term n (parens y) (part {i = i} e f a b) k =
          let r = term_row t i y a in
          h.inner n r.0 (a_term (parens y)) (a_term y) (λ next. refl) (at_row n _ e ∙ ap row_view r.1) (part_within r.0 (term_tree y) r.2) (at_term r.0 y r.2 k)
      at_term n (or y z) (part {i = i} {j = j} e f a b) k =
          let r = term_row t i y a in
          let s = term_row t j z b in
          h.sides n r.0 s.0 (a_term (or y z)) (a_term y) (a_term z) (λ next. refl) (at_row n _ e ∙ (ap (λ (o : Option ℕ). both_view o j) r.1 ∙ ap (both_view (Some r.0)) s.1)) (part_within r.0 (term_tree y) r.2) (part_within s.0 (term_tree z) s.2) (at_term r.0 y r.2 (first_known y z k)) (at_term s.0 z s.2 (second_known y z k))
      at_term n (named r) (part {i = i} e f a b) k = name_there n i r (at_row n _ e) a (k.0 (at_name r) (first_in (at_name r) []))
      at_term n (choice_of g) (part {i = i} e f a b) k = let r = group_row t i g a in by (opens_choices which) refl (at_row n _ e) (at_group r.0 g r.2 k)
        where
          by : (d : Bool) → opens_choices which ≡ d → view_at ss n ≡ (if opens_choices which then row_view i else no_members) → P (group_row t i g a).0 (of_group g) → P n (a_term (choice_of g))
          by true w v q = let r = group_row t i g a in h.inner n r.0 (a_term (choice_of g)) (of_group g) (λ next. ap (λ (d : Bool). if d then chosen_sizes which worth xs next g else None) w) (v ∙ (ap (λ (d : Bool). if d then row_view i else no_members) w ∙ ap row_view r.1)) (part_within r.0 (group_tree g) r.2) q
          by false w v q = nothing_there n (a_term (choice_of g)) (λ next. ap (λ (d : Bool). if d then chosen_sizes which worth xs next g else None) w) (v ∙ ap (λ (d : Bool). if d then row_view i else no_members) w)
      at_term n (choice_of_name r) (part {i = i} e f a b) k = by_name_there n i r (opens_choices which) refl (at_row n _ e) a (k.0 (at_choice r) (first_in (at_choice r) []))
      at_term n (map_of g) (part e f a b) k = nothing_there n (a_term (map_of g)) (λ next. refl) (at_row n _ e)
      at_term n (array_of g) (part e f a b) k = nothing_there n (a_term (array_of g)) (λ next. refl) (at_row n _ e)
      at_term n (unwrapped r) (part e f a b) k = nothing_there n (a_term (unwrapped r)) (λ next. refl) (at_row n _ e)
      at_term n (tagged m y) (part e f a b) k = nothing_there n (a_term (tagged m y)) (λ next. refl) (at_row n _ e)
      at_term n (tagged_by z y) (part e f a b) k = nothing_there n (a_term (tagged_by z y)) (λ next. refl) (at_row n _ e)
      at_term n (simple_by y) (part e f a b) k = nothing_there n (a_term (simple_by y)) (λ next. refl) (at_row n _ e)
      at_term n (hash m) (part e f a b) k = nothing_there n (a_term (hash m)) (λ next. refl) (at_row n _ e)

      pub at_group : (n : ℕ) (g : Group) → IsGroup t n g → KnownPiece (of_group g) → P n (of_group g)
      at_group n (sole es) (part {i = i} {j = j} e f a b) k = let s = standing n (group_tree (sole es)) (part e f a b) in by s.0 s.1 (s.2.group (sole es) (part e f a b)) (λ m i. at_entries m es i k)
        where
          by : (r : GroupRow) → slice_get gs n ≡ Some r → IsGroupRow t (sole es) r → ((m : ℕ) → IsEntries t m es → P m (of_entries es)) → P n (of_group (sole es))
          by r q (of_sole {n = m} u) d = h.inner n m (of_group (sole es)) (of_entries es) (λ next. refl) (at_row n _ e ∙ ap (group_row_view t.texts F.Sole i j) q) (part_within m (entries_tree es) u) (d m u)
      at_group n (orelse g es) (part {i = i} {j = j} e f a b) k = let s = standing n (group_tree (orelse g es)) (part e f a b) in by s.0 s.1 (s.2.group (orelse g es) (part e f a b)) (λ m i. at_group m g i ((λ p d. k.0 p (Contains-append_left (group_points g) (entries_points es) p d)), k.1.0)) (λ m i. at_entries m es i ((λ p d. k.0 p (Contains-append_right (group_points g) (entries_points es) p d)), k.1.1))
        where
          by : (r : GroupRow) → slice_get gs n ≡ Some r → IsGroupRow t (orelse g es) r → ((m : ℕ) → IsGroup t m g → P m (of_group g)) → ((m : ℕ) → IsEntries t m es → P m (of_entries es)) → P n (of_group (orelse g es))
          by r q (of_orelse {n = l} {m = m} v w) d u = h.sides n l m (of_group (orelse g es)) (of_group g) (of_entries es) (λ next. refl) (at_row n _ e ∙ ap (group_row_view t.texts F.OrElse i j) q) (part_within l (group_tree g) v) (part_within m (entries_tree es) w) (d l v) (u m w)

      pub at_entries : (n : ℕ) (es : Entries) → IsEntries t n es → KnownPiece (of_entries es) → P n (of_entries es)
      at_entries n no_entries (part {i = i} {j = j} e f a b) k = let s = standing n (entries_tree no_entries) (part e f a b) in by s.0 s.1 (s.2.entries no_entries (part e f a b))
        where
          by : (r : GroupRow) → slice_get gs n ≡ Some r → IsEntriesRow t no_entries r → P n (of_entries no_entries)
          by r q of_none = empty_there n (of_entries no_entries) (λ next. refl) (at_row n _ e ∙ ap (group_row_view t.texts F.NoEntries i j) q)
      at_entries n (entries es x true) (part {i = i} {j = j} e f a b) k = let s = standing n (entries_tree (entries es x true)) (part e f a b) in let w = entries_known es x true k in by s.0 s.1 (s.2.entries (entries es x true) (part e f a b)) (λ m i. at_entries m es i w.0) (λ m i. at_entry m x i w.1)
        where
          by : (r : GroupRow) → slice_get gs n ≡ Some r → IsEntriesRow t (entries es x true) r → ((m : ℕ) → IsEntries t m es → P m (of_entries es)) → ((m : ℕ) → IsEntry t m x → P m (of_entry x)) → P n (of_entries (entries es x true))
          by r q (of_more {n = l} {m = m} v w) d u = h.sides n l m (of_entries (entries es x true)) (of_entries es) (of_entry x) (λ next. refl) (at_row n _ e ∙ ap (group_row_view t.texts F.EntriesComma i j) q) (part_within l (entries_tree es) v) (part_within m (entry_tree x) w) (d l v) (u m w)
      at_entries n (entries es x false) (part {i = i} {j = j} e f a b) k = let s = standing n (entries_tree (entries es x false)) (part e f a b) in let w = entries_known es x false k in by s.0 s.1 (s.2.entries (entries es x false) (part e f a b)) (λ m i. at_entries m es i w.0) (λ m i. at_entry m x i w.1)
        where
          by : (r : GroupRow) → slice_get gs n ≡ Some r → IsEntriesRow t (entries es x false) r → ((m : ℕ) → IsEntries t m es → P m (of_entries es)) → ((m : ℕ) → IsEntry t m x → P m (of_entry x)) → P n (of_entries (entries es x false))
          by r q (of_more {n = l} {m = m} v w) d u = h.sides n l m (of_entries (entries es x false)) (of_entries es) (of_entry x) (λ next. refl) (at_row n _ e ∙ ap (group_row_view t.texts F.Entries i j) q) (part_within l (entries_tree es) v) (part_within m (entry_tree x) w) (d l v) (u m w)

      pub at_entry : (n : ℕ) (x : Entry) → IsEntry t n x → KnownPiece (of_entry x) → P n (of_entry x)
      at_entry n (typed o y) (part {i = i} {j = j} e f a b) k = let s = standing n (entry_tree (typed o y)) (part e f a b) in let r = term_row t i y a in by s.0 s.1 (s.2.entry (typed o y) (part e f a b) k.0) (at_term r.0 y r.2 k)
        where
          by : (g : GroupRow) → slice_get gs n ≡ Some g → IsEntryRow xs root t (typed o y) g → P (term_row t i y a).0 (a_term y) → P n (of_entry (typed o y))
          by g q (of_type {k = l} held none_named) d = by_once n (typed o y) (occurs_once o) (row_view i) refl (at_row n _ e ∙ (ap (group_row_view t.texts F.Typed i j) q ∙ once l o (row_view i) held)) (λ w v. (
              let r = term_row t i y a in
              h.inner n r.0 (of_entry (typed o y)) (a_term y) (λ next. ap (λ (c : Bool). if c then part_sizes which worth xs next (part_of xs y) (term_sizes which worth xs next y) else None) w ∙ ap (λ (p : Part). part_sizes which worth xs next p (term_sizes which worth xs next y)) (type_part xs (part_of xs y) none_named)) (v ∙ ap row_view r.1) (part_within r.0 (term_tree y) r.2) d))
          by g q (of_named {k = l} {m = m} {ess = ess} held is_named is) d = by_once n (typed o y) (occurs_once o) (group_view m) refl (at_row n _ e ∙ (ap (group_row_view t.texts F.Typed i j) q ∙ once l o (group_view m) held)) (λ w v. part_there n o y ess m (part_of xs y) w refl is_named is k.0 v)
      at_entry n (keyed o u y) (part {i = i} {j = j} e f a b) k = let s = standing n (entry_tree (keyed o u y)) (part e f a b) in let r = term_row t j y b in by s.0 s.1 (s.2.entry (keyed o u y) (part e f a b) k.0) (at_term r.0 y r.2 ((λ p d. k.0 p (Contains-append_right (key_points u) (points y) p d)), k.1.1))
        where
          by : (g : GroupRow) → slice_get gs n ≡ Some g → IsEntryRow xs root t (keyed o u y) g → P (term_row t j y b).0 (a_term y) → P n (of_entry (keyed o u y))
          by g q (of_keyed {k = l} held) d = by_once n (keyed o u y) (occurs_once o) (row_view j) refl (at_row n _ e ∙ (ap (group_row_view t.texts F.Keyed i j) q ∙ once l o (row_view j) held)) (λ w v. (
              let r = term_row t j y b in
              h.inner n r.0 (of_entry (keyed o u y)) (a_term y) (λ next. ap (λ (c : Bool). if c then term_sizes which worth xs next y else None) w) (v ∙ ap row_view r.1) (part_within r.0 (term_tree y) r.2) d))
      at_entry n (grouped o g) (part {i = i} {j = j} e f a b) k = let s = standing n (entry_tree (grouped o g)) (part e f a b) in by s.0 s.1 (s.2.entry (grouped o g) (part e f a b) k.0) (λ m i. at_group m g i k)
        where
          by : (r : GroupRow) → slice_get gs n ≡ Some r → IsEntryRow xs root t (grouped o g) r → ((m : ℕ) → IsGroup t m g → P m (of_group g)) → P n (of_entry (grouped o g))
          by r q (of_grouped {k = l} {n = m} held v) d = by_once n (grouped o g) (occurs_once o) (members_of (m ∷ [])) refl (at_row n _ e ∙ (ap (group_row_view t.texts F.Grouped i j) q ∙ once l o (members_of (m ∷ [])) held)) (λ w q. h.inner n m (of_entry (grouped o g)) (of_group g) (λ next. ap (λ (c : Bool). if c then chosen_sizes which worth xs next g else None) w) q (part_within m (group_tree g) v) (d m v))
