-- The forms of types and groups, by what the rows of terms are.
use Rattle.std.proofs.Common.{◌≡◌, ℕ, Bool, true, false, if◌then◌else◌, List, [], ◌∷◌, ◌++◌, map, Some, None, Option, refl, sym, ap, subst, ◌∙◌, slice_get}
use Rattle.std.specs.Prelude.{is_some, option_map}
use Rattle.cbor_data.specs.Value.{Value}
use Rattle.cddl_literal.specs.Numbers.{Meaning}
use Rattle.cddl_meaning.specs.Alike.{SameBits, AlikeAll, none, both, AlikeTypes, plain, refs, choices as some_choices, tags, boths, suches, holdings, AlikeNumbers, any_numbers, same_number, AlikeGroups, entries as some_entries, group_refs, sequences, alternates, repeats}
use Rattle.cddl_meaning.specs.Forms as F
use Rattle.cddl_language.specs.Controls.{Comparison, is_ordering, Control, left_alone, left_and_right, held_item, held_sequence, compared, Membership, of_size, of_bits, member, Computation, computed, control_of}
use Rattle.cddl_language.specs.Numbers as N
use Rattle.cddl_language.specs.Terms.{no_entries, entries, Text, Term, Literal, literal, named, name_of, parens, map_of, array_of, unwrapped, choice_of, choice_of_name, tagged, tagged_by, simple_by, hash, range, control, or, Definition, Ref, Group, Entries, Entry, Key, typed, keyed, grouped, alternatives, entry_list}
use Rattle.cddl_language.specs.Kinds as K
use Rattle.cddl_language.specs.Kinds.{Opened, opens_group, opens_type, opened, is_group}
use Rattle.cddl_language.specs.Choices.{can_choose, chosen, chosen_in}
use Rattle.cddl_language.specs.Reach.{most_instances, points}
use Rattle.cddl_language.specs.Substitution.{group_choices}
use Rattle.cddl_language.specs.Language as L
use Rattle.cddl_language.specs.Language.{TypeName, type, GroupName, first_of, each_of, entry, round}
use Rattle.cddl_language.specs.Literals.{Values, computed_literal, controlled_literal, literal_of, whole, whole_of}
use Rattle.cddl_language.specs.Sizes.{Sizes, members_of}
use Rattle.check_terms.specs.Table.{Table, HoldsText, no_text, some_text}
use Rattle.check_terms.specs.Trees.{IsTerm, IsRef, IsGroup, IsEntries, IsEntry}
use Rattle.check_groups.specs.Choosing.Nesting.{AreChosenEntries, IsChosenEach, IsChosenEntry, IsChosenPart}
use Rattle.check_instances.specs.Closed.Closed.{AreAlternatives, no_alternatives, alternatives_of, TermRow, EntriesRow, EntryRow}
use Rattle.check_instances.specs.Openings.Openings.{IsOpened, nothing, group_opened, type_opened, IsPart, a_type, a_group as part_group, an_opened_group}
use Rattle.check_instances.specs.declared.openings.openings.Opening.{Opening}
use Rattle.check_instances.specs.declared.openings.openings.Part.TheVariants as PartV
use Rattle.check_literals.specs.Literals.{AreLiterals, literal_at}
use Rattle.check_literals.specs.declared.known.Literals.{Literals}
use Rattle.check_literals.specs.Sizes.Sizes.{AreMembers, SameSizes, sizes_at, sizes_of}
use Rattle.check_literals.specs.declared.sizes.known.Members as S
use Rattle.table_making.specs.Basis.{Sense}
use Rattle.table_making.specs.Lookups.{between_view, control_form_view, equal_view, is_flagged, is_over, member_view, opened_view, such_view, test_by}
use Rattle.table_making.specs.Origins.{AreKnown, AreKnownEntries, IsKnown, IsKnownEntry, IsKnownGroup, IsTypeOrigin, of_row, of_instance, of_chosen, of_word, IsGroupOrigin, of_alternatives, of_sequence, of_entry, of_round, IsAsked, asks_type, asks_named, asks_opened}
use Rattle.table_making.specs.Shapes.{IsShape, a_literal, a_name, in_parens, an_array, an_unwrapping, a_choice_of, a_choice_of_name, a_tag, a_tag_by, a_simple, a_hash, a_range, a_range_below, a_choice, a_map, a_control, IsEntryShape, a_typed, a_keyed, a_group}
use Rattle.table_making.specs.declared.asked.Asked.TheVariants as A
use Rattle.table_making.specs.declared.origin.GroupOrigin.{GroupOrigin}
use Rattle.table_making.specs.declared.origin.GroupOrigin.TheVariants as GO
use Rattle.table_making.specs.declared.origin.TypeOrigin.{TypeOrigin}
use Rattle.table_making.specs.declared.origin.TypeOrigin.TheVariants as O
use Rattle.table_making.specs.declared.shape.EntryShape.TheVariants as E
use Rattle.table_making.specs.declared.shape.Shape.TheVariants as ShapeV
use Rattle.table_making.proofs.Reaching.{reached_left, reached_right}
use Rattle.table_making.proofs.Listing.{alike_pushed, flat, flat_map_one, IsWalk, walk_ended, walk_on}
use Rattle.table_making.proofs.Knowing.{EachEntry, EachType, and_entry, and_type, each_entry, first_known, group_known, no_entry, no_type, rest_known}

-- What holds of each term of a shape.
module _ (t : Table) (P : Term → Type 0) where
  pub literal_case : (x : Term) → IsShape t x ShapeV.Literal → ((v : Literal) → P (literal v)) → P x
  literal_case x (a_literal {v = v}) f = f v

  pub named_case : (x : Term) → (k : ℕ) → IsShape t x (ShapeV.Named k) → ((r : Ref) → IsRef t k r → P (named r)) → P x
  named_case x k (a_name {r = r} h) f = f r h

  pub parens_case : (x : Term) → (k : ℕ) → IsShape t x (ShapeV.Parens k) → ((y : Term) → IsTerm t k y → P (parens y)) → P x
  parens_case x k (in_parens {x = y} h) f = f y h

  pub array_case : (x : Term) → (k : ℕ) → IsShape t x (ShapeV.ArrayOf k) → ((g : Group) → IsGroup t k g → P (array_of g)) → P x
  array_case x k (an_array {g = g} h) f = f g h

  pub unwrapped_case : (x : Term) → (k : ℕ) → IsShape t x (ShapeV.Unwrapped k) → ((r : Ref) → IsRef t k r → P (unwrapped r)) → P x
  unwrapped_case x k (an_unwrapping {r = r} h) f = f r h

  pub choice_of_case : (x : Term) → (k : ℕ) → IsShape t x (ShapeV.ChoiceOf k) → ((g : Group) → IsGroup t k g → P (choice_of g)) → P x
  choice_of_case x k (a_choice_of {g = g} h) f = f g h

  pub choice_of_name_case : (x : Term) → (k : ℕ) → IsShape t x (ShapeV.ChoiceOfName k) → ((r : Ref) → IsRef t k r → P (choice_of_name r)) → P x
  choice_of_name_case x k (a_choice_of_name {r = r} h) f = f r h

  pub tagged_case : (x : Term) → (m k : ℕ) → IsShape t x (ShapeV.Tagged m k) → ((n : Text) (y : Term) → slice_get t.texts m ≡ Some n → IsTerm t k y → P (tagged n y)) → P x
  tagged_case x m k (a_tag {n = n} {x = y} e h) f = f n y e h

  pub tagged_by_case : (x : Term) → (m k : ℕ) → IsShape t x (ShapeV.TaggedBy m k) → ((y z : Term) → IsTerm t m y → IsTerm t k z → P (tagged_by y z)) → P x
  tagged_by_case x m k (a_tag_by {h = y} {x = z} g h) f = f y z g h

  pub simple_case : (x : Term) → (k : ℕ) → IsShape t x (ShapeV.SimpleBy k) → ((y : Term) → IsTerm t k y → P (simple_by y)) → P x
  simple_case x k (a_simple {h = y} h) f = f y h

  pub hash_case : (x : Term) → (m : ℕ) → IsShape t x (ShapeV.Hash m) → ((n : Text) → slice_get t.texts m ≡ Some n → P (hash n)) → P x
  hash_case x m (a_hash {n = n} e) f = f n e

  pub range_case : (x : Term) → (m k : ℕ) → IsShape t x (ShapeV.Range m k) → ((y z : Term) → IsTerm t m y → IsTerm t k z → P (range y true z)) → P x
  range_case x m k (a_range {a = y} {b = z} g h) f = f y z g h

  pub range_below_case : (x : Term) → (m k : ℕ) → IsShape t x (ShapeV.RangeBelow m k) → ((y z : Term) → IsTerm t m y → IsTerm t k z → P (range y false z)) → P x
  range_below_case x m k (a_range_below {a = y} {b = z} g h) f = f y z g h

  pub or_case : (x : Term) → IsShape t x ShapeV.Or → ((y z : Term) → P (or y z)) → P x
  or_case x (a_choice {a = y} {b = z}) f = f y z

  pub map_case : (x : Term) → (k : ℕ) → IsShape t x (ShapeV.MapOf k) → ((g : Group) → IsGroup t k g → P (map_of g)) → P x
  map_case x k (a_map {g = g} h) f = f g h

  pub control_case : (x : Term) → (m i k : ℕ) → IsShape t x (ShapeV.Control m i k) → ((n : Text) (y z : Term) → slice_get t.texts m ≡ Some n → IsTerm t i y → IsTerm t k z → P (control y n z)) → P x
  control_case x m i k (a_control {a = y} {b = z} {n = n} e g h) f = f n y z e g h

  pub other_case : (x : Term) → IsShape t x ShapeV.Other → P x
  other_case x h = elim h [ ]

module _ (t : Table) (P : Entry → Type 0) where
  pub typed_case : (x : Entry) → (k : ℕ) → IsEntryShape t x (E.Typed k) → ((o : Option Text) (y : Term) → IsTerm t k y → P (typed o y)) → P x
  typed_case x k (a_typed {o = o} {x = y} h) f = f o y h

  pub keyed_case : (x : Entry) → (k : ℕ) → IsEntryShape t x (E.Keyed k) → ((o : Option Text) (z : Key) (y : Term) → IsTerm t k y → P (keyed o z y)) → P x
  keyed_case x k (a_keyed {o = o} {y = z} {x = y} h) f = f o z y h

  pub grouped_case : (x : Entry) → (k : ℕ) → IsEntryShape t x (E.Grouped k) → ((o : Option Text) (g : Group) → IsGroup t k g → P (grouped o g)) → P x
  grouped_case x k (a_group {o = o} {g = g} h) f = f o g h

  pub other_entry_case : (x : Entry) → IsEntryShape t x E.Other → P x
  other_entry_case x h = elim h [ ]

pub placed : (refs : List Ref) (r : Ref) (place : ℕ) → ((k : ℕ) × (Some place ≡ Some k) × (slice_get refs k ≡ Some r)) → slice_get refs place ≡ Some r
placed qs r place p = subst (λ k. slice_get qs k ≡ Some r) (one p.0 p.1) p.2
  where
    one : (k : ℕ) → Some place ≡ Some k → k ≡ place
    one k e = cc

-- Literals.

literal_written : (worth : Values) (ds : List Definition) (v : Literal) → literal_of worth ds (literal v) ≡ Some (worth v)
literal_written worth ds v = refl

literal_controlled : (worth : Values) (ds : List Definition) (y z : Term) (n : Text) → literal_of worth ds (control y n z) ≡ controlled_literal (control_of n) (literal_of worth ds y) (literal_of worth ds z)
literal_controlled worth ds y z n = refl

-- What entries ask.

module _ (s : Sense) (t : Table) where
  pub type_asked : (p : K.Part) → IsPart t s.refs p PartV.AsksType → IsAsked s t p A.Type
  type_asked p a_type = asks_type

  pub name_asked : (p : K.Part) (place : ℕ) (o : Option ℕ) → IsPart t s.refs p (PartV.NamesGroup place) → ((r : Ref) → slice_get s.refs place ≡ Some r → AreAlternatives t (group_choices s.definitions r) o × AreKnown s (group_choices s.definitions r)) → IsAsked s t p (A.Group o)
  name_asked p place o (part_group {r = r} e) f = asks_named (f r e).0 (f r e).1

  pub opening_asked : (p : K.Part) (place n : ℕ) → IsPart t s.refs p (PartV.Opens place n) → ((r : Ref) (g : Group) → p ≡ K.opens r g → IsKnownGroup s g) → IsAsked s t p (A.Group (Some n))
  opening_asked p place n (an_opened_group {r = r} {g = g} e h) f = asks_opened (alternatives_of g h) (group_known s g (f r g refl))

  pub chosen_type : (x : Term) (p : K.Part) (row : ℕ) → IsAsked s t p A.Type → IsTerm t row x → IsKnown s x → IsTypeOrigin s t (L.chosen_part_name s.worth s.definitions x p) (O.Row row)
  chosen_type x p row asks_type h re = of_row h re.0 re.1

  pub chosen_group : (x : Term) (p : K.Part) (o : Option ℕ) → IsAsked s t p (A.Group o) → IsChosenPart s.definitions p → IsTypeOrigin s t (L.chosen_part_name s.worth s.definitions x p) (O.Chosen o)
  chosen_group x p o (asks_named a re) can = of_chosen a re.0 re.1 can
  chosen_group x p o (asks_opened a re) can = of_chosen a re.0 re.1 can

  pub type_part : (x : Term) (p : K.Part) (row : ℕ) → IsAsked s t p A.Type → IsTerm t row x → IsKnown s x → AlikeGroups (IsTypeOrigin s t) (IsGroupOrigin s t) (L.part_form s.worth s.definitions x p) (F.Entry (O.Row row))
  type_part x p row asks_type h re = some_entries (of_row h re.0 re.1)

  pub group_part : (x : Term) (p : K.Part) (o : Option ℕ) → IsAsked s t p (A.Group o) → AlikeGroups (IsTypeOrigin s t) (IsGroupOrigin s t) (L.part_form s.worth s.definitions x p) (F.GroupRef (GO.Alternatives o))
  group_part x p o (asks_named a re) = group_refs (of_alternatives a re.0 re.1)
  group_part x p o (asks_opened a re) = group_refs (of_alternatives a re.0 re.1)

  -- Types.

  abbrev Forms : F.Node TypeName GroupName → F.Node TypeOrigin GroupOrigin → Type 0
  Forms m f = AlikeTypes (IsTypeOrigin s t) (IsGroupOrigin s t) m f

  pub nothing_form : (f : F.Node TypeOrigin GroupOrigin) → f ≡ F.Choice [] → Forms L.nothing f
  nothing_form f e = subst (Forms L.nothing) (sym e) (some_choices none)

  pub group_name_formed : (r : Ref) (f : F.Node TypeOrigin GroupOrigin) → is_group s.definitions (name_of r) ≡ true → f ≡ F.Choice [] → Forms (L.term_node s.worth s.definitions (named r)) f
  group_name_formed r f h e = subst (λ b. Forms (if b then L.nothing else F.Ref (L.reference r)) f) (sym h) (nothing_form f e)

  pub type_name_formed : (r : Ref) (place : ℕ) → is_group s.definitions (name_of r) ≡ false → slice_get s.refs place ≡ Some r → Forms (L.term_node s.worth s.definitions (named r)) (F.Ref (O.Instance place))
  type_name_formed r place h e = subst (λ b. Forms (if b then L.nothing else F.Ref (L.reference r)) (F.Ref (O.Instance place))) (sym h) (refs (of_instance e h))

  range_formed : (closed : Bool) (o p o' p' : Option Value) (f : F.Node TypeOrigin GroupOrigin) → f ≡ between_view closed o p → o ≡ o' → p ≡ p' → Forms (L.between closed o' p') f
  range_formed closed o p o' p' f e g h = subst (λ m. Forms m f) (ap (λ q. L.between closed q p) g ∙ ap (λ q. L.between closed o' q) h) (subst (Forms (L.between closed o p)) (sym e) (by o p))
    where
      by : (o p : Option Value) → Forms (L.between closed o p) (between_view closed o p)
      by (Some a) (Some b) = plain
      by (Some a) None = some_choices none
      by None (Some b) = some_choices none
      by None None = some_choices none

  pub range_between : (ls : Literals) → AreLiterals s.definitions s.root s.worth t ls → (closed : Bool) (y z : Term) (i j : ℕ) (f : F.Node TypeOrigin GroupOrigin) → f ≡ between_view closed (whole (literal_at ls i)) (whole (literal_at ls j)) → IsTerm t i y → IsTerm t j z → IsKnown s (range y closed z) → Forms (L.term_node s.worth s.definitions (range y closed z)) f
  range_between ls are closed y z i j f e g h re = range_formed closed (whole (literal_at ls i)) (whole (literal_at ls j)) (whole_of s.worth s.definitions y) (whole_of s.worth s.definitions z) f e (ap whole (are.values i y g (reached_left s (points y) (points z) re.0, re.1.0))) (ap whole (are.values j z h (reached_right s (points y) (points z) re.0, re.1.1)))

  pub opened_formed : (o : Option Opened) (p : Opening) (f : F.Node TypeOrigin GroupOrigin) → f ≡ opened_view p → IsOpened t o p → ((x : Term) → o ≡ Some (opens_type x) → IsKnown s x) → Forms (L.content o) f
  opened_formed o p f e h g = subst (Forms (L.content o)) (sym e) (by o p h g)
    where
      by : (o : Option Opened) (p : Opening) → IsOpened t o p → ((x : Term) → o ≡ Some (opens_type x) → IsKnown s x) → Forms (L.content o) (opened_view p)
      by o p nothing g = some_choices none
      by o p (group_opened h) g = some_choices none
      by o p (type_opened {x = x} h) g = refs (of_row h (g x refl).0 (g x refl).1)

  -- The two types of a control are known where it is.
  pub left_known : (y z : Term) (n : Text) → IsKnown s (control y n z) → IsKnown s y
  left_known y z n re = (reached_left s (points y) (points z) re.0, re.1.0)

  pub right_known : (y z : Term) (n : Text) → IsKnown s (control y n z) → IsKnown s z
  right_known y z n re = (reached_right s (points y) (points z) re.0, re.1.1)

  equal_by : (o p : Option Meaning) → p ≡ o → Forms (L.equal_to o) (equal_view p)
  equal_by o p e = subst (λ m. Forms (L.equal_to o) (equal_view m)) (sym e) (by o)
    where
      by : (o : Option Meaning) → Forms (L.equal_to o) (equal_view o)
      by (Some m) = plain
      by None = some_choices none

  pub literal_formed : (v : Literal) (o : Option Meaning) (f : F.Node TypeOrigin GroupOrigin) → f ≡ equal_view o → o ≡ literal_of s.worth s.definitions (literal v) → Forms (L.term_node s.worth s.definitions (literal v)) f
  literal_formed v o f e h = subst (Forms (L.equal_to (Some (s.worth v)))) (sym e) (equal_by (Some (s.worth v)) o (h ∙ literal_written s.worth s.definitions v))

  compared_by : (c : Comparison) (o : Option Value) (y : Term) (i : ℕ) → IsTerm t i y → IsKnown s y → Forms (L.such_as_compares c o y) (such_view i (option_map (L.compared_test c) o))
  compared_by c (Some v) y i g p = suches (of_row g p.0 p.1) (λ x. refl) (compared_bits c)
    where
      compared_bits : (d : Comparison) → SameBits (L.compared_test d v) (L.compared_test d v)
      compared_bits d x = refl
  compared_by c None y i g p = some_choices none

  same_bits : (k : Membership) (rs ss : Sizes) → SameBits (L.membership_test k rs) (L.membership_test k ss)
  same_bits of_size rs ss x = refl
  same_bits of_bits rs ss x = refl

  member_by : (k : Membership) (o p : Option Sizes) (y : Term) (i : ℕ) → SameSizes o p → IsTerm t i y → IsKnown s y → Forms (L.such_as_member k o y) (member_view k i p)
  member_by k (Some rs) (Some ss) y i h g p = suches (of_row g p.0 p.1) (h k) (same_bits k rs ss)
  member_by k (Some rs) None y i h g p = absurd h
  member_by k None (Some ss) y i h g p = absurd h
  member_by k None None y i h g p = some_choices none

  -- What a control is, where the controller and the control are these literals, and the controller has these members.
  module _ (y z : Term) (n : Text) (i j : ℕ) (g : IsTerm t i y) (h : IsTerm t j z) (p : IsKnown s y) (q : IsKnown s z) (m own : Option Meaning) (rs : Membership → Option Sizes) (literals : m ≡ literal_of s.worth s.definitions z) (its : own ≡ literal_of s.worth s.definitions (control y n z)) (members : (k : Membership) → Some (member k) ≡ control_of n → SameSizes (members_of k s.worth s.definitions z) (rs k)) where
    computes : (c : Computation) → Some (computed c) ≡ control_of n → own ≡ computed_literal c (literal_of s.worth s.definitions y) (literal_of s.worth s.definitions z)
    computes c e = its ∙ literal_controlled s.worth s.definitions y z n ∙ ap (λ o. controlled_literal o (literal_of s.worth s.definitions y) (literal_of s.worth s.definitions z)) (sym e)

    control_by : (k : Option Control) → k ≡ control_of n → Forms (L.control_node s.worth s.definitions k y z) (control_form_view k i j m own rs)
    control_by (Some left_alone) e = refs (of_row g p.0 p.1)
    control_by (Some left_and_right) e = boths (of_row g p.0 p.1) (of_row h q.0 q.1)
    control_by (Some held_item) e = holdings (of_row g p.0 p.1) (of_row h q.0 q.1)
    control_by (Some held_sequence) e = holdings (of_row g p.0 p.1) (of_row h q.0 q.1)
    control_by (Some (compared c)) e = subst (λ o. Forms (L.control_node s.worth s.definitions (Some (compared c)) y z) (such_view i (test_by c o))) (sym literals) (compared_by c (L.comparand (is_ordering c) (literal_of s.worth s.definitions z)) y i g p)
    control_by (Some (member k)) e = member_by k (members_of k s.worth s.definitions z) (rs k) y i (members k e) g p
    control_by (Some (computed c)) e = equal_by (computed_literal c (literal_of s.worth s.definitions y) (literal_of s.worth s.definitions z)) own (computes c e)
    control_by None e = some_choices none

  pub control_formed : (ls : Literals) (members : S.Members) → AreLiterals s.definitions s.root s.worth t ls → AreMembers s.definitions s.root s.worth t members → (y z : Term) (n : Text) (row i j : ℕ) (k : Option Control) (f : F.Node TypeOrigin GroupOrigin) → k ≡ control_of n → f ≡ control_form_view k i j (literal_at ls j) (literal_at ls row) (λ which. sizes_at (sizes_of members which) j) → IsTerm t row (control y n z) → IsTerm t i y → IsTerm t j z → IsKnown s (control y n z) → Forms (L.term_node s.worth s.definitions (control y n z)) f
  control_formed ls members are have y z n row i j k f e d w g h re =
      let right = right_known y z n re in
      let by = control_by y z n i j g h (left_known y z n re) right (literal_at ls j) (literal_at ls row) (λ which. sizes_at (sizes_of members which) j) (are.values j z h right) (are.values row (control y n z) w re) (λ which asks. have which j z (record { row = row; left = y; name = n; right = z; there = w; asks = sym asks; controller = h }) h right) k e in
      subst (λ o. Forms (L.control_node s.worth s.definitions o y z) f) e (subst (Forms (L.control_node s.worth s.definitions k y z)) (sym d) by)

  pub chosen_so : (o : Option (List Term)) (ns : List TypeName) (f : F.Node TypeOrigin GroupOrigin) → is_some o ≡ true → Forms (F.Choice ns) f → Forms (L.choice o ns) f
  chosen_so (Some ts) ns f e h = h
  chosen_so None ns f e h = cc

  pub chosen_not : (o : Option (List Term)) (ns : List TypeName) (f : F.Node TypeOrigin GroupOrigin) → (is_some o ≡ true → ⊥) → f ≡ F.Choice [] → Forms (L.choice o ns) f
  chosen_not (Some ts) ns f e h = absurd (e refl)
  chosen_not None ns f e h = nothing_form f h

  pub by_name_chosen : (ess : List Entries) (n : ℕ) (f : F.Node TypeOrigin GroupOrigin) → AreAlternatives t ess (Some n) → ((g : Group) → alternatives g ≡ ess → IsGroup t n g → Forms (L.choice (chosen s.definitions g) (L.chosen_names s.worth s.definitions (alternatives g))) f) → Forms (L.choice (chosen_in s.definitions most_instances ess) (L.chosen_names s.worth s.definitions ess)) f
  by_name_chosen ess n f (alternatives_of g h) k = k g refl h

  pub by_name_none : (ess : List Entries) (f : F.Node TypeOrigin GroupOrigin) → AreAlternatives t ess None → f ≡ F.Choice [] → Forms (L.choice (chosen_in s.definitions most_instances ess) (L.chosen_names s.worth s.definitions ess)) f
  by_name_none ess f no_alternatives e = nothing_form f e

  tags_alike : (rest : Text) → AlikeNumbers (IsTypeOrigin s t) (N.number_or_any rest) (N.number_or_any rest)
  tags_alike [] = any_numbers
  tags_alike (b ∷ bs) = same_number

  pub tag_formed : (n : Text) (x : Term) (k : ℕ) (f : F.TagNumber TypeOrigin) → f ≡ N.tag_number n {N = TypeOrigin} → IsTerm t k x → IsKnown s x → Forms (F.TagOf (N.tag_number n) (type x)) (F.TagOf f (O.Row k))
  tag_formed n x k f e h re = tags (subst (AlikeNumbers (IsTypeOrigin s t) (N.tag_number n)) (sym e) (tags_alike (N.after 46 n))) (of_row h re.0 re.1)

  pub plain_formed : (a b : F.Test) → b ≡ a → Forms (F.Plain a) (F.Plain b)
  plain_formed a b e = subst (λ c. Forms (F.Plain a) (F.Plain c)) (sym e) plain

  -- Lists of types.

  rows_alike : (xs : List Term) (ns : List ℕ) → EachType s xs → AlikeAll (TermRow t) xs ns → AlikeAll (IsTypeOrigin s t) (map type xs) (map (λ (n : ℕ). O.Row n) ns)
  rows_alike [] [] no_type none = none
  rows_alike [] (n ∷ ns) re h = elim h [ ]
  rows_alike (x ∷ xs) [] re h = elim h [ ]
  rows_alike (x ∷ xs) (n ∷ ns) (and_type r re) (both h hs) = both (of_row h r.0 r.1) (rows_alike xs ns re hs)

  pub choice_formed : (xs : List Term) (ns : List ℕ) (os : List TypeOrigin) → EachType s xs → AlikeAll (TermRow t) xs ns → os ≡ map (λ (n : ℕ). O.Row n) ns → Forms (F.Choice (map type xs)) (F.Choice os)
  choice_formed xs ns os re h e = subst (λ us. Forms (F.Choice (map type xs)) (F.Choice us)) (sym e) (some_choices (rows_alike xs ns re h))

  -- Groups.

  abbrev Groups : F.Group TypeName GroupName → F.Group TypeOrigin GroupOrigin → Type 0
  Groups m f = AlikeGroups (IsTypeOrigin s t) (IsGroupOrigin s t) m f

  sequences_alike : (ess : List Entries) (ns : List ℕ) → AreKnown s ess → AlikeAll (EntriesRow t) ess ns → AlikeAll (IsGroupOrigin s t) (map each_of ess) (map (λ (n : ℕ). GO.Sequence n) ns)
  sequences_alike [] [] re none = none
  sequences_alike [] (n ∷ ns) re h = elim h [ ]
  sequences_alike (es ∷ ess) [] re h = elim h [ ]
  sequences_alike (es ∷ ess) (n ∷ ns) re (both h hs) = both (of_sequence h (first_known s es ess re).0 (first_known s es ess re).1) (sequences_alike ess ns (rest_known s es ess re) hs)

  pub alternatives_formed : (ess : List Entries) (ns : List ℕ) (os : List GroupOrigin) → AreKnown s ess → AlikeAll (EntriesRow t) ess ns → os ≡ map (λ (n : ℕ). GO.Sequence n) ns → Groups (F.Alternatives (map each_of ess)) (F.Alternatives os)
  alternatives_formed ess ns os re h e = subst (λ us. Groups (F.Alternatives (map each_of ess)) (F.Alternatives us)) (sym e) (alternates (sequences_alike ess ns re h))

  entries_alike : (es : List Entry) (ns : List ℕ) → EachEntry s es → AlikeAll (EntryRow t) es ns → AlikeAll (IsGroupOrigin s t) (map entry es) (map (λ (n : ℕ). GO.Entry n) ns)
  entries_alike [] [] no_entry none = none
  entries_alike [] (n ∷ ns) re h = elim h [ ]
  entries_alike (e ∷ es) [] re h = elim h [ ]
  entries_alike (e ∷ es) (n ∷ ns) (and_entry r re) (both h hs) = both (of_entry h r.0 r.1) (entries_alike es ns re hs)

  pub entries_formed : (es : List Entry) (ns : List ℕ) (os : List GroupOrigin) → EachEntry s es → AlikeAll (EntryRow t) es ns → os ≡ map (λ (n : ℕ). GO.Entry n) ns → Groups (F.Sequence (map entry es)) (F.Sequence os)
  entries_formed es ns os re h e = subst (λ us. Groups (F.Sequence (map entry es)) (F.Sequence us)) (sym e) (sequences (entries_alike es ns re h))

  pub once_formed : (e : Entry) (o : Option Text) (f : F.Group TypeOrigin GroupOrigin) → N.occurs_once o ≡ true → Groups (L.round_form s.worth s.definitions e) f → Groups (L.entry_form s.worth s.definitions e o) f
  once_formed e o f h g = subst (λ b. Groups (if b then L.round_form s.worth s.definitions e else L.rounds_form s.worth s.definitions e (N.least_of o) (N.most_of o)) f) (sym h) g

  -- rounds, by the two numbers of times
  rounds_formed : (e : Entry) (o : Option Text) (least : ℕ) (most : F.Most) (f : F.Group TypeOrigin GroupOrigin) → N.occurs_once o ≡ false → least ≡ N.least_of o → most ≡ N.most_of o → Groups (L.rounds_form s.worth s.definitions e least most) f → Groups (L.entry_form s.worth s.definitions e o) f
  rounds_formed e o least most f h p q g = subst (λ b. Groups (if b then L.round_form s.worth s.definitions e else L.rounds_form s.worth s.definitions e (N.least_of o) (N.most_of o)) f) (sym h) (subst (λ k. Groups (L.rounds_form s.worth s.definitions e k (N.most_of o)) f) p (subst (λ m. Groups (L.rounds_form s.worth s.definitions e least m) f) q g))

  pub often_formed : (e : Entry) (o : Option Text) (row least : ℕ) (most : F.Most) → N.occurs_once o ≡ false → is_over least most ≡ false → IsEntry t row e → IsKnownEntry s e → least ≡ N.least_of o → most ≡ N.most_of o → Groups (L.entry_form s.worth s.definitions e o) (F.Repeat least most (GO.Round row))
  often_formed e o row least most h within is re p q = rounds_formed e o least most (F.Repeat least most (GO.Round row)) h p q (by most within)
    where
      by : (most : F.Most) → is_over least most ≡ false → Groups (L.rounds_form s.worth s.definitions e least most) (F.Repeat least most (GO.Round row))
      by (F.at_most n) k = subst (λ b. Groups (if b then F.Alternatives [] else F.Repeat least (F.at_most n) (round e)) (F.Repeat least (F.at_most n) (GO.Round row))) (sym k) (repeats (of_round is re.0 re.1))
      by F.any_number_of k = repeats (of_round is re.0 re.1)

  pub never_formed : (e : Entry) (o : Option Text) (least : ℕ) (most : F.Most) (f : F.Group TypeOrigin GroupOrigin) → f ≡ F.Alternatives [] → N.occurs_once o ≡ false → is_over least most ≡ true → least ≡ N.least_of o → most ≡ N.most_of o → Groups (L.entry_form s.worth s.definitions e o) f
  never_formed e o least most f same h over p q = rounds_formed e o least most f h p q (subst (Groups (L.rounds_form s.worth s.definitions e least most)) (sym same) (by most over))
    where
      by : (most : F.Most) → is_over least most ≡ true → Groups (L.rounds_form s.worth s.definitions e least most) (F.Alternatives [])
      by (F.at_most n) k = subst (λ b. Groups (if b then F.Alternatives [] else F.Repeat least (F.at_most n) (round e)) (F.Alternatives [])) (sym k) (alternates none)
      by F.any_number_of k = cc

-- The text of an occurrence.

pub no_occurrence : (texts : List Text) (o : Option Text) → HoldsText texts None o → N.occurs_once o ≡ true
no_occurrence texts o no_text = refl

pub an_occurrence : (texts : List Text) (o : Option Text) (k : ℕ) → HoldsText texts (Some k) o → (n : Text) × (o ≡ Some n) × (slice_get texts k ≡ Some n)
an_occurrence texts o k (some_text {x = n} e) = (n, refl, e)

-- Small steps.

pub same_meaning : {A : Type 0} (o : Option A) (m n : A) → o ≡ Some m → Some n ≡ o → m ≡ n
same_meaning o m n e f = cc

pub no_meaning : {A : Type 0} (o : Option A) (m : A) → o ≡ Some m → None ≡ o → ⊥
no_meaning o m e f = cc

pub flagged : (o : Option Bool) → is_flagged o ≡ true → o ≡ Some true
flagged None e = cc
flagged (Some true) e = refl
flagged (Some false) e = cc

pub flagged_so : (o : Option Bool) → is_flagged o ≡ false → o ≡ Some true → ⊥
flagged_so None e f = cc
flagged_so (Some true) e f = cc
flagged_so (Some false) e f = cc

pub row_list : {xs ys : List ℕ} → xs ≡ ys → map (λ (n : ℕ). O.Row n) xs ≡ map (λ (n : ℕ). O.Row n) ys
row_list e = ap (map (λ (n : ℕ). O.Row n)) e

pub sequence_list : {xs ys : List ℕ} → xs ≡ ys → map (λ (n : ℕ). GO.Sequence n) xs ≡ map (λ (n : ℕ). GO.Sequence n) ys
sequence_list e = ap (map (λ (n : ℕ). GO.Sequence n)) e

pub list_of_entries : {xs ys : List ℕ} → xs ≡ ys → map (λ (n : ℕ). GO.Entry n) xs ≡ map (λ (n : ℕ). GO.Entry n) ys
list_of_entries e = ap (map (λ (n : ℕ). GO.Entry n)) e

module _ (t : Table) where
  pub group_rows : (ess : List Entries) (n : ℕ) (rows : List ℕ) → AreAlternatives t ess (Some n) → ((g : Group) → IsGroup t n g → AlikeAll (EntriesRow t) (alternatives g) rows) → AlikeAll (EntriesRow t) ess rows
  group_rows ess n rows (alternatives_of g h) f = f g h

  pub no_rows : (ess : List Entries) (rows : List ℕ) → rows ≡ [] → AreAlternatives t ess None → AlikeAll (EntriesRow t) ess rows
  no_rows ess rows e no_alternatives = subst (AlikeAll (EntriesRow t) []) (sym e) none

-- What holds of each name that is of such a number.
module _ (s : Sense) (t : Table) (P : TypeName → Type 0) where
  pub row_case : (n : TypeName) → (k : ℕ) → IsTypeOrigin s t n (O.Row k) → ((x : Term) → IsTerm t k x → IsKnown s x → P (type x)) → P n
  row_case n k (of_row {x = x} h re w) f = f x h (re, w)

  pub instance_case : (n : TypeName) → (k : ℕ) → IsTypeOrigin s t n (O.Instance k) → ((r : Ref) → slice_get s.refs k ≡ Some r → P (L.reference r)) → P n
  instance_case n k (of_instance {r = r} e g) f = f r e

  pub chosen_case : (n : TypeName) → (o : Option ℕ) → IsTypeOrigin s t n (O.Chosen o) → ((ess : List Entries) → AreAlternatives t ess o → AreKnown s ess → can_choose s.definitions ess ≡ true → P (L.chosen_of ess)) → P n
  chosen_case n o (of_chosen {ess = ess} h re w can) f = f ess h (re, w) can

  pub word_case : (n : TypeName) → (k : ℕ) → IsTypeOrigin s t n (O.Word k) → ((w : Text) → slice_get t.texts k ≡ Some w → P (L.word w)) → P n
  word_case n k (of_word {n = w} e) f = f w e

module _ (s : Sense) (t : Table) (P : GroupName → Type 0) where
  pub alternatives_case : (n : GroupName) → (o : Option ℕ) → IsGroupOrigin s t n (GO.Alternatives o) → ((ess : List Entries) → AreAlternatives t ess o → AreKnown s ess → P (first_of ess)) → P n
  alternatives_case n o (of_alternatives {ess = ess} h re w) f = f ess h (re, w)

  pub sequence_case : (n : GroupName) → (k : ℕ) → IsGroupOrigin s t n (GO.Sequence k) → ((es : Entries) → IsEntries t k es → AreKnownEntries s es → P (each_of es)) → P n
  sequence_case n k (of_sequence {es = es} h re w) f = f es h (re, w)

  pub entry_case : (n : GroupName) → (k : ℕ) → IsGroupOrigin s t n (GO.Entry k) → ((e : Entry) → IsEntry t k e → IsKnownEntry s e → P (entry e)) → P n
  entry_case n k (of_entry {e = e} h re w) f = f e h (re, w)

  pub round_case : (n : GroupName) → (k : ℕ) → IsGroupOrigin s t n (GO.Round k) → ((e : Entry) → IsEntry t k e → IsKnownEntry s e → P (round e)) → P n
  round_case n k (of_round {e = e} h re w) f = f e h (re, w)

-- Walks over alternatives and over their entries.

module _ (s : Sense) (t : Table) where
  abbrev pub EntryAt : Entry → ℕ → Type 0
  EntryAt e k = IsEntry t k e × IsKnownEntry s e × IsChosenEntry s.definitions e

  abbrev pub EntriesAt : Entries → ℕ → Type 0
  EntriesAt es k = IsEntries t k es × AreKnownEntries s es × AreChosenEntries s.definitions es

  abbrev pub names_of_entry : Entry → List TypeName
  names_of_entry e = L.chosen_name s.worth s.definitions e ∷ []

  abbrev pub names_of_entries : Entries → List TypeName
  names_of_entries es = map (λ e. L.chosen_name s.worth s.definitions e) (entry_list es)

  abbrev pub EntryWalk : List TypeName → List ℕ → List TypeOrigin → Type 0
  EntryWalk ns left out = IsWalk EntryAt (IsTypeOrigin s t) names_of_entry ns left out

  abbrev pub EntriesWalk : List TypeName → List ℕ → List TypeOrigin → Type 0
  EntriesWalk ns left out = IsWalk EntriesAt (IsTypeOrigin s t) names_of_entries ns left out

  abbrev EachChosen : List Entry → Type 0
  EachChosen [] = Unit {0}
  EachChosen (e ∷ es) = IsChosenEntry s.definitions e × EachChosen es

  chosen_joined : (es us : List Entry) → EachChosen es → EachChosen us → EachChosen (es ++ us)
  chosen_joined [] us f g = g
  chosen_joined (e ∷ es) us f g = (f.0, chosen_joined es us f.1 g)

  each_chosen : (es : Entries) → AreChosenEntries s.definitions es → EachChosen (entry_list es)
  each_chosen no_entries f = tt
  each_chosen (entries es e c) f = chosen_joined (entry_list es) (e ∷ []) (each_chosen es f.0) (f.1, tt)

  entries_at : (es : List Entry) (ns : List ℕ) → EachEntry s es → EachChosen es → AlikeAll (EntryRow t) es ns → AlikeAll EntryAt es ns
  entries_at [] [] no_entry can none = none
  entries_at [] (n ∷ ns) re can h = elim h [ ]
  entries_at (e ∷ es) [] re can h = elim h [ ]
  entries_at (e ∷ es) (n ∷ ns) (and_entry r re) can (both h hs) = both (h, r, can.0) (entries_at es ns re can.1 hs)

  pub entry_walk_begun : (es : Entries) (rows : List ℕ) (ns : List TypeName) (out : List TypeOrigin) → AreKnownEntries s es → AreChosenEntries s.definitions es → AlikeAll (EntryRow t) (entry_list es) rows → AlikeAll (IsTypeOrigin s t) ns out → EntryWalk (ns ++ names_of_entries es) rows out
  entry_walk_begun es rows ns out re can h g = record { done = ns; rest = entry_list es; joins = ap (λ ms. ns ++ ms) (flat_map_one (λ e. L.chosen_name s.worth s.definitions e) (entry_list es)); made = g; further = entries_at (entry_list es) rows (each_entry s es re) (each_chosen es can) h }

  lists_at : (ess : List Entries) (ns : List ℕ) → AreKnown s ess → IsChosenEach s.definitions ess → AlikeAll (EntriesRow t) ess ns → AlikeAll EntriesAt ess ns
  lists_at [] [] re can none = none
  lists_at [] (n ∷ ns) re can h = elim h [ ]
  lists_at (es ∷ ess) [] re can h = elim h [ ]
  lists_at (es ∷ ess) (n ∷ ns) re can (both h hs) = both (h, first_known s es ess re, can.0) (lists_at ess ns (rest_known s es ess re) can.1 hs)

  names_joined : (ess : List Entries) → flat names_of_entries ess ≡ L.chosen_names s.worth s.definitions ess
  names_joined [] = refl
  names_joined (es ∷ ess) = ap (λ ms. names_of_entries es ++ ms) (names_joined ess)

  pub entries_walk_begun : (ess : List Entries) (rows : List ℕ) (out : List TypeOrigin) → out ≡ [] → AreKnown s ess → IsChosenEach s.definitions ess → AlikeAll (EntriesRow t) ess rows → EntriesWalk (L.chosen_names s.worth s.definitions ess) rows out
  entries_walk_begun ess rows out e re can h = record { done = []; rest = ess; joins = names_joined ess; made = subst (AlikeAll (IsTypeOrigin s t) []) (sym e) none; further = lists_at ess rows re can h }

  pub entry_walk_on : (ns : List TypeName) (left more : List ℕ) (row : ℕ) (out later : List TypeOrigin) (o : TypeOrigin) → left ≡ row ∷ more → later ≡ out ++ o ∷ [] → ((e : Entry) → IsEntry t row e → IsKnownEntry s e → IsChosenEntry s.definitions e → IsTypeOrigin s t (L.chosen_name s.worth s.definitions e) o) → EntryWalk ns left out → EntryWalk ns more later
  entry_walk_on ns left more row out later o e f g w = walk_on EntryAt (IsTypeOrigin s t) names_of_entry (IsTypeOrigin s t) ns left more row out later e (λ y h ms a. subst (AlikeAll (IsTypeOrigin s t) (ms ++ names_of_entry y)) (sym f) (alike_pushed (IsTypeOrigin s t) ms out (L.chosen_name s.worth s.definitions y) o a (g y h.0 h.1 h.2))) w

  pub entries_walk_on : (ns : List TypeName) (left more : List ℕ) (row : ℕ) (out later : List TypeOrigin) → left ≡ row ∷ more → ((es : Entries) → IsEntries t row es → AreKnownEntries s es → AreChosenEntries s.definitions es → (ms : List TypeName) → AlikeAll (IsTypeOrigin s t) ms out → AlikeAll (IsTypeOrigin s t) (ms ++ names_of_entries es) later) → EntriesWalk ns left out → EntriesWalk ns more later
  entries_walk_on ns left more row out later e g w = walk_on EntriesAt (IsTypeOrigin s t) names_of_entries (IsTypeOrigin s t) ns left more row out later e (λ y h ms a. g y h.0 h.1 h.2 ms a) w

  pub entry_walk_ended : (ns : List TypeName) (left : List ℕ) (out : List TypeOrigin) → left ≡ [] → EntryWalk ns left out → AlikeAll (IsTypeOrigin s t) ns out
  entry_walk_ended ns left out e w = walk_ended EntryAt (IsTypeOrigin s t) names_of_entry ns left out e w

  pub entries_walk_ended : (ns : List TypeName) (left : List ℕ) (out : List TypeOrigin) → left ≡ [] → EntriesWalk ns left out → AlikeAll (IsTypeOrigin s t) ns out
  entries_walk_ended ns left out e w = walk_ended EntriesAt (IsTypeOrigin s t) names_of_entries ns left out e w
