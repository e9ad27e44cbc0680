-- The ranges of all rows to which a row leads have the members of its type.
use Rattle.std.proofs.Common.{◌≡◌, ◌⊎◌, ◌↔◌, inl, inr, ℕ, zero, suc, ◌<◌, List, [], ◌∷◌, ◌++◌, length, Bool, true, false, Option, Some, None, refl, sym, ap, subst, ◌∙◌, arith}
use Rattle.std.specs.Prelude.{nat_le, nat_lt, ◌^◌, ◌&&◌, ◌||◌}
use Rattle.lists.proofs.Lemmas.{before_or_not, beyond_all as nothing_past, either_true as one_of, false_true as not_true, never_some}
use Rattle.cbor_data.specs.Value as V
use Rattle.cbor_data.specs.Value.{Value}
use Rattle.cddl_meaning.specs.Alike.{AlikeAll, none, both, SameTest}
use Rattle.cddl_meaning.specs.Forms as F
use Rattle.cddl_meaning.specs.Forms.{fits_in, has_size, is_member}
use Rattle.cddl_language.specs.Terms.{Text, Term, Ref, Definition}
use Rattle.cddl_language.specs.Reach.{most_instances}
use Rattle.cddl_language.specs.Literals.{Values}
use Rattle.cddl_language.specs.Sizes as L
use Rattle.cddl_language.specs.Sizes.{Behind, a_type, a_group, behind_sizes, both_sizes, each_sizes, members_in, members_of as members_that}
use Rattle.check_terms.specs.Table.{Table}
use Rattle.check_terms.specs.Trees.{IsTerm}
use Rattle.check_names.specs.declared.kinds.kinds.Kinds.{Kinds}
use Rattle.check_instances.specs.declared.closed.closed.Closed.{Closed}
use Rattle.check_literals.specs.declared.known.Literals.{Literals}
use Rattle.check_literals.specs.Literals.{IsKnown}
use Rattle.check_literals.specs.declared.sizes.sources.Source.{Source}
use Rattle.check_literals.specs.Sizes.Sources.{In, View, no_members, numbers, members_of, members_of_choices, parts_in, view_at, viewed}
use Rattle.check_literals.specs.Sizes.Reach.{IsReached, Leads, here, onwards, range_in, ranges_of, with_range}
use Rattle.cddl_language.specs.Controls.{Membership}
use Rattle.check_groups.specs.declared.causes.rows.GroupRow.{GroupRow}
use Rattle.check_literals.proofs.OfSizes.Alternatives.{alternatives_sizes}
use Rattle.check_literals.proofs.OfSizes.Induction.{AreGiven, IsHereditary, IsOwn, IsRow, Piece, all_behind, at_group, at_term, behind_within, no_own, own, piece_sizes}
use Rattle.check_literals.proofs.OfSizes.Lists.{same_some}

-- which ranges are in a list decides what has such a size

or_assoc : (a b c : Bool) → (a || (b || c)) ≡ ((a || b) || c)
or_assoc true b c = refl
or_assoc false b c = refl

members_join : (n : ℕ) (rs qs : L.Sizes) → is_member n (rs ++ qs) ≡ (is_member n rs || is_member n qs)
members_join n [] qs = refl
members_join n (r ∷ rs) qs = ap (λ (b : Bool). (nat_le r.0 n && nat_le n r.1) || b) (members_join n rs qs) ∙ or_assoc (nat_le r.0 n && nat_le n r.1) (is_member n rs) (is_member n qs)

fits_join : (n : ℕ) (rs qs : L.Sizes) → fits_in n (rs ++ qs) ≡ (fits_in n rs || fits_in n qs)
fits_join n [] qs = refl
fits_join n (r ∷ rs) qs = ap (λ (b : Bool). (nat_le r.0 r.1 && nat_lt n (256 ^ r.1)) || b) (fits_join n rs qs) ∙ or_assoc (nat_le r.0 r.1 && nat_lt n (256 ^ r.1)) (fits_in n rs) (fits_in n qs)

sizes_join : (rs qs : L.Sizes) (v : Value) → has_size (rs ++ qs) v ≡ (has_size rs v || has_size qs v)
sizes_join rs qs (V.uint n) = fits_join n rs qs
sizes_join rs qs (V.nint n) = refl
sizes_join rs qs (V.bytes b) = members_join (length b) rs qs
sizes_join rs qs (V.text b) = members_join (length b) rs qs
sizes_join rs qs (V.array xs) = refl
sizes_join rs qs (V.pairs ps) = refl
sizes_join rs qs (V.tag n x) = refl
sizes_join rs qs (V.simple n) = refl
sizes_join rs qs (V.float w n) = refl

no_sizes : (v : Value) → has_size [] v ≡ true → ⊥
no_sizes (V.uint n) e = not_true e
no_sizes (V.nint n) e = not_true e
no_sizes (V.bytes b) e = not_true e
no_sizes (V.text b) e = not_true e
no_sizes (V.array xs) e = not_true e
no_sizes (V.pairs ps) e = not_true e
no_sizes (V.tag n x) e = not_true e
no_sizes (V.simple n) e = not_true e
no_sizes (V.float w n) e = not_true e

first_of_two : (a b : Bool) → a ≡ true → (a || b) ≡ true
first_of_two true b e = refl
first_of_two false b e = absurd (not_true e)

second_of_two : (a b : Bool) → b ≡ true → (a || b) ≡ true
second_of_two true b e = refl
second_of_two false b e = e

same_bools : (a b : Bool) → (a ≡ true → b ≡ true) → (b ≡ true → a ≡ true) → a ≡ b
same_bools true b f g = sym (f refl)
same_bools false true f g = absurd (not_true (g refl))
same_bools false false f g = refl

-- what both parts have

pub record AreBoth (o p : Option L.Sizes) (rs : L.Sizes) : Type 0 where
  pub left : L.Sizes
  pub right : L.Sizes
  pub first : o ≡ Some left
  pub second : p ≡ Some right
  pub whole : left ++ right ≡ rs

are_both : (o p : Option L.Sizes) (rs : L.Sizes) → both_sizes o p ≡ Some rs → AreBoth o p rs
are_both (Some a) (Some b) rs e = record { left = a; right = b; first = refl; second = refl; whole = same_some (a ++ b) rs e }
are_both (Some a) None rs e = absurd (never_some rs e)
are_both None p rs e = absurd (never_some rs e)

not_rows : (ms : List ℕ) (r : ℕ × ℕ) → members_of ms ≡ numbers r → ⊥
not_rows ms r e = cc

not_choices : (ms : List ℕ) (r : ℕ × ℕ) → members_of_choices ms ≡ numbers r → ⊥
not_choices ms r e = cc

not_nothing : (r : ℕ × ℕ) → no_members ≡ numbers r → ⊥
not_nothing r e = cc

same_range : (q r : ℕ × ℕ) → numbers q ≡ numbers r → q ≡ r
same_range q r e = cc

module _ (ss : List Source) where
  -- a row to which this one leads has a range with such a size
  pub record HasRange (n : ℕ) (v : Value) : Type 0 where
    pub row : ℕ
    pub range : ℕ × ℕ
    pub leads : Leads ss n row
    pub there : view_at ss row ≡ numbers range
    pub fits : has_size (range ∷ []) v ≡ true

  pub record HasRangeAmong (ms : List ℕ) (v : Value) : Type 0 where
    pub one : ℕ
    pub among : In ms one
    pub has : HasRange one v

  in_view : (n m : ℕ) (w : View) → view_at ss n ≡ w → In (parts_in w) m → In (parts_in (view_at ss n)) m
  in_view n m w e i = subst (λ u. In (parts_in u) m) (sym e) i

  -- the parts of a row
  from_parts : (n : ℕ) (w : View) (v : Value) → view_at ss n ≡ w → ((m : ℕ) → In (parts_in w) m → m < length ss) → HasRangeAmong (parts_in w) v → HasRange n v
  from_parts n w v e l h = record { row = h.has.row; range = h.has.range; leads = onwards (record { there = in_view n h.one w e h.among; within = l h.one h.among }) h.has.leads; there = h.has.there; fits = h.has.fits }

  to_parts : (n : ℕ) (w : View) (v : Value) → view_at ss n ≡ w → ((r : ℕ × ℕ) → w ≡ numbers r → ⊥) → HasRange n v → HasRangeAmong (parts_in w) v
  to_parts n w v e not h = by h.row h.leads h.there
    where
      by : (m : ℕ) → Leads ss n m → view_at ss m ≡ numbers h.range → HasRangeAmong (parts_in w) v
      by m here q = absurd (not h.range (sym e ∙ q))
      by m (onwards {b = b} p l) q = record { one = b; among = subst (λ u. In (parts_in u) b) e p.there; has = record { row = m; range = h.range; leads = l; there = q; fits = h.fits } }

  more_among : (m : ℕ) (ms : List ℕ) (v : Value) → HasRangeAmong ms v → HasRangeAmong (m ∷ ms) v
  more_among m ms v h = record { one = h.one; among = inr h.among; has = h.has }

  first_among : (m : ℕ) (ms : List ℕ) (v : Value) → HasRange m v → HasRangeAmong (m ∷ ms) v
  first_among m ms v h = record { one = m; among = inl refl; has = h }

  split_among : (m : ℕ) (ms : List ℕ) (v : Value) → HasRangeAmong (m ∷ ms) v → HasRange m v ⊎ HasRangeAmong ms v
  split_among m ms v h = by h.among
    where
      by : (m ≡ h.one) ⊎ In ms h.one → HasRange m v ⊎ HasRangeAmong ms v
      by (inl e) = inl (subst (λ n. HasRange n v) (sym e) h.has)
      by (inr i) = inr (record { one = h.one; among = i; has = h.has })

  none_among : (v : Value) → HasRangeAmong [] v → ⊥
  none_among v h = h.among

  -- the sizes are those of the ranges below the row
  abbrev AreBelow : ℕ → L.Sizes → Type 0
  AreBelow n rs = (v : Value) → (has_size rs v ≡ true) ↔ HasRange n v

  abbrev AreAmong : List ℕ → L.Sizes → Type 0
  AreAmong ms rs = (v : Value) → (has_size rs v ≡ true) ↔ HasRangeAmong ms v

  nothing_among : AreAmong [] []
  nothing_among v = ((λ e. absurd (no_sizes v e)), (λ h. absurd h.among))

  join_among : (m : ℕ) (ms : List ℕ) (rs qs : L.Sizes) → AreBelow m rs → AreAmong ms qs → AreAmong (m ∷ ms) (rs ++ qs)
  join_among m ms rs qs f g v = (to, from)
    where
      to : has_size (rs ++ qs) v ≡ true → HasRangeAmong (m ∷ ms) v
      to e = elim (one_of (has_size rs v) (has_size qs v) (sym (sizes_join rs qs v) ∙ e)) [
        | inl h ↦ first_among m ms v ((f v).0 h)
        | inr h ↦ more_among m ms v ((g v).0 h)
      ]

      from : HasRangeAmong (m ∷ ms) v → has_size (rs ++ qs) v ≡ true
      from h = sizes_join rs qs v ∙ elim (split_among m ms v h) [
        | inl k ↦ first_of_two (has_size rs v) (has_size qs v) ((f v).1 k)
        | inr k ↦ second_of_two (has_size rs v) (has_size qs v) ((g v).1 k)
      ]

  of_parts : (n : ℕ) (w : View) (rs : L.Sizes) → view_at ss n ≡ w → ((r : ℕ × ℕ) → w ≡ numbers r → ⊥) → ((m : ℕ) → In (parts_in w) m → m < length ss) → AreAmong (parts_in w) rs → AreBelow n rs
  of_parts n w rs e not l h v = ((λ k. from_parts n w v e l ((h v).0 k)), (λ k. (h v).1 (to_parts n w v e not k)))

  -- the ranges of all rows that were reached

  abbrev HasOwn : List ℕ → Value → Type 0
  HasOwn ms v = (m : ℕ) × In ms m × ((r : ℕ × ℕ) × (view_at ss m ≡ numbers r) × (has_size (r ∷ []) v ≡ true))

  own_range : (w : View) (rs : L.Sizes) (v : Value) → has_size (with_range (range_in w) rs) v ≡ true → ((r : ℕ × ℕ) × (w ≡ numbers r) × (has_size (r ∷ []) v ≡ true)) ⊎ (has_size rs v ≡ true)
  own_range no_members rs v e = inr e
  own_range (numbers r) rs v e = elim (one_of (has_size (r ∷ []) v) (has_size rs v) (sym (sizes_join (r ∷ []) rs v) ∙ e)) [ inl h ↦ inl (r, refl, h) | inr h ↦ inr h ]
  own_range (members_of ms) rs v e = inr e
  own_range (members_of_choices ms) rs v e = inr e

  has_own : (ms : List ℕ) (v : Value) → has_size (ranges_of ss ms) v ≡ true → HasOwn ms v
  has_own [] v e = absurd (no_sizes v e)
  has_own (m ∷ ms) v e = elim (own_range (view_at ss m) (ranges_of ss ms) v e) [
    | inl h ↦ (m, inl refl, h)
    | inr h ↦ (let k = has_own ms v h in (k.0, inr k.1, k.2))
  ]

  with_more : (w : View) (rs : L.Sizes) (v : Value) → has_size rs v ≡ true → has_size (with_range (range_in w) rs) v ≡ true
  with_more no_members rs v e = e
  with_more (numbers r) rs v e = sizes_join (r ∷ []) rs v ∙ second_of_two (has_size (r ∷ []) v) (has_size rs v) e
  with_more (members_of ms) rs v e = e
  with_more (members_of_choices ms) rs v e = e

  with_first : (w : View) (r : ℕ × ℕ) (rs : L.Sizes) (v : Value) → w ≡ numbers r → has_size (r ∷ []) v ≡ true → has_size (with_range (range_in w) rs) v ≡ true
  with_first w r rs v q e = subst (λ u. has_size (with_range (range_in u) rs) v ≡ true) (sym q) (sizes_join (r ∷ []) rs v ∙ first_of_two (has_size (r ∷ []) v) (has_size rs v) e)

  own_has : (ms : List ℕ) (m : ℕ) (r : ℕ × ℕ) (v : Value) → In ms m → view_at ss m ≡ numbers r → has_size (r ∷ []) v ≡ true → has_size (ranges_of ss ms) v ≡ true
  own_has [] m r v i q e = absurd i
  own_has (x ∷ ms) m r v (inl s) q e = with_first (view_at ss x) r (ranges_of ss ms) v (ap (view_at ss) s ∙ q) e
  own_has (x ∷ ms) m r v (inr i) q e = with_more (view_at ss x) (ranges_of ss ms) v (own_has ms m r v i q e)

  range_within : (m : ℕ) (r : ℕ × ℕ) → view_at ss m ≡ numbers r → m < length ss
  range_within m r e = elim (before_or_not m (length ss)) [
    | inl l ↦ l
    | inr l ↦ absurd (not_nothing r (sym (ap viewed (nothing_past ss m l)) ∙ e))
  ]

  pub reached_below : (n : ℕ) (reached : List ℕ) → IsReached ss n reached → AreBelow n (ranges_of ss reached)
  reached_below n reached h v = (to, from)
    where
      to : has_size (ranges_of ss reached) v ≡ true → HasRange n v
      to e = let k = has_own reached v e in record { row = k.0; range = k.2.0; leads = h.only k.0 k.1; there = k.2.1; fits = k.2.2 }

      from : HasRange n v → has_size (ranges_of ss reached) v ≡ true
      from k = own_has reached k.row k.range v (h.all k.row k.leads (range_within k.row k.range k.there)) k.there k.fits

  pub same_sizes : (n : ℕ) (rs qs : L.Sizes) → AreBelow n rs → AreBelow n qs → SameTest (F.sized rs) (F.sized qs)
  same_sizes n rs qs f g v = same_bools (has_size rs v) (has_size qs v) (λ e. (g v).1 ((f v).0 e)) (λ e. (f v).1 ((g v).0 e))

  own_below : (n : ℕ) (o : Option L.Sizes) (w : View) → view_at ss n ≡ w → IsOwn o w → (rs : L.Sizes) → o ≡ Some rs → AreBelow n rs
  own_below n o w e no_own rs q = absurd (never_some rs q)
  own_below n o w e (own qs r same) rs q = subst (AreBelow n) (same_some qs rs q) below
    where
      below : (v : Value) → (has_size qs v ≡ true) ↔ HasRange n v
      below v = (to, from)
        where
          to : has_size qs v ≡ true → HasRange n v
          to h = record { row = n; range = r; leads = here; there = e; fits = sym (same v) ∙ h }

          by : (k : HasRange n v) (m : ℕ) → Leads ss n m → view_at ss m ≡ numbers k.range → has_size qs v ≡ true
          by k m here g = same v ∙ subst (λ x. has_size (x ∷ []) v ≡ true) (same_range k.range r (sym g ∙ e)) k.fits
          by k m (onwards {b = b} p l) g = absurd (subst (λ u. In (parts_in u) b) e p.there)

          from : HasRange n v → has_size qs v ≡ true
          from k = by k k.row k.leads k.there

module _ (which : Membership) (xs : List Definition) (root : Text) (worth : Values) (refs : List Ref) (t : Table) (c : Closed) (ks : Kinds) (ls : Literals) (gs : List GroupRow) (ss : List Source) (given : AreGiven which xs root worth refs t c ks ls gs ss) where
  abbrev IsRowOf : Behind → ℕ → Type 0
  IsRowOf = IsRow which xs root worth refs t c ks ls gs ss

  abbrev Agrees : (Behind → Option L.Sizes) → Type 0
  Agrees next = (n : ℕ) (b : Behind) → IsRowOf b n → (rs : L.Sizes) → next b ≡ Some rs → AreBelow ss n rs

  module _ (next : Behind → Option L.Sizes) (agree : Agrees next) where
    abbrev Below : ℕ → Piece → Type 0
    Below n x = (rs : L.Sizes) → piece_sizes which worth xs next x ≡ Some rs → AreBelow ss n rs

    all_below : (bs : List Behind) (ms : List ℕ) → AlikeAll IsRowOf bs ms → (rs : L.Sizes) → all_behind next bs ≡ Some rs → AreAmong ss ms rs
    all_below bs ms none rs e = subst (AreAmong ss []) (same_some [] rs e) (nothing_among ss)
    all_below bs ms (both {n = b} {m = m} {ns = ds} {ms = ns} r h) rs e =
        let two = are_both (next b) (all_behind next ds) rs e in
        subst (AreAmong ss (m ∷ ns)) two.whole (join_among ss m ns two.left two.right (agree m b r two.left two.first) (all_below ds ns h two.right two.second))

    rows_within : (bs : List Behind) (ms : List ℕ) → AlikeAll IsRowOf bs ms → (m : ℕ) → In ms m → m < length ss
    rows_within bs ms none m i = absurd i
    rows_within bs ms (both {n = b} {m = x} {ns = ds} {ms = ns} r h) m (inl e) = (let w = behind_within which xs root worth refs t c ks ls gs ss x b r in let all = given.sources.all in omega (arith, w, all, e))
    rows_within bs ms (both {n = b} {m = x} {ns = ds} {ms = ns} r h) m (inr i) = rows_within ds ns h m i

    empty_join : (rs : L.Sizes) → rs ++ [] ≡ rs
    empty_join [] = refl
    empty_join (r ∷ rs) = ap (λ (qs : L.Sizes). r ∷ qs) (empty_join rs)

    one_among : (m : ℕ) (rs : L.Sizes) → AreBelow ss m rs → AreAmong ss (m ∷ []) rs
    one_among m rs h = subst (AreAmong ss (m ∷ [])) (empty_join rs) (join_among ss m [] rs [] h (nothing_among ss))

    one_within : (m : ℕ) → m < length ss → (x : ℕ) → In (m ∷ []) x → x < length ss
    one_within m l x (inl e) = subst (λ y. y < length ss) e l
    one_within m l x (inr i) = absurd i

    two_within : (a b : ℕ) → a < length ss → b < length ss → (x : ℕ) → In (a ∷ b ∷ []) x → x < length ss
    two_within a b k l x (inl e) = subst (λ y. y < length ss) e k
    two_within a b k l x (inr i) = one_within b l x i

    hereditary : IsHereditary which xs root worth refs t c ks ls gs ss Below
    hereditary = record {
      leaf = λ n x o e i rs q. own_below ss n o (view_at ss n) refl i rs (sym (e next) ∙ q);
      inner = λ n m x y e v w h rs q. of_parts ss n (members_of (m ∷ [])) rs v (not_rows (m ∷ [])) (one_within m w) (one_among m rs (h rs (sym (e next) ∙ q)));
      sides = λ n a b x y z e v w u g h rs q. (
          let two = are_both (piece_sizes which worth xs next y) (piece_sizes which worth xs next z) rs (sym (e next) ∙ q) in
          of_parts ss n (members_of (a ∷ b ∷ [])) rs v (not_rows (a ∷ b ∷ [])) (two_within a b w u) (subst (AreAmong ss (a ∷ b ∷ [])) two.whole (join_among ss a (b ∷ []) two.left two.right (g two.left two.first) (one_among b two.right (h two.right two.second)))));
      name = λ n x bs ms e v h rs q. of_parts ss n (members_of_choices ms) rs v (not_choices ms) (rows_within bs ms h) (all_below bs ms h rs (sym (e next) ∙ q));
    }

    behind_below : (n : ℕ) (b : Behind) → IsRowOf b n → (rs : L.Sizes) → behind_sizes which worth xs next b ≡ Some rs → AreBelow ss n rs
    behind_below n (a_type x) i rs q = at_term which xs root worth refs t c ks ls gs ss given Below hereditary n x i.0 i.1 rs q
    behind_below n (a_group ess) i rs q = at_group which xs root worth refs t c ks ls gs ss given Below hereditary n i.group i.there i.known rs (sym (ap (each_sizes which worth xs next) i.same ∙ alternatives_sizes which worth xs next i.group) ∙ q)

  in_below : (k : ℕ) → Agrees (λ b. members_in which worth xs k b)
  in_below zero = behind_below (λ b. None) (λ n b i rs e. absurd (never_some rs e))
  in_below (suc k) = behind_below (λ b. members_in which worth xs k b) (in_below k)

  pub members_below : (n : ℕ) (x : Term) → IsTerm t n x → IsKnown xs root worth x → (rs : L.Sizes) → members_that which worth xs x ≡ Some rs → AreBelow ss n rs
  members_below n x i k = in_below most_instances n (a_type x) (i, k)
