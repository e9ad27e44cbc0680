-- A type, or a group, has members through so many names exactly where the depth of its row is no greater.
use Rattle.std.proofs.Common.{◌≡◌, inl, inr, ℕ, zero, suc, ◌+◌, ◌<◌, ◌≤◌, List, [], ◌∷◌, length, map, Bool, true, false, if◌then◌else◌, Option, Some, None, refl, sym, ap, ◌∙◌, arith}
use Rattle.std.specs.Prelude.{is_some, nat_le, nat_lt, ◌&&◌}
use Rattle.lists.proofs.Lemmas.{and_false, and_true, before_or_not, beyond_all as nothing_past, less, not_below as not_less, not_both, test_at_most, test_greater, test_less, test_not_less, tested as is_either}
use Rattle.cddl_meaning.specs.Alike.{AlikeAll, none, both}
use Rattle.cddl_language.specs.Controls.{Membership}
use Rattle.cddl_language.specs.Terms.{Text, Ref, Definition}
use Rattle.cddl_language.specs.Reach.{most_instances}
use Rattle.cddl_language.specs.Literals.{Values}
use Rattle.cddl_language.specs.Sizes as L
use Rattle.cddl_language.specs.Sizes.{Behind, a_type, a_group, behind_sizes, both_sizes, each_sizes, members_in}
use Rattle.check_terms.specs.Table.{Table}
use Rattle.check_names.specs.declared.kinds.kinds.Kinds.{Kinds}
use Rattle.check_instances.specs.declared.closed.closed.Closed.{Closed}
use Rattle.check_literals.specs.declared.known.Literals.{Literals}
use Rattle.check_literals.specs.declared.sizes.sources.Source.{Source}
use Rattle.check_literals.specs.Sizes.Sizes.{AreSizable, flag_at, is_flagged}
use Rattle.check_literals.specs.Sizes.Sources.{View, members_of, members_of_choices, view_at, viewed}
use Rattle.check_literals.specs.Sizes.Depths.{AreDepths, answered, deeper, deepest, depth_at, depth_by, goes, greater, is_few, through_name}
use Rattle.check_groups.specs.declared.causes.rows.GroupRow.{GroupRow}
use Rattle.check_literals.proofs.OfSizes.Alternatives.{alternatives_sizes}
use Rattle.check_literals.proofs.OfSizes.Induction.{AreGiven, IsHereditary, IsOwn, IsRow, Piece, all_behind, at_group, at_term, no_own, own, piece_sizes}
use Rattle.check_literals.proofs.OfSizes.Numbers.{at_most}

-- through fewer names
abbrev pub below : Option ℕ → ℕ → Bool
below None k = false
below (Some d) k = nat_lt d k

at_start : (k : ℕ) → goes (Some 0) k ≡ true
at_start k = test_at_most 0 k (omega arith)

greater_goes : (a b k : ℕ) → nat_le (greater a b) k ≡ (nat_le a k && nat_le b k)
greater_goes a b k = elim (is_either (nat_lt a b)) [
  | inl e ↦
      (let l : a < b = less a b e in
      ap (λ (t : Bool). nat_le (if t then b else a) k) e ∙ second l)
  | inr e ↦
      (let l : b ≤ a = not_less a b e in
      ap (λ (t : Bool). nat_le (if t then b else a) k) e ∙ first l)
]
  where
    second : a < b → nat_le b k ≡ (nat_le a k && nat_le b k)
    second l = elim (is_either (nat_le b k)) [
      | inl e ↦ (let m : b ≤ k = at_most b k e in sym (ap (λ (t : Bool). t && nat_le b k) (test_at_most a k (omega (arith, l, m)))))
      | inr e ↦ e ∙ sym (ap (λ (t : Bool). nat_le a k && t) e ∙ and_false (nat_le a k))
    ]

    first : b ≤ a → nat_le a k ≡ (nat_le a k && nat_le b k)
    first l = elim (is_either (nat_le a k)) [
      | inl e ↦ (let m : a ≤ k = at_most a k e in sym (ap (λ (t : Bool). nat_le a k && t) (test_at_most b k (omega (arith, l, m))) ∙ and_true (nat_le a k)))
      | inr e ↦ e ∙ sym (ap (λ (t : Bool). t && nat_le b k) e)
    ]

deeper_goes : (o p : Option ℕ) (k : ℕ) → goes (deeper o p) k ≡ (goes o k && goes p k)
deeper_goes None p k = refl
deeper_goes (Some a) None k = sym (and_false (nat_le a k))
deeper_goes (Some a) (Some b) k = greater_goes a b k

named_goes : (o : Option ℕ) (k : ℕ) → k ≤ most_instances → goes (through_name o) k ≡ below o k
named_goes None k l = refl
named_goes (Some d) k l = elim (is_either (nat_lt d most_instances)) [
  | inl e ↦ ap (λ (t : Bool). goes (if t then Some (d + 1) else None) k) e ∙ one_more
  | inr e ↦
      (let m : most_instances ≤ d = not_less d most_instances e in
      ap (λ (t : Bool). goes (if t then Some (d + 1) else None) k) e ∙ sym (test_not_less d k (omega (arith, m, l))))
]
  where
    one_more : nat_le (d + 1) k ≡ nat_lt d k
    one_more = elim (is_either (nat_lt d k)) [
      | inl e ↦ (let m : d < k = less d k e in test_at_most (d + 1) k (omega (arith, m)) ∙ sym e)
      | inr e ↦ (let m : k ≤ d = not_less d k e in test_greater (d + 1) k (omega (arith, m)) ∙ sym e)
    ]

none_below : (o : Option ℕ) → below o 0 ≡ false
none_below None = refl
none_below (Some d) = test_not_less d 0 (omega arith)

goes_below : (o : Option ℕ) (k : ℕ) → goes o k ≡ below o (suc k)
goes_below None k = refl
goes_below (Some d) k = elim (is_either (nat_le d k)) [
  | inl e ↦ (let m : d ≤ k = at_most d k e in e ∙ sym (test_less d (suc k) (omega (arith, m))))
  | inr e ↦ (let m : suc k ≤ d = past e in e ∙ sym (test_not_less d (suc k) m))
]
  where
    past : nat_le d k ≡ false → suc k ≤ d
    past e = elim (before_or_not k d) [
      | inl l ↦ omega (arith, l)
      | inr l ↦ absurd (not_both (nat_le d k) (test_at_most d k l) e)
    ]

both_some : (o p : Option L.Sizes) → is_some (both_sizes o p) ≡ (is_some o && is_some p)
both_some None p = refl
both_some (Some rs) None = refl
both_some (Some rs) (Some qs) = refl

module _ (which : Membership) (xs : List Definition) (root : Text) (worth : Values) (refs : List Ref) (t : Table) (c : Closed) (ks : Kinds) (ls : Literals) (gs : List GroupRow) (ss : List Source) (given : AreGiven which xs root worth refs t c ks ls gs ss) (ds : List (Option ℕ)) (are : AreDepths ss ds) where
  depth_is : (n : ℕ) → depth_at ds n ≡ depth_by ds (view_at ss n)
  depth_is n = elim (before_or_not n (length ss)) [
    | inl l ↦ are.each n l
    | inr l ↦
        (let all = are.all in
        ap answered (nothing_past ds n (omega (arith, l, all))) ∙ sym (ap (λ (o : Option Source). depth_by ds (viewed o)) (nothing_past ss n l)))
  ]

  abbrev IsRowOf : Behind → ℕ → Type 0
  IsRowOf = IsRow which xs root worth refs t c ks ls gs ss

  module _ (next : Behind → Option L.Sizes) (k : ℕ) (few : k ≤ most_instances) (agree : (n : ℕ) (b : Behind) → IsRowOf b n → is_some (next b) ≡ below (depth_at ds n) k) where
    abbrev sizes : Piece → Option L.Sizes
    sizes x = piece_sizes which worth xs next x

    abbrev Goes : ℕ → Piece → Type 0
    Goes n x = is_some (sizes x) ≡ goes (depth_at ds n) k

    own_goes : (o : Option L.Sizes) (v : View) → IsOwn o v → is_some o ≡ goes (depth_by ds v) k
    own_goes o v no_own = refl
    own_goes o v (own rs r e) = sym (at_start k)

    by_depth : (n : ℕ) (b : Bool) (v : View) → view_at ss n ≡ v → b ≡ goes (depth_by ds v) k → b ≡ goes (depth_at ds n) k
    by_depth n b v e g = g ∙ sym (ap (λ (o : Option ℕ). goes o k) (depth_is n ∙ ap (depth_by ds) e))

    all_go : (bs : List Behind) (ms : List ℕ) → AlikeAll IsRowOf bs ms → is_some (all_behind next bs) ≡ goes (deepest true ds ms) k
    all_go bs ms none = sym (at_start k)
    all_go bs ms (both {n = b} {m = m} {ns = ds2} {ms = ns} r h) =
        both_some (next b) (all_behind next ds2) ∙ (ap (λ (d : Bool). d && is_some (all_behind next ds2)) (agree m b r ∙ sym (named_goes (depth_at ds m) k few)) ∙ (ap (λ (d : Bool). goes (through_name (depth_at ds m)) k && d) (all_go ds2 ns h) ∙ sym (deeper_goes (through_name (depth_at ds m)) (deepest true ds ns) k)))

    one_goes : (m : ℕ) → goes (depth_at ds m) k ≡ goes (deepest false ds (m ∷ [])) k
    one_goes m = sym (deeper_goes (depth_at ds m) (Some 0) k ∙ (ap (λ (b : Bool). goes (depth_at ds m) k && b) (at_start k) ∙ and_true (goes (depth_at ds m) k)))

    hereditary : IsHereditary which xs root worth refs t c ks ls gs ss Goes
    hereditary = record {
      leaf = λ n x o e i. ap is_some (e next) ∙ by_depth n (is_some o) (view_at ss n) refl (own_goes o (view_at ss n) i);
      inner = λ n m x y e v w g. by_depth n (is_some (sizes x)) (members_of (m ∷ [])) v (ap is_some (e next) ∙ (g ∙ one_goes m));
      sides = λ n a b x y z e v w u g h. by_depth n (is_some (sizes x)) (members_of (a ∷ b ∷ [])) v (ap is_some (e next) ∙ (both_some (sizes y) (sizes z) ∙ (ap (λ (p : Bool). p && is_some (sizes z)) g ∙ (ap (λ (p : Bool). goes (depth_at ds a) k && p) (h ∙ one_goes b) ∙ sym (deeper_goes (depth_at ds a) (deepest false ds (b ∷ [])) k)))));
      name = λ n x bs ms e v h. by_depth n (is_some (sizes x)) (members_of_choices ms) v (ap is_some (e next) ∙ all_go bs ms h);
    }

    behind_goes : (n : ℕ) (b : Behind) → IsRowOf b n → is_some (behind_sizes which worth xs next b) ≡ goes (depth_at ds n) k
    behind_goes n (a_type x) i = at_term which xs root worth refs t c ks ls gs ss given Goes hereditary n x i.0 i.1
    behind_goes n (a_group ess) i = ap is_some (ap (each_sizes which worth xs next) i.same ∙ alternatives_sizes which worth xs next i.group) ∙ at_group which xs root worth refs t c ks ls gs ss given Goes hereditary n i.group i.there i.known

  in_goes : (k : ℕ) → k ≤ most_instances → (n : ℕ) (b : Behind) → IsRowOf b n → is_some (members_in which worth xs k b) ≡ goes (depth_at ds n) k
  in_goes zero l n b i = behind_goes (λ d. None) zero l (λ m d p. sym (none_below (depth_at ds m))) n b i
  in_goes (suc k) l n b i = behind_goes (λ d. members_in which worth xs k d) (suc k) l (λ m d p. in_goes k (omega (arith, l)) m d p ∙ goes_below (depth_at ds m) k) n b i

  flag_of : (es : List (Option ℕ)) (n : ℕ) → flag_at (map is_few es) n ≡ goes (depth_at es n) most_instances
  flag_of [] n = refl
  flag_of (d ∷ es) zero = by (is_few d)
    where
      by : (b : Bool) → is_flagged (Some b) ≡ b
      by true = refl
      by false = refl
  flag_of (d ∷ es) (suc n) = flag_of es n

  pub are_sizable : (flags : List Bool) → flags ≡ map is_few ds → AreSizable xs root worth t which flags
  are_sizable flags e n x i k = ap (λ (fs : List Bool). flag_at fs n) e ∙ (flag_of ds n ∙ sym (in_goes most_instances (omega arith) n (a_type x) (i, k)))
