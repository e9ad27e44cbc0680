-- A type says something of an item, and a group does something with a list, where those do that they ask.
use Rattle.std.proofs.Common.{◌≡◌, ℕ, zero, suc, ◌+◌, ◌-◌, ◌<◌, ◌≤◌, ◌⊎◌, inl, inr, max, length, List, [], ◌∷◌, Option, Some, None, Bool, true, false, nat_eq, refl, subst, ap, arith, Contains}
use Rattle.lists.proofs.Lemmas.{is_equal, is_unequal}
use Rattle.cbor_data.specs.Value.{Value, uint, place_count, Pairs, no_pairs, pair}
use Rattle.cddl_meaning.specs.Forms.{Test, passes, members_in, pairs_in, bytes_in, tag_in, simple_in, TagNumber, any_number, exactly, such_as, Content, one_item, sequence_of_items, MapEntry, Node, Plain, Ref, Choice, ArrayOf, TagOf, SimpleBy, MapOf, Both, Such, Holding, Most, Group, Entry, GroupRef, Sequence, Alternatives, Repeat, Language, is_passed_over, pair_cost, entry_cost}
use Rattle.cddl_meaning.specs.Judges.{Answer, Yes, No, Reply, Takes, Fails, whole, over, failed, is_over, one_less, Says, passed, missed, ref, choice, no_array, array, no_tag, tagged, other_tag, no_simple, simple_such, other_simple, no_map, map, left_no, left_yes, none_such, such_passed, such_missed, holder_no, no_string, holds_nothing, held_yes, held_no, Fate, BelongsTo, Stray, alternative_says, either, Maps, no_alternative, alternative, Sorts, all_sorted, sort, Belongs, nowhere, other_key, here, cut_here, handed_on, Numbers, whichever, this_number, other_number, by_head, Chooses, no_more, this_one, not_this, Does, missing, matches, differs, group_ref, sequence, alternatives, repeat, DoesEach, all_done, one_fails, and_then, DoesFirst, all_fail, one_takes, or_else, Repeats, full, too_few, enough, empty_round, round, passed_over, asked, BelongsAsked}
use Rattle.cddl_meaning.proofs.Lemmas.{one_saying}
use Rattle.cddl_meaning.specs.Ranks.Decided.{IsDecided}
use Rattle.cddl_meaning.specs.Size.{size, pairs_size, list_size}
use Rattle.cddl_meaning.proofs.OfRanks.Founded.{AreAll, HasEntry, HasGroupParts, HasNumber, HasTypeParts}
use Rattle.cddl_meaning.specs.Ranks.Ranked.{IsFreeInGroup, IsFreeInType, IsFreePart, MayBeEmpty, a_group, a_round, a_type, all_items, alternative as free_alternative, front, holder, its_number, left_side, member as free_member, part, past_empty, right_side, same_item, same_list, sequence_held, tested}
use Rattle.cddl_meaning.proofs.Lemmas.{size_some, all_some, array_size, tag_size, map_size, string_size, size_spelled, held_size, key_less, value_less}
use Rattle.cddl_meaning.specs.Held.{Holds, item}
use Rattle.cddl_meaning.proofs.OfRanks.Readable.{Told, told}
use Rattle.cddl_meaning.proofs.OfRanks.Takes.{IsBehind}
use Rattle.cddl_meaning.proofs.OfRanks.Well.{does_well}

-- What is asked of a form of a type: `Any` of what is asked of smaller items, `Under` of what is free in it.
abbrev pub IsTypeFounded : {N G : Type 0} → (Any Under : N → Type 0) (UnderGroup : G → Type 0) → Node N G → Type 0
IsTypeFounded Any Under UnderGroup (Plain t) = Unit {0}
IsTypeFounded Any Under UnderGroup (Ref m) = Under m
IsTypeFounded Any Under UnderGroup (Choice ms) = AreAll Under ms
IsTypeFounded Any Under UnderGroup (ArrayOf g) = UnderGroup g
IsTypeFounded Any Under UnderGroup (TagOf t m) = HasNumber Any t × Any m
IsTypeFounded Any Under UnderGroup (SimpleBy m) = Under m
IsTypeFounded Any Under UnderGroup (MapOf ess) = AreAll (AreAll (HasEntry Any)) ess
IsTypeFounded Any Under UnderGroup (Both m n) = Under m × Under n
IsTypeFounded Any Under UnderGroup (Such m t) = Under m
IsTypeFounded Any Under UnderGroup (Holding m one_item n) = Under m × Any n
IsTypeFounded Any Under UnderGroup (Holding m sequence_of_items n) = Under m × Under n

-- of the parts of a sequence those that are free in it
abbrev pub LeadsUnder : {N G : Type 0} → Language N G → (G → Type 0) → List G → Type 0
LeadsUnder l UnderGroup [] = Unit {0}
LeadsUnder l UnderGroup (g ∷ gs) = UnderGroup g × (MayBeEmpty l (l.group_at g) → LeadsUnder l UnderGroup gs)

abbrev pub IsGroupFounded : {N G : Type 0} → Language N G → (Any : N → Type 0) (AnyGroup UnderGroup : G → Type 0) → Group N G → Type 0
IsGroupFounded l Any AnyGroup UnderGroup (Entry m) = Any m
IsGroupFounded l Any AnyGroup UnderGroup (GroupRef g) = UnderGroup g
IsGroupFounded l Any AnyGroup UnderGroup (Sequence gs) = AreAll AnyGroup gs × LeadsUnder l UnderGroup gs
IsGroupFounded l Any AnyGroup UnderGroup (Alternatives gs) = AreAll UnderGroup gs
IsGroupFounded l Any AnyGroup UnderGroup (Repeat least most g) = UnderGroup g

all_under : {A : Type 0} (P Q : A → Type 0) (names : List A) → AreAll P names → ((a : A) → Contains names a → P a → Q a) → AreAll Q names
all_under P Q [] k h = tt
all_under P Q (a ∷ more) k h = (h a (0, omega arith, refl) k.0, all_under P Q more k.1 (λ b c. h b (suc c.0, omega (arith, c.1), c.2)))

module _ {N G : Type 0} (l : Language N G) (P Under : N → Type 0) (Q UnderGroup : G → Type 0) where
  pub type_founded : (f : Node N G) → HasTypeParts P Q f → ((m : N) → IsFreeInType f (a_type m) → P m → Under m) → ((g : G) → IsFreeInType f (a_group g) → Q g → UnderGroup g) → IsTypeFounded P Under UnderGroup f
  type_founded (Plain t) k of_types of_groups = tt
  type_founded (Ref m) k of_types of_groups = of_types m same_item k
  type_founded (Choice ms) k of_types of_groups = all_under P Under ms k (λ m c. of_types m (free_member c))
  type_founded (ArrayOf g) k of_types of_groups = of_groups g all_items k
  type_founded (TagOf t m) k of_types of_groups = k
  type_founded (SimpleBy m) k of_types of_groups = of_types m its_number k
  type_founded (MapOf ess) k of_types of_groups = k
  type_founded (Both m n) k of_types of_groups = (of_types m left_side k.0, of_types n right_side k.1)
  type_founded (Such m t) k of_types of_groups = of_types m tested k
  type_founded (Holding m one_item n) k of_types of_groups = (of_types m holder k.0, k.1)
  type_founded (Holding m sequence_of_items n) k of_types of_groups = (of_types m holder k.0, of_types n sequence_held k.1)

  leads_under : (gs : List G) → AreAll Q gs → ((g : G) → IsFreePart l gs g → Q g → UnderGroup g) → LeadsUnder l UnderGroup gs
  leads_under [] k h = tt
  leads_under (g ∷ gs) k h = (h g front k.0, λ e. leads_under gs k.1 (λ b f. h b (past_empty e f)))

  pub group_founded : (f : Group N G) → HasGroupParts P Q f → ((g : G) → IsFreeInGroup l f g → Q g → UnderGroup g) → IsGroupFounded l P Q UnderGroup f
  group_founded (Entry m) k h = k
  group_founded (GroupRef g) k h = h g same_list k
  group_founded (Sequence gs) k h = (k, leads_under gs k (λ g f. h g (part f)))
  group_founded (Alternatives gs) k h = all_under Q UnderGroup gs k (λ g c. h g (free_alternative c))
  group_founded (Repeat least most g) k h = h g a_round k

module _ {N G : Type 0} (l : Language N G) where
  pub record SaysSome (f : Node N G) (p : ℕ) (x : Value) : Type 0 where
    pub answer : Answer
    pub weight : ℕ
    pub says : Says l f p x answer weight

  pub record DoesSome (f : Group N G) (p q : ℕ) (xs : List Value) : Type 0 where
    pub reply : Reply
    pub weight : ℕ
    pub does : Does l f p q xs reply weight

  record ChoosesSome (ms : List N) (p : ℕ) (x : Value) (far : ℕ) : Type 0 where
    answer : Answer
    weight : ℕ
    chooses : Chooses l ms p x far answer weight

  record BelongsSome (es : List (MapEntry N)) (q : ℕ) (k x : Value) : Type 0 where
    fate : Fate
    weight : ℕ
    belongs : Belongs l es q k x fate weight

  record AskedSome (e : MapEntry N) (es : List (MapEntry N)) (q : ℕ) (k x : Value) : Type 0 where
    fate : Fate
    weight : ℕ
    belongs : BelongsAsked l e es q k x fate weight

  record SortsSome (es : List (MapEntry N)) (q : ℕ) (ps : Pairs) : Type 0 where
    fates : List Fate
    weight : ℕ
    sorts : Sorts l es q ps fates weight

  record MapsSome (ess : List (List (MapEntry N))) (p : ℕ) (ps : Pairs) (sofar : Answer) : Type 0 where
    answer : Answer
    weight : ℕ
    maps : Maps l ess p ps sofar answer weight

  record EachSome (gs : List G) (p q : ℕ) (xs : List Value) (far : ℕ) : Type 0 where
    reply : Reply
    weight : ℕ
    does : DoesEach l gs p q xs far reply weight

  record FirstSome (gs : List G) (p q : ℕ) (xs : List Value) (far : ℕ) : Type 0 where
    reply : Reply
    weight : ℕ
    does : DoesFirst l gs p q xs far reply weight

  record RepeatsSome (least : ℕ) (most : Most) (g : G) (p q : ℕ) (xs : List Value) (far : ℕ) : Type 0 where
    reply : Reply
    weight : ℕ
    does : Repeats l least most g p q xs far reply weight

  choose_next : (m : N) (ms : List N) (p : ℕ) (x : Value) (far : ℕ) (a : Answer) (w : ℕ) → Says l (l.type_at m) p x a w → ((far : ℕ) → ChoosesSome ms p x far) → ChoosesSome (m ∷ ms) p x far
  choose_next m ms p x far Yes w d rest = record { answer = Yes; weight = w; chooses = this_one d }
  choose_next m ms p x far (No later) w d rest = let e = rest (max far later) in record { answer = e.answer; weight = w + e.weight; chooses = not_this d e.chooses }

  array_next : (g : G) (p : ℕ) (x : Value) (xs : List Value) (r : Reply) (w : ℕ) → members_in x ≡ Some xs → Does l (l.group_at g) p (suc p) xs r w → SaysSome (ArrayOf g) p x
  array_next g p x xs (Takes [] b far) w e d = record { answer = Yes; weight = suc w; says = array e d whole }
  array_next g p x xs (Takes (y ∷ ys) b far) w e d = record { answer = No (max far b); weight = suc w; says = array e d over }
  array_next g p x xs (Fails far) w e d = record { answer = No far; weight = suc w; says = array e d failed }

  tag_next : (t : TagNumber N) (m : N) (p n : ℕ) (x y : Value) (a : Answer) (w : ℕ) → tag_in x ≡ Some (n, y) → Numbers l t p n a w → SaysSome (l.type_at m) (suc p) y → SaysSome (TagOf t m) p x
  tag_next t m p n x y Yes w e k d = record { answer = d.answer; weight = suc (w + d.weight); says = tagged e k d.says }
  tag_next t m p n x y (No far) w e k d = record { answer = No p; weight = suc w; says = other_tag e k }

  exact_some : (k p n : ℕ) (c : Bool) → nat_eq k n ≡ c → (a : Answer) × (w : ℕ) × Numbers l (exactly k) p n a w
  exact_some k p n true e = (Yes, 0, subst (λ n. Numbers l (exactly k) p n Yes 0) (is_equal k n e) this_number)
  exact_some k p n false e = (No p, 0, other_number (is_unequal k n e))

  simple_next : (m : N) (p n : ℕ) (x : Value) (a : Answer) (w : ℕ) → simple_in x ≡ Some n → Says l (l.type_at m) p (uint n) a w → SaysSome (SimpleBy m) p x
  simple_next m p n x Yes w e d = record { answer = Yes; weight = suc w; says = simple_such e d }
  simple_next m p n x (No far) w e d = record { answer = No p; weight = suc w; says = other_simple e d }

  cut_next : (e : MapEntry N) (es : List (MapEntry N)) (q : ℕ) (k x : Value) (far v w : ℕ) (c : Bool) → e.cuts ≡ c → Says l (l.type_at e.key_type) q k Yes v → Says l (l.type_at e.value_type) (q + place_count k) x (No far) w → BelongsSome es q k x → AskedSome e es q k x
  cut_next e es q k x far v w true c d b others = record { fate = BelongsTo (length es) (No far); weight = v + w; belongs = cut_here c d b }
  cut_next e es q k x far v w false c d b others = record { fate = others.fate; weight = v + (w + others.weight); belongs = handed_on c d b others.belongs }

  value_next : (e : MapEntry N) (es : List (MapEntry N)) (q : ℕ) (k x : Value) (v : ℕ) (a : Answer) (w : ℕ) → Says l (l.type_at e.key_type) q k Yes v → Says l (l.type_at e.value_type) (q + place_count k) x a w → BelongsSome es q k x → AskedSome e es q k x
  value_next e es q k x v Yes w d b others = record { fate = BelongsTo (length es) Yes; weight = v + w; belongs = here d b }
  value_next e es q k x v (No far) w d b others = cut_next e es q k x far v w e.cuts refl d b others

  key_next : (e : MapEntry N) (es : List (MapEntry N)) (q : ℕ) (k x : Value) (a : Answer) (v : ℕ) → Says l (l.type_at e.key_type) q k a v → SaysSome (l.type_at e.value_type) (q + place_count k) x → BelongsSome es q k x → AskedSome e es q k x
  key_next e es q k x Yes v d b others = value_next e es q k x v b.answer b.weight d b.says others
  key_next e es q k x (No far) v d b others = record { fate = others.fate; weight = v + others.weight; belongs = other_key d others.belongs }

  enter_next : (e : MapEntry N) (es : List (MapEntry N)) (q : ℕ) (k x : Value) (c : Bool) → is_passed_over l.counting e.key_type k ≡ c → BelongsSome es q k x → AskedSome e es q k x → BelongsSome (e ∷ es) q k x
  enter_next e es q k x true i others d = record { fate = others.fate; weight = others.weight; belongs = passed_over i others.belongs }
  enter_next e es q k x false i others d = record { fate = d.fate; weight = entry_cost l.counting + d.weight; belongs = asked i d.belongs }

  plain_some : (t : Test) (p : ℕ) (x : Value) (c : Bool) → passes t x ≡ c → SaysSome (Plain t) p x
  plain_some t p x true e = record { answer = Yes; weight = 1; says = passed e }
  plain_some t p x false e = record { answer = No p; weight = 1; says = missed e }

  entry_next : (m : N) (p q : ℕ) (x : Value) (xs : List Value) (a : Answer) (w : ℕ) → Says l (l.type_at m) q x a w → DoesSome (Entry m) p q (x ∷ xs)
  entry_next m p q x xs Yes w d = record { reply = Takes xs (q + place_count x) p; weight = suc w; does = matches d }
  entry_next m p q x xs (No far) w d = record { reply = Fails (max p far); weight = suc w; does = differs d }

  first_next : (g : G) (gs : List G) (p q : ℕ) (xs : List Value) (far : ℕ) (r : Reply) (w : ℕ) → Does l (l.group_at g) p q xs r w → ((far : ℕ) → FirstSome gs p q xs far) → FirstSome (g ∷ gs) p q xs far
  first_next g gs p q xs far (Takes left b later) w d rest = record { reply = Takes left b (max far later); weight = w; does = one_takes d }
  first_next g gs p q xs far (Fails later) w d rest = let e = rest (max far later) in record { reply = e.reply; weight = w + e.weight; does = or_else d e.does }

  each_next : (g : G) (gs : List G) (p q : ℕ) (xs : List Value) (far : ℕ) (r : Reply) (w : ℕ) → Does l (l.group_at g) p q xs r w → ((left : List Value) (q far : ℕ) → IsBehind (MayBeEmpty l (l.group_at g)) left xs → EachSome gs p q left far) → EachSome (g ∷ gs) p q xs far
  each_next g gs p q xs far (Takes left b later) w d rest = let e = rest left b (max far later) (does_well l d) in record { reply = e.reply; weight = w + e.weight; does = and_then d e.does }
  each_next g gs p q xs far (Fails later) w d rest = record { reply = Fails (max far later); weight = w; does = one_fails d }

  behind_round : (least : ℕ) (most : Most) (g : G) (p q : ℕ) (xs : List Value) (far : ℕ) (left : List Value) (b later w : ℕ) → is_over most ≡ false → Does l (l.group_at g) p q xs (Takes left b later) w → (c : Bool) → nat_eq (length left) (length xs) ≡ c → IsBehind (MayBeEmpty l (l.group_at g)) left xs → ((left : List Value) (q far : ℕ) → length left < length xs → list_size left ≤ list_size xs → RepeatsSome (least - 1) (one_less most) g p q left far) → RepeatsSome least most g p q xs far
  behind_round least most g p q xs far left b later w i d true c h rest = record { reply = Takes xs q (max far later); weight = w; does = empty_round i d (is_equal (length left) (length xs) c) }
  behind_round least most g p q xs far left b later w i d false c (inl h) rest = absurd (is_unequal (length left) (length xs) c (ap (λ zs. length zs) h.1))
  behind_round least most g p q xs far left b later w i d false c (inr h) rest =
      let e = rest left b (max far later) h.1 (omega (arith, h.0)) in
      record { reply = e.reply; weight = w + e.weight; does = round i d (is_unequal (length left) (length xs) c) e.does }

  round_next : (least : ℕ) (most : Most) (g : G) (p q : ℕ) (xs : List Value) (far : ℕ) (r : Reply) (w : ℕ) → is_over most ≡ false → Does l (l.group_at g) p q xs r w → ((left : List Value) (q far : ℕ) → length left < length xs → list_size left ≤ list_size xs → RepeatsSome (least - 1) (one_less most) g p q left far) → RepeatsSome least most g p q xs far
  round_next least most g p q xs far (Takes left b later) w i d rest = behind_round least most g p q xs far left b later w i d (nat_eq (length left) (length xs)) refl (does_well l d) rest
  round_next zero most g p q xs far (Fails later) w i d rest = record { reply = Takes xs q (max far later); weight = w; does = enough i d }
  round_next (suc least) most g p q xs far (Fails later) w i d rest = record { reply = Fails (max far later); weight = w; does = too_few i d }

  -- Types of which each says something of any smaller item (`Any`), or of one that is no larger (`Under`), and groups likewise.
  module _ (S : ℕ) (Any Under : N → Type 0) (AnyGroup UnderGroup : G → Type 0)
      (types : (m : N) (p : ℕ) (y : Value) → (Any m × (size y < S)) ⊎ (Under m × (size y ≤ S)) → SaysSome (l.type_at m) p y)
      (groups : (g : G) (p q : ℕ) (ys : List Value) → (AnyGroup g × (list_size ys < S)) ⊎ (UnderGroup g × (list_size ys ≤ S)) → DoesSome (l.group_at g) p q ys) where
    choose_some : (ms : List N) (p : ℕ) (x : Value) (far : ℕ) → size x ≤ S → AreAll Under ms → ChoosesSome ms p x far
    choose_some [] p x far h b = record { answer = No far; weight = 0; chooses = no_more }
    choose_some (m ∷ ms) p x far h b = let d = types m p x (inr (b.0, h)) in choose_next m ms p x far d.answer d.weight d.says (λ far. choose_some ms p x far h b.1)

    array_some : (g : G) (p : ℕ) (x : Value) → size x ≤ S → UnderGroup g → (o : Option (List Value)) → members_in x ≡ o → SaysSome (ArrayOf g) p x
    array_some g p x h u None e = record { answer = No p; weight = 1; says = no_array e }
    array_some g p x h u (Some xs) e = let d = groups g p (suc p) xs (inr (u, omega (arith, h, array_size x xs e))) in array_next g p x xs d.reply d.weight e d.does

    number_some : (t : TagNumber N) (p n : ℕ) → HasNumber Any t → 1 < S → (a : Answer) × (w : ℕ) × Numbers l t p n a w
    number_some any_number p n k h = (Yes, 0, whichever)
    number_some (exactly k) p n i h = exact_some k p n (nat_eq k n) refl
    number_some (such_as t) p n k h = let d = types t p (uint n) (inl (k, h)) in (d.answer, d.weight, by_head d.says)

    tag_some : (t : TagNumber N) (m : N) (p : ℕ) (x : Value) → size x ≤ S → HasNumber Any t → Any m → (o : Option (ℕ × Value)) → tag_in x ≡ o → SaysSome (TagOf t m) p x
    tag_some t m p x h i j None e = record { answer = No p; weight = 1; says = no_tag e }
    tag_some t m p x h i j (Some (n, y)) e =
        let k = number_some t p n i (omega (arith, h, tag_size x y n e, size_some y)) in
        tag_next t m p n x y k.0 k.1 e k.2 (types m (suc p) y (inl (j, omega (arith, h, tag_size x y n e))))

    simple_some : (m : N) (p : ℕ) (x : Value) → 1 ≤ S → Under m → (o : Option ℕ) → simple_in x ≡ o → SaysSome (SimpleBy m) p x
    simple_some m p x h u None e = record { answer = No p; weight = 1; says = no_simple e }
    simple_some m p x h u (Some n) e = let d = types m p (uint n) (inr (u, omega (arith, h))) in simple_next m p n x d.answer d.weight e d.says

    belongs_some : (es : List (MapEntry N)) (q : ℕ) (k x : Value) → AreAll (HasEntry Any) es → size k < S → size x < S → BelongsSome es q k x
    belongs_some [] q k x a h j = record { fate = Stray q; weight = 0; belongs = nowhere }
    belongs_some (e ∷ es) q k x a h j =
        let d = types e.key_type q k (inl (a.0.0, h)) in
        let others = belongs_some es q k x a.1 h j in
        enter_next e es q k x (is_passed_over l.counting e.key_type k) refl others (key_next e es q k x d.answer d.weight d.says (types e.value_type (q + place_count k) x (inl (a.0.1, j))) others)

    sorts_some : (es : List (MapEntry N)) (q : ℕ) (ps : Pairs) → AreAll (HasEntry Any) es → pairs_size ps < S → SortsSome es q ps
    sorts_some es q no_pairs a h = record { fates = []; weight = 0; sorts = all_sorted }
    sorts_some es q (pair k x ps) a h =
        let d = belongs_some es q k x a (omega (arith, h, key_less k x ps)) (omega (arith, h, value_less k x ps)) in
        let e = sorts_some es (q + place_count k + place_count x) ps a (omega (arith, h)) in
        record { fates = d.fate ∷ e.fates; weight = pair_cost l.counting (length es) + d.weight + e.weight; sorts = sort d.belongs e.sorts }

    maps_some : (ess : List (List (MapEntry N))) (p : ℕ) (ps : Pairs) (sofar : Answer) → AreAll (AreAll (HasEntry Any)) ess → pairs_size ps < S → MapsSome ess p ps sofar
    maps_some [] p ps sofar a h = record { answer = sofar; weight = 0; maps = no_alternative }
    maps_some (es ∷ ess) p ps sofar a h =
        let d = sorts_some es (suc p) ps a.0 h in
        let e = maps_some ess p ps (either sofar (alternative_says es p d.fates)) a.1 h in
        record { answer = e.answer; weight = suc d.weight + e.weight; maps = alternative d.sorts e.maps }

    map_some : (ess : List (List (MapEntry N))) (p : ℕ) (x : Value) → size x ≤ S → AreAll (AreAll (HasEntry Any)) ess → (o : Option Pairs) → pairs_in x ≡ o → SaysSome (MapOf ess) p x
    map_some ess p x h a None e = record { answer = No p; weight = 1; says = no_map e }
    map_some ess p x h a (Some ps) e =
        let d = maps_some ess p ps (No p) a (omega (arith, h, map_size x ps e)) in
        record { answer = d.answer; weight = suc d.weight; says = map e d.maps }

    both_some : (m n : N) (p : ℕ) (x : Value) (a : Answer) (w : ℕ) → Says l (l.type_at m) p x a w → SaysSome (l.type_at n) p x → SaysSome (Both m n) p x
    both_some m n p x Yes w d e = record { answer = e.answer; weight = suc (w + e.weight); says = left_yes d e.says }
    both_some m n p x (No far) w d e = record { answer = No far; weight = suc w; says = left_no d }

    tested_some : (m : N) (t : Test) (p : ℕ) (x : Value) (w : ℕ) → Says l (l.type_at m) p x Yes w → (b : Bool) → passes t x ≡ b → SaysSome (Such m t) p x
    tested_some m t p x w d true e = record { answer = Yes; weight = _; says = such_passed d e }
    tested_some m t p x w d false e = record { answer = No p; weight = _; says = such_missed d e }

    such_some : (m : N) (t : Test) (p : ℕ) (x : Value) (a : Answer) (w : ℕ) → Says l (l.type_at m) p x a w → SaysSome (Such m t) p x
    such_some m t p x Yes w d = tested_some m t p x w d (passes t x) refl
    such_some m t p x (No far) w d = record { answer = No far; weight = suc w; says = none_such d }

    held_some : (m n : N) (c : Content) (p : ℕ) (x y : Value) (b : List ℕ) (w : ℕ) → Says l (l.type_at m) p x Yes w → bytes_in x ≡ Some b → Holds c b y → (a : Answer) (v : ℕ) → Says l (l.type_at n) 0 y a v → SaysSome (Holding m c n) p x
    held_some m n c p x y b w d e k Yes v f = record { answer = Yes; weight = suc (w + v); says = held_yes d e k f }
    held_some m n c p x y b w d e k (No far) v f = record { answer = No p; weight = suc (w + v); says = held_no d e k f }

    told_some : (m n : N) (c : Content) (p : ℕ) (x : Value) (b : List ℕ) (w : ℕ) → Says l (l.type_at m) p x Yes w → bytes_in x ≡ Some b → ((y : Value) → Holds c b y → (Any n × (size y < S)) ⊎ (Under n × (size y ≤ S))) → Told c b → SaysSome (Holding m c n) p x
    told_some m n c p x b w d e i (inl t) = let f = types n 0 t.0 (i t.0 t.1) in held_some m n c p x t.0 b w d e t.1 f.answer f.weight f.says
    told_some m n c p x b w d e i (inr k) = record { answer = No p; weight = suc w; says = holds_nothing d e k }

    read_some : (m n : N) (c : Content) (p : ℕ) (x : Value) (w : ℕ) → Says l (l.type_at m) p x Yes w → ((b : List ℕ) (y : Value) → bytes_in x ≡ Some b → Holds c b y → (Any n × (size y < S)) ⊎ (Under n × (size y ≤ S))) → (o : Option (List ℕ)) → bytes_in x ≡ o → SaysSome (Holding m c n) p x
    read_some m n c p x w d i None e = record { answer = No p; weight = suc w; says = no_string d e }
    read_some m n c p x w d i (Some b) e = told_some m n c p x b w d e (λ y k. i b y e k) (told c b)

    holding_some : (m n : N) (c : Content) (p : ℕ) (x : Value) (a : Answer) (w : ℕ) → Says l (l.type_at m) p x a w → ((b : List ℕ) (y : Value) → bytes_in x ≡ Some b → Holds c b y → (Any n × (size y < S)) ⊎ (Under n × (size y ≤ S))) → SaysSome (Holding m c n) p x
    holding_some m n c p x Yes w d i = read_some m n c p x w d i (bytes_in x) refl
    holding_some m n c p x (No far) w d i = record { answer = No far; weight = suc w; says = holder_no d }

    -- what a byte string holds is smaller, or the array of a sequence and no larger
    item_less : (n : N) (x : Value) → size x ≤ S → Any n → (b : List ℕ) (y : Value) → bytes_in x ≡ Some b → Holds one_item b y → (Any n × (size y < S)) ⊎ (Under n × (size y ≤ S))
    item_less n x h u b y e (item k) = inl (u, omega (arith, h, string_size x b e, size_spelled y b k.spells))

    items_less : (n : N) (x : Value) → size x ≤ S → Under n → (b : List ℕ) (y : Value) → bytes_in x ≡ Some b → Holds sequence_of_items b y → (Any n × (size y < S)) ⊎ (Under n × (size y ≤ S))
    items_less n x h u b y e k = inr (u, omega (arith, h, string_size x b e, held_size k))

    pub type_some : (t : Node N G) (p : ℕ) (x : Value) → size x ≤ S → IsTypeFounded Any Under UnderGroup t → SaysSome t p x
    type_some (Plain t) p x h k = plain_some t p x (passes t x) refl
    type_some (Ref m) p x h k = let d = types m p x (inr (k, h)) in record { answer = d.answer; weight = suc d.weight; says = ref d.says }
    type_some (Choice ms) p x h k = let d = choose_some ms p x p h k in record { answer = d.answer; weight = suc d.weight; says = choice d.chooses }
    type_some (ArrayOf g) p x h k = array_some g p x h k (members_in x) refl
    type_some (TagOf t m) p x h k = tag_some t m p x h k.0 k.1 (tag_in x) refl
    type_some (SimpleBy m) p x h k = simple_some m p x (omega (arith, h, size_some x)) k (simple_in x) refl
    type_some (MapOf ess) p x h k = map_some ess p x h k (pairs_in x) refl
    type_some (Both m n) p x h k = let d = types m p x (inr (k.0, h)) in both_some m n p x d.answer d.weight d.says (types n p x (inr (k.1, h)))
    type_some (Such m t) p x h k = let d = types m p x (inr (k, h)) in such_some m t p x d.answer d.weight d.says
    type_some (Holding m one_item n) p x h k = let d = types m p x (inr (k.0, h)) in holding_some m n one_item p x d.answer d.weight d.says (item_less n x h k.1)
    type_some (Holding m sequence_of_items n) p x h k = let d = types m p x (inr (k.0, h)) in holding_some m n sequence_of_items p x d.answer d.weight d.says (items_less n x h k.1)

    first_some : (gs : List G) (p q : ℕ) (xs : List Value) (far : ℕ) → list_size xs ≤ S → AreAll UnderGroup gs → FirstSome gs p q xs far
    first_some [] p q xs far h b = record { reply = Fails far; weight = 0; does = all_fail }
    first_some (g ∷ gs) p q xs far h b = let d = groups g p q xs (inr (b.0, h)) in first_next g gs p q xs far d.reply d.weight d.does (λ far. first_some gs p q xs far h b.1)

    -- the further parts of a sequence are asked of a smaller list, or go down
    abbrev GoesDown : List G → List Value → Type 0
    GoesDown gs xs = AreAll AnyGroup gs × ((list_size xs < S) ⊎ (LeadsUnder l UnderGroup gs × (list_size xs ≤ S)))

    part_less : (g : G) (gs : List G) (xs : List Value) → GoesDown (g ∷ gs) xs → (AnyGroup g × (list_size xs < S)) ⊎ (UnderGroup g × (list_size xs ≤ S))
    part_less g gs xs (a, inl h) = inl (a.0, h)
    part_less g gs xs (a, inr h) = inr (h.0.0, h.1)

    rest_less : (g : G) (gs : List G) (xs left : List Value) → IsBehind (MayBeEmpty l (l.group_at g)) left xs → GoesDown (g ∷ gs) xs → GoesDown gs left
    rest_less g gs xs left (inl i) (a, inl h) = (a.1, inl (omega (arith, h, ap list_size i.1)))
    rest_less g gs xs left (inl i) (a, inr h) = (a.1, inr (h.0.1 i.0, omega (arith, h.1, ap list_size i.1)))
    rest_less g gs xs left (inr i) (a, inl h) = (a.1, inl (omega (arith, h, i.0)))
    rest_less g gs xs left (inr i) (a, inr h) = (a.1, inl (omega (arith, h.1, i.0)))

    each_some : (gs : List G) (p q : ℕ) (xs : List Value) (far : ℕ) → GoesDown gs xs → EachSome gs p q xs far
    each_some [] p q xs far h = record { reply = Takes xs q far; weight = 0; does = all_done }
    each_some (g ∷ gs) p q xs far h =
        let d = groups g p q xs (part_less g gs xs h) in
        each_next g gs p q xs far d.reply d.weight d.does (λ left q far i. each_some gs p q left far (rest_less g gs xs left i h))

    rounds_some : (j least : ℕ) (most : Most) (g : G) (p q : ℕ) (xs : List Value) (far : ℕ) → length xs < j → list_size xs ≤ S → UnderGroup g → (c : Bool) → is_over most ≡ c → RepeatsSome least most g p q xs far
    rounds_some zero least most g p q xs far n h u c e = absurd (omega (arith, n))
    rounds_some (suc j) least most g p q xs far n h u true e = record { reply = Takes xs q far; weight = 0; does = full e }
    rounds_some (suc j) least most g p q xs far n h u false e =
        let d = groups g p q xs (inr (u, h)) in
        round_next least most g p q xs far d.reply d.weight e d.does (λ left q far i k. rounds_some j (least - 1) (one_less most) g p q left far (omega (arith, n, i)) (omega (arith, h, k)) u (is_over (one_less most)) refl)

    entry_some : (m : N) (p q : ℕ) (xs : List Value) → list_size xs ≤ S → Any m → DoesSome (Entry m) p q xs
    entry_some m p q [] h u = record { reply = Fails p; weight = 1; does = missing }
    entry_some m p q (x ∷ xs) h u = let d = types m q x (inl (u, omega (arith, h, all_some xs))) in entry_next m p q x xs d.answer d.weight d.says

    pub group_some : (t : Group N G) (p q : ℕ) (xs : List Value) → list_size xs ≤ S → IsGroupFounded l Any AnyGroup UnderGroup t → DoesSome t p q xs
    group_some (Entry m) p q xs h k = entry_some m p q xs h k
    group_some (GroupRef g) p q xs h k = let d = groups g p q xs (inr (k, h)) in record { reply = d.reply; weight = suc d.weight; does = group_ref d.does }
    group_some (Sequence gs) p q xs h k = let d = each_some gs p q xs p (k.0, inr (k.1, h)) in record { reply = d.reply; weight = suc d.weight; does = sequence d.does }
    group_some (Alternatives gs) p q xs h k = let d = first_some gs p q xs p h k in record { reply = d.reply; weight = suc d.weight; does = alternatives d.does }
    group_some (Repeat least most g) p q xs h k = let d = rounds_some (suc (length xs)) least most g p q xs p (omega arith) h k (is_over most) refl in record { reply = d.reply; weight = suc d.weight; does = repeat d.does }
