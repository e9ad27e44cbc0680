-- Each question has a reply by the moves, and each question on the way is below the one that asks it.
use Rattle.std.proofs.Common.{◌≡◌, ℕ, zero, suc, ◌+◌, ◌-◌, ◌<◌, ◌≤◌, ◌⊎◌, inl, inr, max, length, List, [], ◌∷◌, Option, Some, None, Bool, true, false, nat_eq, refl, ap, arith}
use Rattle.lists.proofs.Lemmas.{is_equal, is_unequal}
use Rattle.cbor_data.specs.Value.{Value, uint, place_count, Pairs, no_pairs, pair}
use Rattle.cddl_meaning.specs.Forms.{Test, bits_among, passes, bits_asked, members_in, pairs_in, bytes_in, tag_in, simple_in, TagNumber, any_number, exactly, such_as, Content, one_item, sequence_of_items, MapEntry, Node, Plain, Ref, Choice, ArrayOf, TagOf, SimpleBy, MapOf, Both, Such, Holding, Most, Group, Entry, GroupRef, Sequence, Alternatives, Repeat, Language, is_passed_over, pair_cost, entry_cost}
use Rattle.cddl_meaning.specs.Judges.{Yes, No, Reply, Takes, Fails, is_over, one_less, Fate, BelongsTo, Stray}
use Rattle.cddl_meaning.specs.Moves.{Question, OfType, OfGroup, OfAlternative, Tally, Sorting, Pending, InChoice, InHead, InSimple, InEntry, InSequence, InAlternatives, InRepeat, InKey, InValue, InLeft, InSuch, InHolder, InHeld, Move, Answered, Asks, plus, test_reply, such_reply, array_reply, next_member, next_part, next_alternative, next_round, repetition, after_round, end_of_rounds, array_move, content_move, tag_move, simple_move, read_move, tested_move, either_reply, answer_reply, fresh, tallied, tally_says, next_way, map_move, next_pair, sorted, next_entry, after_value, type_move, entry_move, group_move, next_move}
use Rattle.cddl_meaning.specs.Size.{size, pairs_size, list_size}
use Rattle.cddl_meaning.specs.Ranks.Ranked.{MayBeEmpty, named, every_part, one_of_them, no_minimum, no_round, an_empty_round, AllMayBeEmpty, no_part, this_part, OneMayBeEmpty, this_one, another}
use Rattle.cddl_meaning.specs.Ranks.Flags.{AreBelow, IsTypeRanked}
use Rattle.cddl_meaning.proofs.OfRanks.ByForm.{LeadsDown, IsGroupRanked, IsRankedByForm}
use Rattle.cddl_meaning.proofs.OfRanks.Down.{IsBelow, RepliesDown, replies, EndsDown, at_once, after, tries, weighs, reads, reads_nothing, passes_over, enters}
use Rattle.cddl_meaning.proofs.Lemmas.{size_some, all_some, array_size, tag_size, map_size, string_size, size_spelled, held_size, key_less, value_less}
use Rattle.cddl_meaning.specs.Held.{Holds, item}
use Rattle.cddl_meaning.proofs.OfRanks.Readable.{Told, told}
use Rattle.cddl_meaning.proofs.OfRanks.Takes.{IsShorter, IsBehind, TakesWell, AnyReply, takes_as, takes_more, takes_less, entry_takes}
use Rattle.cddl_meaning.proofs.OfRanks.Induction.{IsLess, for_types, for_groups}

module _ {N G : Type 0} (l : Language N G) (type_rank : N → ℕ) (group_rank : G → ℕ) where
  -- a move ends with a reply of this kind
  record Ending (S R : ℕ) (m : Move N G) (IsGood : Reply → Type 0) : Type 0 where
    reply : Reply
    weight : ℕ
    ends : EndsDown l type_rank group_rank S R m reply weight
    good : IsGood reply

  pub record Replied (q : Question N G) (IsGood : Reply → Type 0) : Type 0 where
    pub reply : Reply
    pub weight : ℕ
    pub replies_down : RepliesDown l type_rank group_rank q reply weight
    pub good : IsGood reply

  abbrev pub Empty : G → Type 0
  Empty g = MayBeEmpty l (l.group_at g)

  -- every type below this size and rank has a reply, and every group
  abbrev TypesReply : ℕ → ℕ → Type 0
  TypesReply S R = (m : N) (p : ℕ) (y : Value) → IsLess (size y) (type_rank m) S R → Replied (OfType m p y) AnyReply

  abbrev GroupsReply : ℕ → ℕ → Type 0
  GroupsReply S R = (g : G) (base q : ℕ) (ys : List Value) → IsLess (list_size ys) (group_rank g) S R → Replied (OfGroup g base q ys) (TakesWell (Empty g) ys)

  at_end : {S R : ℕ} (r : Reply) (IsGood : Reply → Type 0) → IsGood r → Ending S R (Answered r) IsGood
  at_end r IsGood h = record { reply = r; weight = 0; ends = at_once; good = h }

  then : {S R : ℕ} {q : Question N G} {o : Pending N G} {s : Reply} {w : ℕ} {IsGood : Reply → Type 0} → IsBelow type_rank group_rank q o S R → RepliesDown l type_rank group_rank q s w → Ending S R (next_move o s) IsGood → Ending S R (Asks q o) IsGood
  then {w = w} i d e = record { reply = e.reply; weight = w + e.weight; ends = after i d e.ends; good = e.good }

  tested_total : {S R : ℕ} (t : Test) (p next : ℕ) (x : Value) → Ending S R (tested_move t p next x) AnyReply
  tested_total (bits_among rs) p next x = record { reply = such_reply p next (passes (bits_among rs) x); weight = bits_asked (bits_among rs) x; ends = weighs; good = tt }
  tested_total t p next x = at_end (such_reply p next (passes t x)) AnyReply tt

  -- The keys and values of an alternative are of a size below S.
  module _ (S R : ℕ) (types : TypesReply S R) where
    -- The value type has said no.
    cut_next : (es : List (MapEntry N)) (s : Sorting N) (far : ℕ) (c : Bool) → ((f : Fate) → Ending S R (sorted s f) AnyReply) → Ending S R (next_entry es s) AnyReply → Ending S R (after_value c es s far) AnyReply
    cut_next es s far true known others = known (BelongsTo (length es) (No far))
    cut_next es s far false known others = others

    value_next : (e : MapEntry N) (es : List (MapEntry N)) (s : Sorting N) (r : Reply) → ((f : Fate) → Ending S R (sorted s f) AnyReply) → Ending S R (next_entry es s) AnyReply → Ending S R (next_move (InValue e es s) r) AnyReply
    value_next e es s (Takes left b later) known others = known (BelongsTo (length es) Yes)
    value_next e es s (Fails later) known others = cut_next es s later e.cuts known others

    key_next : (e : MapEntry N) (es : List (MapEntry N)) (s : Sorting N) (r : Reply) → size s.held < S → ((f : Fate) → Ending S R (sorted s f) AnyReply) → Ending S R (next_entry es s) AnyReply → Ending S R (next_move (InKey e es s) r) AnyReply
    key_next e es s (Takes left b later) h known others =
        let d = types e.value_type s.value_place s.held (inl h) in
        then (inl h) d.replies_down (value_next e es s d.reply known others)
    key_next e es s (Fails later) h known others = others

    -- The entry is passed over, or asked.
    enter : (e : MapEntry N) (es : List (MapEntry N)) (s : Sorting N) (c : Bool) → is_passed_over l.counting e.key_type s.key ≡ c → Ending S R (next_entry es s) AnyReply → Ending S R (Asks (OfType e.key_type s.key_place s.key) (InKey e es s)) AnyReply → Ending S R (next_entry (e ∷ es) s) AnyReply
    enter e es s true i others d = record { reply = others.reply; weight = others.weight; ends = passes_over i others.ends; good = tt }
    enter e es s false i others d = record { reply = d.reply; weight = entry_cost l.counting + d.weight; ends = enters i d.ends; good = tt }

    entries_total : (es : List (MapEntry N)) (s : Sorting N) → size s.key < S → size s.held < S → ((f : Fate) → Ending S R (sorted s f) AnyReply) → Ending S R (next_entry es s) AnyReply
    entries_total [] s h k known = known (Stray s.key_place)
    entries_total (e ∷ es) s h k known =
        let d = types e.key_type s.key_place s.key (inl h) in
        let others = entries_total es s h k known in
        enter e es s (is_passed_over l.counting e.key_type s.key) refl others (then (inl h) d.replies_down (key_next e es s d.reply k known others))

    pairs_total : (es : List (MapEntry N)) (base q : ℕ) (ps : Pairs) (t : Tally) → pairs_size ps ≤ S → Ending S R (next_pair es base q ps t) AnyReply
    pairs_total es base q no_pairs t h = at_end (answer_reply q (tally_says es base t)) AnyReply tt
    pairs_total es base q (pair k x ps) t h =
        let s : Sorting N = record { entries = es; base = base; key_place = q; key = k; value_place = plus q (place_count k); held = x; next_place = plus (plus q (place_count k)) (place_count x); rest = ps; tally = t } in
        let d = entries_total es s (omega (arith, h, key_less k x ps)) (omega (arith, h, value_less k x ps)) (λ f. pairs_total es base s.next_place ps (tallied t f) (omega (arith, h))) in
        record { reply = d.reply; weight = pair_cost l.counting (length es) + d.weight; ends = tries d.ends; good = tt }

  alternative_total : (es : List (MapEntry N)) (base : ℕ) (ps : Pairs) → TypesReply (pairs_size ps) 0 → Replied (OfAlternative es base ps) AnyReply
  alternative_total es base ps types =
      let d = pairs_total (pairs_size ps) 0 types es base (plus base 1) ps (fresh es) (omega arith) in
      record { reply = d.reply; weight = suc d.weight; replies_down = replies d.ends; good = tt }

  module _ (S R : ℕ) (types : TypesReply S R) (groups : GroupsReply S R) where
    choose_next : (m : N) (ms : List N) (p : ℕ) (x : Value) (far : ℕ) (s : Reply) → ((far : ℕ) → Ending S R (next_member ms p x far) AnyReply) → Ending S R (next_move (InChoice ms p x far) s) AnyReply
    choose_next m ms p x far (Takes left b later) rest = at_end (Takes [] b 0) AnyReply tt
    choose_next m ms p x far (Fails later) rest = rest (max far later)

    choose_total : (ms : List N) (p : ℕ) (x : Value) (far : ℕ) → size x ≤ S → AreBelow type_rank R ms → Ending S R (next_member ms p x far) AnyReply
    choose_total [] p x far h b = at_end (Fails far) AnyReply tt
    choose_total (m ∷ ms) p x far h b =
        let d = types m p x (inr (h, b.0)) in
        then (inr (h, b.0)) d.replies_down (choose_next m ms p x far d.reply (λ far. choose_total ms p x far h b.1))

    array_total : (g : G) (p : ℕ) (x : Value) → size x ≤ S → group_rank g < R → (o : Option (List Value)) → members_in x ≡ o → Ending S R (array_move g p o) AnyReply
    array_total g p x h u None e = at_end (Fails p) AnyReply tt
    array_total g p x h u (Some xs) e =
        let i : list_size xs ≤ S = omega (arith, h, array_size x xs e) in
        let d = groups g p (plus p 1) xs (inr (i, u)) in
        then (inr (i, u)) d.replies_down (at_end (array_reply d.reply) AnyReply tt)

    content_total : (m : N) (p : ℕ) (y : Value) (b : Bool) → size y < S → Ending S R (content_move m p y b) AnyReply
    content_total m p y true h = let d = types m (plus p 1) y (inl h) in then (inl h) d.replies_down (at_end d.reply AnyReply tt)
    content_total m p y false h = at_end (Fails p) AnyReply tt

    head_next : (m : N) (p : ℕ) (y : Value) (s : Reply) → size y < S → Ending S R (next_move (InHead m p y) s) AnyReply
    head_next m p y (Takes left b later) h = content_total m p y true h
    head_next m p y (Fails later) h = at_end (Fails p) AnyReply tt

    tag_total : (t : TagNumber N) (m : N) (p : ℕ) (x : Value) → size x ≤ S → (o : Option (ℕ × Value)) → tag_in x ≡ o → Ending S R (tag_move t m p o) AnyReply
    tag_total t m p x h None e = at_end (Fails p) AnyReply tt
    tag_total any_number m p x h (Some (n, y)) e = content_total m p y true (omega (arith, h, tag_size x y n e))
    tag_total (exactly k) m p x h (Some (n, y)) e = content_total m p y (nat_eq k n) (omega (arith, h, tag_size x y n e))
    tag_total (such_as t) m p x h (Some (n, y)) e =
        let i : size (uint n) < S = omega (arith, h, tag_size x y n e, size_some y) in
        let d = types t p (uint n) (inl i) in
        then (inl i) d.replies_down (head_next m p y d.reply (omega (arith, h, tag_size x y n e)))

    number_next : (p : ℕ) (s : Reply) → Ending S R (next_move (InSimple p) s) AnyReply
    number_next p (Takes left b later) = at_end (Takes [] (plus p 1) 0) AnyReply tt
    number_next p (Fails later) = at_end (Fails p) AnyReply tt

    simple_total : (m : N) (p : ℕ) → 1 ≤ S → type_rank m < R → (o : Option ℕ) → Ending S R (simple_move m p o) AnyReply
    simple_total m p h u None = at_end (Fails p) AnyReply tt
    simple_total m p h u (Some n) =
        let i : size (uint n) ≤ S = omega (arith, h) in
        let d = types m p (uint n) (inr (i, u)) in
        then (inr (i, u)) d.replies_down (number_next p d.reply)

    smaller : (y : Value) (r s : ℕ) → s < S → IsLess (size y) r s 0 → size y < S
    smaller y r s h (inl i) = omega (arith, h, i)
    smaller y r s h (inr i) = omega (arith, h, i.0)

    ways_total : (ess : List (List (MapEntry N))) (p : ℕ) (ps : Pairs) (sofar : Reply) → pairs_size ps < S → Ending S R (next_way ess p ps sofar) AnyReply
    ways_total [] p ps sofar h = at_end sofar AnyReply tt
    ways_total (es ∷ ess) p ps sofar h =
        let d = alternative_total es p ps (λ m q y i. types m q y (inl (smaller y (type_rank m) (pairs_size ps) h i))) in
        then (h, refl) d.replies_down (ways_total ess p ps (either_reply sofar d.reply) h)

    map_total : (ess : List (List (MapEntry N))) (p : ℕ) (x : Value) → size x ≤ S → (o : Option Pairs) → pairs_in x ≡ o → Ending S R (map_move ess p o) AnyReply
    map_total ess p x h None e = at_end (Fails p) AnyReply tt
    map_total ess p x h (Some ps) e = ways_total ess p ps (Fails p) (omega (arith, h, map_size x ps e))

    left_next : (n : N) (p : ℕ) (x : Value) (s : Reply) → IsLess (size x) (type_rank n) S R → Ending S R (next_move (InLeft n p x) s) AnyReply
    left_next n p x (Takes left b later) i = let d = types n p x i in then i d.replies_down (at_end d.reply AnyReply tt)
    left_next n p x (Fails later) i = at_end (Fails later) AnyReply tt

    such_next : (t : Test) (p : ℕ) (x : Value) (s : Reply) → Ending S R (next_move (InSuch t p x) s) AnyReply
    such_next t p x (Takes left b later) = tested_total t p b x
    such_next t p x (Fails later) = at_end (Fails later) AnyReply tt

    held_next : (p next : ℕ) (s : Reply) → Ending S R (next_move (InHeld p next) s) AnyReply
    held_next p next (Takes left b later) = at_end (Takes [] next 0) AnyReply tt
    held_next p next (Fails later) = at_end (Fails p) AnyReply tt

    told_total : (c : Content) (b : List ℕ) (n : N) (p next : ℕ) → ((y : Value) → Holds c b y → IsLess (size y) (type_rank n) S R) → Told c b → Ending S R (read_move c n p next (Some b)) AnyReply
    told_total c b n p next i (inl t) =
        let d = types n 0 t.0 (i t.0 t.1) in
        let e = then (i t.0 t.1) d.replies_down (held_next p next d.reply) in
        record { reply = e.reply; weight = e.weight; ends = reads t.1 e.ends; good = tt }
    told_total c b n p next i (inr k) = record { reply = Fails p; weight = 0; ends = reads_nothing k; good = tt }

    read_total : (c : Content) (n : N) (p next : ℕ) (x : Value) → ((b : List ℕ) (y : Value) → bytes_in x ≡ Some b → Holds c b y → IsLess (size y) (type_rank n) S R) → (o : Option (List ℕ)) → bytes_in x ≡ o → Ending S R (read_move c n p next o) AnyReply
    read_total c n p next x i None e = at_end (Fails p) AnyReply tt
    read_total c n p next x i (Some b) e = told_total c b n p next (λ y h. i b y e h) (told c b)

    holder_next : (c : Content) (n : N) (p : ℕ) (x : Value) (s : Reply) → ((b : List ℕ) (y : Value) → bytes_in x ≡ Some b → Holds c b y → IsLess (size y) (type_rank n) S R) → Ending S R (next_move (InHolder c n p x) s) AnyReply
    holder_next c n p x (Takes left b later) i = read_total c n p b x i (bytes_in x) refl
    holder_next c n p x (Fails later) i = at_end (Fails later) AnyReply tt

    -- what a byte string holds is smaller, or the array of a sequence and of lower rank
    item_less : (n : N) (x : Value) → size x ≤ S → (b : List ℕ) (y : Value) → bytes_in x ≡ Some b → Holds one_item b y → IsLess (size y) (type_rank n) S R
    item_less n x h b y e (item k) = inl (omega (arith, h, string_size x b e, size_spelled y b k.spells))

    items_less : (n : N) (x : Value) → size x ≤ S → type_rank n < R → (b : List ℕ) (y : Value) → bytes_in x ≡ Some b → Holds sequence_of_items b y → IsLess (size y) (type_rank n) S R
    items_less n x h u b y e k = inr (omega (arith, h, string_size x b e, held_size k), u)

    type_total : (t : Node N G) (p : ℕ) (x : Value) → size x ≤ S → IsTypeRanked type_rank group_rank R t → Ending S R (type_move t p x) AnyReply
    type_total (Plain t) p x h k = at_end (test_reply p x (passes t x)) AnyReply tt
    type_total (Ref m) p x h k = let d = types m p x (inr (h, k)) in then (inr (h, k)) d.replies_down (at_end d.reply AnyReply tt)
    type_total (Choice ms) p x h k = choose_total ms p x p h k
    type_total (ArrayOf g) p x h k = array_total g p x h k (members_in x) refl
    type_total (TagOf t m) p x h k = tag_total t m p x h (tag_in x) refl
    type_total (SimpleBy m) p x h k = simple_total m p (omega (arith, h, size_some x)) k (simple_in x)
    type_total (MapOf ess) p x h k = map_total ess p x h (pairs_in x) refl
    type_total (Both m n) p x h k = let d = types m p x (inr (h, k.0)) in then (inr (h, k.0)) d.replies_down (left_next n p x d.reply (inr (h, k.1)))
    type_total (Such m t) p x h k = let d = types m p x (inr (h, k)) in then (inr (h, k)) d.replies_down (such_next t p x d.reply)
    type_total (Holding m one_item n) p x h k = let d = types m p x (inr (h, k)) in then (inr (h, k)) d.replies_down (holder_next one_item n p x d.reply (item_less n x h))
    type_total (Holding m sequence_of_items n) p x h k = let d = types m p x (inr (h, k.0)) in then (inr (h, k.0)) d.replies_down (holder_next sequence_of_items n p x d.reply (items_less n x h k.1))

    first_next : (g : G) (gs : List G) (base q : ℕ) (ys : List Value) (far : ℕ) (s : Reply) → TakesWell (Empty g) ys s → ((far : ℕ) → Ending S R (next_alternative gs base q ys far) (TakesWell (OneMayBeEmpty l gs) ys)) → Ending S R (next_move (InAlternatives gs base q ys far) s) (TakesWell (OneMayBeEmpty l (g ∷ gs)) ys)
    first_next g gs base q ys far (Takes left b later) good rest = at_end (Takes left b (max far later)) (TakesWell (OneMayBeEmpty l (g ∷ gs)) ys) (takes_as (Empty g) (OneMayBeEmpty l (g ∷ gs)) (λ e. this_one e) ys (Takes left b later) good)
    first_next g gs base q ys far (Fails later) good rest =
        let e = rest (max far later) in
        record { reply = e.reply; weight = e.weight; ends = e.ends; good = takes_as (OneMayBeEmpty l gs) (OneMayBeEmpty l (g ∷ gs)) (λ e. another e) ys e.reply e.good }

    first_total : (gs : List G) (base q : ℕ) (ys : List Value) (far : ℕ) → list_size ys ≤ S → AreBelow group_rank R gs → Ending S R (next_alternative gs base q ys far) (TakesWell (OneMayBeEmpty l gs) ys)
    first_total [] base q ys far h b = at_end (Fails far) (TakesWell (OneMayBeEmpty l []) ys) tt
    first_total (g ∷ gs) base q ys far h b =
        let d = groups g base q ys (inr (h, b.0)) in
        then (inr (h, b.0)) d.replies_down (first_next g gs base q ys far d.reply d.good (λ far. first_total gs base q ys far h b.1))

    -- the further parts of a sequence are asked of a smaller list, or go down
    abbrev GoesDown : List G → List Value → Type 0
    GoesDown gs ys = (list_size ys < S) ⊎ ((list_size ys ≤ S) × LeadsDown l group_rank R gs)

    part_less : (g : G) (gs : List G) (ys : List Value) → GoesDown (g ∷ gs) ys → IsLess (list_size ys) (group_rank g) S R
    part_less g gs ys (inl h) = inl h
    part_less g gs ys (inr h) = inr (h.0, h.1.0)

    rest_less : (g : G) (gs : List G) (ys left : List Value) → IsBehind (Empty g) left ys → GoesDown (g ∷ gs) ys → GoesDown gs left
    rest_less g gs ys left (inl i) (inl h) = inl (omega (arith, h, ap list_size i.1))
    rest_less g gs ys left (inl i) (inr h) = inr (omega (arith, h.0, ap list_size i.1), h.1.1 i.0)
    rest_less g gs ys left (inr i) (inl h) = inl (omega (arith, h, i.0))
    rest_less g gs ys left (inr i) (inr h) = inl (omega (arith, h.0, i.0))

    each_next : (g : G) (gs : List G) (base : ℕ) (ys : List Value) (far : ℕ) (s : Reply) → TakesWell (Empty g) ys s → GoesDown (g ∷ gs) ys → ((q : ℕ) (zs : List Value) (far : ℕ) → GoesDown gs zs → Ending S R (next_part gs base q zs far) (TakesWell (AllMayBeEmpty l gs) zs)) → Ending S R (next_move (InSequence gs base far) s) (TakesWell (AllMayBeEmpty l (g ∷ gs)) ys)
    each_next g gs base ys far (Takes left b later) good h rest =
        let e = rest b left (max far later) (rest_less g gs ys left good h) in
        record { reply = e.reply; weight = e.weight; ends = e.ends; good = takes_as (Empty g × AllMayBeEmpty l gs) (AllMayBeEmpty l (g ∷ gs)) (λ e. this_part e.0 e.1) ys e.reply (takes_more (Empty g) (AllMayBeEmpty l gs) ys left e.reply good e.good) }
    each_next g gs base ys far (Fails later) good h rest = at_end (Fails (max far later)) (TakesWell (AllMayBeEmpty l (g ∷ gs)) ys) tt

    each_total : (gs : List G) (base q : ℕ) (ys : List Value) (far : ℕ) → GoesDown gs ys → Ending S R (next_part gs base q ys far) (TakesWell (AllMayBeEmpty l gs) ys)
    each_total [] base q ys far h = at_end (Takes ys q far) (TakesWell (AllMayBeEmpty l []) ys) (inl (no_part, refl))
    each_total (g ∷ gs) base q ys far h =
        let i = part_less g gs ys h in
        let d = groups g base q ys i in
        then i d.replies_down (each_next g gs base ys far d.reply d.good h (λ q zs far i. each_total gs base q zs far i))

    end_total : (least : ℕ) (most : Most) (g : G) (ys : List Value) (q far : ℕ) → Ending S R (end_of_rounds least ys q far) (TakesWell (MayBeEmpty l (Repeat least most g)) ys)
    end_total zero most g ys q far = at_end (Takes ys q far) (TakesWell (MayBeEmpty l (Repeat 0 most g)) ys) (inl (no_minimum, refl))
    end_total (suc least) most g ys q far = at_end (Fails far) (TakesWell (MayBeEmpty l (Repeat (suc least) most g)) ys) tt

    -- the rounds after one that took something
    abbrev MoreRounds : ℕ → Most → G → ℕ → List Value → Type 0
    MoreRounds least most g base ys = (q : ℕ) (zs : List Value) (far : ℕ) → IsShorter zs ys → Ending S R (repetition (least - 1) (one_less most) g base q zs far) (TakesWell (MayBeEmpty l (Repeat (least - 1) (one_less most) g)) zs)

    behind_total : (least : ℕ) (most : Most) (g : G) (base q : ℕ) (ys : List Value) (far : ℕ) (left : List Value) (b : ℕ) (c : Bool) → nat_eq (length left) (length ys) ≡ c → IsBehind (Empty g) left ys → MoreRounds least most g base ys → Ending S R (after_round c least most g base q ys far left b) (TakesWell (MayBeEmpty l (Repeat least most g)) ys)
    behind_total least most g base q ys far left b true c (inl i) rest = at_end (Takes ys q far) (TakesWell (MayBeEmpty l (Repeat least most g)) ys) (inl (an_empty_round i.0, refl))
    behind_total least most g base q ys far left b true c (inr i) rest = absurd (omega (arith, i.1, is_equal (length left) (length ys) c))
    behind_total least most g base q ys far left b false c (inl i) rest = absurd (is_unequal (length left) (length ys) c (ap (λ zs. length zs) i.1))
    behind_total least most g base q ys far left b false c (inr i) rest =
        let e = rest b left far i in
        record { reply = e.reply; weight = e.weight; ends = e.ends; good = takes_less (MayBeEmpty l (Repeat least most g)) (MayBeEmpty l (Repeat (least - 1) (one_less most) g)) ys left e.reply i e.good }

    round_next : (least : ℕ) (most : Most) (g : G) (base q : ℕ) (ys : List Value) (far : ℕ) (s : Reply) → TakesWell (Empty g) ys s → MoreRounds least most g base ys → Ending S R (next_move (InRepeat least most g base q ys far) s) (TakesWell (MayBeEmpty l (Repeat least most g)) ys)
    round_next least most g base q ys far (Takes left b later) good rest = behind_total least most g base q ys (max far later) left b (nat_eq (length left) (length ys)) refl good rest
    round_next least most g base q ys far (Fails later) good rest = end_total least most g ys q (max far later)

    rounds_total : (j least : ℕ) (most : Most) (g : G) (base q : ℕ) (ys : List Value) (far : ℕ) → length ys < j → list_size ys ≤ S → group_rank g < R → (c : Bool) → is_over most ≡ c → Ending S R (next_round c least most g base q ys far) (TakesWell (MayBeEmpty l (Repeat least most g)) ys)
    rounds_total zero least most g base q ys far n h u c e = absurd (omega (arith, n))
    rounds_total (suc j) least most g base q ys far n h u true e = at_end (Takes ys q far) (TakesWell (MayBeEmpty l (Repeat least most g)) ys) (inl (no_round e, refl))
    rounds_total (suc j) least most g base q ys far n h u false e =
        let d = groups g base q ys (inr (h, u)) in
        then (inr (h, u)) d.replies_down (round_next least most g base q ys far d.reply d.good (λ q zs far i. rounds_total j (least - 1) (one_less most) g base q zs far (omega (arith, n, i.1)) (omega (arith, h, i.0)) u (is_over (one_less most)) refl))

    entry_next : (E : Type 0) (base : ℕ) (x : Value) (xs : List Value) (s : Reply) → Ending S R (next_move (InEntry base xs) s) (TakesWell E (x ∷ xs))
    entry_next E base x xs (Takes left b later) = at_end (Takes xs b base) (TakesWell E (x ∷ xs)) (entry_takes E x xs b base)
    entry_next E base x xs (Fails later) = at_end (Fails (max base later)) (TakesWell E (x ∷ xs)) tt

    entry_total : (m : N) (base q : ℕ) (ys : List Value) → list_size ys ≤ S → Ending S R (entry_move m base q ys) (TakesWell (MayBeEmpty l (Entry m)) ys)
    entry_total m base q [] h = at_end (Fails base) (TakesWell (MayBeEmpty l (Entry m)) []) tt
    entry_total m base q (y ∷ ys) h =
        let i : size y < S = omega (arith, h, all_some ys) in
        let d = types m q y (inl i) in
        then (inl i) d.replies_down (entry_next (MayBeEmpty l (Entry m)) base y ys d.reply)

    group_total : (t : Group N G) (base q : ℕ) (ys : List Value) → list_size ys ≤ S → IsGroupRanked l group_rank R t → Ending S R (group_move t base q ys) (TakesWell (MayBeEmpty l t) ys)
    group_total (Entry m) base q ys h k = entry_total m base q ys h
    group_total (GroupRef g) base q ys h k =
        let d = groups g base q ys (inr (h, k)) in
        then (inr (h, k)) d.replies_down (at_end d.reply (TakesWell (MayBeEmpty l (GroupRef g)) ys) (takes_as (Empty g) (MayBeEmpty l (GroupRef g)) (λ e. named e) ys d.reply d.good))
    group_total (Sequence gs) base q ys h k =
        let e = each_total gs base q ys base (inr (h, k)) in
        record { reply = e.reply; weight = e.weight; ends = e.ends; good = takes_as (AllMayBeEmpty l gs) (MayBeEmpty l (Sequence gs)) (λ e. every_part e) ys e.reply e.good }
    group_total (Alternatives gs) base q ys h k =
        let e = first_total gs base q ys base h k in
        record { reply = e.reply; weight = e.weight; ends = e.ends; good = takes_as (OneMayBeEmpty l gs) (MayBeEmpty l (Alternatives gs)) (λ e. one_of_them e) ys e.reply e.good }
    group_total (Repeat least most g) base q ys h k = rounds_total (suc (length ys)) least most g base q ys base (omega arith) h k (is_over most) refl

  module _ (bound : ℕ) (ranked : IsRankedByForm l type_rank group_rank bound) where
    type_step : (m : N) (p : ℕ) (y : Value) → TypesReply (size y) (type_rank m) → GroupsReply (size y) (type_rank m) → Replied (OfType m p y) AnyReply
    type_step m p y types groups =
        let e = type_total (size y) (type_rank m) types groups (l.type_at m) p y (omega arith) (ranked.types m) in
        record { reply = e.reply; weight = suc e.weight; replies_down = replies e.ends; good = tt }

    group_step : (g : G) (base q : ℕ) (ys : List Value) → TypesReply (list_size ys) (group_rank g) → GroupsReply (list_size ys) (group_rank g) → Replied (OfGroup g base q ys) (TakesWell (Empty g) ys)
    group_step g base q ys types groups =
        let e = group_total (list_size ys) (group_rank g) types groups (l.group_at g) base q ys (omega arith) (ranked.groups g) in
        record { reply = e.reply; weight = suc e.weight; replies_down = replies e.ends; good = e.good }

    pub type_replies : (m : N) (p : ℕ) (y : Value) → Replied (OfType m p y) AnyReply
    type_replies = for_types type_rank group_rank (λ m p y. Replied (OfType m p y) AnyReply) (λ g base q ys. Replied (OfGroup g base q ys) (TakesWell (Empty g) ys)) type_step group_step

    pub group_replies : (g : G) (base q : ℕ) (ys : List Value) → Replied (OfGroup g base q ys) (TakesWell (Empty g) ys)
    group_replies = for_groups type_rank group_rank (λ m p y. Replied (OfType m p y) AnyReply) (λ g base q ys. Replied (OfGroup g base q ys) (TakesWell (Empty g) ys)) type_step group_step

    pub alternative_replies : (es : List (MapEntry N)) (base : ℕ) (ps : Pairs) → Replied (OfAlternative es base ps) AnyReply
    alternative_replies es base ps = alternative_total es base ps (λ m q y i. type_replies m q y)
