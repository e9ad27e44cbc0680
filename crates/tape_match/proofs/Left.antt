-- What is told of items on a tape.
use Rattle.std.proofs.Common.{◌≡◌, ◌≢◌, ◌-◌, Bool, true, false, ◌||◌, Option, Some, None, IfSome, not, ℕ, zero, suc, get_or, set, replicate, ◌+◌, ◌<◌, ◌≤◌, ⊎_elim, List, [], ◌∷◌, ◌&&◌, length, take, drop, slice_get, slice_index_or, Vec, Global, refl, sym, ap, ap₂, ◌∙◌, subst, arith}
use Rattle.lists.proofs.Lemmas.{before_or_not, same_some}
use Rattle.cbor_data.specs.Embedded.{Embeds}
use Rattle.cbor_data.specs.Forms.{Spells}
use Rattle.cbor_data.specs.Same.{same_value}
use Rattle.cbor_data.specs.Value.{Value, uint, nint, bytes, text, array, pairs, tag, simple, float, Pairs, pair, Values, no_values}
use Rattle.cbor_tape.specs.Places.{AreAt, IsFirstOf, major_type}
use Rattle.cbor_tape.specs.Tape.{IsWholeTape}
use Rattle.cbor_tape.specs.declared.entry.Entry.{Entry}
use Rattle.cbor_tape.specs.declared.places.Seen.{Seen}
use Rattle.cbor_tape.specs.declared.places.Taped.{Taped}
use Rattle.cddl_meaning.specs.Forms as F
use Rattle.cddl_meaning.specs.Forms.{Language, Test, are_bits_among, bits_asked, bits_set, is_other, list_of, major_of, passes}
use Rattle.table_nodes.specs.declared.nodes.GroupId.{GroupId}
use Rattle.table_nodes.specs.declared.nodes.TypeId.{TypeId}
use Rattle.table_nodes.specs.Majors.{TellsOf}
use Rattle.std.proofs.lemmas.Option.{slice_get-map, slice_get_within}
use Rattle.std.specs.Prelude.{option_map}
use Rattle.table_nodes.specs.Fronts.{BeginAlike}
use Rattle.table_nodes.specs.Nodes.{alternatives_view, entries_view}
use Rattle.table_nodes.specs.declared.nodes.MapEntry.{MapEntry}
use Rattle.tape_match.specs.Says.{AskTheSame, BeginSame, DoesAs, EntriesCome, FormSays, GroupFails, GroupTakes, IsMeant, PairFails, PairsCome, PairsSorted, PairTaken, SaysAs, WaySays, IsLacking, are_enough_from, is_enough}
use Rattle.tape_match.specs.Told.{AreMet, AreSorted, IsAsked, IsEntryTold, IsFormTold, IsGroupTold, IsHeldTold, IsKnown, IsLiteralKnown, IsMet, IsNextOf, IsOfCost, IsPairToldAt, IsRest, IsSorting, more_done, more_told, one_more, one_more_done}
use Rattle.tape_match.specs.declared.told.Tells.{Tells}
use Rattle.tape_match.specs.declared.told.Tells.TheVariants as T
use Rattle.tape_match.specs.declared.told.Does.{Does}
use Rattle.tape_match.specs.declared.told.Does.TheVariants as D
use Rattle.tape_match.specs.declared.told.Known.{Known}
use Rattle.tape_match.specs.declared.told.Known.TheVariants as K
use Rattle.tape_match.specs.declared.before.MetPair.{MetPair}
use Rattle.tape_match.specs.declared.told.Meets.TheVariants as M
use Rattle.tape_match.specs.declared.told.Met.TheVariants as H
use Rattle.tape_match.specs.declared.told.Sorted.{Sorted}
use Rattle.tape_match.proofs.Says.{entry_fails, entry_hands_on, entry_missing, entry_other, entry_takes, is_meant, pair_beside, pair_counted, pair_cut, pair_taken, plain_says, ref_fails, ref_says, ref_takes, tagged_says, way_falls, way_says}
use Rattle.tape_match.proofs.Again.{sorted_again, taken_again}

-- the major type is the one that tables know
pub same_major : (x : Value) → major_of x ≡ major_type x
same_major x = by x
  where
    by : (x : Value) → major_of x ≡ major_type x
    by (uint n) = refl
    by (nint n) = refl
    by (bytes s) = refl
    by (text s) = refl
    by (array xs) = refl
    by (pairs ps) = refl
    by (tag n x) = refl
    by (simple n) = refl
    by (float w n) = refl

-- what a table tells by the major type is said
pub told_says : (l : Language TypeId GroupId) (n : TypeId) (major : ℕ) (says : Bool) (cost : ℕ) (x : Value) → TellsOf l n major says cost → major_type x ≡ major → FormSays l (l.type_at n) x says cost
told_says l n major true cost x t is = λ p. t p x (same_major x ∙ is)
told_says l n major false cost x t is = λ p. (p, t p x (same_major x ∙ is))

-- all items are left, or those after the first, or of those that are left
pub all_left : (t : Taped) (place end : ℕ) (xs : Values) → AreAt t place end xs → IsRest t place end xs place xs
all_left t place end xs h = record { there = h; up = omega arith; same = λ e. refl; fewer = λ h. absurd (omega arith) }

pub first_taken : (t : Taped) (place end next : ℕ) (xs : Values) → (h : IsFirstOf t place end next xs) → IsRest t place end xs next h.others
first_taken t place end next xs h =
    let ahead = h.ahead in
    record {
      there = h.there;
      up = omega arith;
      same = λ e. absurd (omega arith);
      fewer = λ less. omega (arith, ap (λ ys. length (list_of ys)) h.split);
    }

pub further_left : (t : Taped) (place end mid next : ℕ) (xs ys zs : Values) → IsRest t place end xs mid ys → IsRest t mid end ys next zs → IsRest t place end xs next zs
further_left t place end mid next xs ys zs a b = record {
  there = b.there;
  up = omega (arith, a.up, b.up);
  same = λ e. b.same (omega (arith, e, a.up, b.up)) ∙ a.same (omega (arith, e, a.up, b.up));
  fewer = λ less. by (no_more mid next ys zs b) (no_more place mid xs ys a) less;
}
  where
    -- there are no more of them than before
    no_more : (p q : ℕ) (us vs : Values) → IsRest t p end us q vs → length (list_of vs) ≤ length (list_of us)
    no_more p q us vs r = ⊎_elim (λ (less : p < q). omega (arith, r.fewer less)) (λ (e : q ≤ p). omega (arith, ap (λ ws. length (list_of ws)) (r.same (omega (arith, e, r.up))))) (before_or_not p q)

    by : length (list_of zs) ≤ length (list_of ys) → length (list_of ys) ≤ length (list_of xs) → place < next → length (list_of zs) < length (list_of xs)
    by c d less = ⊎_elim (λ (e : place < mid). omega (arith, c, a.fewer e)) (λ (e : mid ≤ place). omega (arith, b.fewer (omega (arith, e, less, a.up)), d)) (before_or_not place mid)

-- a group that takes none of the items leaves as many; one that goes on leaves fewer
pub as_many : (t : Taped) (place end next : ℕ) (xs left : Values) → IsRest t place end xs next left → next ≡ place → length (list_of left) ≡ length (list_of xs)
as_many t place end next xs left h e = ap (λ ys. length (list_of ys)) (h.same e)

pub fewer_left : (t : Taped) (place end next : ℕ) (xs left : Values) → IsRest t place end xs next left → place < next → length (list_of left) ≢ length (list_of xs)
fewer_left t place end next xs left h less e = omega (arith, h.fewer less, e)

-- a text has no bits
pub no_bits : (s : List ℕ) (rs : List (ℕ × ℕ)) → are_bits_among rs (bits_set (text s)) ≡ false
unfolding bits_set
no_bits s rs = refl

-- the value of a key through names

pub literal_shown : (type_at : TypeId → F.Node TypeId GroupId) (k : ℕ) (n : TypeId) (v : Value) → type_at n ≡ F.Plain (F.equals v) → F.key_in type_at k n ≡ Some v
unfolding F.key_in
literal_shown type_at zero n v e = rw e refl
literal_shown type_at (suc k) n v e = rw e refl

pub name_shown : (type_at : TypeId → F.Node TypeId GroupId) (k : ℕ) (n m : TypeId) (v : Value) → ((next : TypeId → Option Value) → F.key_by next (type_at n) ≡ next m) → F.key_in type_at k m ≡ Some v → F.key_in type_at (suc k) n ≡ Some v
unfolding F.key_in
name_shown type_at k n m v h e = h (λ o. F.key_in type_at k o) ∙ e

pub names_shown : (type_at : TypeId → F.Node TypeId GroupId) (n m : TypeId) (k : ℕ) (v : Value) → k ≤ 16 → ((j : ℕ) (u : Value) → j + k ≤ 16 → F.key_in type_at j m ≡ Some u → F.key_in type_at (j + k) n ≡ Some u) → type_at m ≡ F.Plain (F.equals v) → F.key_in type_at F.most_forms n ≡ Some v
unfolding F.most_forms
names_shown type_at n m k v few h e =
    let all : (16 - k) + k ≡ 16 = omega (arith, few) in
    subst (λ (j : ℕ). F.key_in type_at j n ≡ Some v) all (h (16 - k) v (omega (arith, few)) (literal_shown type_at (16 - k) m v e))

-- what is known of a key and of an entry whose key type is a literal

pub not_other : (b : Bool) → not b ≡ true → b ≡ false
not_other true e = sym e
not_other false e = refl

pub the_same : (b : Bool) → not b ≡ false → b ≡ true
the_same true e = refl
the_same false e = sym e

pub literal_key : (type_at : TypeId → F.Node TypeId GroupId) (n : TypeId) (v : Value) → type_at n ≡ F.Plain (F.equals v) → F.key_in type_at F.most_forms n ≡ Some v
literal_key type_at n v e = literal_shown type_at F.most_forms n v e

pub known_by : (l : Language TypeId GroupId) (e : F.MapEntry TypeId) (v : Value) (s : Seen) (cost : ℕ) (r : Known) → ((x : Value) → F.is_passed_over l.counting e.key_type x ≡ is_other (Some v) x) → ((x : Value) → same_value x v ≡ true → FormSays l (l.type_at e.key_type) x true cost) → IsOfCost cost r → IsLiteralKnown v s r → IsKnown l e s r
known_by l e v s cost K.Other passed says of h = λ t x seen. passed x ∙ ap not (h t x seen)
known_by l e v s cost (K.Asked w) passed says of h = λ t x seen. (passed x ∙ ap not (h t x seen), λ some. subst (λ (k : ℕ). FormSays l (l.type_at e.key_type) x true k) (sym of) (says x (h t x seen)))
known_by l e v s cost K.Nothing passed says of h = tt

-- a literal says yes to what is the same
pub literal_says : (l : Language TypeId GroupId) (f : F.Node TypeId GroupId) (v x : Value) → f ≡ F.Plain (F.equals v) → same_value x v ≡ true → FormSays l f x true 1
literal_says l f v x is e = subst (λ g. FormSays l g x true 1) (sym is) (plain_says l (F.equals v) x true e)

-- some judgements more

pub said_as : (l : Language TypeId GroupId) (f g : F.Node TypeId GroupId) (k : ℕ) (x : Value) (r : Tells) → SaysAs l f g k → IsFormTold l g x r → IsFormTold l f x (more_told k r)
said_as l f g k x (T.Yes w) a h = a x true w h
said_as l f g k x (T.No w) a h = a x false w h
said_as l f g k x T.Nothing a h = tt

pub done_as : (l : Language TypeId GroupId) (f g : F.Group TypeId GroupId) (k : ℕ) (t : Taped) (place end : ℕ) (xs : Values) (r : Does) → DoesAs l f g k → IsGroupTold l g t place end xs r → IsGroupTold l f t place end xs (more_done k r)
done_as l f g k t place end xs (D.Takes next w) a h = (h.0, h.1, a.0 (list_of xs) (list_of h.0) w h.2)
done_as l f g k t place end xs (D.Fails w) a h = a.1 (list_of xs) w h
done_as l f g k t place end xs D.Nothing a h = tt

pub named_told : (l : Language TypeId GroupId) (m : TypeId) (x : Value) (r : Tells) → IsFormTold l (l.type_at m) x r → IsFormTold l (F.Ref m) x (one_more r)
named_told l m x (T.Yes w) h = ref_says l m x true w h
named_told l m x (T.No w) h = ref_says l m x false w h
named_told l m x T.Nothing h = tt

pub tag_told : (l : Language TypeId GroupId) (t : F.TagNumber TypeId) (m : TypeId) (n : ℕ) (x y : Value) (r : Tells) → x ≡ tag n y → IsMeant t n true → IsFormTold l (l.type_at m) y r → IsFormTold l (F.TagOf t m) x (one_more r)
tag_told l t m n x y (T.Yes w) is meant h = subst (λ z. FormSays l (F.TagOf t m) z true (1 + w)) (sym is) (tagged_says l t m n y true w (is_meant l t n meant) h)
tag_told l t m n x y (T.No w) is meant h = subst (λ z. FormSays l (F.TagOf t m) z false (1 + w)) (sym is) (tagged_says l t m n y false w (is_meant l t n meant) h)
tag_told l t m n x y T.Nothing is meant h = tt

pub named_done : (l : Language TypeId GroupId) (g : GroupId) (t : Taped) (place end : ℕ) (xs : Values) (r : Does) → IsGroupTold l (l.group_at g) t place end xs r → IsGroupTold l (F.GroupRef g) t place end xs (one_more_done r)
named_done l g t place end xs (D.Takes next w) h = (h.0, h.1, ref_takes l g (list_of xs) (list_of h.0) w h.2)
named_done l g t place end xs (D.Fails w) h = ref_fails l g (list_of xs) w h
named_done l g t place end xs D.Nothing h = tt

-- an entry of an array

pub no_item_fails : (l : Language TypeId GroupId) (m : TypeId) (xs : Values) → xs ≡ no_values → GroupFails l (F.Entry m) (list_of xs) 1
no_item_fails l m xs e = subst (λ ys. GroupFails l (F.Entry m) ys 1) (ap list_of (sym e)) (entry_missing l m)

pub item_taken : (l : Language TypeId GroupId) (m : TypeId) (t : Taped) (place end next w : ℕ) (xs : Values) → (f : IsFirstOf t place end next xs) → FormSays l (l.type_at m) f.first true w → (left : Values) × IsRest t place end xs next left × GroupTakes l (F.Entry m) (list_of xs) (list_of left) (1 + w)
item_taken l m t place end next w xs f h = (f.others, first_taken t place end next xs f, subst (λ ys. GroupTakes l (F.Entry m) ys (list_of f.others) (1 + w)) (ap list_of (sym f.split)) (entry_takes l m f.first (list_of f.others) w h))

pub item_fails : (l : Language TypeId GroupId) (m : TypeId) (t : Taped) (place end next w : ℕ) (xs : Values) → (f : IsFirstOf t place end next xs) → FormSays l (l.type_at m) f.first false w → GroupFails l (F.Entry m) (list_of xs) (1 + w)
item_fails l m t place end next w xs f h = subst (λ ys. GroupFails l (F.Entry m) ys (1 + w)) (ap list_of (sym f.split)) (entry_fails l m f.first (list_of f.others) w h)

-- an entry of a map

pub entry_handed : (l : Language TypeId GroupId) (all es : List (F.MapEntry TypeId)) (e : F.MapEntry TypeId) (key held : Value) (k w : ℕ) → F.is_passed_over l.counting e.key_type key ≡ false → IsEntryTold l e key held (H.HandsOn w) → EntriesCome l all (e ∷ es) key held k → EntriesCome l all es key held (k + (F.entry_cost l.counting + w))
entry_handed l all es e key held k w is h c = ⊎_elim (λ (n : FormSays l (l.type_at e.key_type) key false w). entry_other l all es e key held k w is n c) (λ (r : (e.cuts ≡ false) × IsAsked l e key held false w). subst (λ v. EntriesCome l all es key held (k + (F.entry_cost l.counting + v))) (sym r.1.sum) (entry_hands_on l all es e key held k r.1.first r.1.second is r.0 r.1.keyed r.1.valued c)) h

pub entry_taken : (l : Language TypeId GroupId) (all es : List (F.MapEntry TypeId)) (e : F.MapEntry TypeId) (key held : Value) (k w n : ℕ) → n ≡ length es → F.is_passed_over l.counting e.key_type key ≡ false → IsAsked l e key held true w → EntriesCome l all (e ∷ es) key held k → PairTaken l all key held n (k + (F.entry_cost l.counting + w))
entry_taken l all es e key held k w n many is a c = subst (λ m. PairTaken l all key held m (k + (F.entry_cost l.counting + w))) (sym many) (subst (λ v. PairTaken l all key held (length es) (k + (F.entry_cost l.counting + v))) (sym a.sum) (pair_taken l all es e key held k a.first a.second is a.keyed a.valued c))

pub entry_falls : (l : Language TypeId GroupId) (all es : List (F.MapEntry TypeId)) (e : F.MapEntry TypeId) (key held : Value) (k w : ℕ) → F.is_passed_over l.counting e.key_type key ≡ false → e.cuts ≡ true → IsAsked l e key held false w → EntriesCome l all (e ∷ es) key held k → PairFails l all key held (k + (F.entry_cost l.counting + w))
entry_falls l all es e key held k w is cuts a c = subst (λ v. PairFails l all key held (k + (F.entry_cost l.counting + v))) (sym a.sum) (pair_cut l all es e key held k a.first a.second is cuts a.keyed a.valued c)

-- counts of pairs

pub zeros : (m n : ℕ) → ◌≡◌ {A = ℕ} (get_or (replicate m 0) n 0) 0
zeros zero n = refl
zeros (suc m) zero = refl
zeros (suc m) (suc n) = zeros m n

pub counted_pair : (l : Language TypeId GroupId) (es : List (F.MapEntry TypeId)) (all ps : Pairs) (key held : Value) (counts : List ℕ) (m number k v : ℕ) (fallen : Bool) → number + suc m ≡ length es → number < length counts → PairsCome l es all (pair key held ps) counts fallen k → PairTaken l es key held m v → PairsCome l es all ps (set counts number (get_or counts number 0 + 1)) fallen (k + (F.pair_cost l.counting (length es) + v))
counted_pair l es all ps key held counts m number k v true here inside c t = pair_beside l es all ps key held counts m k v c t
counted_pair l es all ps key held counts m number k v false here inside c t = pair_counted l es all ps key held counts m number k v here inside c t

-- a list of one
pub one_of : {A : Type 0} (xs : List A) (d : A) → 1 ≤ length xs → length xs < 2 → xs ≡ slice_index_or xs 0 d ∷ []
one_of [] d h i = absurd (omega (arith, h))
one_of (x ∷ []) d h i = refl
one_of (x ∷ y ∷ xs) d h i = absurd (omega (arith, i))

-- pairs that were sorted to the entries of an alternative

pub sorting_falls : (l : Language TypeId GroupId) (es : List (F.MapEntry TypeId)) (ps : Pairs) (s : Sorted) (k : ℕ) → s.asked ≡ Some k → s.fallen ≡ true → AreSorted l es ps s → WaySays l es ps false (1 + k)
sorting_falls l es ps s k is fallen h =
    let a : IsSorting l es ps s k = subst (λ o. IfSome o (IsSorting l es ps s)) is h in
    way_falls l es ps s.counts k (subst (λ b. PairsSorted l es ps s.counts b k) fallen a.sorted)

-- what an alternative says of pairs none of which has fallen
pub sorting_says : (l : Language TypeId GroupId) (es : List (F.MapEntry TypeId)) (ps : Pairs) (s : Sorted) (told : Bool) (k : ℕ) → s.asked ≡ Some k → s.fallen ≡ false → (IsLacking es s.counts 0 s.lacks → are_enough_from es 0 s.counts ≡ told) → AreSorted l es ps s → WaySays l es ps told (1 + k)
sorting_says l es ps s told k is fallen enough h =
    let a : IsSorting l es ps s k = subst (λ o. IfSome o (IsSorting l es ps s)) is h in
    way_says l es ps s.counts told k (enough (a.lacking fallen)) (subst (λ b. PairsSorted l es ps s.counts b k) fallen a.sorted)

get_alike : {A : Type 0} (n i : ℕ) (xs ys : List A) → take n xs ≡ take n ys → i < n → slice_get xs i ≡ slice_get ys i
get_alike zero i xs ys e h = absurd (omega (arith, h))
get_alike (suc n) i [] [] e h = refl
get_alike (suc n) i [] (y ∷ ys) e h = let never : [] ≡ y ∷ take n ys = e in absurd (cc)
get_alike (suc n) i (x ∷ xs) [] e h = let never : x ∷ take n xs ≡ [] = e in absurd (cc)
get_alike (suc n) zero (x ∷ xs) (y ∷ ys) e h = let same : x ≡ y = cc e in ap Some same
get_alike (suc n) (suc i) (x ∷ xs) (y ∷ ys) e h = let same : take n xs ≡ take n ys = cc e in get_alike n i xs ys same (omega (arith, h))

-- what is the same asks the same
pub alike_same : {N : Type 0} (n : ℕ) (es fs : List (F.MapEntry N)) → BeginAlike n es fs → BeginSame n es fs
alike_same {N = N} n es fs b = record {
  some = within n es fs b.0 b.1;
  others = b.0;
  same = λ i e f less is at.
      let one : Some e ≡ Some f = sym is ∙ (get_alike n i es fs b.1 less ∙ at) in
      subst (λ d. AskTheSame e d) (same_some one) (record { key = refl; value = refl; cuts = refl });
}
  where
    within : {A : Type 0} (m : ℕ) (xs ys : List A) → m ≤ length ys → take m xs ≡ take m ys → m ≤ length xs
    within zero xs ys h e = omega arith
    within (suc m) [] [] h e = h
    within (suc m) [] (y ∷ ys) h e = let never : [] ≡ y ∷ take m ys = e in absurd (cc)
    within (suc m) (x ∷ xs) [] h e = absurd (omega (arith, h))
    within (suc m) (x ∷ xs) (y ∷ ys) h e = let others : take m xs ≡ take m ys = cc e in omega (arith, within m xs ys (omega (arith, h)) others)

pub fewer_same : {N : Type 0} (m n : ℕ) (es fs : List (F.MapEntry N)) → m ≤ n → BeginSame n es fs → BeginSame m es fs
fewer_same m n es fs h b = record { some = omega (arith, h, b.some); others = omega (arith, h, b.others); same = λ i e f less is at. b.same i e f (omega (arith, less, h)) is at }

pub one_more_same : {N : Type 0} (n : ℕ) (es fs : List (F.MapEntry N)) (e f : F.MapEntry N) → slice_get es n ≡ Some e → slice_get fs n ≡ Some f → AskTheSame e f → BeginSame n es fs → BeginSame (n + 1) es fs
one_more_same {N = N} n es fs e f is at a b = record {
  some = omega (arith, slice_get_within es n e is);
  others = omega (arith, slice_get_within fs n f at);
  same = λ i d g less here there. ⊎_elim (λ (before : i < n). b.same i d g before here there) (λ (up : n ≤ i). last i d g (omega (arith, up, less)) here there) (before_or_not i n);
}
  where
    last : (i : ℕ) (d g : F.MapEntry N) → i ≡ n → slice_get es i ≡ Some d → slice_get fs i ≡ Some g → AskTheSame d g
    last i d g e here there =
        let one = same_some (sym is ∙ (ap (λ (k : ℕ). slice_get es k) (sym e) ∙ here)) in
        let two = same_some (sym at ∙ (ap (λ (k : ℕ). slice_get fs k) (sym e) ∙ there)) in
        subst (λ y. AskTheSame d y) two (subst (λ y. AskTheSame y f) one a)

-- The first entry that lacks pairs is one with which both alternatives begin.
pub lacks_again : {N : Type 0} (front lacks : ℕ) (es fs : List (F.MapEntry N)) (counts : List ℕ) → BeginAlike front es fs → lacks < front → IsLacking es counts 0 lacks → IsLacking fs counts 0 lacks
lacks_again front lacks es fs counts b less h = (
  λ i e from before is. h.0 i e from before (get_alike front i es fs b.1 (omega (arith, before, less)) ∙ is),
  λ e is. h.1 e (get_alike front lacks es fs b.1 less ∙ is),
)

-- None of those lacks any, and among the others it is this one.
pub lacks_after : {N : Type 0} (front lacks more : ℕ) (es fs : List (F.MapEntry N)) (counts : List ℕ) → BeginAlike front es fs → front ≤ lacks → IsLacking es counts 0 lacks → IsLacking fs counts front more → IsLacking fs counts 0 more
lacks_after front lacks more es fs counts b most h g = (λ i e from before is. ⊎_elim (λ (less : i < front). h.0 i e from (omega (arith, less, most)) (get_alike front i es fs b.1 less ∙ is)) (λ (up : front ≤ i). g.0 i e up before is) (before_or_not i front), g.1)

all_enough : {N : Type 0} (es : List (F.MapEntry N)) (k : ℕ) (counts : List ℕ) → ((i : ℕ) (e : F.MapEntry N) → slice_get es i ≡ Some e → is_enough e (get_or counts (k + i) 0) ≡ true) → are_enough_from es k counts ≡ true
all_enough [] k counts h = refl
all_enough {N = N} (e ∷ es) k counts h =
    let first : is_enough e (get_or counts k 0) ≡ true = subst (λ (n : ℕ). is_enough e (get_or counts n 0) ≡ true) (omega arith) (h 0 e refl) in
    let others : are_enough_from es (suc k) counts ≡ true = all_enough es (suc k) counts (λ i d is. subst (λ (n : ℕ). is_enough d (get_or counts n 0) ≡ true) (omega arith) (h (suc i) d is)) in
    ap₂ (λ (a b : Bool). a && b) first others

one_lacks : {N : Type 0} (es : List (F.MapEntry N)) (k i : ℕ) (counts : List ℕ) (e : F.MapEntry N) → slice_get es i ≡ Some e → is_enough e (get_or counts (k + i) 0) ≡ false → are_enough_from es k counts ≡ false
one_lacks [] k i counts e is h = let never : None ≡ Some e = is in absurd (cc)
one_lacks (d ∷ es) k zero counts e is h =
    let same : d ≡ e = cc is in
    ap (λ (a : Bool). a && are_enough_from es (suc k) counts) (ap (λ c. is_enough c (get_or counts k 0)) same ∙ subst (λ (n : ℕ). is_enough e (get_or counts n 0) ≡ false) (omega arith) h)
one_lacks (d ∷ es) k (suc i) counts e is h = and_false (is_enough d (get_or counts k 0)) (one_lacks es (suc k) i counts e is (subst (λ (n : ℕ). is_enough e (get_or counts n 0) ≡ false) (omega arith) h))
  where
    and_false : (a : Bool) {b : Bool} → b ≡ false → (a && b) ≡ false
    and_false true e = e
    and_false false e = refl

pub enough_by : {N : Type 0} (es : List (F.MapEntry N)) (counts : List ℕ) (lacks : ℕ) → length es ≤ lacks → IsLacking es counts 0 lacks → are_enough_from es 0 counts ≡ true
enough_by es counts lacks most h = all_enough es 0 counts (λ i e is. let at : i ≡ 0 + i = omega arith in subst (λ (n : ℕ). is_enough e (get_or counts n 0) ≡ true) at (h.0 i e (omega arith) (omega (arith, most, slice_get_within es i e is)) is))

pub lacking_by : {N : Type 0} (es : List (F.MapEntry N)) (counts : List ℕ) (lacks : ℕ) → lacks < length es → IsLacking es counts 0 lacks → are_enough_from es 0 counts ≡ false
lacking_by es counts lacks less h = at es lacks less (λ e is. let up : lacks ≡ 0 + lacks = omega arith in one_lacks es 0 lacks counts e is (subst (λ (n : ℕ). is_enough e (get_or counts n 0) ≡ false) up (h.1 e is)))
  where
    at : {A : Type 0} {r : Type 0} (xs : List A) (i : ℕ) → i < length xs → ((x : A) → slice_get xs i ≡ Some x → r) → r
    at [] i less k = absurd (omega (arith, less))
    at (x ∷ xs) zero less k = k x refl
    at (x ∷ xs) (suc i) less k = at xs i (omega (arith, less)) k

-- Pairs that were sorted to the entries of an alternative are so to those of one that begins with these, where another entry is the first that lacks any.
pub sorting_again : (l : Language TypeId GroupId) (es fs : List (F.MapEntry TypeId)) (ps : Pairs) (s : Sorted) (lacks : ℕ) → ((m n : ℕ) → F.pair_cost l.counting m ≡ F.pair_cost l.counting n) → s.fallen ≡ false → BeginSame s.reach es fs → (IsLacking es s.counts 0 s.lacks → IsLacking fs s.counts 0 lacks) → AreSorted l es ps s → AreSorted l fs ps (record { asked = s.asked; fallen = s.fallen; reach = s.reach; lacks = lacks; counts = s.counts })
sorting_again l es fs ps s lacks cost fallen alike lack h = by s.asked h
  where
    r : Sorted
    r = record { asked = s.asked; fallen = s.fallen; reach = s.reach; lacks = lacks; counts = s.counts }

    again : (k : ℕ) → IsSorting l es ps s k → IsSorting l fs ps r k
    again k a = record {
      within = alike.others;
      none = a.none;
      lacking = λ e. lack (a.lacking fallen);
      sorted = subst (λ b. PairsSorted l fs ps s.counts b k) (sym fallen) (sorted_again l s.reach es fs ps s.counts k cost a.within a.none alike (subst (λ b. PairsSorted l es ps s.counts b k) fallen a.sorted));
    }

    by : (o : Option ℕ) → IfSome o (IsSorting l es ps s) → IfSome o (IsSorting l fs ps r)
    by None i = tt
    by (Some k) i = again k i

pub way_view : (ways : List (Vec MapEntry Global)) (n : ℕ) (way : Vec MapEntry Global) → slice_get ways n ≡ Some way → slice_get (alternatives_view ways) n ≡ Some (entries_view way.items)
way_view ways n way e = slice_get-map (λ (v : Vec MapEntry Global). entries_view v.items) ways n ∙ ap (option_map (λ (v : Vec MapEntry Global). entries_view v.items)) e

-- one before is there, too
pub some_at : {A : Type 0} (xs : List A) (m n : ℕ) (x : A) → slice_get xs n ≡ Some x → m ≤ n → (y : A) × (slice_get xs m ≡ Some y)
some_at [] m n x e h = let never : None ≡ Some x = e in absurd (cc)
some_at (y ∷ xs) zero n x e h = (y, refl)
some_at (y ∷ xs) (suc m) zero x e h = absurd (omega (arith, h))
some_at (y ∷ xs) (suc m) (suc n) x e h = some_at xs m n x e (omega (arith, h))

-- the alternative after those before
pub next_way : {A : Type 0} (xs : List A) (n : ℕ) (x : A) (ys : List A) → x ∷ ys ≡ drop n xs → (slice_get xs n ≡ Some x) × (ys ≡ drop (n + 1) xs)
next_way [] zero x ys e = let never : x ∷ ys ≡ [] = e in absurd (cc)
next_way [] (suc n) x ys e = let never : x ∷ ys ≡ [] = e in absurd (cc)
next_way (a ∷ xs) zero x ys e = let first : x ≡ a = cc e in let others : ys ≡ xs = cc e in (ap Some (sym first), others)
next_way (a ∷ xs) (suc n) x ys e =
    let k = next_way xs n x ys e in
    let one : suc (n + 1) ≡ suc n + 1 = omega arith in
    (k.0, k.1 ∙ ap (λ (m : ℕ). drop m (a ∷ xs)) one)

pub or_true : (b : Bool) → (b || true) ≡ true
or_true true = refl
or_true false = refl

pub or_false : (b : Bool) → (b || false) ≡ b
or_false true = refl
or_false false = refl

-- what bytes hold that are whole on a tape

all_of : (b : List ℕ) → take (length b) b ≡ b
all_of [] = refl
all_of (n ∷ b) = ap (λ (c : List ℕ). n ∷ c) (all_of b)

module _ (l : Language TypeId GroupId) (f : F.Node TypeId GroupId) (b : List ℕ) (t : List Entry) (n : ℕ) (h : IsWholeTape 256 b t n) (e : n ≡ length b) where
  embeds : Embeds b h.value
  embeds = record { spells = subst (λ (c : List ℕ). Spells h.value c) (ap (λ k. take k b) e ∙ all_of b) h.whole.spells; valid = h.valid; shallow = h.whole.shallow }

  pub held_told : (r : Tells) → IsFormTold l f h.value r → IsHeldTold l f b r
  held_told (T.Yes w) says = (h.value, embeds, says)
  held_told (T.No w) says = (h.value, embeds, says)
  held_told T.Nothing says = says

-- what is kept of pairs

pub no_more_met : (l : Language TypeId GroupId) (ws : List (List (F.MapEntry TypeId))) (t : Taped) → AreMet l ws t []
no_more_met l ws t i o e = let never : None ≡ Some o = e in absurd (cc)

pub one_more_met : (l : Language TypeId GroupId) (ws : List (List (F.MapEntry TypeId))) (t : Taped) (ms : List (Option MetPair)) (n : ℕ) (m : Option MetPair) → IsMet l ws t m → AreMet l ws t ms → AreMet l ws t (set ms n m)
one_more_met l ws t [] n m is h i o e = h i o e
one_more_met l ws t (p ∷ ms) zero m is h zero o e = let one : m ≡ o = same_some e in subst (λ q. IsMet l ws t q) one is
one_more_met l ws t (p ∷ ms) zero m is h (suc i) o e = h (suc i) o e
one_more_met l ws t (p ∷ ms) (suc n) m is h zero o e = h zero o e
one_more_met l ws t (p ∷ ms) (suc n) m is h (suc i) o e = one_more_met l ws t ms n m is (λ j q f. h (suc j) q f) i o e

-- What is kept of a pair is right in the next alternative, if it belongs to an entry that asks the same there.
pub met_again : (l : Language TypeId GroupId) (ws : List (List (F.MapEntry TypeId))) (t : Taped) (way same : ℕ) (es : List (F.MapEntry TypeId)) (m : MetPair) → IsNextOf ws way same es → m.way ≡ way - 1 → m.number < same → IsMet l ws t (Some m) → IsPairToldAt l es t m.key m.held (M.Takes (length es - 1 - m.number) m.asked)
met_again l ws t way same es m next at less h k x kon xon =
    let there : slice_get ws m.way ≡ Some next.before = ap (λ (i : ℕ). slice_get ws i) at ∙ next.there in
    taken_again l same m.number next.before es k x m.asked next.alike less (h next.before there k x kon xon)
