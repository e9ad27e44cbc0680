-- A no shows at a place of the item that it is said of.
use Rattle.std.proofs.Common.{◌≡◌, ℕ, suc, ◌+◌, ◌<◌, ◌≤◌, List, [], ◌∷◌, Option, Some, None, Bool, true, false, arith}
use Rattle.cbor_data.specs.Value.{Value, place_count, Pairs, pairs_place_count}
use Rattle.cddl_meaning.specs.Forms.{MapEntry, Node, Most, Group, Language}
use Rattle.cddl_meaning.specs.Judges.{Answer, Yes, No, Reply, Takes, Fails, over, failed, Says, missed, ref, choice, no_array, array, no_tag, tagged, other_tag, no_simple, other_simple, no_map, map, left_no, left_yes, none_such, such_missed, holder_no, no_string, holds_nothing, held_no, Fate, BelongsTo, Stray, are_enough, first_stray, first_failing, by_counts, shown_by, alternative_says, either, Maps, no_alternative, alternative, Sorts, all_sorted, sort, Belongs, nowhere, passed_over, asked, BelongsAsked, other_key, here, cut_here, handed_on, Chooses, no_more, not_this, Does, missing, matches, differs, group_ref, sequence, alternatives, repeat, DoesEach, all_done, one_fails, and_then, DoesFirst, all_fail, one_takes, or_else, Repeats, full, too_few, enough, empty_round, round}
use Rattle.cddl_meaning.proofs.Covers.{places_of, covers, any_places, array_places, map_places, tag_places}

-- between the array and the end of its items, and what is left begins no earlier than before
abbrev Inside : ℕ → ℕ → ℕ → Reply → Type 0
Inside p q end (Takes left next far) = (p ≤ far) × (far < end) × (q ≤ next)
Inside p q end (Fails far) = (p ≤ far) × (far < end)

further : (p q b end last : ℕ) (r : Reply) → q ≤ b → end ≡ last → Inside p b end r → Inside p q last r
further p q b end last (Takes left next far) h e i = (i.0, omega (arith, i.1, e), omega (arith, h, i.2))
further p q b end last (Fails far) h e i = (i.0, omega (arith, i.1, e))

-- Between these places shows a no; the fates of pairs; and what may show.
abbrev Shows : ℕ → ℕ → Answer → Type 0
Shows p end Yes = Unit {0}
Shows p end (No far) = (p ≤ far) × (far < end)

abbrev FateShows : ℕ → ℕ → Fate → Type 0
FateShows p end (BelongsTo i a) = Shows p end a
FateShows p end (Stray q) = (p ≤ q) × (q < end)

abbrev AllShow : ℕ → ℕ → List Fate → Type 0
AllShow p end [] = Unit {0}
AllShow p end (f ∷ fs) = FateShows p end f × AllShow p end fs

abbrev MayShow : ℕ → ℕ → Option ℕ → Type 0
MayShow p end None = Unit {0}
MayShow p end (Some q) = (p ≤ q) × (q < end)

stray_shows : (p end : ℕ) (fs : List Fate) → AllShow p end fs → MayShow p end (first_stray fs)
stray_shows p end [] h = tt
stray_shows p end (BelongsTo i a ∷ fs) h = stray_shows p end fs h.1
stray_shows p end (Stray q ∷ fs) h = h.0

failing_shows : (p end : ℕ) (fs : List Fate) → AllShow p end fs → MayShow p end (first_failing fs)
failing_shows p end [] h = tt
failing_shows p end (BelongsTo i Yes ∷ fs) h = failing_shows p end fs h.1
failing_shows p end (BelongsTo i (No far) ∷ fs) h = h.0
failing_shows p end (Stray q ∷ fs) h = failing_shows p end fs h.1

shown : (p end : ℕ) (o : Option ℕ) (a : Answer) → MayShow p end o → Shows p end a → Shows p end (shown_by o a)
shown p end None a h k = k
shown p end (Some q) a h k = h

by_counts_shows : (p end : ℕ) (b : Bool) → p < end → Shows p end (by_counts p b)
by_counts_shows p end true h = tt
by_counts_shows p end false h = (omega arith, h)

either_shows : (p end : ℕ) (a b : Answer) → Shows p end a → Shows p end b → Shows p end (either a b)
either_shows p end Yes b h k = tt
either_shows p end (No far) Yes h k = tt
either_shows p end (No far) (No later) h k = (omega (arith, h.0, k.0), omega (arith, h.1, k.1))

alternative_shows : {N : Type 0} (es : List (MapEntry N)) (p end : ℕ) (fs : List Fate) → p < end → AllShow p end fs → Shows p end (alternative_says es p fs)
alternative_shows es p end fs h a = shown p end (first_stray fs) (shown_by (first_failing fs) (by_counts p (are_enough es fs))) (stray_shows p end fs a) (shown p end (first_failing fs) (by_counts p (are_enough es fs)) (failing_shows p end fs a) (by_counts_shows p end (are_enough es fs) h))

module _ {N G : Type 0} (l : Language N G) where
  mutual
    pub says_inside : {f : Node N G} {p far w : ℕ} {x : Value} → Says l f p x (No far) w → (p ≤ far) × (far < p + place_count x)
    says_inside (missed {x = x} e) = (omega arith, omega (arith, any_places x))
    says_inside (ref d) = says_inside d
    says_inside (choice {x = x} d) = chooses_inside (omega arith) (omega (arith, any_places x)) d
    says_inside (no_array {x = x} e) = (omega arith, omega (arith, any_places x))
    says_inside (array {p = p} {x = x} {xs = xs} e d (over {next = b} {far = far} {x = y} {xs = ys})) =
        let i : (p ≤ far) × (far < suc p + places_of xs) × (suc p ≤ b) = does_inside (omega arith) d in
        (omega (arith, i.0), omega (arith, i.1, covers l d, any_places y, array_places x xs e))
    says_inside (array {p = p} {x = x} {xs = xs} e d (failed {far = far})) =
        let i : (p ≤ far) × (far < suc p + places_of xs) = does_inside (omega arith) d in
        (i.0, omega (arith, i.1, array_places x xs e))
    says_inside (no_tag {x = x} e) = (omega arith, omega (arith, any_places x))
    says_inside (tagged {n = n} {x = x} {y = y} e b d) =
        let i = says_inside d in
        (omega (arith, i.0), omega (arith, i.1, tag_places x y n e))
    says_inside (other_tag {x = x} e b) = (omega arith, omega (arith, any_places x))
    says_inside (no_simple {x = x} e) = (omega arith, omega (arith, any_places x))
    says_inside (other_simple {x = x} e d) = (omega arith, omega (arith, any_places x))
    says_inside (no_map {x = x} e) = (omega arith, omega (arith, any_places x))
    says_inside (map {p = p} {x = x} {ps = ps} e d) = maps_inside (p + place_count x) (omega (arith, map_places x ps e)) (omega arith, omega (arith, any_places x)) d
    says_inside (left_no d) = says_inside d
    says_inside (left_yes d e) = says_inside e
    says_inside (none_such d) = says_inside d
    says_inside (such_missed {x = x} d e) = (omega arith, omega (arith, any_places x))
    says_inside (holder_no d) = says_inside d
    says_inside (no_string {x = x} d e) = (omega arith, omega (arith, any_places x))
    says_inside (holds_nothing {x = x} d e n) = (omega arith, omega (arith, any_places x))
    says_inside (held_no {x = x} d e h b) = (omega arith, omega (arith, any_places x))

    maps_inside : (end : ℕ) {ess : List (List (MapEntry N))} {p w : ℕ} {ps : Pairs} {sofar a : Answer} → suc p + pairs_place_count ps ≡ end → Shows p end sofar → Maps l ess p ps sofar a w → Shows p end a
    maps_inside end h s no_alternative = s
    maps_inside end h s (alternative {es = es} {p = p} {sofar = sofar} {fs = fs} d e) =
        maps_inside end h (either_shows p end sofar (alternative_says es p fs) s (alternative_shows es p end fs (omega (arith, h)) (sorts_inside p end (omega arith) (omega (arith, h)) d))) e

    sorts_inside : (from end : ℕ) {es : List (MapEntry N)} {q w : ℕ} {ps : Pairs} {fs : List Fate} → from ≤ q → q + pairs_place_count ps ≤ end → Sorts l es q ps fs w → AllShow from end fs
    sorts_inside from end h k all_sorted = tt
    sorts_inside from end h k (sort d e) = (belongs_inside from end h (omega (arith, k)) d, sorts_inside from end (omega (arith, h)) (omega (arith, k)) e)

    belongs_inside : (from end : ℕ) {es : List (MapEntry N)} {q w : ℕ} {k x : Value} {f : Fate} → from ≤ q → q + place_count k + place_count x ≤ end → Belongs l es q k x f w → FateShows from end f
    belongs_inside from end h j (nowhere {k = k}) = (h, omega (arith, j, any_places k))
    belongs_inside from end h j (passed_over i b) = belongs_inside from end h j b
    belongs_inside from end h j (asked i b) = asked_inside from end h j b

    asked_inside : (from end : ℕ) {e : MapEntry N} {es : List (MapEntry N)} {q w : ℕ} {k x : Value} {f : Fate} → from ≤ q → q + place_count k + place_count x ≤ end → BelongsAsked l e es q k x f w → FateShows from end f
    asked_inside from end h j (other_key d b) = belongs_inside from end h j b
    asked_inside from end h j (here d b) = tt
    asked_inside from end h j (cut_here c d b) = let i = says_inside b in (omega (arith, h, i.0), omega (arith, j, i.1))
    asked_inside from end h j (handed_on c d b m) = belongs_inside from end h j m

    chooses_inside : {ms : List N} {p far later w : ℕ} {x : Value} → p ≤ far → far < p + place_count x → Chooses l ms p x far (No later) w → (p ≤ later) × (later < p + place_count x)
    chooses_inside h k no_more = (h, k)
    chooses_inside h k (not_this d e) =
        let i = says_inside d in
        chooses_inside (omega (arith, h, i.0)) (omega (arith, k, i.1)) e

    does_inside : {f : Group N G} {p q w : ℕ} {xs : List Value} {r : Reply} → p < q → Does l f p q xs r w → Inside p q (q + places_of xs) r
    does_inside h missing = (omega arith, omega (arith, h))
    does_inside h (matches d) = (omega arith, omega (arith, h), omega arith)
    does_inside h (differs d) = let i = says_inside d in (omega arith, omega (arith, h, i.1))
    does_inside h (group_ref d) = does_inside h d
    does_inside h (sequence d) = each_inside h (omega arith) (omega (arith, h)) d
    does_inside h (alternatives d) = first_inside h (omega arith) (omega (arith, h)) d
    does_inside h (repeat d) = repeats_inside h (omega arith) (omega (arith, h)) d

    each_inside : {gs : List G} {p q far w : ℕ} {xs : List Value} {r : Reply} → p < q → p ≤ far → far < q + places_of xs → DoesEach l gs p q xs far r w → Inside p q (q + places_of xs) r
    each_inside h j k all_done = (j, k, omega arith)
    each_inside h j k (one_fails d) = let i = does_inside h d in (omega (arith, j, i.0), omega (arith, k, i.1))
    each_inside {p = p} {q = q} {xs = xs} {r = r} h j k (and_then {next = b} {left = left} d e) =
        let i = does_inside h d in
        further p q b (b + places_of left) (q + places_of xs) r i.2 (covers l d) (each_inside (omega (arith, h, i.2)) (omega (arith, j, i.0)) (omega (arith, k, i.1, covers l d)) e)

    first_inside : {gs : List G} {p q far w : ℕ} {xs : List Value} {r : Reply} → p < q → p ≤ far → far < q + places_of xs → DoesFirst l gs p q xs far r w → Inside p q (q + places_of xs) r
    first_inside h j k all_fail = (j, k)
    first_inside h j k (one_takes d) = let i = does_inside h d in (omega (arith, j, i.0), omega (arith, k, i.1), i.2)
    first_inside h j k (or_else d e) =
        let i = does_inside h d in
        first_inside h (omega (arith, j, i.0)) (omega (arith, k, i.1)) e

    repeats_inside : {least : ℕ} {most : Most} {g : G} {p q far w : ℕ} {xs : List Value} {r : Reply} → p < q → p ≤ far → far < q + places_of xs → Repeats l least most g p q xs far r w → Inside p q (q + places_of xs) r
    repeats_inside h j k (full e) = (j, k, omega arith)
    repeats_inside h j k (too_few e d) = let i = does_inside h d in (omega (arith, j, i.0), omega (arith, k, i.1))
    repeats_inside h j k (enough e d) = let i = does_inside h d in (omega (arith, j, i.0), omega (arith, k, i.1), omega arith)
    repeats_inside h j k (empty_round e d n) = let i = does_inside h d in (omega (arith, j, i.0), omega (arith, k, i.1), omega arith)
    repeats_inside {p = p} {q = q} {xs = xs} {r = r} h j k (round {next = b} {left = left} e d n f) =
        let i = does_inside h d in
        further p q b (b + places_of left) (q + places_of xs) r i.2 (covers l d) (repeats_inside (omega (arith, h, i.2)) (omega (arith, j, i.0)) (omega (arith, k, i.1, covers l d)) f)
