-- What pairs come to by the first entries of an alternative: so they do in each alternative that begins with these.
use Rattle.std.proofs.Common.{◌≡◌, ◌≢◌, ℕ, suc, ◌+◌, ◌-◌, ◌<◌, ◌≤◌, ◌++◌, max, length, take, drop, List, [], ◌∷◌, Bool, true, false, nat_eq, refl, sym, ap, subst, ◌∙◌, append_assoc, arith}
use Rattle.std.specs.Prelude.{Option, Some, None, IfSome, Ok, Err}
use Rattle.std.proofs.lemmas.Bool.Decides.{nat_tests}
use Rattle.std.proofs.lemmas.List.{length-append, length-map, length-take-le, take-append-drop, take-map, take_at}
use Rattle.cbor_data.specs.Value.{Pairs, no_pairs, pair}
use Rattle.item_nodes.specs.View.{view}
use Rattle.item_nodes.specs.declared.item.Item.{Item}
use Rattle.cddl_meaning.specs.Forms as F
use Rattle.cddl_meaning.specs.Forms.{Language}
use Rattle.cddl_meaning.specs.Judges as J
use Rattle.cddl_meaning.specs.Moves as M
use Rattle.cddl_meaning.specs.Moves.{counted, no_counts}
use Rattle.cddl_match.specs.Ahead.{ComesTo, Opens}
use Rattle.match_moves.specs.Tallies.{counted_again, widened}
use Rattle.cddl_match.specs.Tellings.{AreTold, BeginAlike, BelongsBy, Sorts, Tallies, sorting_of, told_with}
use Rattle.match_moves.specs.Views.{fate_view}
use Rattle.cddl_match.specs.Within.{Replied, Says, Stopped}
use Rattle.match_moves.specs.declared.questions.Fate.{Fate}
use Rattle.match_moves.specs.declared.questions.Fate.TheVariants as T
use Rattle.cddl_match.specs.declared.calls.Stop.{Stop}
use Rattle.cddl_match.specs.declared.calls.Stop.TheVariants.{Spent, NoMemory}
use Rattle.cddl_match.specs.declared.tallied.Tallied.{Tallied}
use Rattle.table_nodes.specs.Fronts as Fronts
use Rattle.table_nodes.specs.Nodes.{entries_view, entry_view}
use Rattle.table_nodes.specs.declared.nodes.GroupId.{GroupId}
use Rattle.table_nodes.specs.declared.nodes.MapEntry.{MapEntry}
use Rattle.table_nodes.specs.declared.nodes.TypeId.{TypeId}
use Rattle.cddl_match.proofs.Handing.{becomes_so}
use Rattle.cddl_match.proofs.Outcomes.{answered, ends_on, says_on}
use Rattle.cddl_match.proofs.Sayings.{ends_so}
use Rattle.cddl_match.proofs.Ways.{and_on, more_than, opens, stays, then_comes, tries_on}

-- lists

-- One of two lists that make the same list is the other's front.
pub behind_front : {A : Type 0} (ps qs rs ss : List A) → ps ++ qs ≡ rs ++ ss → length ps ≤ length rs → (ts : List A) × (rs ≡ ps ++ ts) × (qs ≡ ts ++ ss)
behind_front [] qs rs ss e h = (rs, refl, e)
behind_front (p ∷ ps) qs [] ss e h = absurd (omega (arith, h))
behind_front (p ∷ ps) qs (r ∷ rs) ss e h =
    let i : p ≡ r = cc e in
    let j : ps ++ qs ≡ rs ++ ss = cc e in
    let x = behind_front ps qs rs ss j (omega (arith, h)) in
    (x.0, ap (λ (y : _). y ∷ rs) (sym i) ∙ ap (λ zs. p ∷ zs) x.1, x.2)

pub no_counts_of_both : {N : Type 0} (es fs : List (F.MapEntry N)) → no_counts (es ++ fs) ≡ no_counts es ++ no_counts fs
no_counts_of_both [] fs = refl
no_counts_of_both (e ∷ es) fs = ap (λ ns. 0 ∷ ns) (no_counts_of_both es fs)

pub as_many_none : {N : Type 0} (es : List (F.MapEntry N)) → length (no_counts es) ≡ length es
as_many_none [] = refl
as_many_none (e ∷ es) = ap suc (as_many_none es)

pub as_many_counted : (m : ℕ) (ns : List ℕ) → length (counted m ns) ≡ length ns
as_many_counted m [] = refl
as_many_counted m (n ∷ ns) = by (nat_eq m (length ns)) refl (as_many_counted m ns)
  where
    by : (b : Bool) → nat_eq m (length ns) ≡ b → length (counted m ns) ≡ length ns → length (counted m (n ∷ ns)) ≡ suc (length ns)
    by true e h = rw e refl
    by false e h = rw e (ap suc h)

-- A pair that is counted in front of other counts.
pub counted_in_front : (m k : ℕ) (cs ds : List ℕ) → m < length cs → k ≡ m + length ds → counted k (cs ++ ds) ≡ counted m cs ++ ds
counted_in_front m k [] ds h e = absurd (omega (arith, h))
counted_in_front m k (c ∷ cs) ds h e = by (nat_eq m (length cs)) refl (λ i. counted_in_front m k cs ds i e)
  where
    same : nat_eq k (length (cs ++ ds)) ≡ nat_eq m (length cs)
    same = rw (e, length-append cs ds) (moved m (length cs) (length ds))
      where
        moved : (a b c : ℕ) → nat_eq (a + c) (b + c) ≡ nat_eq a b
        moved a b c = grind (arith, nat_tests)

    below : nat_eq m (length cs) ≡ false → m < length cs
    below f = let n = other m (length cs) f in omega (arith, h, n)
      where
        other : (a b : ℕ) → nat_eq a b ≡ false → a ≢ b
        other a b f = grind (arith, nat_tests, f)

    by : (b : Bool) → nat_eq m (length cs) ≡ b → (m < length cs → counted k (cs ++ ds) ≡ counted m cs ++ ds) → counted k (c ∷ (cs ++ ds)) ≡ counted m (c ∷ cs) ++ ds
    by true f i = rw (same, f) refl
    by false f i = rw (same, f) (ap (λ ns. c ∷ ns) (i (below f)))

-- the steps for what was asked before a pair, for that, and for what was asked about it
spent : (steps mid some left : ℕ) → mid ≤ steps → 1 + some ≡ mid → left ≤ some → (steps - mid) + (1 + (some - left)) ≡ steps - left
spent steps mid some left i j h = omega (arith, i, j, h)

pub as_many_entries : (es : List MapEntry) → length (entries_view es) ≡ length es
as_many_entries es = length-map es entry_view

module _ {N G : Type 0} (l : Language N G) where
  -- No pair was tried yet, so no entry is needed.
  pub none_told : (es : List (F.MapEntry N)) (base : ℕ) (ps : Pairs) → AreTold l es base ps (M.plus base 1) ps (M.fresh es) 0 0
  none_told es base ps = record {
    first = [];
    others = es;
    counts = [];
    parts = refl;
    many = refl;
    each = refl;
    counted = refl;
    comes = λ xs. stays l (M.next_pair xs base (M.plus base 1) ps (M.fresh xs));
  }

  -- More of the first entries tell it, too: no pair belongs to those behind.
  pub more_told : {es : List (F.MapEntry N)} {base next : ℕ} {ps left : Pairs} {t : M.Tally} {told asked : ℕ} (more : ℕ) → told ≤ more → more ≤ length es → AreTold l es base ps next left t told asked → AreTold l es base ps next left t more asked
  more_told {es = es} {base = base} {next = next} {ps = ps} {left = left} {t = t} {told = told} {asked = asked} more h i a = record {
    first = a.first ++ ys;
    others = zs;
    counts = a.counts ++ no_counts ys;
    parts = a.parts ∙ ap (λ xs. a.first ++ xs) both ∙ sym (append_assoc a.first ys zs);
    many = length-append a.first ys ∙ omega (arith, a.many, long, h);
    each = length-append a.counts (no_counts ys) ∙ omega (arith, a.each, as_many_none ys, long, h);
    counted = a.counted ∙ ap (λ xs. a.counts ++ no_counts xs) both ∙ split zs;
    comes = λ xs. wider xs;
  }
    where
      some : ℕ
      some = more - told

      ys : List (F.MapEntry N)
      ys = take some a.others

      zs : List (F.MapEntry N)
      zs = drop some a.others

      both : a.others ≡ ys ++ zs
      both = sym (take-append-drop some a.others)

      long : length ys ≡ some
      long = length-take-le some a.others (omega (arith, ap length a.parts ∙ length-append a.first a.others, a.many, h, i))

      split : (xs : List (F.MapEntry N)) → a.counts ++ no_counts (ys ++ xs) ≡ (a.counts ++ no_counts ys) ++ no_counts xs
      split xs = ap (λ ns. a.counts ++ ns) (no_counts_of_both ys xs) ∙ sym (append_assoc a.counts (no_counts ys) (no_counts xs))

      wider : (xs : List (F.MapEntry N)) → ComesTo l (M.next_pair ((a.first ++ ys) ++ xs) base (M.plus base 1) ps (M.fresh ((a.first ++ ys) ++ xs))) (M.next_pair ((a.first ++ ys) ++ xs) base next left (widened (a.counts ++ no_counts ys) xs t)) asked
      wider xs = rw (append_assoc a.first ys xs, sym (split xs)) (a.comes (ys ++ xs))

  -- The tally of pairs with one more, that belongs to one of the first entries.
  tallied_in_front : {N : Type 0} (after m : ℕ) (answer : J.Answer) (cs : List ℕ) (xs : List (F.MapEntry N)) (t : M.Tally) (k : ℕ) → m < length cs → k ≡ m + length xs → M.tallied (widened cs xs t) (J.BelongsTo k answer) ≡ widened (counted m cs) xs (M.tallied t (J.BelongsTo after answer))
  tallied_in_front after m J.Yes cs xs t k h e = ap (λ ns. record { counts = ns; stray = t.stray; failing = t.failing }) (counted_in_front m k cs (no_counts xs) h (e ∙ ap (λ n. m + n) (sym (as_many_none xs))))
  tallied_in_front after m (J.No far) cs xs t k h e = ap (λ ns. record { counts = ns; stray = t.stray; failing = M.first_of t.failing far }) (counted_in_front m k cs (no_counts xs) h (e ∙ ap (λ n. m + n) (sym (as_many_none xs))))

  tallied_counts : (after : ℕ) (answer : J.Answer) (t : M.Tally) → (M.tallied t (J.BelongsTo after answer)).counts ≡ counted after t.counts
  tallied_counts after J.Yes t = refl
  tallied_counts after (J.No far) t = refl

  -- One pair more belongs to an entry. It takes a step itself, however many entries there are.
  pub told_more : {es : List (F.MapEntry N)} {base place after asked k : ℕ} {ps rest : Pairs} {t : M.Tally} {told : ℕ} {answer : J.Answer} (both : Item × Item) → ((n : ℕ) → F.pair_cost l.counting n ≡ 1) → AreTold l es base ps place (pair (view both.0) (view both.1) rest) t told asked → BelongsBy l place both es after answer k → AreTold l es base ps (sorting_of es base place both rest t).next_place rest (M.tallied t (J.BelongsTo after answer)) (max told (length es - after)) (asked + (1 + k))
  told_more {es = es} {base = base} {place = place} {after = after} {asked = asked} {k = k} {ps = ps} {rest = rest} {t = t} {told = told} {answer = answer} both one a b = record {
    first = d.first;
    others = d.others;
    counts = counted (length between.0) d.counts;
    parts = d.parts;
    many = d.many;
    each = as_many_counted (length between.0) d.counts ∙ d.each;
    counted = tallied_counts after answer t ∙ ap (counted after) d.counted ∙ counted_in_front (length between.0) after d.counts (no_counts d.others) inside (behind ∙ ap (λ n. length between.0 + n) (sym (as_many_none d.others)));
    comes = λ xs. on xs;
  }
    where
      whole : length es ≡ length b.first + length b.others
      whole = ap length b.parts ∙ length-append b.first b.others

      mine : length es ≡ length a.first + length a.others
      mine = ap length a.parts ∙ length-append a.first a.others

      more : ℕ
      more = max told (length es - after)

      d : AreTold l es base ps place (pair (view both.0) (view both.1) rest) t more asked
      d = more_told more (omega arith) (omega (arith, mine, a.many)) a

      between : (ts : List (F.MapEntry N)) × (d.first ≡ b.first ++ ts) × (b.others ≡ ts ++ d.others)
      between = behind_front b.first b.others d.first d.others (sym b.parts ∙ d.parts) (omega (arith, d.many, whole, b.many))

      behind : after ≡ length between.0 + length d.others
      behind = sym b.many ∙ ap length between.2 ∙ length-append between.0 d.others

      inside : length between.0 < length d.counts
      inside = omega (arith, d.each, d.many, ap length between.1 ∙ length-append b.first between.0, b.some)

      on : (xs : List (F.MapEntry N)) → ComesTo l (M.next_pair (d.first ++ xs) base (M.plus base 1) ps (M.fresh (d.first ++ xs))) (M.next_pair (d.first ++ xs) base (sorting_of es base place both rest t).next_place rest (widened (counted (length between.0) d.counts) xs (M.tallied t (J.BelongsTo after answer)))) (asked + (1 + k))
      on xs = and_on l (and_on l (d.comes xs) (tries_on l s) refl) told_so (omega (arith, one (length (d.first ++ xs))))
        where
          s : M.Sorting N
          s = sorting_of (d.first ++ xs) base place both rest (widened d.counts xs t)

          told_so : ComesTo l (M.next_entry (d.first ++ xs) s) (M.next_pair (d.first ++ xs) base s.next_place rest (widened (counted (length between.0) d.counts) xs (M.tallied t (J.BelongsTo after answer)))) k
          told_so =
              let e : d.first ++ xs ≡ b.first ++ (between.0 ++ xs) = ap (λ ys. ys ++ xs) between.1 ∙ append_assoc b.first between.0 xs in
              let f = tallied_in_front after (length between.0) answer d.counts xs t (length (between.0 ++ xs)) inside (length-append between.0 xs) in
              subst (λ u. ComesTo l (M.next_entry (d.first ++ xs) s) (M.next_pair (d.first ++ xs) base s.next_place rest u) k) f (subst (λ ys. ComesTo l (M.next_entry ys s) (M.sorted s (J.BelongsTo (length (between.0 ++ xs)) answer)) k) (sym e) (b.comes (between.0 ++ xs) (d.first ++ xs) base rest (widened d.counts xs t)))

  -- They are told by the same entries of another alternative.
  pub told_again : {es : List (F.MapEntry N)} {base next told asked : ℕ} {ps left : Pairs} {t : M.Tally} (fs : List (F.MapEntry N)) → take told es ≡ take told fs → AreTold l es base ps next left t told asked → AreTold l fs base ps next left (counted_again told fs t) told asked
  told_again {told = told} {t = t} fs e a = record {
    first = a.first;
    others = drop told fs;
    counts = a.counts;
    parts = sym (take-append-drop told fs) ∙ ap (λ xs. xs ++ drop told fs) (sym e ∙ ap (take told) a.parts ∙ take_at a.first a.others told a.many);
    many = a.many;
    each = a.each;
    counted = ap (λ ns. ns ++ no_counts (drop told fs)) (ap (take told) a.counted ∙ take_at a.counts (no_counts a.others) told a.each);
    comes = a.comes;
  }

  -- What an alternative replies where all pairs are told.
  pub opens_told : {es : List (F.MapEntry N)} {base next told asked : ℕ} {ps : Pairs} {t : M.Tally} → AreTold l es base ps next no_pairs t told asked → Opens l (M.OfAlternative es base ps) (M.Answered (M.answer_reply next (M.tally_says es base t))) (1 + asked)
  opens_told {es = es} {base = base} {next = next} {asked = asked} {ps = ps} {t = t} a =
      let c : widened a.counts a.others t ≡ t = ap (λ ns. record { counts = ns; stray = t.stray; failing = t.failing }) (sym a.counted) in
      let d = subst (λ u. ComesTo l (M.next_pair es base (M.plus base 1) ps (M.fresh es)) (M.next_pair es base next no_pairs u) asked) c (subst (λ xs. ComesTo l (M.next_pair xs base (M.plus base 1) ps (M.fresh xs)) (M.next_pair xs base next no_pairs (widened a.counts a.others t)) asked) (sym a.parts) (a.comes a.others)) in
      then_comes l (opens l (M.OfAlternative es base ps)) d refl

  pub as_many_counts : {es : List (F.MapEntry N)} {base next told asked : ℕ} {ps left : Pairs} {t : M.Tally} → AreTold l es base ps next left t told asked → told ≤ length t.counts
  as_many_counts a = omega (arith, ap length a.counted ∙ length-append a.counts (no_counts a.others), a.each)

-- Entries that are the same mean the same.
pub same_front : (n : ℕ) (es fs : List MapEntry) → Fronts.BeginAlike n es fs → BeginAlike n es fs
same_front n es fs h = (omega (arith, h.0, as_many_entries fs), take-map entry_view n es ∙ ap entries_view h.1 ∙ sym (take-map entry_view n fs))

pub same_taken : (n : ℕ) (es fs : List MapEntry) → BeginAlike n es fs → entries_view (take n es) ≡ entries_view (take n fs)
same_taken n es fs h = sym (take-map entry_view n es) ∙ h.1 ∙ take-map entry_view n fs

-- What an alternative replies whose first entries tell what becomes of each pair, as those of another one did.
pub again : (l : Language TypeId GroupId) (es fs : List MapEntry) (base next told asked : ℕ) (ps : Pairs) (t : M.Tally) → BeginAlike told es fs → AreTold l (entries_view es) base ps next no_pairs t told asked → Opens l (M.OfAlternative (entries_view fs) base ps) (M.Answered (M.answer_reply next (M.tally_says (entries_view fs) base (counted_again told (entries_view fs) t)))) (1 + asked)
again l es fs base next told asked ps t h a = opens_told l (told_again l (entries_view fs) h.1 a)

pub says_so : (l : Language TypeId GroupId) (q : M.Question TypeId GroupId) (steps left k next : ℕ) (a b : J.Answer) → Opens l q (M.Answered (M.answer_reply next a)) k → a ≡ b → k + left ≡ steps → Says l q steps left (Replied (M.answer_reply next b))
says_so l q steps left k next a b o e h = says_on l steps left left (Replied (M.answer_reply next b)) (subst (λ x. Opens l q (M.Answered (M.answer_reply next x)) k) e o) h (answered l left (M.answer_reply next b))

module _ (l : Language TypeId GroupId) (one : (n : ℕ) → F.pair_cost l.counting n ≡ 1) (es : List (F.MapEntry TypeId)) (base : ℕ) where
  pub no_pair_told : (ps : Pairs) (steps : ℕ) → AreTold l es base ps (M.plus base 1) ps (M.fresh es) 0 (steps - steps)
  no_pair_told ps steps = subst (λ k. AreTold l es base ps (M.plus base 1) ps (M.fresh es) 0 k) (omega arith) (none_told l es base ps)

  module _ (place : ℕ) (both : Item × Item) (rest ps : Pairs) (t : M.Tally) where
    -- There is no step for a pair.
    pub pair_few : (u : Tallied) (steps left : ℕ) → ComesTo l (M.next_pair es base (M.plus base 1) ps (M.fresh es)) (M.Tries (sorting_of es base place both rest t)) (steps - left) → left ≤ steps → left < 1 → Tallies l es base ps steps left u (Err Spent)
    pair_few u steps left a b h = ends_so l steps left left (Stopped Spent) a b (more_than l (sorting_of es base place both rest t) left (omega (arith, h, one (length es))))

    -- A pair is tried, and that has stopped.
    pub pair_stops : (u : Tallied) (stop : Stop) (steps mid some left : ℕ) → ComesTo l (M.next_pair es base (M.plus base 1) ps (M.fresh es)) (M.Tries (sorting_of es base place both rest t)) (steps - mid) → mid ≤ steps → 1 + some ≡ mid → Sorts l place both es some left (Err stop) → Tallies l es base ps steps left u (Err stop)
    pair_stops u Spent steps mid some left a b e h = ends_so l steps mid left (Stopped Spent) a b (ends_on l mid some left (Stopped Spent) (tries_on l (sorting_of es base place both rest t)) (omega (arith, e, one (length es))) (h es base rest t))
    pair_stops u NoMemory steps mid some left a b e h = tt

    -- It is known what becomes of it.
    pub pair_sorted : (fate : Fate) (steps mid some left : ℕ) → ComesTo l (M.next_pair es base (M.plus base 1) ps (M.fresh es)) (M.Tries (sorting_of es base place both rest t)) (steps - mid) → mid ≤ steps → 1 + some ≡ mid → Sorts l place both es some left (Ok fate) → ComesTo l (M.next_pair es base (M.plus base 1) ps (M.fresh es)) (M.next_pair es base (sorting_of es base place both rest t).next_place rest (M.tallied t (fate_view fate))) (steps - left)
    pair_sorted fate steps mid some left a b e h = and_on l a (and_on l (tries_on l (sorting_of es base place both rest t)) (becomes_so l place both es fate (some - left) h.0 es base rest t) refl) (omega (arith, b, e, h.1, one (length es)))

    -- How many of the first entries tell what becomes of each pair, this one too.
    pub pair_told : (told : Option ℕ) (fate : Fate) (many steps mid some left : ℕ) → length es ≡ many → mid ≤ steps → 1 + some ≡ mid → IfSome told (λ m. AreTold l es base ps place (pair (view both.0) (view both.1) rest) t m (steps - mid)) → Sorts l place both es some left (Ok fate) → IfSome (told_with told fate many) (λ m. AreTold l es base ps (sorting_of es base place both rest t).next_place rest (M.tallied t (fate_view fate)) m (steps - left))
    pair_told None fate many steps mid some left e i j h b = tt
    pair_told (Some m) (T.Stray q) many steps mid some left e i j h b = tt
    pair_told (Some m) (T.Matches after) many steps mid some left e i j h b = rw (sym e, sym (spent steps mid some left i j b.1)) (told_more l both one h b.0)
    pair_told (Some m) (T.Fails after far) many steps mid some left e i j h b = rw (sym e, sym (spent steps mid some left i j b.1)) (told_more l both one h b.0)

pub told_and : (told : Option ℕ) (P Q : ℕ → Type 0) → IfSome told P → IfSome told Q → IfSome told (λ m. P m × Q m)
told_and None P Q p q = tt
told_and (Some m) P Q p q = (p, q)

-- So many first entries tell: there are so many, and they have so many counts.
pub told_fits : (l : Language TypeId GroupId) (es : List MapEntry) (base next asked : ℕ) (ps left : Pairs) (t : M.Tally) (told : Option ℕ) → IfSome told (λ m. AreTold l (entries_view es) base ps next left t m asked) → IfSome told (λ m. (m ≤ length es) × (m ≤ length t.counts))
told_fits l es base next asked ps left t None h = tt
told_fits l es base next asked ps left t (Some m) h = (omega (arith, h.many, ap length h.parts, length-append h.first h.others, as_many_entries es), as_many_counts l h)
