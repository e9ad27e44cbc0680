-- A search takes one row after the other.
use Rattle.std.proofs.Common.{◌≡◌, ℕ, zero, suc, ◌+◌, ◌*◌, ◌<◌, ◌≤◌, ◌⊎◌, inl, inr, Bool, true, false, true≢false, List, [], ◌∷◌, ◌++◌, length, append_assoc, Option, Some, None, IfSome, slice_get, refl, sym, ap, ◌∙◌, subst, arith}
use Rattle.std.specs.Prelude.{if◌then◌else◌}
use Rattle.std.proofs.lemmas.Option.{same_Some, slice_get_within}
use Rattle.lists.proofs.Lemmas.{length_push}
use Rattle.cddl_language.specs.Terms.{Text, Definition, call, no_terms}
use Rattle.cddl_language.specs.Reach.{at_root}
use Rattle.check_terms.specs.declared.row.Form.{Form}
use Rattle.check_terms.specs.declared.row.Row.{Row}
use Rattle.check_terms.specs.Table.{Table, Grows, Tree, node, Holds, part}
use Rattle.check_terms.specs.Trees.{IsRef, ref_tree}
use Rattle.check_instances.specs.Calls.{calls, is_call}
use Rattle.check_instances.specs.Lists.{AreApart, IsIn}
use Rattle.check_instances.specs.Marks.{is_marked, is_new, widened, with_mark}
use Rattle.check_instances.specs.Search.{IsFollowed, IsInstanceRow, IsReached, IsSearch, IsSeen, IsSound}
use Rattle.check_instances.specs.Steps.{calls_after, waiting_after, with_call, with_part, with_parts}
use Rattle.check_instances.proofs.Lists.{apart_push, in_cases, in_left, in_right, one_after}
use Rattle.check_instances.proofs.Marking.{as_many_marks, mark_cases, mark_set, marked_within, marks_kept, new_unmarked, old_marked, old_same, one_fewer, same_marks, so_wide, unmarked}

pub kept_part : (P Q : ℕ → Type 0) → ((n : ℕ) → P n → Q n) → (o : Option ℕ) → IfSome o P → IfSome o Q
kept_part P Q f None h = tt
kept_part P Q f (Some n) h = f n h

followed_on : (t : Table) (P Q : ℕ → Type 0) (refs all : List ℕ) → ((n : ℕ) → P n → Q n) → ((n : ℕ) → IsIn n refs → IsIn n all) → (n : ℕ) → IsFollowed t P refs n → IsFollowed t Q all n
followed_on t P Q refs all f g n h = λ r e. (λ c. g n ((h r e).0 c), λ c. (kept_part P Q f r.first ((h r e).1 c).0, kept_part P Q f r.second ((h r e).1 c).1))

holds_within : (t : Table) (k : ℕ) (x : Tree) → Holds t (Some k) x → k < length t.rows
holds_within t k x (part e d a b) = slice_get_within t.rows k _ e

-- Parts that are put to what waits.

part_there : (o : Option ℕ) (ns : List ℕ) → IfSome o (λ m. IsIn m (with_part o ns))
part_there None ns = tt
part_there (Some n) ns = in_right ns (n ∷ []) n (inl refl)

part_stays : (o : Option ℕ) (ns : List ℕ) (m : ℕ) → IsIn m ns → IsIn m (with_part o ns)
part_stays None ns m h = h
part_stays (Some n) ns m h = in_left ns (n ∷ []) m h

part_cases : (o : Option ℕ) (ns : List ℕ) (m : ℕ) → IsIn m (with_part o ns) → IsIn m ns ⊎ (o ≡ Some m)
part_cases None ns m h = inl h
part_cases (Some n) ns m h = by (in_cases ns (n ∷ []) m h)
  where
    by : IsIn m ns ⊎ IsIn m (n ∷ []) → IsIn m ns ⊎ (Some n ≡ Some m)
    by (inl g) = inl g
    by (inr (inl e)) = inr (ap Some (sym e))
    by (inr (inr g)) = absurd g

part_length : (o : Option ℕ) (ns : List ℕ) → length (with_part o ns) ≤ length ns + 1
part_length None ns = omega arith
part_length (Some n) ns = let e = length_push ns n in omega (arith, e)

parts_length : (o : Option Row) (ns : List ℕ) → length (with_parts o ns) ≤ length ns + 2
parts_length None ns = omega arith
parts_length (Some r) ns = by (is_call r.form)
  where
    by : (c : Bool) → length (if c then ns else with_part r.second (with_part r.first ns)) ≤ length ns + 2
    by true = omega arith
    by false = let e = part_length r.first ns in let f = part_length r.second (with_part r.first ns) in omega (arith, e, f)

-- what is left to be done
abbrev pub work : List Bool → List ℕ → ℕ
work marks waiting = 2 * unmarked marks + length waiting

pub less_work : (rows : List Row) (marks : List Bool) (waiting left : List ℕ) (k : ℕ) → waiting ≡ left ++ k ∷ [] → work (with_mark marks k) (waiting_after rows marks k left) < work marks waiting
less_work rows marks waiting left k last = by (is_new marks k) refl
  where
    long : length waiting ≡ suc (length left)
    long = ap length last ∙ length_push left k

    by : (b : Bool) → is_new marks k ≡ b → 2 * unmarked (with_mark marks k) + length (if b then with_parts (slice_get rows k) left else left) < 2 * unmarked marks + length waiting
    by true e = let f = one_fewer marks k e in let g = parts_length (slice_get rows k) left in omega (arith, f, g, long)
    by false e = let f = ap unmarked (old_same marks k e) in omega (arith, f, long)

module _ (xs : List Definition) (root : Text) (t : Table) (from first : List ℕ) where
  -- the same marks
  pub search_widened : (marks : List Bool) (waiting refs : List ℕ) (n : ℕ) → n ≡ length t.rows → IsSearch xs root t from first marks waiting refs → IsSearch xs root t from first (widened marks n) waiting refs
  search_widened marks waiting refs n same so =
      let fits : length marks ≤ n = omega (arith, same, so.sized) in
      let wide = so_wide marks n fits in
      let back : (m : ℕ) → is_marked (widened marks n) m ≡ true → is_marked marks m ≡ true = λ m h. sym (same_marks marks n m fits) ∙ h in
      let there : (m : ℕ) → is_marked marks m ≡ true → is_marked (widened marks n) m ≡ true = λ m h. same_marks marks n m fits ∙ h in
      record {
        sized = omega (arith, wide, same);
        sound = so.sound;
        followed = λ m h. followed_on t (IsSeen marks waiting) (IsSeen (widened marks n) waiting) refs refs (seen there) (λ i g. g) m (so.followed m (back m h));
        reached = so.reached;
        marked = λ m h. there m (so.marked m h);
        apart = so.apart;
        seen = λ m h. seen there m (so.seen m h);
        later = so.later;
        begins = so.begins;
      }
    where
      seen : ((m : ℕ) → is_marked marks m ≡ true → is_marked (widened marks n) m ≡ true) → (m : ℕ) → IsSeen marks waiting m → IsSeen (widened marks n) waiting m
      seen there m (inl h) = inl (there m h)
      seen there m (inr h) = inr h

  module _ (marks : List Bool) (waiting refs left : List ℕ) (k : ℕ) (last : waiting ≡ left ++ k ∷ []) (sized : length marks ≡ length t.rows) (so : IsSearch xs root t from first marks waiting refs) where
    sound : IsSound xs root t k
    sound = so.sound k (subst (IsIn k) (sym last) (in_right left (k ∷ []) k (inl refl)))

    sound_left : (m : ℕ) → IsIn m left → IsSound xs root t m
    sound_left m h = so.sound m (subst (IsIn m) (sym last) (in_left left (k ∷ []) m h))

    module _ (now : List Bool) (rest all : List ℕ) (kept : (m : ℕ) → is_marked marks m ≡ true → is_marked now m ≡ true) (stays : (m : ℕ) → IsIn m left → IsIn m rest) (it : is_marked now k ≡ true) where
      waits : (m : ℕ) → IsIn m left ⊎ IsIn m (k ∷ []) → IsSeen now rest m
      waits m (inl g) = inr (stays m g)
      waits m (inr (inl e)) = inl (subst (λ j. is_marked now j ≡ true) (sym e) it)
      waits m (inr (inr g)) = absurd g

      seen_now : (m : ℕ) → IsSeen marks waiting m → IsSeen now rest m
      seen_now m (inl h) = inl (kept m h)
      seen_now m (inr h) = waits m (in_cases left (k ∷ []) m (subst (IsIn m) last h))

      search_on : length now ≤ length t.rows → ((m : ℕ) → IsIn m rest → IsSound xs root t m) → ((m : ℕ) → is_marked now m ≡ true → (is_marked marks m ≡ true) ⊎ IsFollowed t (IsSeen now rest) all m) → ((m : ℕ) → IsIn m refs → IsIn m all) → ((m : ℕ) → IsIn m all → IsInstanceRow xs root t m) → ((m : ℕ) → IsIn m all → is_marked now m ≡ true) → AreApart all → (later : List ℕ) → all ≡ first ++ later → IsSearch xs root t from first now rest all
      search_on fits are_sound follow more are_reached are_marked are_apart further begins = record {
        sized = fits;
        sound = are_sound;
        followed = λ m h. by m (follow m h);
        reached = are_reached;
        marked = are_marked;
        apart = are_apart;
        seen = λ m h. seen_now m (so.seen m h);
        later = further;
        begins = begins;
      }
        where
          by : (m : ℕ) → (is_marked marks m ≡ true) ⊎ IsFollowed t (IsSeen now rest) all m → IsFollowed t (IsSeen now rest) all m
          by m (inl h) = followed_on t (IsSeen marks waiting) (IsSeen now rest) refs all seen_now more m (so.followed m h)
          by m (inr h) = h

    -- the row was visited before
    visited : is_new marks k ≡ false → IsSearch xs root t from first marks left refs
    visited e =
        let within : k < length marks = omega (arith, sized, holds_within t k sound.tree sound.holds) in
        search_on marks left refs (λ m h. h) (λ m h. h) (old_marked marks k e within) so.sized sound_left (λ m h. inl h) (λ m h. h) so.reached so.marked so.apart so.later so.begins

    module _ (new : is_new marks k ≡ true) (f : Form) (mm i j : Option ℕ) (w : Option Text) (a b : Tree) (here : slice_get t.rows k ≡ Some (record { form = f; text = mm; first = i; second = j })) (held : Holds t (Some k) (node f w a b)) (reached : (x : Tree) → IsIn x (calls (node f w a b)) → IsReached xs root x) where
      fits_now : length (with_mark marks k) ≤ length t.rows
      fits_now = let e = as_many_marks marks k in omega (arith, e, sized)

      its_row : (r : Row) → slice_get t.rows k ≡ Some r → record { form = f; text = mm; first = i; second = j } ≡ r
      its_row r e = same_Some _ _ (sym here ∙ e)

      follow_with : (rest all : List ℕ) → IsFollowed t (IsSeen (with_mark marks k) rest) all k → (m : ℕ) → is_marked (with_mark marks k) m ≡ true → (is_marked marks m ≡ true) ⊎ IsFollowed t (IsSeen (with_mark marks k) rest) all m
      follow_with rest all own m h = by (mark_cases marks k m h)
        where
          by : (is_marked marks m ≡ true) ⊎ (m ≡ k) → (is_marked marks m ≡ true) ⊎ IsFollowed t (IsSeen (with_mark marks k) rest) all m
          by (inl g) = inl g
          by (inr e) = inr (subst (IsFollowed t (IsSeen (with_mark marks k) rest) all) (sym e) own)

      -- a reference
      found_ref : is_call f ≡ true → IsSearch xs root t from first (with_mark marks k) left (refs ++ k ∷ [])
      found_ref c = search_on (with_mark marks k) left (refs ++ k ∷ []) (marks_kept marks k) (λ m h. h) (mark_set marks k new) fits_now sound_left (follow_with left (refs ++ k ∷ []) own) (λ m h. in_left refs (k ∷ []) m h) (λ m h. all_reached m (in_cases refs (k ∷ []) m h)) (λ m h. all_marked m (in_cases refs (k ∷ []) m h)) (apart_push refs k so.apart (λ g. new_unmarked marks k new (so.marked k g))) (so.later ++ k ∷ []) (ap (λ (ns : List ℕ). ns ++ k ∷ []) so.begins ∙ append_assoc first so.later (k ∷ []))
        where
          own : IsFollowed t (IsSeen (with_mark marks k) left) (refs ++ k ∷ []) k
          own r e = (λ d. in_right refs (k ∷ []) k (inl refl), λ d. absurd (true≢false (sym c ∙ ap (λ (q : Row). is_call q.form) (its_row r e) ∙ d)))

          one : IsReached xs root (node f w a b)
          one = reached (node f w a b) (subst (λ q. IsIn (node f w a b) (if q then node f w a b ∷ [] else calls a ++ calls b)) (sym c) (inl refl))

          all_reached : (m : ℕ) → IsIn m refs ⊎ IsIn m (k ∷ []) → IsInstanceRow xs root t m
          all_reached m (inl g) = so.reached m g
          all_reached m (inr (inl e)) = subst (IsInstanceRow xs root t) (sym e) (record { ref = one.ref; holds = subst (Holds t (Some k)) one.tree held; reaches = one.reaches })
          all_reached m (inr (inr g)) = absurd g

          all_marked : (m : ℕ) → IsIn m refs ⊎ IsIn m (k ∷ []) → is_marked (with_mark marks k) m ≡ true
          all_marked m (inl g) = marks_kept marks k m (so.marked m g)
          all_marked m (inr (inl e)) = subst (λ n. is_marked (with_mark marks k) n ≡ true) (sym e) (mark_set marks k new)
          all_marked m (inr (inr g)) = absurd g

      -- any other row
      found_parts : Holds t i a → Holds t j b → is_call f ≡ false → IsSearch xs root t from first (with_mark marks k) (with_part j (with_part i left)) refs
      found_parts u v c = search_on (with_mark marks k) (with_part j (with_part i left)) refs (marks_kept marks k) (λ m h. part_stays j (with_part i left) m (part_stays i left m h)) (mark_set marks k new) fits_now (λ m h. all_sound m (part_cases j (with_part i left) m h)) (follow_with (with_part j (with_part i left)) refs own) (λ m h. h) so.reached (λ m h. marks_kept marks k m (so.marked m h)) so.apart so.later so.begins
        where
          inside : (x : Tree) → IsIn x (calls a ++ calls b) → IsReached xs root x
          inside x h = reached x (subst (λ q. IsIn x (if q then node f w a b ∷ [] else calls a ++ calls b)) (sym c) h)

          front_sound : (m : ℕ) → IsIn m left ⊎ (i ≡ Some m) → IsSound xs root t m
          front_sound m (inl g) = sound_left m g
          front_sound m (inr e) = record { tree = a; holds = subst (λ o. Holds t o a) e u; reached = λ x h. inside x (in_left (calls a) (calls b) x h) }

          all_sound : (m : ℕ) → IsIn m (with_part i left) ⊎ (j ≡ Some m) → IsSound xs root t m
          all_sound m (inl g) = front_sound m (part_cases i left m g)
          all_sound m (inr e) = record { tree = b; holds = subst (λ o. Holds t o b) e v; reached = λ x h. inside x (in_right (calls a) (calls b) x h) }

          parts_seen : IfSome i (IsSeen (with_mark marks k) (with_part j (with_part i left))) × IfSome j (IsSeen (with_mark marks k) (with_part j (with_part i left)))
          parts_seen = (kept_part (λ m. IsIn m (with_part i left)) (IsSeen (with_mark marks k) (with_part j (with_part i left))) (λ m h. inr (part_stays j (with_part i left) m h)) i (part_there i left), kept_part (λ m. IsIn m (with_part j (with_part i left))) (IsSeen (with_mark marks k) (with_part j (with_part i left))) (λ m h. inr h) j (part_there j (with_part i left)))

          own : IsFollowed t (IsSeen (with_mark marks k) (with_part j (with_part i left))) refs k
          own r e = (λ d. absurd (true≢false (sym (ap (λ (q : Row). is_call q.form) (its_row r e) ∙ d) ∙ c)), λ d. subst (λ (q : Row). IfSome q.first (IsSeen (with_mark marks k) (with_part j (with_part i left))) × IfSome q.second (IsSeen (with_mark marks k) (with_part j (with_part i left)))) (its_row r e) parts_seen)

    -- the row is visited now
    taken : is_new marks k ≡ true → (x : Tree) → Holds t (Some k) x → ((y : Tree) → IsIn y (calls x) → IsReached xs root y) → IsSearch xs root t from first (with_mark marks k) (with_parts (slice_get t.rows k) left) (with_call (slice_get t.rows k) k refs)
    taken new x (part {f = f} {m = mm} {i = i} {j = j} {x = w} {a = a} {b = b} h d u v) reached = subst (λ o. IsSearch xs root t from first (with_mark marks k) (with_parts o left) (with_call o k refs)) (sym h) (by (is_call f) refl)
      where
        by : (c : Bool) → is_call f ≡ c → IsSearch xs root t from first (with_mark marks k) (if c then left else with_part j (with_part i left)) (if c then refs ++ k ∷ [] else refs)
        by true c = found_ref new f mm i j w a b h (part h d u v) reached c
        by false c = found_parts new f mm i j w a b h (part h d u v) reached u v c

    pub search_step : IsSearch xs root t from first (with_mark marks k) (waiting_after t.rows marks k left) (calls_after t.rows marks k refs)
    search_step = by (is_new marks k) refl
      where
        by : (b : Bool) → is_new marks k ≡ b → IsSearch xs root t from first (with_mark marks k) (if b then with_parts (slice_get t.rows k) left else left) (if b then with_call (slice_get t.rows k) k refs else refs)
        by true e = taken e sound.tree sound.holds sound.reached
        by false e = subst (λ ms. IsSearch xs root t from first ms left refs) (sym (old_same marks k e)) (visited e)

-- The search as it begins.
pub search_begun : (xs : List Definition) (root : Text) (t : Table) (k : ℕ) → IsRef t k (call root no_terms) → IsSearch xs root t (k ∷ []) [] [] (k ∷ []) []
search_begun xs root t k h = record {
  sized = omega arith;
  sound = λ n g. by n g;
  followed = λ n g. absurd (true≢false (sym g));
  reached = λ n g. absurd g;
  marked = λ n g. absurd g;
  apart = tt;
  seen = λ n g. inr g;
  later = [];
  begins = refl;
}
  where
    reach : (x : Tree) → IsIn x (ref_tree (call root no_terms) ∷ []) → IsReached xs root x
    reach x (inl e) = record { ref = call root no_terms; tree = e; reaches = at_root }
    reach x (inr g) = absurd g

    by : (n : ℕ) → IsIn n (k ∷ []) → IsSound xs root t n
    by n (inl e) = record { tree = ref_tree (call root no_terms); holds = subst (λ m. Holds t (Some m) (ref_tree (call root no_terms))) (sym e) h; reached = reach }
    by n (inr g) = absurd g

-- The next reference is taken, and the table has grown: these rows wait.
pub search_grown : (xs : List Definition) (root : Text) (old new : Table) (from first : List ℕ) (marks : List Bool) (refs : List ℕ) → Grows old new → ((n : Option ℕ) (x : Tree) → Holds old n x → Holds new n x) → IsSearch xs root old from first marks [] refs → (k : ℕ) → slice_get refs (length first) ≡ Some k → (waiting : List ℕ) → ((n : ℕ) → IsIn n waiting → IsSound xs root new n) → IsSearch xs root new (waiting ++ from) (first ++ k ∷ []) marks waiting refs
search_grown xs root old new from first marks refs grows kept so k next waiting sound = record {
  sized = sized;
  sound = sound;
  followed = λ n h. followed n h;
  reached = λ n h. let r = so.reached n h in record { ref = r.ref; holds = kept (Some n) (ref_tree r.ref) r.holds; reaches = r.reaches };
  marked = so.marked;
  apart = so.apart;
  seen = λ n h. seen n (in_cases waiting from n h);
  later = after.0;
  begins = so.begins ∙ ap (λ (ns : List ℕ). first ++ ns) after.1 ∙ sym (append_assoc first (k ∷ []) after.0);
}
  where
    after : (zs : List ℕ) × (so.later ≡ k ∷ zs)
    after = one_after first so.later k (subst (λ ns. slice_get ns (length first) ≡ Some k) so.begins next)

    here : (a : ℕ) → a ≤ length old.rows → a ≤ length new.rows
    here zero l = omega arith
    here (suc a) l = by (slice_get old.rows a) refl
      where
        by : (o : Option Row) → slice_get old.rows a ≡ o → suc a ≤ length new.rows
        by (Some r) e = slice_get_within new.rows a r (grows.rows a r e)
        by None e = absurd (none old.rows a l e)
          where
            none : (rs : List Row) (i : ℕ) → suc i ≤ length rs → slice_get rs i ≡ None → ⊥
            none [] i m f = omega (arith, m)
            none (r ∷ rs) zero m f = cc
            none (r ∷ rs) (suc i) m f = none rs i (omega (arith, m)) f

    sized : length marks ≤ length new.rows
    sized = here (length marks) so.sized

    still : (m : ℕ) → IsSeen marks [] m → IsSeen marks waiting m
    still m (inl h) = inl h
    still m (inr g) = absurd g

    seen : (n : ℕ) → IsIn n waiting ⊎ IsIn n from → IsSeen marks waiting n
    seen n (inl g) = inr g
    seen n (inr g) = still n (so.seen n g)

    followed : (n : ℕ) → is_marked marks n ≡ true → IsFollowed new (IsSeen marks waiting) refs n
    followed n h r e = by (slice_get old.rows n) refl
      where
        within : n < length old.rows
        within = let l = marked_within marks n h in omega (arith, l, so.sized)

        by : (o : Option Row) → slice_get old.rows n ≡ o → (is_call r.form ≡ true → IsIn n refs) × (is_call r.form ≡ false → IfSome r.first (IsSeen marks waiting) × IfSome r.second (IsSeen marks waiting))
        by (Some q) f =
            let same : q ≡ r = same_Some q r (sym (grows.rows n q f) ∙ e) in
            followed_on old (IsSeen marks []) (IsSeen marks waiting) refs refs still (λ m g. g) n (so.followed n h) r (f ∙ ap Some same)
        by None f = absurd (none old.rows n within f)
          where
            none : (rs : List Row) (i : ℕ) → i < length rs → slice_get rs i ≡ None → ⊥
            none [] i m g = omega (arith, m)
            none (p ∷ rs) zero m g = cc
            none (p ∷ rs) (suc i) m g = none rs i (omega (arith, m)) g
