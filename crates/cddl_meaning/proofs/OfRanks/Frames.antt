-- Each open question is below the one that asked it, so few are open.
use Rattle.std.proofs.Common.{◌≡◌, ℕ, suc, ◌+◌, ◌*◌, ◌<◌, ◌≤◌, inl, inr, length, List, [], ◌∷◌, refl, subst, arith, true, false, sym, ◌∙◌}
use Rattle.std.proofs.Math.Nat.{mul-le-mul_left}
use Rattle.cbor_data.specs.Value.{Value, no_pairs, pair}
use Rattle.cddl_meaning.specs.Forms.{Content, Language, MapEntry, is_passed_over}
use Rattle.cddl_meaning.specs.Held.{Holds}
use Rattle.cddl_meaning.specs.Judges.{Reply, Fails}
use Rattle.cddl_meaning.specs.Moves.{Question, OfType, OfGroup, OfAlternative, Sorting, Pending, InRef, InMap, InHeld, Move, Answered, Asks, Tries, Reads, Weighs, Replies, first_move, next_move, next_entry, InKey, Enters}
use Rattle.cddl_meaning.specs.Ranks.Ranked.{Name, IsRanked}
use Rattle.cddl_meaning.specs.Size.{size, pairs_size, list_size, size_of}
use Rattle.cddl_meaning.proofs.OfRanks.ByForm.{IsRankedByForm, types_by, groups_by, by_form}
use Rattle.cddl_meaning.specs.Ranks.Reached.{IsReached, begun, asked, tried, read, read_nothing, weighed, answered, one_for_empty_map, passed, entered}
use Rattle.cddl_meaning.proofs.OfRanks.Induction.{IsLess}
use Rattle.cddl_meaning.proofs.Lemmas.{size_some, all_some, key_less}
use Rattle.cddl_meaning.proofs.OfRanks.Down.{height_of, rank_of, IsMapOf, IsBelow, plain_replies, RepliesDown, replies, EndsDown, at_once, after, tries, weighs, reads, reads_nothing, passes_over, enters}
use Rattle.cddl_meaning.proofs.Lemmas.{held_once}
use Rattle.cddl_meaning.proofs.OfRanks.Total.{type_replies, group_replies, alternative_replies}

true_not_false : true ≡ false → ⊥
true_not_false e = cc

module _ {N G : Type 0} (l : Language N G) (type_rank : N → ℕ) (group_rank : G → ℕ) (first : Question N G) where
  -- The last open question is this one, and what is open goes on from this reply to it. Each is below the one before it.
  data Waits : Question N G → List (Pending N G) → Reply → Type 0 where
    bottom : {s : Reply} → Waits first (InRef ∷ []) s
    upon : {q p : Question N G} {o : Pending N G} {os : List (Pending N G)} {s r : Reply} {w : ℕ} → IsBelow type_rank group_rank q o (height_of p) (rank_of type_rank group_rank p) → Waits p os r → EndsDown l type_rank group_rank (height_of p) (rank_of type_rank group_rank p) (next_move o s) r w → Waits q (o ∷ os) s

  data GoesDown : List (Pending N G) → Move N G → Type 0 where
    before : {r : Reply} {w : ℕ} → RepliesDown l type_rank group_rank first r w → GoesDown [] (Asks first InRef)
    replied : {r : Reply} → GoesDown [] (Answered r)
    within : {q : Question N G} {os : List (Pending N G)} {m : Move N G} {s : Reply} {w : ℕ} → Waits q os s → EndsDown l type_rank group_rank (height_of q) (rank_of type_rank group_rank q) m s w → GoesDown os m

  goes_asked : {q : Question N G} {o : Pending N G} {os : List (Pending N G)} → GoesDown os (Asks q o) → GoesDown (o ∷ os) (first_move l q)
  goes_asked (before (replies d)) = within bottom d
  goes_asked (within w (after i (replies d) e)) = within (upon i w e) d

  goes_tried : {s : Sorting N} {os : List (Pending N G)} → GoesDown os (Tries s) → GoesDown os (next_entry s.entries s)
  goes_tried (within w (tries e)) = within w e

  goes_passed : {e : MapEntry N} {es : List (MapEntry N)} {s : Sorting N} {os : List (Pending N G)} → is_passed_over l.counting e.key_type s.key ≡ true → GoesDown os (Enters e es s) → GoesDown os (next_entry es s)
  goes_passed h (within w (passes_over i e)) = within w e
  goes_passed h (within w (enters i e)) = absurd (true_not_false (sym h ∙ i))

  goes_entered : {e : MapEntry N} {es : List (MapEntry N)} {s : Sorting N} {os : List (Pending N G)} → is_passed_over l.counting e.key_type s.key ≡ false → GoesDown os (Enters e es s) → GoesDown os (Asks (OfType e.key_type s.key_place s.key) (InKey e es s))
  goes_entered h (within w (passes_over i e)) = absurd (true_not_false (sym i ∙ h))
  goes_entered h (within w (enters i e)) = within w e

  goes_read : {c : Content} {b : List ℕ} {n : N} {p next : ℕ} {y : Value} {os : List (Pending N G)} → Holds c b y → GoesDown os (Reads c b n p next) → GoesDown os (Asks (OfType n 0 y) (InHeld p next))
  goes_read {n = n} {p = p} {next = next} h (within {q = q} {s = s} {w = v} w (reads k e)) = within w (subst (λ y. EndsDown l type_rank group_rank (height_of q) (rank_of type_rank group_rank q) (Asks (OfType n 0 y) (InHeld p next)) s v) (held_once h k) e)
  goes_read {y = y} h (within w (reads_nothing k)) = absurd (k y h)

  goes_unread : {c : Content} {b : List ℕ} {n : N} {p next : ℕ} {os : List (Pending N G)} → ((y : Value) → Holds c b y → ⊥) → GoesDown os (Reads c b n p next) → GoesDown os (Answered (Fails p))
  goes_unread k (within w (reads {y = y} h e)) = absurd (k y h)
  goes_unread k (within w (reads_nothing n)) = within w at_once

  goes_weighed : {n : ℕ} {r : Reply} {os : List (Pending N G)} → GoesDown os (Weighs n r) → GoesDown os (Answered r)
  goes_weighed (within w weighs) = within w at_once

  goes_answered : {s : Reply} {o : Pending N G} {os : List (Pending N G)} → GoesDown (o ∷ os) (Answered s) → GoesDown os (next_move o s)
  goes_answered (within bottom at_once) = replied
  goes_answered (within (upon i w e) at_once) = within w e

  reached_down : {os : List (Pending N G)} {m : Move N G} → ((r : Reply) × (w : ℕ) × RepliesDown l type_rank group_rank first r w) → IsReached l first os m → GoesDown os m
  reached_down d begun = before d.2
  reached_down d (asked h) = goes_asked (reached_down d h)
  reached_down d (tried h) = goes_tried (reached_down d h)
  reached_down d (passed i h) = goes_passed i (reached_down d h)
  reached_down d (entered i h) = goes_entered i (reached_down d h)
  reached_down d (read k h) = goes_read k (reached_down d h)
  reached_down d (read_nothing k h) = goes_unread k (reached_down d h)
  reached_down d (weighed h) = goes_weighed (reached_down d h)
  reached_down d (answered h) = goes_answered (reached_down d h)

  module _ (bound : ℕ) (ranks : (q : Question N G) → rank_of type_rank group_rank q ≤ bound) where
    -- how many are below a question, and itself
    abbrev level : Question N G → ℕ
    level q = suc bound * height_of q + rank_of type_rank group_rank q

    level_less : (s r S R : ℕ) → r ≤ bound → IsLess s r S R → suc bound * s + r < suc bound * S + R
    level_less s r S R h (inl i) = let j : suc s ≤ S = omega (arith, i) in omega (arith, h, mul-le-mul_left (suc bound) j)
    level_less s r S R h (inr i) = omega (arith, i.1, mul-le-mul_left (suc bound) i.0)

    below_less : (q p : Question N G) (o : Pending N G) → IsBelow type_rank group_rank q o (height_of p) (rank_of type_rank group_rank p) → level q < level p
    below_less (OfType n b x) p o i = level_less (size x) (type_rank n) (height_of p) (rank_of type_rank group_rank p) (ranks (OfType n b x)) i
    below_less (OfGroup g base b xs) p o i = level_less (list_size xs) (group_rank g) (height_of p) (rank_of type_rank group_rank p) (ranks (OfGroup g base b xs)) i
    below_less (OfAlternative es base ps) p o i = level_less (pairs_size ps) 0 (height_of p) (rank_of type_rank group_rank p) (omega arith) (inl i.0)

    one_more : (o : Pending N G) (os : List (Pending N G)) → IsMapOf no_pairs o → one_for_empty_map (o ∷ os) ≡ 1
    one_more (InMap ess base no_pairs sofar) os e = refl
    one_more (InMap ess base (pair k x ps) sofar) os e = cc e
    one_more _ os e = absurd e

    waits_bound : {q : Question N G} {os : List (Pending N G)} {s : Reply} → Waits q os s → length os + level q ≤ suc (level first)
    waits_bound bottom = omega arith
    waits_bound (upon {q = q} {p = p} {o = o} i w e) = omega (arith, waits_bound w, below_less q p o i)

    some_size : (q : Question N G) → 1 ≤ size_of q
    some_size (OfType n p x) = size_some x
    some_size (OfGroup g base q xs) = all_some xs
    some_size (OfAlternative es base ps) = omega arith

    no_higher : (q : Question N G) → height_of q ≤ size_of q
    no_higher (OfType n p x) = omega arith
    no_higher (OfGroup g base q xs) = omega arith
    no_higher (OfAlternative es base ps) = omega arith

    level_first : level first ≤ suc bound * size_of first + bound
    level_first = omega (arith, ranks first, mul-le-mul_left (suc bound) (no_higher first))

    -- what is open with the question q, for whose reply o waits
    with_last : (q p : Question N G) (o : Pending N G) (os : List (Pending N G)) → length os + level p ≤ suc (level first) → IsBelow type_rank group_rank q o (height_of p) (rank_of type_rank group_rank p) → suc (length os) ≤ suc bound * size_of first + one_for_empty_map (o ∷ os)
    with_last (OfType n b x) p o os h i = omega (arith, h, level_first, below_less (OfType n b x) p o i, mul-le-mul_left (suc bound) (size_some x))
    with_last (OfGroup g base b xs) p o os h i = omega (arith, h, level_first, below_less (OfGroup g base b xs) p o i, mul-le-mul_left (suc bound) (all_some xs))
    with_last (OfAlternative es base no_pairs) p o os h i =
        let j : 1 ≤ height_of p = omega (arith, i.0) in
        omega (arith, h, level_first, mul-le-mul_left (suc bound) j, one_more o os i.1)
    with_last (OfAlternative es base (pair k x ps)) p o os h i =
        let j : 1 ≤ pairs_size (pair k x ps) = omega (arith, key_less k x ps) in
        omega (arith, h, level_first, below_less (OfAlternative es base (pair k x ps)) p o i, mul-le-mul_left (suc bound) j)

    waits_few : {q : Question N G} {os : List (Pending N G)} {s : Reply} → Waits q os s → length os ≤ suc bound * size_of first + one_for_empty_map os
    waits_few bottom = omega (arith, mul-le-mul_left (suc bound) (some_size first))
    waits_few (upon {q = q} {p = p} {o = o} {os = os} i w e) = with_last q p o os (waits_bound w) i

    down_bound : {os : List (Pending N G)} {m : Move N G} → GoesDown os m → length os ≤ suc bound * size_of first + one_for_empty_map os
    down_bound (before d) = omega arith
    down_bound replied = omega arith
    down_bound (within w e) = waits_few w

module _ {N G : Type 0} (l : Language N G) (type_rank : N → ℕ) (group_rank : G → ℕ) (bound : ℕ) (ranked : IsRankedByForm l type_rank group_rank bound) where
  ranks_within : (q : Question N G) → rank_of type_rank group_rank q ≤ bound
  ranks_within (OfType n p x) = ranked.type_bound n
  ranks_within (OfGroup g base q xs) = ranked.group_bound g
  ranks_within (OfAlternative es base ps) = omega arith

  pub any_replies : (q : Question N G) → (r : Reply) × (w : ℕ) × RepliesDown l type_rank group_rank q r w
  any_replies (OfType n p x) = let d = type_replies l type_rank group_rank bound ranked n p x in (d.reply, d.weight, d.replies_down)
  any_replies (OfGroup g base q xs) = let d = group_replies l type_rank group_rank bound ranked g base q xs in (d.reply, d.weight, d.replies_down)
  any_replies (OfAlternative es base ps) = let d = alternative_replies l type_rank group_rank bound ranked es base ps in (d.reply, d.weight, d.replies_down)

  few_open_by_form : (first : Question N G) {os : List (Pending N G)} {m : Move N G} → IsReached l first os m → length os ≤ suc bound * size_of first + one_for_empty_map os
  few_open_by_form first h = down_bound l type_rank group_rank first bound ranks_within (reached_down l type_rank group_rank first (any_replies first) h)

  pub some_reply : (q : Question N G) → (r : Reply) × (w : ℕ) × Replies l q r w
  some_reply q = let d = any_replies q in (d.0, d.1, plain_replies l type_rank group_rank d.2)

module _ {N G : Type 0} (l : Language N G) (rank : Name N G → ℕ) (bound : ℕ) (ranked : IsRanked l rank bound) where
  pub few_are_open : (first : Question N G) {os : List (Pending N G)} {m : Move N G} → IsReached l first os m → length os ≤ suc bound * size_of first + one_for_empty_map os
  few_are_open first h = few_open_by_form l (types_by l rank) (groups_by l rank) bound (by_form l rank ranked) first h
