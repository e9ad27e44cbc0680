-- What holds of a machine's parts after a turn.
use Rattle.std.proofs.Common.{◌≡◌, ℕ, suc, ◌+◌, ◌*◌, ◌^◌, ◌<◌, ◌≤◌, ◌⊎◌, inl, inr, List, [], ◌∷◌, length, reverse, refl, sym, ap, ◌∙◌, arith}
use Rattle.std.specs.Prelude.{Option, Some, None, vec_capacity, vec_len}
use Rattle.std.proofs.Math.Nat.{mul-le-mul_left}
use Rattle.std.proofs.lemmas.List.{length-append, length-map, length-reverse}
use Rattle.cbor_data.specs.Value.{Value, no_pairs}
use Rattle.cbor_data.specs.Sound.{IsSound}
use Rattle.cbor_data.specs.Preferred.{preferred}
use Rattle.cbor_data.proofs.Lemmas.{sound_preferred}
use Rattle.cddl_meaning.specs.Judges as J
use Rattle.cddl_meaning.specs.Judges.{Reply}
use Rattle.cddl_meaning.specs.Moves.{Question, Pending, InMap}
use Rattle.cddl_meaning.specs.Size.{size}
use Rattle.cddl_meaning.proofs.Lemmas.{one_saying, said, size_spelled}
use Rattle.cddl_match.specs.declared.answers.Verdict.TheVariants as V
use Rattle.cddl_meaning.specs.Ranks.Reached.{one_for_empty_map}
use Rattle.cddl_meaning.proofs.OfRanks.Lemmas.{few_are_open}
use Rattle.table_nodes.specs.Language.{language_of, rank_of, ranks_of}
use Rattle.table_nodes.specs.declared.nodes.GroupId.{GroupId}
use Rattle.table_nodes.specs.declared.nodes.TypeId.{TypeId}
use Rattle.table_nodes.specs.declared.table.Table.{Table}
use Rattle.cddl_match.specs.Machine.{IsStep, IsTurn, IsVerdict, LastNeedsRoom, NeedsMore, asked_in, next_in, noted, root_question}
use Rattle.cddl_match.specs.Open.{AreOpen, nothing}
use Rattle.cddl_match.specs.Progress.{GoesOnFor, IsMachine, Progress, no_turn, one_more}
use Rattle.cddl_match.specs.Machine.{verdict_of}
use Rattle.cddl_match.specs.Within.{Replied, Stopped, Says}
use Rattle.cddl_match.specs.declared.answers.Verdict.{Verdict}
use Rattle.cddl_match.specs.declared.answers.End.{End}
use Rattle.cddl_match.specs.declared.answers.End.TheVariants.{Said, NoMemory}
use Rattle.cddl_match.specs.declared.calls.Stop.TheVariants as S
use Rattle.cddl_match.specs.declared.stack.Run.{Run}
use Rattle.cddl_match.proofs.Open.{as_many, open_reached}
use Rattle.cddl_match.proofs.Room.{room}
use Rattle.cddl_match.proofs.Running.{at_most}
use Rattle.cddl_match.proofs.Turns.{replied}
use Rattle.cddl_match.proofs.Verdicts.{said_no, said_yes}

one_at_most : {N G : Type 0} (os : List (Pending N G)) → one_for_empty_map os ≤ 1
one_at_most [] = omega arith
one_at_most (o ∷ os) = by o os
  where
    by : {N G : Type 0} (o : Pending N G) (os : List (Pending N G)) → one_for_empty_map (o ∷ os) ≤ 1
    by (InMap ess base no_pairs sofar) os = omega arith
    by _ os = omega arith

one_more_row : (k n : ℕ) → suc k * n + suc k ≡ (k + 1) * (n + 1)
one_more_row k n = grind arith

-- few questions are open
pub open_few : (t : Table) (x : Value) (qs : List (Question TypeId GroupId)) → IsSound x → AreOpen (language_of t) (root_question t x) qs → length qs ≤ (ranks_of t + 1) * (length (preferred x) + 1)
open_few t x qs s (os, m, h) =
    let few = few_are_open (language_of t) (rank_of t) t.ranks t.ranked (root_question t x) (open_reached (language_of t) h) in
    let many = as_many (language_of t) h in
    let turned : length (reverse qs) ≡ length qs = length-reverse qs in
    let small : size x ≤ length (preferred x) = size_spelled x (preferred x) (sound_preferred x s) in
    rw (sym t.bound) (omega (arith, few, many, turned, one_at_most os, mul-le-mul_left (suc t.ranks) small, one_more_row t.ranks (length (preferred x))))

module _ (t : Table) (x : Value) (steps space : ℕ) (before after : Run) where
  pub goes : IsMachine t x steps space before None → IsStep (language_of t) (root_question t x) steps before after → vec_capacity before.waiting ≤ vec_capacity after.waiting → IsMachine t x steps space after None
  goes m s more = record {
    sound = m.sound;
    parts = s.run;
    within = s.within;
    least = λ a w d. omega (arith, at_most (language_of t) s.run.at _ w (said (language_of t) (room x m.sound) d));
    room_kept = omega (arith, m.room_kept, more);
  }

  open_after : IsMachine t x steps space before None → ((asked_in after.waiting.items ≡ asked_in before.waiting.items) ⊎ (asked_in after.waiting.items ≡ [])) → AreOpen (language_of t) (root_question t x) (asked_in after.waiting.items)
  open_after m (inl e) = rw e (_, _, m.parts.at.opened)
  open_after m (inr e) = rw e (_, _, nothing)

  pub says : (v : Verdict) → IsMachine t x steps space before None → IsVerdict t x steps v → ((asked_in after.waiting.items ≡ asked_in before.waiting.items) ⊎ (asked_in after.waiting.items ≡ [])) → after.taken ≡ before.taken → vec_capacity before.waiting ≤ vec_capacity after.waiting → IsMachine t x steps space after (Some (Said v))
  says v m i e same more = record {
    sound = m.sound;
    parts = (i, open_after m e);
    within = omega (arith, m.within, same);
    least = λ a w d. omega (arith, same, m.least a w d);
    room_kept = omega (arith, m.room_kept, more);
  }

  pub fails : IsMachine t x steps space before None → asked_in after.waiting.items ≡ asked_in before.waiting.items → after.taken ≡ before.taken → vec_capacity before.waiting ≤ vec_capacity after.waiting → IsMachine t x steps space after (Some NoMemory)
  fails m e same more = record {
    sound = m.sound;
    parts = open_after m (inl e);
    within = omega (arith, m.within, same);
    least = λ a w d. omega (arith, same, m.least a w d);
    room_kept = omega (arith, m.room_kept, more);
  }

-- Memory is wanted only where there was no room, or for something else than one question more.
pub wants_room : (t : Table) (x : Value) (steps space : ℕ) (r : Run) → IsMachine t x steps space r None → (vec_capacity r.waiting ≤ vec_len r.waiting) ⊎ NeedsMore (language_of t) r (next_in r) → (space ≤ length (asked_in r.waiting.items)) ⊎ LastNeedsRoom (language_of t) (asked_in r.waiting.items)
wants_room t x steps space r m (inl full) =
    let many : length (asked_in r.waiting.items) ≡ length r.waiting.items = length-map r.waiting.items (λ w. noted w.asked) in
    inl (omega (arith, m.room_kept, full, many))
wants_room t x steps space r m (inr more) = inr (more (root_question t x) _ refl m.parts.at)

-- What the first question comes to is a verdict where that is what the root type is asked.
pub is_verdict : (t : Table) (x : Value) (steps left : ℕ) (r : Reply) → IsSound x → Says (language_of t) (root_question t x) steps left (Replied r) → IsVerdict t x steps (verdict_of r)
is_verdict t x steps left (J.Takes xs next far) s h = (_, said_yes (language_of t) (J.Takes xs next far) (room x s) refl (replied (language_of t) h.0), omega arith)
is_verdict t x steps left (J.Fails far) s h = (_, said_no (language_of t) (J.Fails far) (room x s) refl (replied (language_of t) h.0), omega arith)

pub is_spent_verdict : (t : Table) (x : Value) (steps : ℕ) → IsSound x → Says (language_of t) (root_question t x) steps 0 (Stopped S.Spent) → IsVerdict t x steps V.Spent
is_spent_verdict t x steps s h = λ a w d. h _ w (said (language_of t) (room x s) d)

-- the open questions of any machine
pub opened_so : (t : Table) (x : Value) (steps space : ℕ) (r : Run) (e : Option End) → IsMachine t x steps space r e → AreOpen (language_of t) (root_question t x) (asked_in r.waiting.items)
opened_so t x steps space r None m = (_, _, m.parts.at.opened)
opened_so t x steps space r (Some (Said v)) m = m.parts.1
opened_so t x steps space r (Some NoMemory) m = m.parts

-- There is one verdict at most.
pub verdict_once : (t : Table) (x : Value) (steps : ℕ) (u v : Verdict) → 0 + size x < 2 ^ 64 → IsVerdict t x steps u → IsVerdict t x steps v → v ≡ u
verdict_once t x steps V.Yes V.Yes f a b = refl
verdict_once t x steps V.Yes (V.No q) f a b = cc ((one_saying (language_of t) f a.1 b.1).0)
verdict_once t x steps V.Yes V.Spent f a b = absurd (omega (arith, a.2, b _ _ a.1))
verdict_once t x steps (V.No p) V.Yes f a b = cc ((one_saying (language_of t) f a.1 b.1).0)
verdict_once t x steps (V.No p) (V.No q) f a b = cc ((one_saying (language_of t) f a.1 b.1).0)
verdict_once t x steps (V.No p) V.Spent f a b = absurd (omega (arith, a.2, b _ _ a.1))
verdict_once t x steps V.Spent V.Yes f a b = absurd (omega (arith, b.2, a _ _ b.1))
verdict_once t x steps V.Spent (V.No q) f a b = absurd (omega (arith, b.2, a _ _ b.1))
verdict_once t x steps V.Spent V.Spent f a b = refl

-- Turns that go on keep the table, the item and the steps: so what one of them answers is the only verdict.
kept_for : {n : ℕ} {m k : Progress} → GoesOnFor n m k → (k.table ≡ m.table) × (k.item ≡ m.item) × (k.steps ≡ m.steps)
kept_for no_turn = (refl, refl, refl)
kept_for (one_more d same g) = let i = kept_for d in (same.table ∙ i.0, same.item ∙ i.1, same.steps ∙ i.2)

pub same_by_turns : (n : ℕ) (m k : Progress) (u v : Verdict) → 0 + size m.item < 2 ^ 64 → GoesOnFor n m k → IsVerdict m.table m.item m.steps u → IsVerdict k.table k.item k.steps v → v ≡ u
same_by_turns n m k u v f d a b = let i = kept_for d in verdict_once m.table m.item m.steps u v f a (rw (i.0, i.1, i.2) at b)

-- Few turns go on: each takes a step, and asks one question more at most, or takes one off.
turns_counted : {n : ℕ} {m k : Progress} → GoesOnFor n m k → m.taken ≡ 0 → m.asked ≡ [] → (n + length k.asked ≤ 2 * k.taken) × (k.taken ≤ m.steps ⊎ (n ≡ 0)) × (k.steps ≡ m.steps)
turns_counted {m = m} no_turn t a = (omega (arith, ap length a), inr refl, refl)
turns_counted {m = m} (one_more {n = n} {k = k} {next = next} d same g) t a =
    let i = turns_counted d t a in
    let steps : next.steps ≡ m.steps = same.steps ∙ i.2 in
    let within : next.taken ≤ m.steps = rw (← steps) g.within in
    (counted n k next g.turn i.0, inl within, steps)
  where
    counted : (n : ℕ) (k next : Progress) → IsTurn k.taken k.asked next.taken next.asked → n + length k.asked ≤ 2 * k.taken → suc n + length next.asked ≤ 2 * next.taken
    counted n k next (inl (later, inl same)) h = omega (arith, h, later, ap length same)
    counted n k next (inl (later, inr (q, more))) h = omega (arith, h, later, ap length more, length-append k.asked (q ∷ []))
    counted n k next (inr (later, (q, less))) h = omega (arith, h, later, ap length less, length-append next.asked (q ∷ []))

pub few_turns : (n : ℕ) (m k : Progress) → m.taken ≡ 0 → m.asked ≡ [] → GoesOnFor n m k → n ≤ 2 * m.steps
few_turns n m k t a d = by n (turns_counted d t a)
  where
    by : (n : ℕ) → (n + length k.asked ≤ 2 * k.taken) × (k.taken ≤ m.steps ⊎ (n ≡ 0)) × (k.steps ≡ m.steps) → n ≤ 2 * m.steps
    by n (h, inl within, s) = omega (arith, h, within)
    by n (h, inr none, s) = omega (arith, none)
