-- What callers see of a machine, and what its turns do.
use Rattle.std.specs.Prelude.{◌≡◌, ℕ, suc, ◌<◌, ◌≤◌, ◌⊎◌, List, Bool, Option, Some, None, Result, Ok, IsErr, length, refl, vec_capacity}
use Rattle.std.proofs.Common.{inl, inr}
use Rattle.std.specs.Coded.{Coded, code_by, coded×, coded⊎, coded_ℕ, coded_bool, coded_list, coded_option}
use Rattle.cbor_data.specs.Value.{Value, Pairs}
use Rattle.cbor_data.specs.Sound.{IsSound}
use Rattle.cbor_data.specs.Codes.{coded_value, coded_pairs}
use Rattle.cddl_meaning.specs.Forms.{Most, at_most, any_number_of, MapEntry}
use Rattle.cddl_meaning.specs.Judges.{Answer}
use Rattle.cddl_meaning.specs.Moves.{Question, OfType, OfGroup, OfAlternative}
use Rattle.table_nodes.specs.Language.{RootSays, language_of}
use Rattle.table_nodes.specs.declared.nodes.GroupId.{GroupId}
use Rattle.table_nodes.specs.declared.nodes.TypeId.{TypeId}
use Rattle.table_nodes.specs.contracts.nodes.GroupId.{the_row as group_row}
use Rattle.table_nodes.specs.contracts.nodes.TypeId.{the_row as type_row}
use Rattle.table_nodes.specs.declared.table.Table.{Table}
use Rattle.table_nodes.specs.contracts.table.Table.{the_row as table_row}
use Rattle.cddl_match.specs.Machine.{IsRun, IsTurn, IsVerdict, asked_in, root_question}
use Rattle.cddl_match.specs.Open.{AreOpen}
use Rattle.cddl_match.specs.declared.answers.Verdict.{Verdict}
use Rattle.cddl_match.specs.declared.answers.End.{End}
use Rattle.cddl_match.specs.declared.answers.End.TheVariants.{Said, NoMemory}
use Rattle.cddl_match.specs.contracts.answers.End.{the_row as end_row}
use Rattle.cddl_match.specs.declared.stack.Run.{Run}

-- the table and the item; the most steps, and how many questions there is room for; the steps taken so far and the open
-- questions, the first one first; and what ended it, if something has
pub record Progress : Type 0 where
  pub table : Table
  pub item : Value
  pub steps : ℕ
  pub room : ℕ
  pub taken : ℕ
  pub asked : List (Question TypeId GroupId)
  pub ended : Option End

abbrev most_code : Most → Option ℕ
most_code (at_most n) = Some n
most_code any_number_of = None

abbrev most_from : Option ℕ → Most
most_from (Some n) = at_most n
most_from None = any_number_of

pub most_back : (m : Most) → most_from (most_code m) ≡ m
most_back (at_most n) = refl
most_back any_number_of = refl

abbrev coded_most : Coded Most
coded_most = code_by (Option ℕ) (coded_option coded_ℕ) most_code most_from most_back

abbrev coded_entry : Coded (MapEntry TypeId)
coded_entry =
    code_by (ℕ × (Most × (TypeId × (Bool × TypeId)))) (coded× coded_ℕ (coded× coded_most (coded× type_row.coded (coded× coded_bool type_row.coded))))
    (λ e. (e.least, (e.most, (e.key_type, (e.cuts, e.value_type)))))
    (λ p. record { least = p.0; most = p.1.0; key_type = p.1.1.0; cuts = p.1.1.1.0; value_type = p.1.1.1.1 })
    (λ _. refl)

abbrev Stored : Type 0
Stored = (TypeId × (ℕ × Value)) ⊎ ((GroupId × (ℕ × (ℕ × List Value))) ⊎ (List (MapEntry TypeId) × (ℕ × Pairs)))

abbrev question_code : Question TypeId GroupId → Stored
question_code (OfType n p x) = inl (n, (p, x))
question_code (OfGroup g base q xs) = inr (inl (g, (base, (q, xs))))
question_code (OfAlternative es base ps) = inr (inr (es, (base, ps)))

abbrev question_from : Stored → Question TypeId GroupId
question_from (inl (n, (p, x))) = OfType n p x
question_from (inr (inl (g, (base, (q, xs))))) = OfGroup g base q xs
question_from (inr (inr (es, (base, ps)))) = OfAlternative es base ps

pub question_back : (q : Question TypeId GroupId) → question_from (question_code q) ≡ q
question_back (OfType n p x) = refl
question_back (OfGroup g base q xs) = refl
question_back (OfAlternative es base ps) = refl

abbrev coded_question : Coded (Question TypeId GroupId)
coded_question =
    code_by Stored (coded⊎ (coded× type_row.coded (coded× coded_ℕ coded_value)) (coded⊎ (coded× group_row.coded (coded× coded_ℕ (coded× coded_ℕ (coded_list coded_value)))) (coded× (coded_list coded_entry) (coded× coded_ℕ coded_pairs))))
    question_code question_from question_back

abbrev coded_ended : Coded End
coded_ended = end_row.coded

abbrev pub coded_progress : Coded Progress
coded_progress =
    code_by (Table × (Value × (ℕ × (ℕ × (ℕ × (List (Question TypeId GroupId) × Option End))))))
    (coded× table_row.coded (coded× coded_value (coded× coded_ℕ (coded× coded_ℕ (coded× coded_ℕ (coded× (coded_list coded_question) (coded_option coded_ended)))))))
    (λ p. (p.table, (p.item, (p.steps, (p.room, (p.taken, (p.asked, p.ended)))))))
    (λ p. record { table = p.0; item = p.1.0; steps = p.1.1.0; room = p.1.1.1.0; taken = p.1.1.1.1.0; asked = p.1.1.1.1.1.0; ended = p.1.1.1.1.1.1 })
    (λ _. refl)

-- the view of a machine of these parts
abbrev pub progress_of : Table → Value → (steps room : ℕ) → Run → Option End → Progress
progress_of t x steps room r ended = record { table = t; item = x; steps = steps; room = room; taken = r.taken; asked = asked_in r.waiting.items; ended = ended }

-- what holds of a run, by what ended it, if something has
abbrev pub AreParts : Table → Value → ℕ → Option End → Run → Type 0
AreParts t x steps None r = IsRun (language_of t) (root_question t x) r
AreParts t x steps (Some (Said v)) r = IsVerdict t x steps v × AreOpen (language_of t) (root_question t x) (asked_in r.waiting.items)
AreParts t x steps (Some NoMemory) r = AreOpen (language_of t) (root_question t x) (asked_in r.waiting.items)

-- what holds of a machine's parts
pub record IsMachine (t : Table) (x : Value) (steps room : ℕ) (r : Run) (ended : Option End) : Type 0 where
  pub sound : IsSound x
  pub parts : AreParts t x steps ended r
  pub within : r.taken ≤ steps
  pub least : (a : Answer) (w : ℕ) → RootSays t x a w → r.taken ≤ w
  pub room_kept : room ≤ vec_capacity r.waiting

-- The table, the item, the most steps and the room are the same.
pub record IsSame (old new : Progress) : Type 0 where
  pub table : new.table ≡ old.table
  pub item : new.item ≡ old.item
  pub steps : new.steps ≡ old.steps
  pub room : new.room ≡ old.room

-- A turn goes on: it takes one step, and one question more is open or none; or the last one is taken off. Some question is
-- open then.
pub record GoesOn (old new : Progress) : Type 0 where
  pub before : old.ended ≡ None
  pub after : new.ended ≡ None
  pub turn : IsTurn old.taken old.asked new.taken new.asked
  pub some : 0 < length new.asked
  pub within : new.taken ≤ new.steps

-- what a machine answers that has ended
abbrev pub IsAnswer : {E : Type 0} → Result (Option Verdict) E → End → Type 0
IsAnswer r (Said v) = r ≡ Ok (Some v)
IsAnswer r NoMemory = IsErr r

-- So many turns lead from the one to the other, each of which went on.
pub data GoesOnFor : ℕ → Progress → Progress → Type 0 where
  no_turn : {m : Progress} → GoesOnFor 0 m m
  one_more : {n : ℕ} {m k next : Progress} → GoesOnFor n m k → IsSame k next → GoesOn k next → GoesOnFor (suc n) m next
