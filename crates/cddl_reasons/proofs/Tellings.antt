-- What a reason tells.
use Rattle.std.proofs.Common.{◌≡◌, ◌≢◌, ℕ, ◌+◌, ◌<◌, ◌≤◌, ◌==◌, Bool, true, List, [], ◌∷◌, ◌++◌, get_or, length, subst, take, append_assoc, arith, ap, sym, ◌∙◌, refl, ◌||◌, nat_eq, nat_lt}
use Rattle.std.proofs.lemmas.Bool.Decides.{nat_tests}
use Rattle.std.proofs.lemmas.List.{append-nil, length_push, length-take, take_all, take_more}
use Rattle.std.specs.List.{list_any}
use Rattle.cddl_meaning.specs.Forms as F
use Rattle.cddl_meaning.specs.Forms.{Language}
use Rattle.cbor_data.specs.Value.{Value}
use Rattle.cddl_meaning.specs.Judges.{Reply, No}
use Rattle.cddl_meaning.specs.Moves as M
use Rattle.cddl_meaning.specs.Moves.{Question, Pending, Answered, Replies}
use Rattle.std.proofs.lemmas.List.Elements.{All-nil, All-push, All-take}
use Rattle.std.proofs.Math.Nat.{le_trans, min-le_right}
use Rattle.cddl_match.specs.Open.{AreOpenWith, further}
use Rattle.cddl_match.proofs.Lemmas.{comes_replies}
use Rattle.cddl_reasons.specs.Opened.{asked_in, waits_in}
use Rattle.cddl_reasons.specs.Told.{AreReasons, AreSome, EndIn, IsCause, IsCount, IsEntryOf, IsReason, links_of, part_of, string_of, strings_of, type_of, has_key}
use Rattle.cddl_reasons.specs.declared.causes.Cause.{Cause}
use Rattle.cddl_reasons.specs.declared.causes.Cause.TheVariants as C
use Rattle.cddl_reasons.specs.declared.causes.Reason.{Reason}
use Rattle.cddl_reasons.specs.declared.causes.Reasons.{Reasons}
use Rattle.cddl_reasons.specs.declared.run.Open.{Open}
use Rattle.match_moves.specs.Views.{pending_view, question_view}
use Rattle.cddl_match.specs.Machine.{root_question}
use Rattle.table_nodes.specs.Language.{RootSays, language_of}
use Rattle.table_nodes.specs.Nodes.{entries_view}
use Rattle.table_nodes.specs.declared.nodes.MapEntry.{MapEntry}
use Rattle.table_nodes.specs.declared.table.Table.{Table}
use Rattle.table_nodes.specs.declared.nodes.GroupId.{GroupId}
use Rattle.table_nodes.specs.declared.nodes.TypeId.{TypeId}

-- An open question has the reply to which it has come.
pub open_replies : (l : Language TypeId GroupId) {first q : Question TypeId GroupId} {qs : List (Question TypeId GroupId)} {os : List (Pending TypeId GroupId)} {r : Reply} → AreOpenWith l first (q ∷ qs) os (Answered r) → (w : ℕ) × Replies l q r w
open_replies l (further h c) = comes_replies l c M.at_once

links_push : (os : List Open) (o : Open) → links_of (asked_in (os ++ o ∷ [])) (waits_in (os ++ o ∷ [])) ≡ links_of (asked_in os) (waits_in os) ++ (type_of (question_view o.question) ++ part_of (pending_view o.pending))
links_push [] o = append-nil (type_of (question_view o.question) ++ part_of (pending_view o.pending))
links_push (x ∷ xs) o =
    let first = type_of (question_view x.question) ++ part_of (pending_view x.pending) in
    ap (λ ts. first ++ ts) (links_push xs o) ∙ sym (append_assoc first (links_of (asked_in xs) (waits_in xs)) (type_of (question_view o.question) ++ part_of (pending_view o.pending)))

strings_push : (l : Language TypeId GroupId) (os : List Open) (o : Open) → strings_of l (asked_in (os ++ o ∷ [])) (waits_in (os ++ o ∷ [])) ≡ strings_of l (asked_in os) (waits_in os) ++ string_of l (question_view o.question) (pending_view o.pending)
strings_push l [] o = append-nil (string_of l (question_view o.question) (pending_view o.pending))
strings_push l (x ∷ xs) o =
    let first = string_of l (question_view x.question) (pending_view x.pending) in
    ap (λ ss. first ++ ss) (strings_push l xs o) ∙ sym (append_assoc first (strings_of l (asked_in xs) (waits_in xs)) (string_of l (question_view o.question) (pending_view o.pending)))

-- one more of them
one_more : (xs : List Open) (i : ℕ) (o : Open) → i < length xs → o ≡ get_or xs i o → take (i + 1) xs ≡ take i xs ++ o ∷ []
one_more xs i o lt e = take_more xs i o lt ∙ ap (λ x. take i xs ++ x ∷ []) (sym e)

pub links_more : (xs : List Open) (i : ℕ) (o : Open) → i < length xs → o ≡ get_or xs i o → links_of (asked_in (take (i + 1) xs)) (waits_in (take (i + 1) xs)) ≡ links_of (asked_in (take i xs)) (waits_in (take i xs)) ++ (type_of (question_view o.question) ++ part_of (pending_view o.pending))
links_more xs i o lt e = ap (λ ys. links_of (asked_in ys) (waits_in ys)) (one_more xs i o lt e) ∙ links_push (take i xs) o

pub links_whole : (xs : List Open) (i : ℕ) → length xs ≤ i → links_of (asked_in (take i xs)) (waits_in (take i xs)) ≡ links_of (asked_in xs) (waits_in xs)
links_whole xs i le = ap (λ ys. links_of (asked_in ys) (waits_in ys)) (take_all i xs le)

pub strings_more : (l : Language TypeId GroupId) (xs : List Open) (i : ℕ) (o : Open) → i < length xs → o ≡ get_or xs i o → strings_of l (asked_in (take (i + 1) xs)) (waits_in (take (i + 1) xs)) ≡ strings_of l (asked_in (take i xs)) (waits_in (take i xs)) ++ string_of l (question_view o.question) (pending_view o.pending)
strings_more l xs i o lt e = ap (λ ys. strings_of l (asked_in ys) (waits_in ys)) (one_more xs i o lt e) ∙ strings_push l (take i xs) o

pub strings_whole : (l : Language TypeId GroupId) (xs : List Open) (i : ℕ) → length xs ≤ i → strings_of l (asked_in (take i xs)) (waits_in (take i xs)) ≡ strings_of l (asked_in xs) (waits_in xs)
strings_whole l xs i le = ap (λ ys. strings_of l (asked_in ys) (waits_in ys)) (take_all i xs le)

-- the first of the last entries, and those after it
pub end_has : (es left others : List (F.MapEntry TypeId)) (e : F.MapEntry TypeId) → left ≡ e ∷ others → EndIn es left → EndIn es (e ∷ others)
end_has es left others e is h = subst (λ xs. EndIn es xs) is h

pub end_next : (es left others : List (F.MapEntry TypeId)) (e : F.MapEntry TypeId) → left ≡ e ∷ others → EndIn es left → EndIn es others
end_next es left others e is h = record {
  first = h.first ++ e ∷ [];
  whole = h.whole ∙ ap (λ xs. h.first ++ xs) is ∙ sym (append_assoc h.first (e ∷ []) others);
}

-- What is so of an entry's count is a cause.
pub counted_cause : (l : Language TypeId GroupId) (q : Question TypeId GroupId) (far : ℕ) (e : F.MapEntry TypeId) (es : List (F.MapEntry TypeId)) (c : Cause) → IsEntryOf q far e es → IsCount e es c → IsCause l q far c
counted_cause l q far e es (C.Few key count least) i h = (e, es, i, h)
counted_cause l q far e es (C.Many key count most later) i h = (e, es, i, h)
counted_cause l q far e es C.Value i h = absurd h
counted_cause l q far e es (C.Missing m) i h = absurd h
counted_cause l q far e es C.TooMuch i h = absurd h
counted_cause l q far e es C.Stray i h = absurd h
counted_cause l q far e es (C.NothingHeld c) i h = absurd h

-- a test of the key types of entries, as the definitions have them
pub any_key : (key : TypeId) (es : List MapEntry) → list_any (λ (e : MapEntry). nat_eq e.key_type.number key.number) es ≡ has_key key (entries_view es)
any_key key [] = refl
any_key key (e ∷ es) = ap (λ (b : Bool). nat_eq e.key_type.number key.number || b) (any_key key es)

-- one more of them, where there is room
pub pushed_some : (l : Language TypeId GroupId) (first : Question TypeId GroupId) (most : ℕ) (rs : List Reason) (r : Reason) → AreSome l first most rs → IsReason l first r → length rs < most → AreSome l first most (rs ++ r ∷ [])
pushed_some l first most rs r some is room = (All-push (IsReason l first) rs r some.0 is, rw (length_push rs r) (omega (arith, room)))

pub taken_some : (l : Language TypeId GroupId) (first : Question TypeId GroupId) (most n : ℕ) (rs : List Reason) → AreSome l first most rs → AreSome l first most (take n rs)
taken_some l first most n rs some = (All-take (IsReason l first) n rs some.0, rw (length-take n rs) (le_trans (min-le_right n (length rs)) some.1))

pub room_left : (a b : ℕ) (r : Bool) → r ≡ nat_lt a b → r ≡ true → a < b
room_left a b r is h = let t : nat_lt a b ≡ true = sym is ∙ h in grind (arith, nat_tests, t)

none_there : (rs : List Reason) (e : Bool) → e ≡ (length rs == 0) → e ≡ true → length rs ≡ 0
none_there rs e is h = let t : (length rs == 0) ≡ true = sym is ∙ h in grind (arith, nat_tests, t)

-- the first one, where one is asked for
pub first_some : (l : Language TypeId GroupId) (first : Question TypeId GroupId) (most : ℕ) (rs : List Reason) (r : Reason) (e : Bool) → AreSome l first most rs → IsReason l first r → e ≡ (length rs == 0) → e ≡ true → most ≢ 0 → AreSome l first most (rs ++ r ∷ [])
first_some l first most rs r e some is empty h asked = pushed_some l first most rs r some is (omega (arith, none_there rs e empty h, asked))

pub none_some : (l : Language TypeId GroupId) (first : Question TypeId GroupId) (most : ℕ) → AreSome l first most []
none_some l first most = (All-nil (IsReason l first), omega arith)

-- what is told of a no
pub are_reasons : (t : Table) (x : Value) (steps most place : ℕ) (r : Reasons) → r.place ≡ place → ((w : ℕ) → RootSays t x (No place) w → AreSome (language_of t) (root_question t x) most r.list.items) → (0 < most → 0 < length r.list.items) → (w : ℕ) × RootSays t x (No place) w × (w ≤ steps) → AreReasons t x steps most r
are_reasons t x steps most place r at each some said = record { verdict = rw at said; each = each said.0 said.1; some = some }
