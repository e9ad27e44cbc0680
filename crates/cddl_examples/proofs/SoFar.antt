-- What a session has come to after some of the pieces.
use Rattle.std.proofs.Common.{◌≡◌, ℕ, zero, suc, ◌+◌, ◌<◌, ◌≤◌, List, [], ◌∷◌, ◌++◌, length, take, drop, map, get_or, flat_map, Option, Some, None, Result, Ok, refl, sym, ap, ◌∙◌, subst, arith, append-nil, append_assoc}
use Rattle.std.proofs.lemmas.List.{take_more}
use Rattle.std.proofs.lemmas.Grind.{flat_map-append}
use Rattle.cbor_data.specs.Faults.{Bounds}
use Rattle.cbor_data.specs.Sequence.{Found}
use Rattle.cbor_data.specs.Value.{Value}
use Rattle.cddl_language.specs.Terms.{Text}
use Rattle.cddl_table.specs.Text.{IsTabledText}
use Rattle.table_nodes.specs.declared.table.Table.{Table}
use Rattle.seq_run.specs.Answers.{Appends, IsAnswer, IsFinish, items_of}
use Rattle.seq_run.specs.Ends as by_table
use Rattle.seq_run.specs.Judge.{Judge, judge_of}
use Rattle.seq_run.specs.Progress.{Progress}
use Rattle.seq_run.specs.declared.end.End.{End}
use Rattle.seq_run.specs.declared.end.State.TheVariants as state
use Rattle.cddl.specs.Rules.{HasRoot, Rule}
use Rattle.cddl.specs.Tables.{SpeaksFor}
use Rattle.cddl_examples.specs.Receiving.{IsReceived}

-- All pieces so far were fed, these are the items, and the end is open.
pub record IsSoFar (judge : Judge) (l : Bounds) (p : Progress) (stream : List ℕ) (items : List Value) : Type 0 where
  pub judge_is : p.judge ≡ judge
  pub limits_are : p.limits ≡ l
  pub fed : p.fed ≡ stream
  pub going : p.stopped ≡ None
  pub items_are : items ≡ items_of p.taken

-- By the table, the stream has just these items, and ends so.
abbrev pub HasEnd : Judge → Bounds → List ℕ → List Value → End → Type 0
HasEnd judge l stream items end = (found : List Found) × by_table.Ends judge l stream found end × (items ≡ items_of found)

items-append : (fs gs : List Found) → items_of (fs ++ gs) ≡ items_of fs ++ items_of gs
items-append [] gs = refl
items-append (f ∷ fs) gs = ap (λ xs. f.item ∷ xs) (items-append fs gs)

pub at_first : (judge : Judge) (l : Bounds) (p : Progress) (items : List Value) → p ≡ record { judge = judge; limits = l; fed = []; taken = []; stopped = None } → items ≡ [] → IsSoFar judge l p [] items
at_first judge l p items e f = rw (e, f) (record { judge_is = refl; limits_are = refl; fed = refl; going = refl; items_are = refl })

module _ (judge : Judge) (l : Bounds) (old new : Progress) (stream piece : List ℕ) (items out : List Value) (s : IsSoFar judge l old stream items) (a : Appends old new items out) where
  same_items : out ≡ items_of new.taken
  same_items = a.out ∙ (ap (λ (xs : List Value). xs ++ items_of a.added) s.items_are ∙ (sym (items-append old.taken a.added) ∙ ap items_of (sym a.taken)))

  pub one_more : IsAnswer old.stopped old piece (Ok state.Open) new → IsSoFar judge l new (stream ++ piece) out
  one_more h =
      let answer : IsAnswer None old piece (Ok state.Open) new = subst (λ v. IsAnswer v old piece (Ok state.Open) new) s.going h in
      record { judge_is = a.judge ∙ s.judge_is; limits_are = a.limits ∙ s.limits_are; fed = answer.0 ∙ ap (λ (b : List ℕ). b ++ piece) s.fed; going = (answer.1).going; items_are = same_items }

  pub ended : (end : End) (more : List ℕ) → IsAnswer old.stopped old piece (Ok (state.Ended end)) new → HasEnd judge l ((stream ++ piece) ++ more) out end
  ended end more h =
      let answer : IsAnswer None old piece (Ok (state.Ended end)) new = subst (λ v. IsAnswer v old piece (Ok (state.Ended end)) new) s.going h in
      let by : by_table.Ends new.judge new.limits (new.fed ++ more) new.taken end = (answer.1).ends more in
      let fed : new.fed ≡ stream ++ piece = answer.0 ∙ ap (λ (b : List ℕ). b ++ piece) s.fed in (
        new.taken,
        subst (λ (j : Judge). by_table.Ends j l ((stream ++ piece) ++ more) new.taken end) (a.judge ∙ s.judge_is)
            (subst (λ (m : Bounds). by_table.Ends new.judge m ((stream ++ piece) ++ more) new.taken end) (a.limits ∙ s.limits_are)
            (subst (λ (b : List ℕ). by_table.Ends new.judge new.limits (b ++ more) new.taken end) fed by)),
        same_items,
      )

pub finished : (judge : Judge) (l : Bounds) (p new : Progress) (stream : List ℕ) (items : List Value) (end : End) → IsSoFar judge l p stream items → IsFinish p.stopped p (Ok end) new → HasEnd judge l stream items end
finished judge l p new stream items end s h =
    let answer : IsFinish None p (Ok end) new = subst (λ v. IsFinish v p (Ok end) new) s.going h in (
      p.taken,
      subst (λ (j : Judge). by_table.Ends j l stream p.taken end) s.judge_is
          (subst (λ (m : Bounds). by_table.Ends p.judge m stream p.taken end) s.limits_are
          (subst (λ (b : List ℕ). by_table.Ends p.judge p.limits b p.taken end) s.fed answer.0)),
      s.items_are,
    )

-- The same by the root rule of the text.
abbrev pub HaveRoots : Type 0
HaveRoots = (text : List ℕ) (named : Option Text) (table : Table) → IsTabledText text named table → (rule : Rule) × HasRoot text named rule × SpeaksFor rule table

pub received : HaveRoots → (text : List ℕ) (table : Table) (l : Bounds) (steps : ℕ) (stream : List ℕ) (items : List Value) (end : End) → IsTabledText text None table → HasEnd (judge_of table steps) l stream items end → IsReceived text l steps stream items end
received roots text table l steps stream items end t h =
    let r = roots text None table t in
    (r.0, r.1, h.0, ((r.2).stream steps l stream h.0 end).0 h.1, h.2)

-- The pieces so far, one more, and all of them.
take_all : {V : Type 0} (i : ℕ) (xs : List V) → length xs ≤ i → take i xs ≡ xs
take_all zero [] h = refl
take_all zero (x ∷ xs) h = absurd (omega arith)
take_all (suc i) [] h = refl
take_all (suc i) (x ∷ xs) h = let below : length xs ≤ i = omega arith in ap (λ ys. x ∷ ys) (take_all i xs below)

take_drop : {V : Type 0} (i : ℕ) (xs : List V) → take i xs ++ drop i xs ≡ xs
take_drop zero xs = refl
take_drop (suc i) [] = refl
take_drop (suc i) (x ∷ xs) = ap (λ ys. x ∷ ys) (take_drop i xs)

pub joined_more : {V : Type 0} (bytes : V → List ℕ) (pieces : List V) (i : ℕ) (piece : V) → i < length pieces → piece ≡ get_or pieces i piece → flat_map bytes (take (i + 1) pieces) ≡ flat_map bytes (take i pieces) ++ bytes piece
joined_more bytes pieces i piece h e =
    ap (flat_map bytes) (take_more pieces i piece h) ∙ (flat_map-append bytes (take i pieces) (get_or pieces i piece ∷ []) ∙ ap (λ (b : List ℕ). flat_map bytes (take i pieces) ++ b) (append-nil (bytes (get_or pieces i piece)) ∙ ap bytes (sym e)))

pub joined_all : {V : Type 0} (bytes : V → List ℕ) (pieces : List V) (i : ℕ) → length pieces ≤ i → flat_map bytes (take i pieces) ≡ flat_map bytes pieces
joined_all bytes pieces i h = ap (flat_map bytes) (take_all i pieces h)

-- with one more piece, and those that are left
pub joined_rest : {V : Type 0} (bytes : V → List ℕ) (pieces : List V) (i : ℕ) (piece : V) → i < length pieces → piece ≡ get_or pieces i piece → (flat_map bytes (take i pieces) ++ bytes piece) ++ flat_map bytes (drop (i + 1) pieces) ≡ flat_map bytes pieces
joined_rest bytes pieces i piece h e =
    ap (λ (b : List ℕ). b ++ flat_map bytes (drop (i + 1) pieces)) (sym (joined_more bytes pieces i piece h e))
    ∙ (sym (flat_map-append bytes (take (i + 1) pieces) (drop (i + 1) pieces)) ∙ ap (flat_map bytes) (take_drop (i + 1) pieces))
