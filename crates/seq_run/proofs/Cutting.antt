-- A stream that is fed in pieces.
use Rattle.std.proofs.Common.{◌≡◌, ℕ, zero, suc, ◌+◌, ◌<◌, ◌≤◌, List, [], ◌∷◌, ◌++◌, length, take, get_or, flat_map, Option, Some, None, Ok, refl, sym, ap, ◌∙◌, subst, arith, append-nil, append_assoc}
use Rattle.std.proofs.lemmas.List.{take_more}
use Rattle.std.proofs.lemmas.Grind.{flat_map-append}
use Rattle.cbor_data.specs.Value.{Value}
use Rattle.cbor_data.specs.Faults.{Bounds}
use Rattle.cbor_data.specs.Sequence.{Found}
use Rattle.seq_run.specs.Judge.{Judge}
use Rattle.seq_run.specs.declared.end.End.{End}
use Rattle.seq_run.specs.declared.end.State.{State}
use Rattle.seq_run.specs.declared.end.State.TheVariants as state
use Rattle.seq_run.specs.declared.end.Stopped.{Stopped}
use Rattle.seq_run.specs.declared.end.Stopped.TheVariants.{Ended, Memory}
use Rattle.seq_run.specs.Ends.{Ends}
use Rattle.seq_run.specs.Progress.{Progress}
use Rattle.seq_run.specs.Answers.{items_of, IsAnswer, Appends, IsFinish}
use Rattle.seq_run.proofs.Feeding.{items_of-append}

take_all : {V : Type 0} (i : ℕ) (xs : List V) → length xs ≤ i → take i xs ≡ xs
take_all zero [] h = refl
take_all zero (x ∷ xs) h = absurd (omega arith)
take_all (suc i) [] h = refl
take_all (suc i) (x ∷ xs) h = let below : length xs ≤ i = omega arith in ap (λ ys. x ∷ ys) (take_all i xs below)

-- what is known of the stream so far: it was all fed, or its end is known whatever comes
abbrev pub IsKnown : Option Stopped → Progress → List ℕ → Type 0
IsKnown None p stream = p.fed ≡ stream
IsKnown (Some (Ended end)) p stream = (more : List ℕ) → Ends p.judge p.limits (stream ++ more) p.taken end
IsKnown (Some Memory) p stream = ⊥

pub record IsCut (judge : Judge) (l : Bounds) (p : Progress) (stream : List ℕ) (out : List Value) : Type 0 where
  pub known : IsKnown p.stopped p stream
  pub items : out ≡ items_of p.taken
  pub judge_is : p.judge ≡ judge
  pub limits_is : p.limits ≡ l

module _ (judge : Judge) (l : Bounds) (old new : Progress) (stream piece : List ℕ) (out out_new : List Value) (c : IsCut judge l old stream out) (a : Appends old new out out_new) where
  kept : IsKnown new.stopped new (stream ++ piece) → IsCut judge l new (stream ++ piece) out_new
  kept k = record {
    known = k;
    items = a.out ∙ (ap (λ (xs : List Value). xs ++ items_of a.added) c.items ∙ (sym (items_of-append old.taken a.added) ∙ ap items_of (sym a.taken)));
    judge_is = a.judge ∙ c.judge_is;
    limits_is = a.limits ∙ c.limits_is;
  }

  known_on : (st : Option Stopped) → old.stopped ≡ st → IsKnown st old stream → (s : State) → IsAnswer st old piece (Ok s) new → IsKnown new.stopped new (stream ++ piece)
  known_on None e k state.Open (fed, open_now) =
      subst (λ v. IsKnown v new (stream ++ piece)) (sym open_now.going) (fed ∙ ap (λ (b : List ℕ). b ++ piece) k)
  known_on None e k (state.Ended end) (fed, ended) =
      subst (λ v. IsKnown v new (stream ++ piece)) (sym ended.stopped)
      (λ more. subst (λ (b : List ℕ). Ends new.judge new.limits (b ++ more) new.taken end) (fed ∙ ap (λ (b : List ℕ). b ++ piece) k) (ended.ends more))
  known_on (Some (Ended end)) e k s (answer, same) =
      let there : IsKnown (Some (Ended end)) new (stream ++ piece) = λ more.
      subst (λ (p : Progress). Ends p.judge p.limits ((stream ++ piece) ++ more) p.taken end) (sym same)
      (subst (λ (b : List ℕ). Ends old.judge old.limits b old.taken end) (sym (append_assoc stream piece more)) (k (piece ++ more))) in
      subst (λ v. IsKnown v new (stream ++ piece)) (sym (ap (λ (p : Progress). p.stopped) same ∙ e)) there
  known_on (Some Memory) e k s h = absurd k

  pub cut_more : (s : State) → IsAnswer old.stopped old piece (Ok s) new → IsCut judge l new (stream ++ piece) out_new
  cut_more s h = kept (known_on old.stopped refl c.known s h)

finish_known : (st : Option Stopped) (p new : Progress) (stream : List ℕ) (end : End) → p.stopped ≡ st → IsKnown st p stream → IsFinish st p (Ok end) new → Ends p.judge p.limits stream p.taken end
finish_known None p new stream end e k (ends, next) = subst (λ (b : List ℕ). Ends p.judge p.limits b p.taken end) k ends
finish_known (Some (Ended had)) p new stream end e k (answer, next) =
    let same : end ≡ had = cc in
    subst (λ (v : End). Ends p.judge p.limits stream p.taken v) (sym same) (subst (λ (b : List ℕ). Ends p.judge p.limits b p.taken had) (append-nil stream) (k []))
finish_known (Some Memory) p new stream end e k h = absurd k

pub finish_cut : (judge : Judge) (l : Bounds) (p new : Progress) (stream : List ℕ) (out : List Value) (end : End) → IsCut judge l p stream out → IsFinish p.stopped p (Ok end) new →
    (found : List Found) × Ends judge l stream found end × (out ≡ items_of found)
finish_cut judge l p new stream out end c f =
    let ends = finish_known p.stopped p new stream end refl c.known f in
    (p.taken, subst (λ (t : Judge). Ends t l stream p.taken end) c.judge_is (subst (λ (m : Bounds). Ends p.judge m stream p.taken end) c.limits_is ends), c.items)

pub cut_start : (judge : Judge) (l : Bounds) (p : Progress) (out : List Value) → p ≡ record { judge = judge; limits = l; fed = []; taken = []; stopped = None } → out ≡ [] → IsCut judge l p [] out
cut_start judge l p out e f = rw (e, f) (record { known = refl; items = refl; judge_is = refl; limits_is = refl })

-- the pieces so far, and one more
pub joined_more : {V : Type 0} (bytes : V → List ℕ) (pieces : List V) (i : ℕ) (piece : V) → i < length pieces → piece ≡ get_or pieces i piece → flat_map bytes (take (i + 1) pieces) ≡ flat_map bytes (take i pieces) ++ bytes piece
joined_more bytes pieces i piece h e =
    ap (flat_map bytes) (take_more pieces i piece h) ∙ (flat_map-append bytes (take i pieces) (get_or pieces i piece ∷ []) ∙ ap (λ (b : List ℕ). flat_map bytes (take i pieces) ++ b) (append-nil (bytes (get_or pieces i piece)) ∙ ap bytes (sym e)))

-- all pieces
pub joined_all : {V : Type 0} (bytes : V → List ℕ) (pieces : List V) (i : ℕ) → length pieces ≤ i → flat_map bytes (take i pieces) ≡ flat_map bytes pieces
joined_all bytes pieces i h = ap (flat_map bytes) (take_all i pieces h)
