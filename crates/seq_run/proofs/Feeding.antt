-- A piece that is fed step by step.
use Rattle.std.proofs.Common.{◌≡◌, ℕ, ◌<◌, ◌≤◌, List, [], ◌∷◌, ◌++◌, length, take, drop, None, Result, Ok, Err, refl, sym, ap, ◌∙◌, subst, append-nil, append_assoc}
use Rattle.std.specs.declared.alloc.AllocError.{AllocError}
use Rattle.std.proofs.lemmas.List.{take-append-drop}
use Rattle.cbor_data.specs.Value.{Value}
use Rattle.cbor_data.specs.Sequence.{Found}
use Rattle.seq_run.specs.declared.end.End.{End}
use Rattle.seq_run.specs.declared.end.State.{State}
use Rattle.seq_run.specs.declared.end.State.TheVariants as state
use Rattle.seq_run.specs.declared.session.Step.TheVariants as step
use Rattle.seq_run.specs.Progress.{Progress}
use Rattle.seq_run.specs.Answers.{items_of, IsAnswer, IsFed, Appends, IsFedOne}

-- `rest` of the piece is left, and `now` and `out_now` are what came of the rest of it
pub record IsFeeding (old : Progress) (piece : List ℕ) (out : List Value) (now : Progress) (rest : List ℕ) (out_now : List Value) : Type 0 where
  pub appends : Appends old now out out_now
  pub before : old.stopped ≡ None
  pub going : now.stopped ≡ None
  pub fed : now.fed ++ rest ≡ old.fed ++ piece

pub begin_feeding : (old : Progress) (piece : List ℕ) (out : List Value) → old.stopped ≡ None → IsFeeding old piece out old piece out
begin_feeding old piece out e = record {
  appends = record { added = []; taken = sym (append-nil old.taken); out = sym (append-nil out); judge = refl; limits = refl };
  before = e;
  going = e;
  fed = refl;
}

pub items_of-append : (fs gs : List Found) → items_of (fs ++ gs) ≡ items_of fs ++ items_of gs
items_of-append [] gs = refl
items_of-append (f ∷ fs) gs = ap (λ (xs : List Value). f.item ∷ xs) (items_of-append fs gs)

-- what the piece led to
pub record IsFedTo (old : Progress) (piece : List ℕ) (out : List Value) (result : Result State AllocError) (new : Progress) (out_new : List Value) : Type 0 where
  pub appends : Appends old new out out_new
  pub answer : IsAnswer old.stopped old piece result new

module _ (old : Progress) (piece : List ℕ) (out : List Value) (now : Progress) (rest : List ℕ) (out_now : List Value) (f : IsFeeding old piece out now rest out_now) (new : Progress) where
  -- no item came
  ended : (result : Result State AllocError) (out_new : List Value) → new.taken ≡ now.taken → new.judge ≡ now.judge → new.limits ≡ now.limits → out_new ≡ out_now → new.fed ≡ now.fed ++ rest → IsFed result new → IsFedTo old piece out result new out_new
  ended result out_new t u v o fed a =
      let told : IsAnswer None old piece result new = (fed ∙ f.fed, a) in
      record {
        appends = record { added = f.appends.added; taken = t ∙ f.appends.taken; out = o ∙ f.appends.out; judge = u ∙ f.appends.judge; limits = v ∙ f.appends.limits };
        answer = subst (λ s. IsAnswer s old piece result new) (sym f.before) told;
      }

  pub fed_more : (out_new : List Value) → out_new ≡ out_now → IsFedOne now rest (Ok step.More) new → IsFedTo old piece out (Ok state.Open) new out_new
  fed_more out_new o s = ended (Ok state.Open) out_new (ap (λ (p : Progress). p.taken) s.0) (ap (λ (p : Progress). p.judge) s.0) (ap (λ (p : Progress). p.limits) s.0) o (ap (λ (p : Progress). p.fed) s.0) s.1

  pub fed_ended : (end : End) (out_new : List Value) → out_new ≡ out_now → IsFedOne now rest (Ok (step.Ended end)) new → IsFedTo old piece out (Ok (state.Ended end)) new out_new
  fed_ended end out_new o s =
      ended (Ok (state.Ended end)) out_new (ap (λ (p : Progress). p.taken) s.0) (ap (λ (p : Progress). p.judge) s.0) (ap (λ (p : Progress). p.limits) s.0) o (ap (λ (p : Progress). p.fed) s.0) s.1

  pub fed_err : (error : AllocError) (out_new : List Value) → out_new ≡ out_now → IsFedOne now rest (Err error) new → IsFedTo old piece out (Err error) new out_new
  fed_err error out_new o s = ended (Err error) out_new (ap (λ (p : Progress). p.taken) s.0) (ap (λ (p : Progress). p.judge) s.0) (ap (λ (p : Progress). p.limits) s.0) o (ap (λ (p : Progress). p.fed) s.0) s.1

  -- an item came, and was appended
  pub fed_item : (used : ℕ) (item : Value) (out_new : List Value) → out_new ≡ out_now ++ item ∷ [] → IsFedOne now rest (Ok (step.Item used item)) new →
      IsFeeding old piece out new (drop used rest) out_new × (0 < used) × (used ≤ length rest)
  fed_item used item out_new o s =
      let more : Found = record { offset = s.offset; item = item } in (
        record {
          appends = record {
            added = f.appends.added ++ more ∷ [];
            taken = ap (λ (p : Progress). p.taken) s.next ∙ (ap (λ (fs : List Found). fs ++ more ∷ []) f.appends.taken ∙ append_assoc old.taken f.appends.added (more ∷ []));
            out = o ∙ (ap (λ (xs : List Value). xs ++ item ∷ []) f.appends.out ∙ (append_assoc out (items_of f.appends.added) (item ∷ []) ∙ ap (λ (xs : List Value). out ++ xs) (sym (items_of-append f.appends.added (more ∷ [])))));
            judge = ap (λ (p : Progress). p.judge) s.next ∙ f.appends.judge;
            limits = ap (λ (p : Progress). p.limits) s.next ∙ f.appends.limits;
          };
          before = f.before;
          going = ap (λ (p : Progress). p.stopped) s.next ∙ f.going;
          fed = ap (λ (p : Progress). p.fed ++ drop used rest) s.next ∙ (append_assoc now.fed (take used rest) (drop used rest) ∙ (ap (λ (xs : List ℕ). now.fed ++ xs) (take-append-drop used rest) ∙ f.fed));
        },
        s.some,
        s.within,
      )
