-- How a session's bytes end.
use Rattle.std.proofs.Common.{◌≡◌, ◌≢◌, ℕ, suc, ◌+◌, ◌<◌, inl, inr, List, [], ◌∷◌, ◌++◌, length, take, refl, sym, ap, ◌∙◌, subst, arith, length-append}
use Rattle.std.proofs.lemmas.Bool.{cases_eq}
use Rattle.std.proofs.Math.Seq.{take-length}
use Rattle.cbor_data.specs.Value.{Value}
use Rattle.cbor_data.specs.Forms.{IsUnfinished}
use Rattle.cbor_data.specs.Faults.{Bounds, BeginsWithin, long, IsClearBefore, of_form, of_end, IsItem, IsFaultOf}
use Rattle.cbor_data.specs.Sequence.{Found, Takes, IsRunOf, cleanly, at_fault, at_mismatch, at_spent}
use Rattle.cbor_data.specs.declared.FaultKind.{FaultKind}
use Rattle.cbor_data.specs.declared.FaultKind.TheVariants.{TooLong, Truncated}
use Rattle.seq_run.specs.Judge.{Judge}
use Rattle.seq_run.specs.declared.end.Cause.TheVariants.{Fault, Mismatch, Spent}
use Rattle.seq_run.specs.declared.end.End.{End}
use Rattle.seq_run.specs.declared.end.End.TheVariants.{Clean, Failed}
use Rattle.seq_run.specs.Ends.{Accepts, Misses, Overruns, BeginsWith, IsRun, Ends}
use Rattle.seq_run.specs.Parts.{IsClearRest, IsNext}
use Rattle.seq_run.specs.Answers.{IsUndecided}
use Rattle.cbor_data.proofs.Lemmas.{unfinished_no_front}
use Rattle.seq_run.proofs.Fronts.{formed, fault_no_item, clear_end}
use Rattle.seq_run.proofs.Runs.{EndsHere, item_some, same_front, run_of}
use Rattle.seq_run.proofs.Verdicts.{OneAnswer, never_both, yes_overruns}

take_whole : (b : List ℕ) → take (length b + 1) b ≡ b
take_whole [] = refl
take_whole (y ∷ ys) =
    let more : suc (length ys) + 1 ≡ suc (length ys + 1) = omega arith in
    ap (λ n. take n (y ∷ ys)) more ∙ ap (λ (xs : List ℕ). y ∷ xs) (take_whole ys)

-- what is told at the end of the bytes that an unfinished item has
pub too_long_end : (l : Bounds) (o : ℕ) (b : List ℕ) → IsUnfinished b → BeginsWithin l.depth b → IsClearBefore l o b (length b) → length b ≡ l.item_bytes → IsFaultOf l o b TooLong (o + length b)
too_long_end l o b u shallow clear full =
    let within : BeginsWithin l.depth (take (length b + 1) b) = subst (BeginsWithin l.depth) (sym (take_whole b)) shallow in
    of_form (length b) (omega arith) (subst IsUnfinished (sym (take-length b)) u) (long within (inl full)) clear refl

pub truncated_end : (l : Bounds) (o : ℕ) (b : List ℕ) → b ≢ [] → IsUnfinished b → IsClearBefore l o b (length b) → (length b ≡ l.item_bytes → ⊥) → IsFaultOf l o b Truncated (o + length b)
truncated_end l o b some u clear full = of_end some u (clear_end l o b clear full) refl

module _ (l : Bounds) (accepts : Value → List ℕ → Type 0) where
  pub none_ends : (o : ℕ) (rest : List ℕ) → rest ≡ [] → EndsHere l accepts o rest
  none_ends o rest none x front back e item accepted =
      let some : 0 < length front = item_some l o x front item in
      omega (arith, some, ap length (sym none ∙ e), length-append front back)

  clear_rest_ends : (o : ℕ) (rest : List ℕ) → IsClearRest l o rest → EndsHere l accepts o rest
  clear_rest_ends o rest (inl none) x front back e item accepted = none_ends o rest none x front back e item accepted
  clear_rest_ends o rest (inr clear) x front back e item accepted = unfinished_no_front rest front back clear.0 (formed item.spells) e

  told_ends : (o : ℕ) (rest : List ℕ) (k : FaultKind) (at : ℕ) → IsFaultOf l o rest k at → EndsHere l accepts o rest
  told_ends o rest k at told x front back e item accepted = fault_no_item l o rest k at x front back told item e

  -- an item that is not accepted ends the run
  other_ends : (o : ℕ) (rest : List ℕ) (x : Value) (front back : List ℕ) → rest ≡ front ++ back → IsItem l o x front → ((b : List ℕ) → accepts x b → ⊥) → EndsHere l accepts o rest
  other_ends o rest x front back e item not y other left f found accepted =
      let same = same_front l l o o x y front back other left item found (sym e ∙ f) in
      not other (subst (λ v. accepts v other) (sym same.2) accepted)

  -- the run, up to where it ends
  pub clean_run : (stream : List ℕ) (found : List Found) → Takes l accepts 0 stream found [] → IsRunOf l accepts stream found []
  clean_run stream found t = run_of l accepts (length stream) t (omega arith) (none_ends (length stream) [] refl)

  pub fault_run : (stream : List ℕ) (found : List Found) (rest : List ℕ) (o : ℕ) (k : FaultKind) (at : ℕ) → Takes l accepts 0 stream found rest → o + length rest ≡ length stream → IsFaultOf l o rest k at → IsRunOf l accepts stream found rest
  fault_run stream found rest o k at t placed told = run_of l accepts o t placed (told_ends o rest k at told)

  pub other_run : (stream : List ℕ) (found : List Found) (rest : List ℕ) (o : ℕ) (x : Value) (front back : List ℕ) → Takes l accepts 0 stream found rest → o + length rest ≡ length stream →
      rest ≡ front ++ back → IsItem l o x front → ((b : List ℕ) → accepts x b → ⊥) → IsRunOf l accepts stream found rest
  other_run stream found rest o x front back t placed e item not = run_of l accepts o t placed (other_ends o rest x front back e item not)

module _ (judge : Judge) (l : Bounds) where
  -- the end of a stream of which nothing is left
  pub clean_end : (stream : List ℕ) (found : List Found) → BeginsWith judge l stream found [] → Ends judge l stream found (Clean (length found) (length stream))
  clean_end stream found t = cleanly (clean_run l (Accepts judge) stream found t)

  -- the end of a stream with a fault
  pub fault_end : (stream : List ℕ) (found : List Found) (rest : List ℕ) (o : ℕ) (k : FaultKind) (at : ℕ) → BeginsWith judge l stream found rest → o + length rest ≡ length stream → rest ≢ [] →
      IsFaultOf l o rest k at → Ends judge l stream found (Failed (length found) o (Fault (record { at = at; kind = k })))
  fault_end stream found rest o k at t placed some told =
      at_fault rest (fault_run l (Accepts judge) stream found rest o k at t placed told) some placed told

  -- the end of a stream with an item that does not match
  pub missed_end : OneAnswer → (stream : List ℕ) (found : List Found) (rest : List ℕ) (o : ℕ) (x : Value) (front back : List ℕ) (place : ℕ) → BeginsWith judge l stream found rest → o + length rest ≡ length stream →
      rest ≡ front ++ back → IsItem l o x front → Misses judge x front place →
      Ends judge l stream found (Failed (length found) o (Mismatch place)) × IsNext judge l stream found x
  missed_end one stream found rest o x front back place t placed e item misses =
      let run : IsRun judge l stream found rest = other_run l (Accepts judge) stream found rest o x front back t placed e item (λ b accepts. never_both one judge.table item accepts.1 misses.1) in (
        at_mismatch rest x front back run placed e item misses,
        record { rest = rest; offset = o; front = front; back = back; run = run; offset_is = placed; parts = e; item = item },
      )

  -- the end of a stream with an item for which the steps are not enough
  pub spent_end : (stream : List ℕ) (found : List Found) (rest : List ℕ) (o : ℕ) (x : Value) (front back : List ℕ) → BeginsWith judge l stream found rest → o + length rest ≡ length stream →
      rest ≡ front ++ back → IsItem l o x front → Overruns judge x front → Ends judge l stream found (Failed (length found) o Spent)
  spent_end stream found rest o x front back t placed e item over =
      let run : IsRun judge l stream found rest = other_run l (Accepts judge) stream found rest o x front back t placed e item (λ b. yes_overruns judge x front b over) in
      at_spent rest x front back run placed e item over

  -- how the bytes end that an open session has
  pub record OpenEnd (stream : List ℕ) (found : List Found) : Type 0 where
    pub end : End
    pub ends : Ends judge l stream found end
    pub undecided : IsUndecided (length stream) end

  unfinished_end : (stream : List ℕ) (found : List Found) (o : ℕ) (rest : List ℕ) → BeginsWith judge l stream found rest → o + length rest ≡ length stream → rest ≢ [] →
      IsUnfinished rest × BeginsWithin l.depth rest × IsClearBefore l o rest (length rest) → OpenEnd stream found
  unfinished_end stream found o rest t placed some clear =
      elim (cases_eq (length rest) l.item_bytes) [
        | inl full ↦ record {
          end = Failed (length found) o (Fault (record { at = o + length rest; kind = TooLong }));
          ends = fault_end stream found rest o TooLong (o + length rest) t placed some (too_long_end l o rest clear.0 clear.1 clear.2 full);
          undecided = (placed, tt);
        }
        | inr not ↦ record {
          end = Failed (length found) o (Fault (record { at = o + length rest; kind = Truncated }));
          ends = fault_end stream found rest o Truncated (o + length rest) t placed some (truncated_end l o rest some clear.0 clear.2 not);
          undecided = (placed, tt);
        }
      ]

  pub open_end : (stream : List ℕ) (found : List Found) (o : ℕ) (rest : List ℕ) → BeginsWith judge l stream found rest → o + length rest ≡ length stream → IsClearRest l o rest → OpenEnd stream found
  open_end stream found o [] t placed clear = record { end = Clean (length found) (length stream); ends = clean_end stream found t; undecided = tt }
  open_end stream found o (y ∷ ys) t placed (inl none) = absurd (cc)
  open_end stream found o (y ∷ ys) t placed (inr clear) = unfinished_end stream found o (y ∷ ys) t placed (λ e. cc) clear
