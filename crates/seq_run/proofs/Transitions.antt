-- How a session's parts go on.
use Rattle.std.proofs.Common.{◌≡◌, ◌≢◌, ℕ, ◌+◌, ◌<◌, ◌≤◌, inl, inr, List, [], ◌∷◌, ◌++◌, length, take, drop, map, Option, Some, None, refl, sym, ap, ◌∙◌, subst, arith, append_assoc, append-nil, length-append}
use Rattle.std.proofs.lemmas.List.{take-append-drop, length-take-le}
use Rattle.cbor_data.specs.Value.{Value}
use Rattle.cbor_data.specs.Faults.{Bounds, last_offset, BeginsWithin, IsClearBefore, IsItem, IsFaultOf}
use Rattle.cbor_data.specs.Sequence.{Found, none}
use Rattle.cbor_read.specs.Reading.{Reading}
use Rattle.cbor_read.specs.Answers.{IsGoingOn, IsTaken, IsRefused, IsUsedUpTo}
use Rattle.cbor_read.specs.declared.fault.Fault as declared
use Rattle.cbor_data.specs.declared.FaultKind.{FaultKind}
use Rattle.cbor_data.specs.declared.FaultKind.TheVariants.{ReservedInfo, BadIndefinite, BadBreak, BadChunk, BadSimple, TooDeep, TooLong, Truncated, BadText, DuplicateKey}
use Rattle.seq_run.specs.Judge.{Judge}
use Rattle.seq_run.specs.declared.end.Cause.TheVariants.{Fault, Mismatch, Spent}
use Rattle.seq_run.specs.declared.end.End.TheVariants.{Failed}
use Rattle.seq_run.specs.declared.end.Stopped.{Stopped}
use Rattle.seq_run.specs.declared.end.Stopped.TheVariants.{Memory}
use Rattle.seq_run.specs.declared.session.FoundItem.{FoundItem}
use Rattle.seq_run.specs.Ends.{Accepts, Misses, Overruns, BeginsWith, Ends}
use Rattle.seq_run.specs.FoundItem.{found_of}
use Rattle.seq_run.specs.Parts.{IsClearRest, IsCounted, IsNext, IsRunning, parts_of}
use Rattle.seq_run.specs.Answers.{IsOpen, IsCutShort}
use Rattle.seq_run.proofs.Fronts.{clear_placed}
use Rattle.seq_run.proofs.Runs.{takes_extend, takes_snoc, takes_count, formed_some}
use Rattle.seq_run.proofs.Ending.{fault_end, missed_end, spent_end, open_end}
use Rattle.seq_run.proofs.Verdicts.{OneAnswer}

-- a new session
pub started : (judge : Judge) (reader : Reading) (fed : List ℕ) (taken : List FoundItem) (l : Bounds) → reader ≡ record { limits = l; offset = 0; fed = []; stopped = None } → fed ≡ [] → taken ≡ [] →
    IsRunning judge reader.limits fed (map found_of taken) (parts_of reader 0 0 0 None)
started judge reader fed taken l r f t = rw (r, f, t) (record {
  takes = none;
  items_is = refl;
  offset_is = refl;
  bytes_is = refl;
  reaches = refl;
  short = omega arith;
  limits = refl;
  going = refl;
  clear_rest = inl refl;
  none = refl;
})

empty_front : (a b : List ℕ) → a ++ b ≡ [] → a ≡ []
empty_front [] b e = refl
empty_front (x ∷ xs) b e = absurd (cc)

-- two spellings of what is fed and then comes
regrouped : (fed piece more : List ℕ) → (fed ++ piece) ++ more ≡ fed ++ (piece ++ more)
regrouped fed piece more = append_assoc fed piece more

split_piece : (used : ℕ) (front piece : List ℕ) → front ++ piece ≡ (front ++ take used piece) ++ drop used piece
split_piece used front piece = ap (λ b. front ++ b) (sym (take-append-drop used piece)) ∙ sym (append_assoc front (take used piece) (drop used piece))

module _ (judge : Judge) (l : Bounds) (fed : List ℕ) (taken : List Found) (reader : Reading) (items offset bytes : ℕ) (rejected : Option Value)
    (s : IsRunning judge l fed taken (parts_of reader items offset bytes rejected)) where
  -- the beginning with more bytes
  extended : (piece : List ℕ) → BeginsWith judge l (fed ++ piece) taken (reader.fed ++ piece)
  extended piece = takes_extend l (Accepts judge) piece s.takes

  placed_at : (piece : List ℕ) → reader.offset + length (reader.fed ++ piece) ≡ length (fed ++ piece)
  placed_at piece = omega (arith, s.reaches, s.bytes_is, s.offset_is, length-append reader.fed piece, length-append fed piece)

  pub counts_below : items ≤ bytes
  counts_below = omega (arith, takes_count l (Accepts judge) s.takes, s.items_is, s.bytes_is)

  -- the piece was used, and the item goes on
  pub grows : (piece : List ℕ) (new : Reading) → IsGoingOn reader piece new → bytes + length piece ≤ last_offset
  grows piece new g =
      let below : reader.offset ≤ last_offset = omega (arith, s.offset_is, s.reaches, s.short) in
      let end = clear_placed reader.limits reader.offset (reader.fed ++ piece) below g.unfinished g.clear in
      omega (arith, end, placed_at piece, s.bytes_is, length-append fed piece)

  pub going_on : (piece : List ℕ) (new : Reading) → IsGoingOn reader piece new → IsRunning judge l (fed ++ piece) taken (parts_of new items offset (bytes + length piece) rejected)
  going_on piece new g = rw g.next (record {
    takes = extended piece;
    items_is = s.items_is;
    offset_is = s.offset_is;
    bytes_is = omega (arith, s.bytes_is, length-append fed piece);
    reaches = omega (arith, s.reaches, length-append reader.fed piece);
    short = grows piece new g;
    limits = s.limits;
    going = s.going;
    clear_rest = inr (g.unfinished, subst (λ (m : Bounds). BeginsWithin m.depth (reader.fed ++ piece)) s.limits g.shallow, subst (λ (m : Bounds). IsClearBefore m reader.offset (reader.fed ++ piece) (length (reader.fed ++ piece))) s.limits g.clear);
    none = s.none;
  })

  -- the bytes fed have an end that more may change
  pub opened : (stopped : Option Stopped) → stopped ≡ None → IsOpen (record { judge = judge; limits = l; fed = fed; taken = taken; stopped = stopped })
  opened stopped going =
      let front : IsClearRest l reader.offset reader.fed = s.clear_rest in
      let at : reader.offset + length reader.fed ≡ length fed = omega (arith, s.reaches, s.bytes_is, s.offset_is) in
      let end = open_end judge l fed taken reader.offset reader.fed s.takes at front in
      record { end = end.end; ends = end.ends; undecided = end.undecided; short = omega (arith, s.bytes_is, s.short); going = going }

  -- an item was accepted
  pub took : (piece : List ℕ) (used : ℕ) (x : Value) (new : Reading) → IsTaken reader piece used x new → Accepts judge x (reader.fed ++ take used piece) →
      (bytes + used ≤ last_offset) × IsRunning judge l (fed ++ take used piece) (taken ++ record { offset = offset; item = x } ∷ []) (parts_of new (items + 1) (bytes + used) (bytes + used) None)
  took piece used x new t accepts =
      let front = reader.fed ++ take used piece in
      let item : IsItem l reader.offset x front = subst (λ (m : Bounds). IsItem m reader.offset x front) s.limits t.item in
      let used_is : length (take used piece) ≡ used = length-take-le used piece t.within in
      let at : offset + length front ≡ length (fed ++ take used piece) = omega (arith, placed_at (take used piece), s.offset_is) in
      let short : bytes + used ≤ last_offset = omega (arith, item.placed, s.offset_is, s.reaches, used_is, length-append reader.fed (take used piece)) in
      let begins : BeginsWith judge l (fed ++ take used piece) (taken ++ record { offset = offset; item = x } ∷ []) [] =
      takes_snoc l (Accepts judge) offset x front [] (extended (take used piece)) (omega (arith, at)) (sym (append-nil front)) (subst (λ n. IsItem l n x front) (sym s.offset_is) item) accepts in
      let running : IsRunning judge l (fed ++ take used piece) (taken ++ record { offset = offset; item = x } ∷ []) (parts_of (record { limits = reader.limits; offset = reader.offset + length front; fed = []; stopped = None }) (items + 1) (bytes + used) (bytes + used) None) = record {
        takes = begins;
        items_is = omega (arith, s.items_is, length-append taken (record { offset = offset; item = x } ∷ []));
        offset_is = omega (arith, s.offset_is, s.reaches, used_is, length-append reader.fed (take used piece));
        bytes_is = omega (arith, s.bytes_is, used_is, length-append fed (take used piece));
        reaches = omega arith;
        short = short;
        limits = s.limits;
        going = refl;
        clear_rest = inl refl;
        none = refl;
      } in
      (short, subst (λ (r : Reading). IsRunning judge l (fed ++ take used piece) (taken ++ record { offset = offset; item = x } ∷ []) (parts_of r (items + 1) (bytes + used) (bytes + used) None)) (sym t.next) running)

  -- the bytes after the run, whatever follows
  rest_of : (piece more : List ℕ) → BeginsWith judge l ((fed ++ piece) ++ more) taken ((reader.fed ++ piece) ++ more)
  rest_of piece more = takes_extend l (Accepts judge) more (extended piece)

  rest_placed : (piece more : List ℕ) → offset + length ((reader.fed ++ piece) ++ more) ≡ length ((fed ++ piece) ++ more)
  rest_placed piece more = omega (arith, placed_at piece, s.offset_is, length-append (reader.fed ++ piece) more, length-append (fed ++ piece) more)

  -- an item was read that is not accepted
  module _ (piece : List ℕ) (used : ℕ) (x : Value) (new : Reading) (more : List ℕ) (t : IsTaken reader piece used x new) where
    abbrev front : List ℕ
    front = reader.fed ++ take used piece

    abbrev back : List ℕ
    back = drop used piece ++ more

    read_item : IsItem l offset x front
    read_item = subst (λ n. IsItem l n x front) (sym s.offset_is) (subst (λ (m : Bounds). IsItem m reader.offset x front) s.limits t.item)

    read_parts : (reader.fed ++ piece) ++ more ≡ front ++ back
    read_parts = ap (λ b. b ++ more) (split_piece used reader.fed piece) ∙ append_assoc front (drop used piece) more

    pub missed : OneAnswer → (place : ℕ) → Misses judge x front place →
        Ends judge l ((fed ++ piece) ++ more) taken (Failed items offset (Mismatch place)) × IsNext judge l ((fed ++ piece) ++ more) taken x
    missed one place misses =
        let both = missed_end judge l one ((fed ++ piece) ++ more) taken ((reader.fed ++ piece) ++ more) offset x front back place (rest_of piece more) (rest_placed piece more) read_parts read_item misses in
        (subst (λ n. Ends judge l ((fed ++ piece) ++ more) taken (Failed n offset (Mismatch place))) (sym s.items_is) both.0, both.1)

    pub overrun : Overruns judge x front → Ends judge l ((fed ++ piece) ++ more) taken (Failed items offset Spent)
    overrun over =
        subst (λ n. Ends judge l ((fed ++ piece) ++ more) taken (Failed n offset Spent)) (sym s.items_is)
        (spent_end judge l ((fed ++ piece) ++ more) taken ((reader.fed ++ piece) ++ more) offset x front back (rest_of piece more) (rest_placed piece more) read_parts read_item over)

  refused_some : (piece : List ℕ) (used : ℕ) (k : FaultKind) (at : ℕ) → used ≤ length piece → IsUsedUpTo reader piece used k at → reader.fed ++ piece ≢ []
  refused_some piece used ReservedInfo at within u e = omega (arith, u.0, ap length e, length-append reader.fed piece)
  refused_some piece used BadIndefinite at within u e = omega (arith, u.0, ap length e, length-append reader.fed piece)
  refused_some piece used BadBreak at within u e = omega (arith, u.0, ap length e, length-append reader.fed piece)
  refused_some piece used BadChunk at within u e = omega (arith, u.0, ap length e, length-append reader.fed piece)
  refused_some piece used BadSimple at within u e = omega (arith, u.0, ap length e, length-append reader.fed piece)
  refused_some piece used TooDeep at within u e = omega (arith, u.0, ap length e, length-append reader.fed piece)
  refused_some piece used TooLong at within u e = omega (arith, u.0, ap length e, length-append reader.fed piece)
  refused_some piece used Truncated at within u e = omega (arith, u.0, ap length e, length-append reader.fed piece)
  refused_some piece used BadText at within u e =
      let some : 0 < length (reader.fed ++ take used piece) = formed_some (reader.fed ++ take used piece) u in
      omega (arith, some, within, ap length e, length-append reader.fed piece, length-append reader.fed (take used piece), length-take-le used piece within)
  refused_some piece used DuplicateKey at within u e =
      let some : 0 < length (reader.fed ++ take used piece) = formed_some (reader.fed ++ take used piece) u in
      omega (arith, some, within, ap length e, length-append reader.fed piece, length-append reader.fed (take used piece), length-take-le used piece within)

  -- a fault was told
  pub faulted : (piece : List ℕ) (used : ℕ) (fault : declared.Fault) (new : Reading) (more : List ℕ) → IsRefused reader piece used fault new →
      Ends judge l ((fed ++ piece) ++ more) taken (Failed items offset (Fault fault))
  faulted piece used fault new more r =
      let rest = (reader.fed ++ piece) ++ more in
      let told : IsFaultOf l offset rest fault.kind fault.at = subst (λ n. IsFaultOf l n rest fault.kind fault.at) (sym s.offset_is) (subst (λ (m : Bounds). IsFaultOf m reader.offset rest fault.kind fault.at) s.limits (r.told more)) in
      let some : rest ≢ [] = λ e. refused_some piece used fault.kind fault.at r.within r.place (empty_front (reader.fed ++ piece) more e) in
      subst (λ n. Ends judge l ((fed ++ piece) ++ more) taken (Failed n offset (Fault fault))) (sym s.items_is)
      (fault_end judge l ((fed ++ piece) ++ more) taken rest offset fault.kind fault.at (rest_of piece more) (rest_placed piece more) some told)

  -- what was taken of the bytes fed, and of more
  pub counted : (piece : List ℕ) → IsCounted judge l (fed ++ piece) taken items offset
  counted piece = record { items_is = s.items_is; rest = reader.fed ++ piece; begins = extended piece; bytes_is = omega (arith, placed_at piece, s.offset_is) }

  pub counted_now : IsCounted judge l fed taken items offset
  counted_now = record { items_is = s.items_is; rest = reader.fed; begins = s.takes; bytes_is = omega (arith, s.reaches, s.bytes_is) }

  -- where the session gives up
  pub cut_short : (piece : List ℕ) → IsCutShort (record { judge = judge; limits = l; fed = fed ++ piece; taken = taken; stopped = Some Memory })
  cut_short piece = record { rest = reader.fed ++ piece; begins = extended piece; stopped = refl }
