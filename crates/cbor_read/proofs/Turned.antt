-- What a turn of the reader comes to.
use Rattle.std.proofs.Common.{◌≡◌, ◌≢◌, ℕ, ◌+◌, ◌<◌, ◌≤◌, ◌^◌, List, [], ◌∷◌, ◌++◌, length, take, drop, Option, Some, None, Ok, Err, refl, sym, ap, ◌∙◌, subst, arith, append-nil, length-append}
use Rattle.std.proofs.lemmas.List.{take-append-drop}
use Rattle.cbor_data.specs.Forms.{IsWellFormed}
use Rattle.cbor_data.specs.Faults.{Bounds, IsClearBefore, IsFaultOf}
use Rattle.cbor_data.specs.Machine.Machine.{done}
use Rattle.cbor_data.specs.Machine.Reads.{Reads}
use Rattle.cbor_data.proofs.OfMachine.Lemmas.{leads_begins_within, clear, unfinished, whole}
use Rattle.cbor_read.specs.Reading.{Reading, open_reading}
use Rattle.cbor_read.specs.Answers.{IsAnswer, IsEnd, IsGoingOn, IsUsedUpTo}
use Rattle.cbor_read.specs.Outcomes.{IsOfValue, IsWrong}
use Rattle.read_building.specs.Working.{IsInWork}
use Rattle.read_building.specs.declared.work.Work.{Work}
use Rattle.read_building.proofs.Lemmas.{nothing_in_work}
use Rattle.cbor_read.specs.Steps.{IsBegun, IsFaultTurn, IsKept, IsOfForm, IsOpen}
use Rattle.cbor_read.specs.declared.fault.Fault.{Fault}
use Rattle.cbor_data.specs.declared.FaultKind.{FaultKind}
use Rattle.cbor_data.specs.declared.FaultKind.TheVariants.{BadText, DuplicateKey}
use Rattle.cbor_read.specs.declared.fault.Stop.{Stop}
use Rattle.cbor_read.specs.declared.fault.Stop.TheVariants as stop
use Rattle.cbor_read.specs.declared.reader.Fed.TheVariants.{More}
use Rattle.cbor_read.proofs.Following.{IsHalted, IsMisread, open_end, reads_begun}
use Rattle.cbor_read.proofs.Pieces.{cut_after}

abbrev pub reading : Bounds → ℕ → List ℕ → Option Stop → Reading
reading l o fed s = record { limits = l; offset = o; fed = fed; stopped = s }

used_up : (old : Reading) (piece : List ℕ) (used at : ℕ) (kind : FaultKind) → IsOfValue kind → IsWellFormed (old.fed ++ take used piece) → IsUsedUpTo old piece used kind at
used_up old piece used at BadText v w = w
used_up old piece used at DuplicateKey v w = w
used_up old piece used at _ v w = absurd v

-- what is told of a whole item
pub value_fault : (l : Bounds) (o : ℕ) (seen piece : List ℕ) (used : ℕ) (fault : Fault) → used ≤ length piece → Reads l o (seen ++ take used piece) done → IsWrong l o (seen ++ take used piece) fault → IsFaultTurn (open_reading l o seen) piece used fault
value_fault l o seen piece used fault within r w = record {
  within = within;
  told = λ more. subst (λ c. IsFaultOf l o c fault.kind fault.at) (cut_after seen piece more used) (w.told (drop used piece ++ more));
  place = used_up (open_reading l o seen) piece used fault.at fault.kind w.value (whole l o (seen ++ take used piece) r);
}

-- what is told of a byte
form_used : (old : Reading) (piece : List ℕ) (used at : ℕ) (kind : FaultKind) → IsOfForm kind → used < length piece → at ≡ old.offset + length (old.fed ++ take used piece) → IsUsedUpTo old piece used kind at
form_used old piece used at BadText f w e = absurd f
form_used old piece used at DuplicateKey f w e = absurd f
form_used old piece used at _ f w e = (w, e)

pub halted_turn : (l : Bounds) (o : ℕ) (seen piece : List ℕ) (used : ℕ) (fault : Fault) → IsHalted l o seen piece used fault → IsFaultTurn (open_reading l o seen) piece used fault
halted_turn l o seen piece used fault h = record {
  within = (let within : used < length piece = h.within in omega arith);
  told = h.told;
  place = form_used (open_reading l o seen) piece used fault.at fault.kind h.form h.within h.place;
}

pub misread_turn : (l : Bounds) (o : ℕ) (seen piece : List ℕ) (used : ℕ) (fault : Fault) → IsMisread l o seen piece used fault → IsFaultTurn (open_reading l o seen) piece used fault
misread_turn l o seen piece used fault h = value_fault l o seen piece used fault h.within h.reads h.wrong

pub none_of : (o : Option Stop) → ((s : Stop) → o ≡ Some s → ⊥) → o ≡ None
none_of None h = refl
none_of (Some s) h = absurd (h s refl)

going_on : (l : Bounds) (o : ℕ) (fed piece : List ℕ) (w : Work) → IsBegun l o (fed ++ piece) w → IsGoingOn (reading l o fed None) piece (reading l o (fed ++ piece) None)
going_on l o fed piece w k =
    let b : List ℕ = fed ++ piece in
    let r = reads_begun l o b w k in
    record {
      next = refl;
      unfinished = unfinished l o b r.state r.reads r.live;
      shallow = leads_begins_within l.depth b r.state r.reads.leads;
      clear = subst (λ c. IsClearBefore l o c (length b)) (append-nil b) (clear l o b r.state [] r.reads);
    }

-- the item goes on
pub more_answered : (l : Bounds) (o : ℕ) (fed piece then : List ℕ) (stopped : Option Stop) (w : Work) (old : Reading) → stopped ≡ None → reading l o fed stopped ≡ old → IsBegun l o (fed ++ piece) w → then ≡ fed ++ piece →
    IsAnswer old.stopped old piece (Ok More) (reading l o then None)
more_answered l o fed piece then stopped w old live was begun e =
    let old_is : reading l o fed None ≡ old = ap (reading l o fed) (sym live) ∙ was in
    subst (λ r. IsAnswer r.stopped r piece (Ok More) (reading l o then None)) old_is
    (subst (λ b. IsGoingOn (reading l o fed None) piece (reading l o b None)) (sym e) (going_on l o fed piece w begun))

-- what is kept then
pub kept_on : (l : Bounds) (o count : ℕ) (fed piece then : List ℕ) (w : Work) → count ≡ length fed → then ≡ fed ++ piece → IsBegun l o (fed ++ piece) w → IsKept l o then (count + length piece) w
kept_on l o count fed piece then w same e begun = subst (λ b. IsKept l o b (count + length piece) w) (sym e) (record { same = omega (arith, length-append fed piece); begun = begun })

-- nothing of the next item yet
pub kept_none : (l : Bounds) (o : ℕ) (fed : List ℕ) (w : Work) → o < 2 ^ 64 → fed ≡ [] → IsInWork l.depth o [] w → IsKept l o fed 0 w
kept_none l o fed w placed none k = subst (λ b. IsKept l o b 0 w) (sym none) (record { same = refl; begun = record { work = k; short = omega arith; placed = omega arith } })

nothing_fed : (fed : List ℕ) → length fed ≡ 0 → fed ≡ []
nothing_fed [] h = refl
nothing_fed (x ∷ fed) h = absurd (omega (arith, h))

pub none_fed : (l : Bounds) (o : ℕ) (fed : List ℕ) (count : ℕ) (w : Work) → IsKept l o fed count w → count ≡ 0 → fed ≡ []
none_fed l o fed count w k e = nothing_fed fed (sym k.same ∙ e)

-- the offset moves on over an item that was read at once
pub kept_moved : (l : Bounds) (o p : ℕ) (fed : List ℕ) (count : ℕ) (w : Work) → p < 2 ^ 64 → IsKept l o fed count w → count ≡ 0 → IsKept l p fed count w
kept_moved l o p fed count w placed k none =
    let empty : fed ≡ [] = none_fed l o fed count w k none in
    subst (λ n. IsKept l p fed n w) (sym none) (kept_none l p fed w placed empty (nothing_in_work l.depth o w (subst (λ b. IsInWork l.depth o b w) empty k.begun.work) l.depth p))

pub some_fed : (l : Bounds) (o : ℕ) (fed : List ℕ) (count : ℕ) (w : Work) → IsKept l o fed count w → count ≢ 0 → fed ≢ []
some_fed l o fed count w k some e = some (k.same ∙ ap length e)

-- what is told where the stream ends inside an item
pub end_told : (l : Bounds) (o : ℕ) (fed : List ℕ) (count : ℕ) (stopped : Option Stop) (w : Work) (self : Reading) (fault : Fault) → stopped ≡ None → reading l o fed stopped ≡ self → IsKept l o fed count w → count ≢ 0 →
    ((b : List ℕ) → count ≡ length b → IsOpen l o b → IsFaultOf l o b fault.kind fault.at) → IsEnd self.stopped self (Err (stop.Fault fault))
end_told l o fed count stopped w self fault live was k some told =
    let is : reading l o fed None ≡ self = ap (reading l o fed) (sym live) ∙ was in
    let not_empty : fed ≢ [] = some_fed l o fed count w k some in
    subst (λ r. IsEnd r.stopped r (Err (stop.Fault fault))) is (not_empty, told fed k.same (open_end l o fed w k.begun not_empty))

-- the front of a whole list

pub front_wrong : (l : Bounds) (o : ℕ) (b : List ℕ) (used : ℕ) (fault : Fault) → IsWrong l o (take used b) fault → IsFaultOf l o b fault.kind fault.at
front_wrong l o b used fault w = subst (λ c. IsFaultOf l o c fault.kind fault.at) (take-append-drop used b) (w.told (drop used b))

pub front_fault : (l : Bounds) (o : ℕ) (b : List ℕ) (used : ℕ) (fault : Fault) → IsFaultTurn (open_reading l o []) b used fault → IsFaultOf l o b fault.kind fault.at
front_fault l o b used fault h = subst (λ c. IsFaultOf l o c fault.kind fault.at) (append-nil b) (h.told [])
