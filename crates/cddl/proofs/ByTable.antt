-- By a table that stands for a text a stream is what it is by the text's root rule.
use Rattle.std.proofs.Common.{ℕ, ◌⊎◌, inl, inr, List, Option, Some, None}
use Rattle.std.specs.Prelude.{IfSome}
use Rattle.cbor_data.specs.Faults.{Bounds}
use Rattle.cbor_data.specs.Sequence as Q
use Rattle.cbor_data.specs.Sequence.{Found, Takes}
use Rattle.cbor_data.specs.Value.{Value}
use Rattle.cddl_meaning.specs.Judges.{Yes}
use Rattle.table_nodes.specs.declared.table.Table.{Table}
use Rattle.seq_run.specs.Ends as E
use Rattle.seq_run.specs.Judge.{judge_of}
use Rattle.seq_run.specs.Parts as P
use Rattle.seq_run.specs.Running as W
use Rattle.seq_run.specs.Running.{Change}
use Rattle.seq_run.specs.declared.end.Cause.TheVariants.{Fault, Mismatch, Spent}
use Rattle.seq_run.specs.declared.end.End.{End}
use Rattle.seq_run.specs.declared.end.End.TheVariants.{Clean, Failed}
use Rattle.seq_run.specs.declared.output.Mode.{Mode}
use Rattle.seq_run.specs.declared.running.RunFault.{RunFault}
use Rattle.seq_run.specs.declared.running.RunFault.TheVariants.{ReadFailed, WriteFailed, Memory}
use Rattle.cddl.specs.Rules.{Accepts, Ends, IsNext, IsRejected, IsRun, Rule}
use Rattle.cddl.specs.Tables.{SpeaksFor}
use Rattle.cddl.specs.Stopped.{IsBeginning, IsCut, IsWholeOutput, ReadsByPieces, WritesFirst, WritesItems, WritesRun}

pub if_some : (P Q : List ℕ → Type 0) → ((s : List ℕ) → P s → Q s) → (o : Option (List ℕ)) → IfSome o P → IfSome o Q
if_some P Q f None h = h
if_some P Q f (Some s) h = f s h

module _ (rule : Rule) (table : Table) (speaks : SpeaksFor rule table) (steps : ℕ) (l : Bounds) where
  accepted : (x : Value) (b : List ℕ) → E.Accepts (judge_of table steps) x b → Accepts rule steps x b
  accepted x b (w, h, k) = (w, (speaks.item x Yes w).0 h, k)

  accepts : (x : Value) (b : List ℕ) → Accepts rule steps x b → E.Accepts (judge_of table steps) x b
  accepts x b (w, h, k) = (w, (speaks.item x Yes w).1 h, k)

  took : {o : ℕ} {b : List ℕ} {found : List Found} {rest : List ℕ} → Takes l (E.Accepts (judge_of table steps)) o b found rest → Takes l (Accepts rule steps) o b found rest
  took Q.none = Q.none
  took (Q.next x front back e i a t) = Q.next x front back e i (accepted x front a) (took t)

  takes : {o : ℕ} {b : List ℕ} {found : List Found} {rest : List ℕ} → Takes l (Accepts rule steps) o b found rest → Takes l (E.Accepts (judge_of table steps)) o b found rest
  takes Q.none = Q.none
  takes (Q.next x front back e i a t) = Q.next x front back e i (accepts x front a) (takes t)

  run : (b : List ℕ) (found : List Found) (rest : List ℕ) → E.IsRun (judge_of table steps) l b found rest → IsRun rule steps l b found rest
  run b found rest r = record { takes = took r.takes; longest = λ others left t. r.longest others left (takes t) }

  runs : (b : List ℕ) (found : List Found) (rest : List ℕ) → IsRun rule steps l b found rest → E.IsRun (judge_of table steps) l b found rest
  runs b found rest r = record { takes = takes r.takes; longest = λ others left t. r.longest others left (took t) }

  pub ended : (b : List ℕ) (found : List Found) (end : End) → E.Ends (judge_of table steps) l b found end → Ends rule steps l b found end
  ended b found end h = (speaks.stream steps l b found end).0 h

  ends : (b : List ℕ) (found : List Found) (end : End) → Ends rule steps l b found end → E.Ends (judge_of table steps) l b found end
  ends b found end h = (speaks.stream steps l b found end).1 h

  next : (b : List ℕ) (found : List Found) (x : Value) → P.IsNext (judge_of table steps) l b found x → IsNext rule steps l b found x
  next b found x n = record { rest = n.rest; offset = n.offset; front = n.front; back = n.back; run = run b found n.rest n.run; offset_is = n.offset_is; parts = n.parts; item = n.item }

  nexts : (b : List ℕ) (found : List Found) (x : Value) → IsNext rule steps l b found x → P.IsNext (judge_of table steps) l b found x
  nexts b found x n = record { rest = n.rest; offset = n.offset; front = n.front; back = n.back; run = runs b found n.rest n.run; offset_is = n.offset_is; parts = n.parts; item = n.item }

  pub rejected : (b : List ℕ) (found : List Found) (end : End) (v : Option Value) → P.IsRejected (judge_of table steps) l b found end v → IsRejected rule steps l b found end v
  rejected b found (Clean n m) v h = h
  rejected b found (Failed n o (Fault f)) v h = h
  rejected b found (Failed n o (Mismatch p)) (Some x) h = next b found x h
  rejected b found (Failed n o (Mismatch p)) None h = h
  rejected b found (Failed n o Spent) v h = h

  rejects : (b : List ℕ) (found : List Found) (end : End) (v : Option Value) → IsRejected rule steps l b found end v → P.IsRejected (judge_of table steps) l b found end v
  rejects b found (Clean n m) v h = h
  rejects b found (Failed n o (Fault f)) v h = h
  rejects b found (Failed n o (Mismatch p)) (Some x) h = nexts b found x h
  rejects b found (Failed n o (Mismatch p)) None h = h
  rejects b found (Failed n o Spent) v h = h

  pub pieces : (input : Change) → W.ReadsByPieces (judge_of table steps) l input → ReadsByPieces rule steps l input
  pieces input r = record { front = r.front; piece = r.piece; consumed = r.consumed; few = r.few; items = r.found; end = r.end; ends = ended r.front r.found r.end r.ends; undecided = r.undecided }

  items_written : (mode : Mode) (input output : Change) (n : ℕ) → W.WritesItems mode (judge_of table steps) l input output n → WritesItems rule steps l mode input output n
  items_written mode input output n r = record { read = r.read; items = r.found; rest = r.rest; consumed = r.consumed; begins = took r.begins; count = r.count; written = r.written }

  run_written : (mode : Mode) (input output : Change) (n : ℕ) → W.WritesRun mode (judge_of table steps) l input output n → WritesRun rule steps l mode input output n
  run_written mode input output n r = record { read = r.read; items = r.found; rest = r.rest; consumed = r.consumed; run = run r.read r.found r.rest r.run; count = r.count; written = r.written }

  whole : (mode : Mode) (b out : List ℕ) → W.IsWholeOutput mode (judge_of table steps) l b out → IsWholeOutput rule steps l mode b out
  whole mode b out r = record { items = r.found; end = r.end; rejected = r.rejected; ends = ended b r.found r.end r.ends; rejects = rejected b r.found r.end r.rejected r.rejects; is = r.is }

  begins : (mode : Mode) (b out : List ℕ) → W.IsBeginning mode (judge_of table steps) l b out → IsBeginning rule steps l mode b out
  begins mode b out r = λ items end v e h. r items end v (ends b items end e) (rejects b items end v h)

  either : (mode : Mode) (b out : List ℕ) → W.IsWholeOutput mode (judge_of table steps) l b out ⊎ W.IsBeginning mode (judge_of table steps) l b out → IsWholeOutput rule steps l mode b out ⊎ IsBeginning rule steps l mode b out
  either mode b out (inl r) = inl (whole mode b out r)
  either mode b out (inr r) = inr (begins mode b out r)

  first_written : (mode : Mode) (output : Change) (k : ℕ) (b : List ℕ) → W.WritesFirst mode (judge_of table steps) l b output k → WritesFirst rule steps l mode b output k
  first_written mode output k b r = record { out = r.out; front = either mode b r.out r.front; short = r.short; written = r.written }

  pub cut : (mode : Mode) (input output : Change) (fault : RunFault) → W.IsFault mode (judge_of table steps) l input output fault → IsCut rule steps l mode input output fault
  cut mode input output (ReadFailed n) h = (h.0, run_written mode input output n h.1)
  cut mode input output (WriteFailed k) h = (h.0, if_some (λ b. W.WritesFirst mode (judge_of table steps) l b output k) (λ b. WritesFirst rule steps l mode b output k) (λ b r. first_written mode output k b r) input.before h.1)
  cut mode input output (Memory n) h = (h.0, h.1, items_written mode input output n h.2)
