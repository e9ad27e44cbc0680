-- What a call leaves that a device or want of memory stopped.
use Rattle.std.specs.Prelude.{◌≡◌, ℕ, ◌<◌, ◌≤◌, ◌⊎◌, List, ◌++◌, length, take, Option, IfSome}
use Rattle.std.specs.Io.KnownBytes as bytes
use Rattle.cbor_data.specs.Faults.{Bounds}
use Rattle.cbor_data.specs.Sequence.{Found}
use Rattle.cbor_data.specs.Value.{Value}
use Rattle.seq_run.specs.Answers.{IsUndecided}
use Rattle.seq_run.specs.Output.{items_output, stream_output}
use Rattle.seq_run.specs.Running.{Change, HasFailed, HasNotFailed}
use Rattle.seq_run.specs.declared.end.End.{End}
use Rattle.seq_run.specs.declared.output.Mode.{Mode}
use Rattle.seq_run.specs.declared.running.RunFault.{RunFault}
use Rattle.seq_run.specs.declared.running.RunFault.TheVariants.{ReadFailed, WriteFailed, Memory}
use Rattle.cddl.specs.Rules.{Rule, BeginsWith, Ends, IsRejected, IsRun}

module _ (rule : Rule) (steps : ℕ) (l : Bounds) where
  -- Nothing was read after the piece that shows the end: the bytes before the last piece leave the end open, and that piece has at
  -- most 4,096 bytes.
  pub record ReadsByPieces (input : Change) : Type 0 where
    pub front : List ℕ
    pub piece : List ℕ
    pub consumed : bytes.Consumes input.before input.after (front ++ piece)
    pub few : length piece ≤ 4096
    pub items : List Found
    pub end : End
    pub ends : Ends rule steps l front items end
    pub undecided : IsUndecided (length front) end

  -- Exactly the output of the n items went out that the bytes read begin with.
  pub record WritesItems (mode : Mode) (input output : Change) (n : ℕ) : Type 0 where
    pub read : List ℕ
    pub items : List Found
    pub rest : List ℕ
    pub consumed : bytes.Consumes input.before input.after read
    pub begins : BeginsWith rule steps l read items rest
    pub count : n ≡ length items
    pub written : bytes.Appends output.before output.after (items_output mode 1 items)

  -- The same, and the bytes read have no more such items.
  pub record WritesRun (mode : Mode) (input output : Change) (n : ℕ) : Type 0 where
    pub read : List ℕ
    pub items : List Found
    pub rest : List ℕ
    pub consumed : bytes.Consumes input.before input.after read
    pub run : IsRun rule steps l read items rest
    pub count : n ≡ length items
    pub written : bytes.Appends output.before output.after (items_output mode 1 items)

  -- The bytes are the whole output of the stream.
  pub record IsWholeOutput (mode : Mode) (stream out : List ℕ) : Type 0 where
    pub items : List Found
    pub end : End
    pub rejected : Option Value
    pub ends : Ends rule steps l stream items end
    pub rejects : IsRejected rule steps l stream items end rejected
    pub is : out ≡ stream_output mode items end rejected

  -- The bytes begin the output of the stream, whatever its end is.
  abbrev pub IsBeginning : Mode → List ℕ → List ℕ → Type 0
  IsBeginning mode stream out = (items : List Found) (end : End) (rejected : Option Value) → Ends rule steps l stream items end → IsRejected rule steps l stream items end rejected →
      (after : List ℕ) × (stream_output mode items end rejected ≡ out ++ after)

  -- Exactly the first k bytes of the stream's output went out.
  pub record WritesFirst (mode : Mode) (stream : List ℕ) (output : Change) (k : ℕ) : Type 0 where
    pub out : List ℕ
    pub front : IsWholeOutput mode stream out ⊎ IsBeginning mode stream out
    pub short : k < length out
    pub written : bytes.Appends output.before output.after (take k out)

  -- A read failed, or a write, or an allocation was refused; and what went out.
  abbrev pub IsCut : Mode → Change → Change → RunFault → Type 0
  IsCut mode input output (ReadFailed n) = HasFailed input × WritesRun mode input output n
  IsCut mode input output (WriteFailed k) = HasFailed output × IfSome input.before (λ stream. WritesFirst mode stream output k)
  IsCut mode input output (Memory n) = HasNotFailed input × HasNotFailed output × WritesItems mode input output n
