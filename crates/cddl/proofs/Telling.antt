-- What a run by a table answers is told of the text and of the stream alone.
use Rattle.std.proofs.Common.{◌≡◌, ℕ, ◌≤◌, List, length, Option, refl, sym, subst}
use Rattle.std.specs.Prelude.{◌↔◌, IfSome}
use Rattle.cbor_data.specs.Faults.{Bounds, last_offset}
use Rattle.cbor_data.specs.Sequence.{Found}
use Rattle.cbor_data.specs.Value.{AreBytes, Value}
use Rattle.cddl_check.specs.Outcome.{specification}
use Rattle.cddl_check.specs.Text.{AreTokensOf, IsUnreadText}
use Rattle.cddl_table.specs.Text.{IsTabledText}
use Rattle.cddl_token.specs.declared.Refusal.{Refusal}
use Rattle.cddl_token.specs.declared.Refusal.TheVariants as why
use Rattle.cddl_token.specs.declared.Token.{Token}
use Rattle.cddl_language.specs.Faults.{definitions}
use Rattle.cddl_language.specs.Literals.{AreRight, AreTokens, Values}
use Rattle.cddl_language.specs.StandsFor.{StandsFor}
use Rattle.cddl_language.specs.Terms.{Definition, Text}
use Rattle.item_nodes.specs.declared.counted.Counted.{Counted}
use Rattle.cddl_meaning.specs.Judges.{Answer}
use Rattle.table_nodes.specs.Language.{RootSays, language_of, rank_of, ranks_of, root_of}
use Rattle.table_nodes.specs.declared.table.Table.{Table}
use Rattle.tree_nodes.specs.Syntax.Syntax.{Cddl}
use Rattle.tree_nodes.specs.Syntax.Answers.{IsTreeOf}
use Rattle.seq_run.specs.Answers.{items_of}
use Rattle.seq_run.specs.Judge.{judge_of}
use Rattle.seq_run.specs.Ends as E
use Rattle.seq_run.specs.Meaning.Text.{EndsByText, TextAccepts, TextSays}
use Rattle.seq_run.specs.Output.{stream_output}
use Rattle.seq_run.specs.Report.{IsShown}
use Rattle.seq_run.specs.Running as W
use Rattle.seq_run.specs.Running.{Change, HasNotFailed}
use Rattle.seq_run.specs.Written.{AreWritable, clean_end, found_from, written_bytes}
use Rattle.seq_run.specs.declared.end.End.{End}
use Rattle.seq_run.specs.declared.output.Mode.{Mode}
use Rattle.seq_run.specs.declared.running.RunFault.{RunFault}
use Rattle.seq_run.specs.declared.running.RunFault.TheVariants.{Memory}
use Rattle.cddl.specs.Failures.{failure_of}
use Rattle.cddl.specs.Rules.{Accepts, Ends, HasRoot, Rule}
use Rattle.cddl.specs.Tables.{SpeaksFor}
use Rattle.cddl.specs.Validated.{IsFailed, IsStopped, IsTold, IsUntouched, IsValidated, LeavesDevices, at_first, in_midst}
use Rattle.cddl.proofs.ByTable.{cut, ended, if_some, pieces, rejected}
use Rattle.cddl.proofs.Rereading.{rewritten, run_of, writable}

-- the laws from which this follows
abbrev pub HaveValues : Type 0
HaveValues = (x : Cddl) → AreTokens x → (worth : Values) × AreRight x worth

abbrev pub HaveTokens : Type 0
HaveTokens = (text : List ℕ) (ts : List Token) (x : Cddl) → AreTokensOf ts text → IsTreeOf x ts → AreTokens x

abbrev pub SaysTheSame : Type 0
SaysTheSame = (worth : Values) (ds : List Definition) (root : Text) (table : Table) → StandsFor worth ds root (language_of table) (root_of table) (rank_of table) (ranks_of table) → (x : Value) (a : Answer) (w : ℕ) → RootSays table x a w ↔ TextSays worth ds root x a w

abbrev pub EndsTheSame : Type 0
EndsTheSame = (worth : Values) (ds : List Definition) (root : Text) (table : Table) → StandsFor worth ds root (language_of table) (root_of table) (rank_of table) (ranks_of table) → (steps : ℕ) (l : Bounds) (stream : List ℕ) (found : List Found) (end : End) → E.Ends (judge_of table steps) l stream found end ↔ EndsByText worth ds root steps l stream found end

abbrev pub HaveOneEnd : Type 0
HaveOneEnd = (worth : Values) (ds : List Definition) (root : Text) (steps : ℕ) (l : Bounds) (stream : List ℕ) (found others : List Found) (end other : End) → AreBytes stream → EndsByText worth ds root steps l stream found end → EndsByText worth ds root steps l stream others other → (found ≡ others) × (end ≡ other)

abbrev pub AreReadBack : Type 0
AreReadBack = (worth : Values) (ds : List Definition) (root : Text) (steps : ℕ) (l : Bounds) (items : List Value) → AreWritable (TextAccepts worth ds root steps) l items → length (written_bytes items) ≤ last_offset → EndsByText worth ds root steps l (written_bytes items) (found_from 0 items) (clean_end items)

abbrev pub HaveRoots : Type 0
HaveRoots = (text : List ℕ) (named : Option Text) (table : Table) → IsTabledText text named table → (rule : Rule) × HasRoot text named rule × SpeaksFor rule table

pub rooted : HaveTokens → HaveValues → SaysTheSame → EndsTheSame → HaveRoots
rooted tokens values item stream text named table t =
    let right : (worth : Values) × AreRight t.tree worth = values t.tree (tokens text t.is_tree.tokens t.tree t.is_tree.are_tokens t.is_tree.is_tree) in
    let is = t.is_tabled right.0 right.1 in
    let ds : List Definition = definitions (specification t.tree named) in (
      record { name = is.1; definitions = ds; values = right.0 },
      record { tree = t.tree; is_tree = t.is_tree; are_right = right.1; accepted = is.0; definitions_are = refl; name_is = is.2 },
      record { stands = is.3; item = item right.0 ds is.1 table is.3; stream = stream right.0 ds is.1 table is.3 },
    )

pub record Laws : Type 0 where
  pub roots : HaveRoots
  pub one : HaveOneEnd
  pub back : AreReadBack

module _ (laws : Laws) (rule : Rule) (table : Table) (speaks : SpeaksFor rule table) (steps : ℕ) (l : Bounds) where
  told_of : l.depth ≤ 256 → (mode : Mode) (output : Change) (end : End) (v : Option Value) (stream : List ℕ) → W.WritesAll mode (judge_of table steps) l stream output end v → IsTold rule l steps mode stream output end v
  told_of few mode output end v stream w =
      let by : Ends rule steps l stream w.found end = ended rule table speaks steps l stream w.found end w.ends in
      let r = run_of by in
      record {
        items = w.found;
        rest = r.0;
        run = r.1;
        ends = by;
        one = λ bytes others other e. laws.one rule.values rule.definitions rule.name steps l stream w.found others end other bytes by e;
        rejects = rejected rule table speaks steps l stream w.found end v w.rejects;
        out = stream_output mode w.found end v;
        out_is = refl;
        written = w.written;
        read_back = λ e short fits.
            let same : stream_output mode w.found end v ≡ written_bytes (items_of w.found) = rewritten mode w.found end v e in
            subst (λ b. Ends rule steps l b (found_from 0 (items_of w.found)) (clean_end (items_of w.found))) (sym same)
            (laws.back rule.values rule.definitions rule.name steps l (items_of w.found) (writable l few (Accepts rule steps) (λ x b c a. a) r.1.takes short) (subst (λ b. length b ≤ last_offset) same fits));
      }

pub validated : Laws → (text : List ℕ) (named : Option Text) (table : Table) (l : Bounds) (steps : ℕ) (mode : Mode) (input output : Change) (end : End) (v : Option Value) →
    IsTabledText text named table → l.depth ≤ 256 → IfSome input.before (λ stream. W.WritesAll mode (judge_of table steps) l stream output end v) → IsShown end v →
    (HasNotFailed input) × (HasNotFailed output) → W.ReadsByPieces (judge_of table steps) l input → IsValidated text named l steps mode input output end v
validated laws text named table l steps mode input output end v tabled few all shown none read =
    let x = laws.roots text named table tabled in
    record {
      rule = x.0;
      root = x.1;
      told = if_some (λ stream. W.WritesAll mode (judge_of table steps) l stream output end v) (λ stream. IsTold x.0 l steps mode stream output end v) (λ stream w. told_of laws x.0 table x.2 steps l few mode output end v stream w) input.before all;
      shown = shown;
      reads = (none.0, pieces x.0 table x.2 steps l input read);
      writes = none.1;
      reads_back = λ items w fits. laws.back (x.0).values (x.0).definitions (x.0).name steps l items w fits;
    }

pub stopped : Laws → (text : List ℕ) (named : Option Text) (table : Table) (l : Bounds) (steps : ℕ) (mode : Mode) (input output : Change) (fault : RunFault) →
    IsTabledText text named table → W.IsFault mode (judge_of table steps) l input output fault → W.ReadsByPieces (judge_of table steps) l input → IsStopped text named l steps mode input output fault
stopped laws text named table l steps mode input output fault tabled f read =
    let x = laws.roots text named table tabled in
    in_midst x.0 x.1 (cut x.0 table x.2 steps l mode input output fault f) (pieces x.0 table x.2 steps l input read)

pub unread : (text : List ℕ) (named : Option Text) (l : Bounds) (steps : ℕ) (mode : Mode) (input output : Change) (e : Refusal) → IsUnreadText text named e → IsUntouched input → IsUntouched output → IsFailed text named l steps mode input output (failure_of e)
unread text named l steps mode input output (why.At code at) h i o = (h, i, o)
unread text named l steps mode input output why.Memory h i o = at_first refl i o

pub devices_left : {R W : Type 0} (input : Counted R) (output : Counted W) (e : Refusal) → LeavesDevices input input output output (failure_of e)
devices_left input output (why.At code at) = (refl, refl)
devices_left input output why.Memory = tt
