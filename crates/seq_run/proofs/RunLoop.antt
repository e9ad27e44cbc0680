-- A run, from piece to piece.
use Rattle.std.proofs.Common.{◌≡◌, ◌≢◌, ℕ, suc, ◌+◌, ◌-◌, ◌*◌, ◌^◌, ◌<◌, ◌≤◌, ◌⊎◌, inl, inr, List, [], ◌∷◌, ◌++◌, length, take, Option, Some, None, IfSome, refl, sym, ap, ◌∙◌, subst, arith, append-nil, append_assoc, length-append}
use Rattle.std.proofs.Math.Seq.{take-append-add}
use Rattle.std.proofs.lemmas.Bool.{cases_lt}
use Rattle.std.proofs.lemmas.List.{length-take-le}
use Rattle.std.specs.Io.KnownBytes as bytes
use Rattle.cbor_data.specs.Value.{Value}
use Rattle.cbor_data.specs.Faults.{Bounds}
use Rattle.cbor_data.specs.Sequence as sequence
use Rattle.cbor_data.specs.Sequence.{Found, Takes, none, IsRunOf, EndsBy, cleanly, at_fault, at_mismatch, at_spent}
use Rattle.item_nodes.specs.Counted.{HasRisen, one_more}
use Rattle.seq_run.specs.Judge.{Judge}
use Rattle.seq_run.specs.declared.end.Cause.TheVariants.{Fault, Mismatch, Spent}
use Rattle.seq_run.specs.declared.end.End.{End}
use Rattle.seq_run.specs.declared.end.End.TheVariants.{Clean, Failed}
use Rattle.seq_run.specs.Ends.{Accepts, BeginsWith, IsRun, Ends}
use Rattle.seq_run.specs.Progress.{Progress}
use Rattle.seq_run.specs.Parts.{IsNext, IsRejected}
use Rattle.seq_run.specs.Answers.{IsOpen, IsLent}
use Rattle.seq_run.specs.declared.output.Mode.{Mode}
use Rattle.seq_run.specs.Report.{IsShown}
use Rattle.seq_run.specs.Output.{item_output, items_output, end_output}
use Rattle.seq_run.specs.Running.{Change, HasNotFailed, ReadsByPieces, IsWholeOutput, IsBeginning, WritesAll, WritesFirst, WritesItems, WritesRun, IsSettled, IsLast, IsPieceDone}
use Rattle.seq_run.proofs.Ending.{open_end}
use Rattle.seq_run.proofs.Reporting.{same_next, shown_lent}
use Rattle.seq_run.proofs.Verdicts.{ShowsInside}
use Rattle.seq_run.proofs.Runs.{same_takes, takes_extend, begins_run}

-- ---- known bytes

pub appends_more : (a b c : Option (List ℕ)) (bs cs : List ℕ) → bytes.Appends a b bs → bytes.Appends b c cs → bytes.Appends a c (bs ++ cs)
appends_more None b c bs cs p q = tt
appends_more (Some x) None c bs cs p q = absurd p
appends_more (Some x) (Some y) None bs cs p q = absurd q
appends_more (Some x) (Some y) (Some z) bs cs p q = q ∙ (ap (λ (l : List ℕ). l ++ cs) p ∙ append_assoc x bs cs)

pub consumes_more : (a b c : Option (List ℕ)) (bs cs : List ℕ) → bytes.Consumes a b bs → bytes.Consumes b c cs → bytes.Consumes a c (bs ++ cs)
consumes_more None b c bs cs p q = tt
consumes_more (Some x) None c bs cs p q = absurd p
consumes_more (Some x) (Some y) None bs cs p q = absurd q
consumes_more (Some x) (Some y) (Some z) bs cs p q = p ∙ (ap (λ (l : List ℕ). bs ++ l) q ∙ sym (append_assoc bs cs z))

pub consumes_kept : (a b c : Option (List ℕ)) (bs : List ℕ) → bytes.Consumes a b bs → bytes.Keeps b c → bytes.Consumes a c bs
consumes_kept None b c bs p q = tt
consumes_kept (Some x) None c bs p q = absurd p
consumes_kept (Some x) (Some y) None bs p q = absurd q
consumes_kept (Some x) (Some y) (Some z) bs p q = p ∙ ap (λ (l : List ℕ). bs ++ l) (sym q)

pub appends_none : (a : Option (List ℕ)) → bytes.Appends a a []
appends_none None = tt
appends_none (Some x) = sym (append-nil x)

pub consumes_none : (a : Option (List ℕ)) → bytes.Consumes a a []
consumes_none None = tt
consumes_none (Some x) = refl

-- what holds of the bytes read and then those left holds of the known stream
pub of_stream : (a b : Option (List ℕ)) (read piece : List ℕ) (P : List ℕ → Type 0) → bytes.Consumes a b read → (piece ≡ [] → bytes.IsAtEnd b) → ((left : List ℕ) → (piece ≡ [] → left ≡ []) → P (read ++ left)) → IfSome a P
of_stream None b read piece P c e f = tt
of_stream (Some x) None read piece P c e f = absurd c
of_stream (Some x) (Some y) read piece P c e f = subst P (sym c) (f y e)

pub risen : (n : ℕ) → HasRisen n (one_more n)
risen n = elim (cases_lt (n + 1) (2 ^ 64 - 1)) [
  | inl h ↦ inl (omega arith)
  | inr h ↦ inr (omega arith)
]

-- ---- ends

ends_of : {l : Bounds} {accepts : Value → List ℕ → Type 0} {kind : Type 0} {told : ℕ → List ℕ → kind → ℕ → Type 0} {misses : Value → List ℕ → ℕ → Type 0} {overruns : Value → List ℕ → Type 0} {stream : List ℕ} {found : List Found} {e : sequence.End kind} →
    EndsBy l accepts told misses overruns stream found e → (rest : List ℕ) × IsRunOf l accepts stream found rest
ends_of (cleanly run) = ([], run)
ends_of (at_fault rest run some placed told) = (rest, run)
ends_of (at_mismatch rest x front back run placed parts item misses) = (rest, run)
ends_of (at_spent rest x front back run placed parts item over) = (rest, run)

module _ (judge : Judge) (l : Bounds) where
  pub ends_run : (stream : List ℕ) (found : List Found) (end : End) → Ends judge l stream found end → (rest : List ℕ) × IsRun judge l stream found rest
  ends_run stream found end e = ends_of e

  pub same_rejected : (stream : List ℕ) (found : List Found) (end : End) (a b : Option Value) → IsRejected judge l stream found end a → IsRejected judge l stream found end b → a ≡ b
  same_rejected stream found (Clean items bytes) a b p q = p ∙ sym q
  same_rejected stream found (Failed items offset (Fault f)) a b p q = p ∙ sym q
  same_rejected stream found (Failed items offset Spent) a b p q = p ∙ sym q
  same_rejected stream found (Failed items offset (Mismatch place)) (Some x) (Some y) p q = ap Some (same_next judge l stream found x y p q)
  same_rejected stream found (Failed items offset (Mismatch place)) None b p q = absurd p
  same_rejected stream found (Failed items offset (Mismatch place)) (Some x) None p q = absurd q

  next_more : (fed more : List ℕ) (found : List Found) (rest : List ℕ) (x : Value) → IsNext judge l fed found x → IsRun judge l (fed ++ more) found rest → IsNext judge l (fed ++ more) found x
  next_more fed more found rest x n run =
      let rests = same_takes l (Accepts judge) run.takes (takes_extend l (Accepts judge) more n.run.takes) refl in
      record {
        rest = rest;
        offset = n.offset;
        front = n.front;
        back = n.back ++ more;
        run = run;
        offset_is = omega (arith, n.offset_is, ap length rests.1, length-append n.rest more, length-append fed more);
        parts = rests.1 ∙ (ap (λ (b : List ℕ). b ++ more) n.parts ∙ append_assoc n.front n.back more);
        item = n.item;
      }

  -- the item that failed stays so
  pub rejected_more : (fed more : List ℕ) (found : List Found) (end : End) (a : Option Value) → IsRejected judge l fed found end a → Ends judge l (fed ++ more) found end → IsRejected judge l (fed ++ more) found end a
  rejected_more fed more found (Clean items bytes) a r e = r
  rejected_more fed more found (Failed items offset (Fault f)) a r e = r
  rejected_more fed more found (Failed items offset Spent) a r e = r
  rejected_more fed more found (Failed items offset (Mismatch place)) (Some x) r e =
      let run = ends_of e in next_more fed more found run.0 x r run.1
  rejected_more fed more found (Failed items offset (Mismatch place)) None r e = absurd r

-- ---- output

pub items_output-append : (mode : Mode) (n : ℕ) (fs gs : List Found) → items_output mode n (fs ++ gs) ≡ items_output mode n fs ++ items_output mode (n + length fs) gs
items_output-append mode n [] gs = let e : n ≡ n + 0 = omega arith in ap (λ (m : ℕ). items_output mode m gs) e
items_output-append mode n (f ∷ fs) gs =
    let number : suc n + length fs ≡ n + suc (length fs) = omega arith in
    ap (λ (b : List ℕ). item_output mode n f ++ b) (items_output-append mode (suc n) fs gs ∙ ap (λ (m : ℕ). items_output mode (suc n) fs ++ items_output mode m gs) number) ∙ sym (append_assoc (item_output mode n f) (items_output mode (suc n) fs) (items_output mode (n + suc (length fs)) gs))

-- a list of items that the stream begins with has the beginning of its output
pub output_begins : (mode : Mode) (judge : Judge) (l : Bounds) (stream : List ℕ) (found : List Found) (rest out : List ℕ) → BeginsWith judge l stream found rest → out ≡ items_output mode 1 found → IsBeginning mode judge l stream out
output_begins mode judge l stream found rest out t is others end rejected e r =
    let run = ends_of e in
    let more = begins_run l (Accepts judge) t run.1.takes (run.1.longest found rest t) in
    let after = items_output mode (1 + length found) more.0 ++ end_output mode end rejected in
    (after, ap (λ (fs : List Found). items_output mode 1 fs ++ end_output mode end rejected) more.1 ∙ (ap (λ (b : List ℕ). b ++ end_output mode end rejected) (items_output-append mode 1 found more.0) ∙ (append_assoc (items_output mode 1 found) (items_output mode (1 + length found) more.0) (end_output mode end rejected) ∙ ap (λ (b : List ℕ). b ++ after) (sym is))))

pub some_byte : (piece : List ℕ) → piece ≢ [] → 0 < length piece
some_byte [] h = absurd (h refl)
some_byte (b ∷ bs) h = omega arith

-- a device with these known bytes and failures, before and after
abbrev pub change : Option (List ℕ) → Option (List ℕ) → ℕ → ℕ → Change
change before after failures_before failures_after = record { before = before; after = after; failures_before = failures_before; failures_after = failures_after }

-- what is known before each read
pub record IsOn (mode : Mode) (judge : Judge) (l : Bounds) (in_old in_now out_old out_now : Option (List ℕ)) (reads reads_now writes writes_now : ℕ) (session : Progress) (reported written : ℕ) : Type 0 where
  pub open_now : IsOpen session
  pub judge_is : session.judge ≡ judge
  pub limits_is : session.limits ≡ l
  pub consumed : bytes.Consumes in_old in_now session.fed
  pub appended : bytes.Appends out_old out_now (items_output mode 1 session.taken)
  pub reads_is : reads_now ≡ reads
  pub writes_is : writes_now ≡ writes
  pub reported_is : reported ≡ length session.taken
  pub written_is : written ≡ length (items_output mode 1 session.taken)
  pub bound : written ≤ length session.fed * 2 ^ 64

module _ (mode : Mode) (judge : Judge) (l : Bounds) (in_old in_now out_old out_now : Option (List ℕ)) (reads reads_now writes writes_now : ℕ) (session : Progress) (reported written : ℕ)
    (on : IsOn mode judge l in_old in_now out_old out_now reads reads_now writes writes_now session reported written) where
  ends_here : Ends judge l session.fed session.taken on.open_now.end
  ends_here = subst (λ (t : Judge). Ends t l session.fed session.taken on.open_now.end) on.judge_is (subst (λ (m : Bounds). Ends session.judge m session.fed session.taken on.open_now.end) on.limits_is on.open_now.ends)

  pub read_failed : (in_new : Option (List ℕ)) (reads_new : ℕ) → bytes.Keeps in_now in_new → reads_new ≡ one_more reads_now →
      HasRisen reads reads_new × WritesRun mode judge l (change in_old in_new reads reads_new) (change out_old out_now writes writes_now) reported
  read_failed in_new reads_new keeps count =
      let run = ends_run judge l session.fed session.taken on.open_now.end ends_here in (
        subst (λ n. HasRisen reads n) (sym (count ∙ ap one_more on.reads_is)) (risen reads),
        record { read = session.fed; found = session.taken; rest = run.0; consumed = consumes_kept in_old in_now in_new session.fed on.consumed keeps; run = run.1; count = on.reported_is; written = on.appended },
      )

  -- one piece more was read
  pub read_by_pieces : (in_new : Option (List ℕ)) (reads_new : ℕ) (piece : List ℕ) → bytes.Consumes in_now in_new piece → length piece ≤ 4096 → ReadsByPieces judge l (change in_old in_new reads reads_new)
  read_by_pieces in_new reads_new piece c few = record {
    front = session.fed;
    piece = piece;
    consumed = consumes_more in_old in_now in_new session.fed piece on.consumed c;
    few = few;
    found = session.taken;
    end = on.open_now.end;
    ends = ends_here;
    undecided = on.open_now.undecided;
  }

  -- the read failed
  pub read_no_more : (in_new : Option (List ℕ)) (reads_new : ℕ) → bytes.Keeps in_now in_new → ReadsByPieces judge l (change in_old in_new reads reads_new)
  read_no_more in_new reads_new keeps = record {
    front = session.fed;
    piece = [];
    consumed = subst (λ (b : List ℕ). bytes.Consumes in_old in_new b) (sym (append-nil session.fed)) (consumes_kept in_old in_now in_new session.fed on.consumed keeps);
    few = omega arith;
    found = session.taken;
    end = on.open_now.end;
    ends = ends_here;
    undecided = on.open_now.undecided;
  }

  pub no_memory : (in_new : Option (List ℕ)) (reads_new : ℕ) (piece : List ℕ) → reads_new ≡ reads_now → bytes.Consumes in_now in_new piece →
      HasNotFailed (change in_old in_new reads reads_new) × HasNotFailed (change out_old out_now writes writes_now) × WritesItems mode judge l (change in_old in_new reads reads_new) (change out_old out_now writes writes_now) reported
  no_memory in_new reads_new piece read_count c =
      let run = ends_run judge l session.fed session.taken on.open_now.end ends_here in (read_count ∙ on.reads_is, on.writes_is, record { read = session.fed ++ piece; found = session.taken; rest = run.0 ++ piece; consumed = consumes_more in_old in_now in_new session.fed piece on.consumed c; begins = takes_extend l (Accepts judge) piece run.1.takes; count = on.reported_is; written = on.appended })

  module _ (in_new : Option (List ℕ)) (piece : List ℕ) (c : bytes.Consumes in_now in_new piece) (at_end : piece ≡ [] → bytes.IsAtEnd in_new)
      (end : Option End) (new : Progress) (lines : List ℕ) (d : IsPieceDone mode session piece end new lines) where
    consumed_new : bytes.Consumes in_old in_new new.fed
    consumed_new = subst (λ (b : List ℕ). bytes.Consumes in_old in_new b) (sym d.adds.fed) (consumes_more in_old in_now in_new session.fed piece on.consumed c)

    judge_new : new.judge ≡ judge
    judge_new = d.adds.judge ∙ on.judge_is

    limits_new : new.limits ≡ l
    limits_new = d.adds.limits ∙ on.limits_is

    -- all lines of items
    lines_of_items : items_output mode 1 new.taken ≡ items_output mode 1 session.taken ++ d.items
    lines_of_items =
        let number : 1 + length session.taken ≡ suc (length session.taken) = omega arith in
        ap (λ (fs : List Found). items_output mode 1 fs) d.adds.taken ∙ (items_output-append mode 1 session.taken d.adds.added ∙ (ap (λ (n : ℕ). items_output mode 1 session.taken ++ items_output mode n d.adds.added) number ∙ ap (λ (b : List ℕ). items_output mode 1 session.taken ++ b) (sym d.adds.written)))

    all_lines : items_output mode 1 session.taken ++ lines ≡ items_output mode 1 new.taken ++ d.last
    all_lines = ap (λ (b : List ℕ). items_output mode 1 session.taken ++ b) d.written ∙ (sym (append_assoc (items_output mode 1 session.taken) d.items d.last) ∙ ap (λ (b : List ℕ). b ++ d.last) (sym lines_of_items))

    -- each stream that the reader may give ends so
    settled : (e : End) → IsSettled e piece new → (left : List ℕ) → (piece ≡ [] → left ≡ []) → Ends judge l (new.fed ++ left) new.taken e
    settled e s left h = subst (λ (t : Judge). Ends t l (new.fed ++ left) new.taken e) judge_new (subst (λ (m : Bounds). Ends new.judge m (new.fed ++ left) new.taken e) limits_new (s.ends left h))

    rejects : (e : End) (a : Option Value) → IsRejected new.judge new.limits new.fed new.taken e a → IsRejected judge l new.fed new.taken e a
    rejects e a r = subst (λ (t : Judge). IsRejected t l new.fed new.taken e a) judge_new (subst (λ (m : Bounds). IsRejected new.judge m new.fed new.taken e a) limits_new r)

    front_of : (last : List ℕ) (e : Option End) → IsLast mode e piece new last → (left : List ℕ) → (piece ≡ [] → left ≡ []) →
        IsWholeOutput mode judge l (new.fed ++ left) (items_output mode 1 new.taken ++ last) ⊎ IsBeginning mode judge l (new.fed ++ left) (items_output mode 1 new.taken ++ last)
    front_of last None h left bare =
        let open_new = h.2 in
        let here : Ends judge l new.fed new.taken open_new.end = subst (λ (t : Judge). Ends t l new.fed new.taken open_new.end) judge_new (subst (λ (m : Bounds). Ends new.judge m new.fed new.taken open_new.end) limits_new open_new.ends) in
        let run = ends_run judge l new.fed new.taken open_new.end here in
        inr (output_begins mode judge l (new.fed ++ left) new.taken (run.0 ++ left) (items_output mode 1 new.taken ++ last) (takes_extend l (Accepts judge) left run.1.takes) (ap (λ (b : List ℕ). items_output mode 1 new.taken ++ b) h.0 ∙ append-nil (items_output mode 1 new.taken)))
    front_of last (Some e) h left bare =
        let ends = settled e h.3 left bare in
        inl (record { found = new.taken; end = e; rejected = h.0; ends = ends; rejects = rejected_more judge l new.fed left new.taken e h.0 (rejects e h.0 h.1) ends; is = ap (λ (b : List ℕ). items_output mode 1 new.taken ++ b) h.2 })

    pub write_failed : (out_new : Option (List ℕ)) (k writes_new : ℕ) → k < length lines → bytes.Appends out_now out_new (take k lines) → HasRisen writes_now writes_new →
        HasRisen writes writes_new × IfSome in_old (λ stream. WritesFirst mode judge l stream (change out_old out_new writes writes_new) (written + k))
    write_failed out_new k writes_new short part rise =
        let out = items_output mode 1 session.taken ++ lines in
        let front : take (written + k) out ≡ items_output mode 1 session.taken ++ take k lines = ap (λ n. take (n + k) out) on.written_is ∙ take-append-add (items_output mode 1 session.taken) lines k in
        let all : bytes.Appends out_old out_new (take (written + k) out) = subst (λ (b : List ℕ). bytes.Appends out_old out_new b) (sym front) (appends_more out_old out_now out_new (items_output mode 1 session.taken) (take k lines) on.appended part) in
        let below : written + k < length out = omega (arith, short, on.written_is, length-append (items_output mode 1 session.taken) lines) in (
          subst (λ n. HasRisen n writes_new) on.writes_is rise,
          of_stream in_old in_new new.fed piece (λ stream. WritesFirst mode judge l stream (change out_old out_new writes writes_new) (written + k)) consumed_new at_end (λ left bare.
              let front_there = front_of d.last end d.line left bare in
              record {
                out = out;
                front = subst (λ (b : List ℕ). IsWholeOutput mode judge l (new.fed ++ left) b ⊎ IsBeginning mode judge l (new.fed ++ left) b) (sym all_lines) front_there;
                short = below;
                written = all;
              }),
        )

    written_all : (out_new : Option (List ℕ)) → bytes.Appends out_now out_new lines → bytes.Appends out_old out_new (items_output mode 1 new.taken ++ d.last)
    written_all out_new part = subst (λ (b : List ℕ). bytes.Appends out_old out_new b) all_lines (appends_more out_old out_now out_new (items_output mode 1 session.taken) lines on.appended part)

    last_of : (e : End) (last : List ℕ) (lent : Option Value) → IsLast mode (Some e) piece new last → IsLent new.stopped new lent → (left : List ℕ) → (piece ≡ [] → left ≡ []) → (out_new : Option (List ℕ)) (writes_new : ℕ) →
        bytes.Appends out_old out_new (items_output mode 1 new.taken ++ last) → WritesAll mode judge l (new.fed ++ left) (change out_old out_new writes writes_new) e lent
    last_of e last lent h lends left bare out_new writes_new part =
        let ends = settled e h.3 left bare in
        let lent_there : IsRejected new.judge new.limits new.fed new.taken e lent = subst (λ v. IsLent v new lent) h.3.stopped lends in
        let same : h.0 ≡ lent = same_rejected new.judge new.limits new.fed new.taken e h.0 lent h.1 lent_there in
        record {
          found = new.taken;
          ends = ends;
          rejects = rejected_more judge l new.fed left new.taken e lent (rejects e lent lent_there) ends;
          written = subst (λ (b : List ℕ). bytes.Appends out_old out_new (items_output mode 1 new.taken ++ b)) (h.2 ∙ ap (λ (a : Option Value). end_output mode e a) same) part;
        }

    pub reported_all : (e : End) (lent : Option Value) (out_new : Option (List ℕ)) (writes_new : ℕ) → end ≡ Some e → bytes.Appends out_now out_new lines → IsLent new.stopped new lent →
        IfSome in_old (λ stream. WritesAll mode judge l stream (change out_old out_new writes writes_new) e lent)
    reported_all e lent out_new writes_new is part lends =
        let line : IsLast mode (Some e) piece new d.last = subst (λ v. IsLast mode v piece new d.last) is d.line in
        of_stream in_old in_new new.fed piece (λ stream. WritesAll mode judge l stream (change out_old out_new writes writes_new) e lent) consumed_new at_end (λ left bare. last_of e d.last lent line lends left bare out_new writes_new (written_all out_new part))

    pub goes_on : (out_new : Option (List ℕ)) (reads_new writes_new : ℕ) → reads_new ≡ reads_now → end ≡ None → bytes.Appends out_now out_new lines → writes_new ≡ writes_now → (len : ℕ) → len ≡ length lines → len < 2 ^ 64 → (reported_new : ℕ) → (new.stopped ≡ None → reported_new ≡ length new.taken) →
        (0 < length piece) × IsOn mode judge l in_old in_new out_old out_new reads reads_new writes writes_new new reported_new (written + len)
    goes_on out_new reads_new writes_new read_count is part count len len_is few reported_new reported_new_is =
        let line : IsLast mode None piece new d.last = subst (λ v. IsLast mode v piece new d.last) is d.line in
        let all : items_output mode 1 session.taken ++ lines ≡ items_output mode 1 new.taken = all_lines ∙ (ap (λ (b : List ℕ). items_output mode 1 new.taken ++ b) line.0 ∙ append-nil (items_output mode 1 new.taken)) in
        let some : 0 < length piece = some_byte piece line.1 in (
          some,
          record {
            open_now = line.2;
            judge_is = judge_new;
            limits_is = limits_new;
            consumed = consumed_new;
            appended = subst (λ (b : List ℕ). bytes.Appends out_old out_new b) (ap (λ (b : List ℕ). items_output mode 1 new.taken ++ b) line.0 ∙ append-nil (items_output mode 1 new.taken)) (written_all out_new part);
            reads_is = read_count ∙ on.reads_is;
            writes_is = count ∙ on.writes_is;
            reported_is = reported_new_is line.2.going;
            written_is = omega (arith, len_is, on.written_is, ap length all, length-append (items_output mode 1 session.taken) lines);
            bound = omega (arith, on.bound, few, some, ap length d.adds.fed, length-append session.fed piece);
          },
        )

    pub written_fits : length lines < 2 ^ 64 → written + length lines < 2 ^ 128
    written_fits few = omega (arith, on.bound, few, on.open_now.short)

pub begin_run : (mode : Mode) (judge : Judge) (l : Bounds) (input output : Option (List ℕ)) (reads writes : ℕ) (session : Progress) → session ≡ record { judge = judge; limits = l; fed = []; taken = []; stopped = None } →
    IsOn mode judge l input input output output reads reads writes writes session 0 0
begin_run mode judge l input output reads writes session e =
    let end = open_end judge l [] [] 0 [] none refl (inl refl) in
    rw e (record {
      open_now = record { end = end.end; ends = end.ends; undecided = end.undecided; short = omega arith; going = refl };
      judge_is = refl;
      limits_is = refl;
      consumed = consumes_none input;
      appended = appends_none output;
      reads_is = refl;
      writes_is = refl;
      reported_is = refl;
      written_is = refl;
      bound = omega arith;
    })

-- the item that a session lends after its last piece can be shown with its end
pub shown_last : ShowsInside → (mode : Mode) (old : Progress) (piece : List ℕ) (end : Option End) (new : Progress) (out : List ℕ) → IsPieceDone mode old piece end new out → (e : End) (lent : Option Value) → end ≡ Some e → IsLent new.stopped new lent → IsShown e lent
shown_last inside mode old piece end new out d e lent is lends =
    let line : IsLast mode (Some e) piece new d.last = subst (λ v. IsLast mode v piece new d.last) is d.line in
    shown_lent inside piece new e lent line.3 lends

-- a piece of no bytes
pub no_bytes : (n : ℕ) (buffer piece : List ℕ) → n ≤ length buffer → piece ≡ take n buffer → piece ≡ [] → n ≡ 0
no_bytes n buffer piece h e bare = omega (arith, h, ap length (sym e ∙ bare), length-take-le n buffer h)
