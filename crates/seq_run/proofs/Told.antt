-- What was told of a run, from piece to piece.
use Rattle.std.proofs.Common.{◌≡◌, ℕ, ◌+◌, ◌^◌, ◌<◌, ◌≤◌, List, [], ◌∷◌, ◌++◌, length, Option, Some, None, refl, sym, ap, ◌∙◌, subst, arith, append-nil, append_assoc, length-append}
use Rattle.std.specs.Io.KnownBytes as bytes
use Rattle.cbor_data.specs.Faults.{Bounds}
use Rattle.seq_run.specs.Judge.{Judge}
use Rattle.seq_run.specs.declared.end.End.{End}
use Rattle.seq_run.specs.declared.output.Mode.{Mode}
use Rattle.seq_run.specs.Ends.{Ends}
use Rattle.seq_run.specs.Progress.{Progress}
use Rattle.seq_run.specs.Running.{IsLast, IsPieceDone}
use Rattle.seq_run.specs.Telling.{Telling, Tells}
use Rattle.seq_run.specs.Watching.{IsTelling, AreTellings, nothing_read, one_more, TellsByPieces}
use Rattle.seq_run.proofs.RunLoop.{change, consumes_more, consumes_kept, some_byte}

tells_none : (a : Option (List Telling)) → Tells a a []
tells_none None = tt
tells_none (Some x) = sym (append-nil x)

tells_more : (a b c : Option (List Telling)) (ts us : List Telling) → Tells a b ts → Tells b c us → Tells a c (ts ++ us)
tells_more None b c ts us p q = tt
tells_more (Some x) None c ts us p q = absurd p
tells_more (Some x) (Some y) None ts us p q = absurd q
tells_more (Some x) (Some y) (Some z) ts us p q = q ∙ (ap (λ (l : List Telling). l ++ us) p ∙ append_assoc x ts us)

-- what was told of the bytes read, and how many they are
pub record IsWatched (judge : Judge) (l : Bounds) (before now : Option (List Telling)) (fed : List ℕ) (consumed : ℕ) : Type 0 where
  pub tellings : List Telling
  pub are : AreTellings judge l fed tellings
  pub told : Tells before now tellings
  pub consumed_is : consumed ≡ length fed

pub begin_watch : (judge : Judge) (l : Bounds) (before : Option (List Telling)) (session : Progress) → session ≡ record { judge = judge; limits = l; fed = []; taken = []; stopped = None } → IsWatched judge l before before session.fed 0
begin_watch judge l before session e = rw e (record { tellings = []; are = nothing_read; told = tells_none before; consumed_is = refl })

module _ (judge : Judge) (l : Bounds) (in_old in_now in_new : Option (List ℕ)) (reads reads_new : ℕ) (before now : Option (List Telling)) (fed : List ℕ) (consumed : ℕ)
    (c : bytes.Consumes in_old in_now fed) (watched : IsWatched judge l before now fed consumed) where
  -- one piece more was read
  pub told_by_pieces : (piece : List ℕ) → bytes.Consumes in_now in_new piece → length piece ≤ 4096 → TellsByPieces judge l (change in_old in_new reads reads_new) before now
  told_by_pieces piece d few = record {
    front = fed;
    piece = piece;
    consumed = consumes_more in_old in_now in_new fed piece c d;
    few = few;
    tellings = watched.tellings;
    are = watched.are;
    told = watched.told;
  }

  -- the read failed
  pub told_no_more : bytes.Keeps in_now in_new → TellsByPieces judge l (change in_old in_new reads reads_new) before now
  told_no_more keeps = record {
    front = fed;
    piece = [];
    consumed = subst (λ (b : List ℕ). bytes.Consumes in_old in_new b) (sym (append-nil fed)) (consumes_kept in_old in_now in_new fed c keeps);
    few = omega arith;
    tellings = watched.tellings;
    are = watched.are;
    told = watched.told;
  }

module _ (mode : Mode) (old : Progress) (piece : List ℕ) (end : Option End) (new : Progress) (out : List ℕ) (d : IsPieceDone mode old piece end new out) (open_end : end ≡ None)
    (consumed n : ℕ) (consumed_is : consumed ≡ length old.fed) (n_is : n ≡ length piece) where
  line : IsLast mode None piece new d.last
  line = subst (λ v. IsLast mode v piece new d.last) open_end d.line

  all_read : consumed + n ≡ length new.fed
  all_read = omega (arith, consumed_is, n_is, ap length d.adds.fed, length-append old.fed piece)

  pub consumed_fits : consumed + n < 2 ^ 64
  consumed_fits = omega (arith, all_read, line.2.short)

  -- how far the run is was told after the piece
  pub watched_more : (judge : Judge) (l : Bounds) (before now after : Option (List Telling)) → IsWatched judge l before now old.fed consumed → new.judge ≡ judge → new.limits ≡ l → length piece ≤ 4096 →
      (items : ℕ) → items ≡ length new.taken → Tells now after (record { items = items; bytes = consumed + n } ∷ []) → IsWatched judge l before after new.fed (consumed + n)
  watched_more judge l before now after watched judge_is limits_are few items items_is told =
      let t : Telling = record { items = items; bytes = consumed + n } in
      let ends : Ends judge l new.fed new.taken line.2.end = subst (λ (j : Judge). Ends j l new.fed new.taken line.2.end) judge_is (subst (λ (m : Bounds). Ends new.judge m new.fed new.taken line.2.end) limits_are line.2.ends) in
      let telling : IsTelling judge l new.fed t = record { found = new.taken; end = line.2.end; ends = ends; undecided = line.2.undecided; items = items_is; bytes = all_read } in
      record {
        tellings = watched.tellings ++ t ∷ [];
        are = subst (λ (b : List ℕ). AreTellings judge l b (watched.tellings ++ t ∷ [])) (sym d.adds.fed) (one_more old.fed piece watched.tellings t watched.are (some_byte piece line.1) few (subst (λ (b : List ℕ). IsTelling judge l b t) d.adds.fed telling));
        told = tells_more before now after watched.tellings (t ∷ []) watched.told told;
        consumed_is = all_read;
      }
