-- A stream has an end.
use Rattle.std.proofs.Common.{◌≡◌, ℕ, zero, suc, ◌+◌, ◌<◌, ◌≤◌, ◌^◌, inl, inr, List, [], ◌∷◌, ◌++◌, length, take, drop, refl, sym, ap, subst, arith, length-append}
use Rattle.std.proofs.lemmas.Bool.{cases_lt}
use Rattle.std.proofs.lemmas.List.{take-append-drop}
use Rattle.cbor_data.specs.Value.{Value, AreBytes}
use Rattle.cbor_data.specs.Faults.{Bounds, last_offset, IsItem, IsFaultOf}
use Rattle.cbor_data.specs.Sequence as sequence
use Rattle.cbor_data.specs.Sequence.{Found, Takes, none, EndsBy, cleanly, at_fault, at_mismatch, at_spent, failed, fault, mismatch, spent}
use Rattle.cbor_data.specs.declared.FaultKind.{FaultKind}
use Rattle.cbor_read.specs.Fronts.{IsFront}
use Rattle.cbor_read.specs.declared.front.Front.{Front}
use Rattle.cbor_read.specs.declared.front.Front.TheVariants as front
use Rattle.cddl_meaning.specs.Judges.{Answer, Yes, No}
use Rattle.cddl_meaning.specs.Size.{size}
use Rattle.cddl_meaning.specs.Ranks.Decided.{IsDecided}
use Rattle.table_nodes.specs.Language.{RootSays, language_of, root_form}
use Rattle.table_nodes.specs.declared.table.Table.{Table}
use Rattle.seq_run.specs.declared.end.End.{End}
use Rattle.seq_run.specs.Ends.{Accepts, Misses, Overruns, Ends, IsAccepted, IsMissed, EndsFreely, end_of}
use Rattle.seq_run.specs.Judge.{Judge}
use Rattle.seq_run.proofs.Ending.{clean_run, fault_run, other_run}
use Rattle.seq_run.proofs.OneEnd.{bytes_after, end_as}
use Rattle.seq_run.proofs.Runs.{item_some, takes_snoc}
use Rattle.seq_run.proofs.Verdicts.{item_room}

-- the law of the reader that there is something at the front of a rest
abbrev pub SomeFront : Type 0
SomeFront = (l : Bounds) (o : ℕ) (b : List ℕ) → AreBytes b → o ≤ last_offset → (f : Front) × IsFront l o b f

-- the law of the matcher that a table says something of an item, and nothing else
abbrev pub Decided : Type 0
Decided = (table : Table) (x : Value) → size x < 2 ^ 64 → IsDecided (language_of table) (root_form table) 0 x

-- What is said of an item: it is accepted, or it is not, and this says why.
pub data IsJudged (accepts : Value → List ℕ → Type 0) (misses : Value → List ℕ → ℕ → Type 0) (overruns : Value → List ℕ → Type 0) (x : Value) (b : List ℕ) : Type 0 where
  accepted : accepts x b → IsJudged accepts misses overruns x b
  missed : (place : ℕ) → misses x b place → ((c : List ℕ) → accepts x c → ⊥) → IsJudged accepts misses overruns x b
  overrun : overruns x b → ((c : List ℕ) → accepts x c → ⊥) → IsJudged accepts misses overruns x b

module _ (some_front : SomeFront) (l : Bounds) (accepts : Value → List ℕ → Type 0) (misses : Value → List ℕ → ℕ → Type 0) (overruns : Value → List ℕ → Type 0)
    (judged : (o : ℕ) (x : Value) (b : List ℕ) → IsItem l o x b → IsJudged accepts misses overruns x b) (stream : List ℕ) where
  pub record SomeEnd : Type 0 where
    pub found : List Found
    pub end : sequence.End FaultKind
    pub ends : EndsBy l accepts (IsFaultOf l) misses overruns stream found end

  -- what is left once these items are taken, at this offset
  record IsLeft (found : List Found) (o : ℕ) (rest : List ℕ) : Type 0 where
    takes : Takes l accepts 0 stream found rest
    placed : o + length rest ≡ length stream
    inside : o ≤ last_offset
    are : AreBytes rest

  with_item : (found : List Found) (o : ℕ) (rest : List ℕ) (x : Value) (a b : List ℕ) → IsLeft found o rest → rest ≡ a ++ b → IsItem l o x a → ((found : List Found) (o : ℕ) → IsLeft found o b → SomeEnd) → IsJudged accepts misses overruns x a → SomeEnd
  with_item found o rest x a b left parts item on (accepted h) = on (found ++ record { offset = o; item = x } ∷ []) (o + length a) (record {
    takes = takes_snoc l accepts o x a b left.takes (omega (arith, left.placed)) parts item h;
    placed = omega (arith, left.placed, ap length parts, length-append a b);
    inside = item.placed;
    are = bytes_after a b (subst AreBytes parts left.are);
  })
  with_item found o rest x a b left parts item on (missed place h not) = record {
    found = found;
    end = failed (length found) o (mismatch place);
    ends = at_mismatch rest x a b (other_run l accepts stream found rest o x a b left.takes left.placed parts item not) left.placed parts item h;
  }
  with_item found o rest x a b left parts item on (overrun h not) = record {
    found = found;
    end = failed (length found) o spent;
    ends = at_spent rest x a b (other_run l accepts stream found rest o x a b left.takes left.placed parts item not) left.placed parts item h;
  }

  at_front : (found : List Found) (o : ℕ) (y : ℕ) (ys : List ℕ) → IsLeft found o (y ∷ ys) → ((found : List Found) (o : ℕ) (b : List ℕ) → length b ≤ length ys → IsLeft found o b → SomeEnd) → (f : Front) → IsFront l o (y ∷ ys) f → SomeEnd
  at_front found o y ys left on front.Nothing h = absurd (cc)
  at_front found o y ys left on (front.Item n x) h =
      let parts : y ∷ ys ≡ take n (y ∷ ys) ++ drop n (y ∷ ys) = sym (take-append-drop n (y ∷ ys)) in
      let some : 0 < length (take n (y ∷ ys)) = item_some l o x (take n (y ∷ ys)) h.1 in
      let fewer : length (drop n (y ∷ ys)) ≤ length ys = omega (arith, some, ap length parts, length-append (take n (y ∷ ys)) (drop n (y ∷ ys))) in
      with_item found o (y ∷ ys) x (take n (y ∷ ys)) (drop n (y ∷ ys)) left parts h.1 (λ f p k. on f p (drop n (y ∷ ys)) fewer k) (judged o x (take n (y ∷ ys)) h.1)
  at_front found o y ys left on (front.Fault told) h = record {
    found = found;
    end = failed (length found) o (fault told.kind told.at);
    ends = at_fault (y ∷ ys) (fault_run l accepts stream found (y ∷ ys) o told.kind told.at left.takes left.placed h) (λ e. cc) left.placed h;
  }

  some_end_from : (n : ℕ) (found : List Found) (o : ℕ) (rest : List ℕ) → length rest ≤ n → IsLeft found o rest → SomeEnd
  some_end_from n found o [] few left = record { found = found; end = sequence.clean (length found) (length stream); ends = cleanly (clean_run l accepts stream found left.takes) }
  some_end_from zero found o (y ∷ ys) few left = absurd (omega arith)
  some_end_from (suc n) found o (y ∷ ys) few left =
      let next = some_front l o (y ∷ ys) left.are left.inside in
      at_front found o y ys left (λ f p b fewer k. some_end_from n f p b (omega (arith, few, fewer)) k) next.0 next.1

  pub some_end_of : AreBytes stream → SomeEnd
  some_end_of are = some_end_from (length stream) [] 0 stream (omega arith) (record { takes = none; placed = omega arith; inside = omega arith; are = are })

-- an end of the definition is one of the code
pub end_back : (e : sequence.End FaultKind) → end_of (end_as e) ≡ e
end_back (sequence.clean items bytes) = refl
end_back (failed items offset (fault kind at)) = refl
end_back (failed items offset (mismatch place)) = refl
end_back (failed items offset spent) = refl

module _ (some_front : SomeFront) (decided : Decided) where
  said : (table : Table) (l : Bounds) (o : ℕ) (x : Value) (b : List ℕ) → IsItem l o x b → IsDecided (language_of table) (root_form table) 0 x
  said table l o x b item = decided table x (item_room l o x b item)

  not_yes : (table : Table) (x : Value) (place : ℕ) (d : IsDecided (language_of table) (root_form table) 0 x) → d.answer ≡ No place → (w : ℕ) → RootSays table x Yes w → ⊥
  not_yes table x place d is w h = let same : Yes ≡ d.answer = (d.only Yes w h).0 in cc

  judge_says : (judge : Judge) (l : Bounds) (o : ℕ) (x : Value) (b : List ℕ) → IsItem l o x b → IsJudged (Accepts judge) (Misses judge) (Overruns judge) x b
  judge_says judge l o x b item = by (said judge.table l o x b item)
    where
      over : (d : IsDecided (language_of judge.table) (root_form judge.table) 0 x) → judge.steps < d.weight → IsJudged (Accepts judge) (Misses judge) (Overruns judge) x b
      over d more = overrun (λ a w h. omega (arith, more, (d.only a w h).1)) (λ c h. omega (arith, more, (d.only Yes h.0 h.1).1, h.2))

      answered : (d : IsDecided (language_of judge.table) (root_form judge.table) 0 x) → d.weight ≤ judge.steps → (a : Answer) → d.answer ≡ a → IsJudged (Accepts judge) (Misses judge) (Overruns judge) x b
      answered d fits Yes is = accepted (d.weight, subst (λ a. RootSays judge.table x a d.weight) is d.says, fits)
      answered d fits (No place) is = missed place (d.weight, subst (λ a. RootSays judge.table x a d.weight) is d.says, fits) (λ c h. not_yes judge.table x place d is h.0 h.1)

      by : IsDecided (language_of judge.table) (root_form judge.table) 0 x → IsJudged (Accepts judge) (Misses judge) (Overruns judge) x b
      by d = elim (cases_lt judge.steps d.weight) [
        | inl more ↦ over d more
        | inr fits ↦ answered d fits d.answer refl
      ]

  table_says : (table : Table) (l : Bounds) (o : ℕ) (x : Value) (b : List ℕ) → IsItem l o x b → IsJudged (IsAccepted table) (IsMissed table) (λ y c. ⊥) x b
  table_says table l o x b item = by (said table l o x b item)
    where
      answered : (d : IsDecided (language_of table) (root_form table) 0 x) → (a : Answer) → d.answer ≡ a → IsJudged (IsAccepted table) (IsMissed table) (λ y c. ⊥) x b
      answered d Yes is = accepted (d.weight, subst (λ a. RootSays table x a d.weight) is d.says)
      answered d (No place) is = missed place (d.weight, subst (λ a. RootSays table x a d.weight) is d.says) (λ c h. not_yes table x place d is h.0 h.1)

      by : IsDecided (language_of table) (root_form table) 0 x → IsJudged (IsAccepted table) (IsMissed table) (λ y c. ⊥) x b
      by d = answered d d.answer refl

  pub some_end : (judge : Judge) (l : Bounds) (stream : List ℕ) → AreBytes stream → (found : List Found) × (end : End) × Ends judge l stream found end
  some_end judge l stream are =
      let s = some_end_of some_front l (Accepts judge) (Misses judge) (Overruns judge) (judge_says judge l) stream are in
      (s.found, end_as s.end, subst (λ e. EndsBy l (Accepts judge) (IsFaultOf l) (Misses judge) (Overruns judge) stream s.found e) (sym (end_back s.end)) s.ends)

  pub some_free_end : (table : Table) (l : Bounds) (stream : List ℕ) → AreBytes stream → (found : List Found) × (end : End) × EndsFreely table l stream found end
  some_free_end table l stream are =
      let s = some_end_of some_front l (IsAccepted table) (IsMissed table) (λ x b. ⊥) (table_says table l) stream are in
      (s.found, end_as s.end, subst (λ e. EndsBy l (IsAccepted table) (IsFaultOf l) (IsMissed table) (λ x b. ⊥) stream s.found e) (sym (end_back s.end)) s.ends)
