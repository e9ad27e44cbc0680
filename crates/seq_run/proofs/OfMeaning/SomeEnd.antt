-- By a text that decides about each item a stream has an end.
use Rattle.std.proofs.Common.{◌≡◌, ℕ, ◌<◌, ◌≤◌, ◌^◌, inl, inr, List, refl, sym, subst, arith}
use Rattle.std.proofs.lemmas.Bool.{cases_lt}
use Rattle.cbor_data.specs.Faults.{Bounds, IsFaultOf, IsItem}
use Rattle.cbor_data.specs.Sequence.{EndsBy, Found}
use Rattle.cbor_data.specs.Value.{AreBytes, Value}
use Rattle.cddl_language.specs.Language.{language, reference, type_node}
use Rattle.cddl_language.specs.Literals.{Values}
use Rattle.cddl_language.specs.Terms.{Definition, Text, call, no_terms}
use Rattle.cddl_meaning.specs.Judges.{Answer, No, Yes}
use Rattle.cddl_meaning.specs.Ranks.Decided.{IsDecided}
use Rattle.cddl_meaning.specs.Size.{size}
use Rattle.seq_run.specs.Meaning.Text.{EndsByText, TextAccepts, TextMisses, TextOverruns, TextSays}
use Rattle.seq_run.specs.declared.end.End.{End}
use Rattle.seq_run.proofs.OneEnd.{end_as}
use Rattle.seq_run.proofs.SomeEnd.{IsJudged, SomeFront, accepted, end_back, missed, overrun, some_end_of}
use Rattle.seq_run.proofs.Verdicts.{item_room}

module _ (worth : Values) (ds : List Definition) (root : Text) (decided : (x : Value) → size x < 2 ^ 64 → IsDecided (language worth ds) (type_node worth ds (reference (call root no_terms))) 0 x) (steps : ℕ) where
  abbrev Judged : Value → List ℕ → Type 0
  Judged x b = IsJudged (TextAccepts worth ds root steps) (TextMisses worth ds root steps) (TextOverruns worth ds root steps) x b

  not_yes : (x : Value) (place : ℕ) (d : IsDecided (language worth ds) (type_node worth ds (reference (call root no_terms))) 0 x) → d.answer ≡ No place → (w : ℕ) → TextSays worth ds root x Yes w → ⊥
  not_yes x place d is w h = let same : Yes ≡ d.answer = (d.only Yes w h).0 in cc

  judged : (l : Bounds) (o : ℕ) (x : Value) (b : List ℕ) → IsItem l o x b → Judged x b
  judged l o x b item = by (decided x (item_room l o x b item))
    where
      over : (d : IsDecided (language worth ds) (type_node worth ds (reference (call root no_terms))) 0 x) → steps < d.weight → Judged x b
      over d more = overrun (λ a w h. omega (arith, more, (d.only a w h).1)) (λ c h. omega (arith, more, (d.only Yes h.0 h.1).1, h.2))

      answered : (d : IsDecided (language worth ds) (type_node worth ds (reference (call root no_terms))) 0 x) → d.weight ≤ steps → (a : Answer) → d.answer ≡ a → Judged x b
      answered d fits Yes is = accepted (d.weight, subst (λ a. TextSays worth ds root x a d.weight) is d.says, fits)
      answered d fits (No place) is = missed place (d.weight, subst (λ a. TextSays worth ds root x a d.weight) is d.says, fits) (λ c h. not_yes x place d is h.0 h.1)

      by : IsDecided (language worth ds) (type_node worth ds (reference (call root no_terms))) 0 x → Judged x b
      by d = elim (cases_lt steps d.weight) [ inl more ↦ over d more | inr fits ↦ answered d fits d.answer refl ]

  pub some_text_end : SomeFront → (l : Bounds) (stream : List ℕ) → AreBytes stream → (found : List Found) × (end : End) × EndsByText worth ds root steps l stream found end
  some_text_end front l stream are =
      let s = some_end_of front l (TextAccepts worth ds root steps) (TextMisses worth ds root steps) (TextOverruns worth ds root steps) (judged l) stream are in
      (s.found, end_as s.end, subst (λ e. EndsBy l (TextAccepts worth ds root steps) (IsFaultOf l) (TextMisses worth ds root steps) (TextOverruns worth ds root steps) stream s.found e) (sym (end_back s.end)) s.ends)
