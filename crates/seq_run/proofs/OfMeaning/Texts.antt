-- A table that stands for a text says what the text says.
use Rattle.std.specs.Prelude.{ℕ, List}
use Rattle.cbor_data.specs.Faults.{Bounds, IsFaultOf}
use Rattle.cbor_data.specs.Sequence.{Found}
use Rattle.cbor_data.specs.Value.{Value}
use Rattle.cddl_language.specs.Language.{language, reference, type_node}
use Rattle.cddl_language.specs.Literals.{Values}
use Rattle.cddl_language.specs.StandsFor.{StandsFor}
use Rattle.cddl_language.specs.Terms.{Definition, Text, call, no_terms}
use Rattle.cddl_meaning.proofs.Lemmas.{said_before, says_too}
use Rattle.cddl_meaning.specs.Judges.{Answer, No, Yes}
use Rattle.cddl_meaning.specs.Ranks.Decided.{IsDecided}
use Rattle.table_nodes.specs.Language.{RootSays, language_of, rank_of, ranks_of, root_form, root_of}
use Rattle.table_nodes.specs.declared.table.Table.{Table}
use Rattle.seq_run.proofs.OfMeaning.Streams.{ends}
use Rattle.seq_run.specs.Meaning.Text.{EndsByText, TextAccepts, TextMisses, TextOverruns, TextSays}
use Rattle.seq_run.specs.Ends.{Accepts, Ends, Misses, Overruns, end_of}
use Rattle.seq_run.specs.Judge.{judge_of}
use Rattle.seq_run.specs.declared.end.End.{End}

module _ (worth : Values) (ds : List Definition) (root : Text) (table : Table) (stands : StandsFor worth ds root (language_of table) (root_of table) (rank_of table) (ranks_of table)) where
  pub said : (x : Value) (a : Answer) (w : ℕ) → RootSays table x a w → TextSays worth ds root x a w
  said x a w h = said_before (language worth ds) (language_of table) _ _ stands.alike {n = reference (call root no_terms)} {m = root_of table} stands.root_node h

  pub says : (x : Value) (a : Answer) (w : ℕ) → TextSays worth ds root x a w → RootSays table x a w
  says x a w h = says_too (language worth ds) (language_of table) _ _ stands.alike h (stands.alike.types (reference (call root no_terms)) (root_of table) stands.root_node)

  module _ (steps : ℕ) where
    pub accepted : (x : Value) (b : List ℕ) → Accepts (judge_of table steps) x b → TextAccepts worth ds root steps x b
    accepted x b (w, h, k) = (w, said x Yes w h, k)

    pub accepts : (x : Value) (b : List ℕ) → TextAccepts worth ds root steps x b → Accepts (judge_of table steps) x b
    accepts x b (w, h, k) = (w, says x Yes w h, k)

    missed : (x : Value) (b : List ℕ) (p : ℕ) → Misses (judge_of table steps) x b p → TextMisses worth ds root steps x b p
    missed x b p (w, h, k) = (w, said x (No p) w h, k)

    misses : (x : Value) (b : List ℕ) (p : ℕ) → TextMisses worth ds root steps x b p → Misses (judge_of table steps) x b p
    misses x b p (w, h, k) = (w, says x (No p) w h, k)

    overrun : (x : Value) (b : List ℕ) → Overruns (judge_of table steps) x b → TextOverruns worth ds root steps x b
    overrun x b f = λ a w h. f a w (says x a w h)

    overruns : (x : Value) (b : List ℕ) → TextOverruns worth ds root steps x b → Overruns (judge_of table steps) x b
    overruns x b f = λ a w h. f a w (said x a w h)

    pub by_text : (l : Bounds) (stream : List ℕ) (found : List Found) (end : End) → Ends (judge_of table steps) l stream found end → EndsByText worth ds root steps l stream found end
    by_text l stream found end h = ends l (Accepts (judge_of table steps)) (TextAccepts worth ds root steps) (IsFaultOf l) (Misses (judge_of table steps)) (TextMisses worth ds root steps) (Overruns (judge_of table steps)) (TextOverruns worth ds root steps) accepted accepts missed overrun stream found (end_of end) h

    pub by_table : (l : Bounds) (stream : List ℕ) (found : List Found) (end : End) → EndsByText worth ds root steps l stream found end → Ends (judge_of table steps) l stream found end
    by_table l stream found end h = ends l (TextAccepts worth ds root steps) (Accepts (judge_of table steps)) (IsFaultOf l) (TextMisses worth ds root steps) (Misses (judge_of table steps)) (TextOverruns worth ds root steps) (Overruns (judge_of table steps)) accepts accepted misses overruns stream found (end_of end) h

  pub text_decided : (x : Value) → IsDecided (language_of table) (root_form table) 0 x → IsDecided (language worth ds) (type_node worth ds (reference (call root no_terms))) 0 x
  text_decided x d = record { answer = d.answer; weight = d.weight; says = said x d.answer d.weight d.says; only = λ a w h. d.only a w (says x a w h) }
