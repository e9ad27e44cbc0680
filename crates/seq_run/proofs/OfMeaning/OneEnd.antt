-- By a text a stream has one end at most, whether a table stands for the text or not.
use Rattle.std.proofs.Common.{◌≡◌, ℕ, ◌+◌, ◌<◌, ◌≤◌, ◌^◌, List, length, arith}
use Rattle.cbor_data.specs.Faults.{Bounds, IsItem, last_offset}
use Rattle.cbor_data.specs.Forms.{Spells}
use Rattle.cbor_data.specs.Preferred.{preferred}
use Rattle.cbor_data.specs.Sequence.{Found}
use Rattle.cbor_data.specs.Sound.{IsSound}
use Rattle.cbor_data.specs.Value.{AreBytes, Value}
use Rattle.cddl_language.specs.Language.{language}
use Rattle.cddl_language.specs.Literals.{Values}
use Rattle.cddl_language.specs.Terms.{Definition, Text}
use Rattle.cddl_meaning.proofs.Lemmas.{one_saying}
use Rattle.cddl_meaning.specs.Judges.{Answer, No}
use Rattle.cddl_meaning.specs.Size.{size}
use Rattle.seq_run.specs.Meaning.Text.{EndsByText, TextAccepts, TextMisses, TextOverruns, TextSays}
use Rattle.seq_run.specs.Written.{AreWritable, clean_end, found_from, written_bytes}
use Rattle.seq_run.specs.declared.end.End.{End}
use Rattle.seq_run.proofs.OneEnd.{AreApart, OneFault, one_way, same_end}
use Rattle.seq_run.proofs.Rereading.{written_by}
use Rattle.seq_run.proofs.Verdicts.{item_room}

pub text_once : (worth : Values) (ds : List Definition) (root : Text) (x : Value) (a b : Answer) (v w : ℕ) → size x < 2 ^ 64 → TextSays worth ds root x a v → TextSays worth ds root x b w → (b ≡ a) × (w ≡ v)
text_once worth ds root x a b v w few d e = let fits : 0 + size x < 2 ^ 64 = omega (arith, few) in one_saying (language worth ds) fits d e

module _ (worth : Values) (ds : List Definition) (root : Text) (steps : ℕ) where
  one_place : {l : Bounds} {o p q : ℕ} {x : Value} {b : List ℕ} → IsItem l o x b → TextMisses worth ds root steps x b p → TextMisses worth ds root steps x b q → p ≡ q
  one_place {l} {o} {p} {q} {x} {b} item (v, d, h) (w, e, k) = let same : No q ≡ No p = (text_once worth ds root x (No p) (No q) v w (item_room l o x b item) d e).0 in cc

  not_both : (x : Value) (place : ℕ) (b : List ℕ) → TextOverruns worth ds root steps x b → TextMisses worth ds root steps x b place → ⊥
  not_both x place b over (w, d, h) = let more = over (No place) w d in omega (arith, more, h)

  pub apart : AreApart (TextMisses worth ds root steps) (TextOverruns worth ds root steps)
  apart = record { one_place = one_place; not_both = not_both }

pub one_text_end : OneFault → (worth : Values) (ds : List Definition) (root : Text) (steps : ℕ) (l : Bounds) (stream : List ℕ) (found others : List Found) (end other : End) → AreBytes stream → EndsByText worth ds root steps l stream found end → EndsByText worth ds root steps l stream others other → (found ≡ others) × (end ≡ other)
one_text_end one_fault worth ds root steps l stream found others end other are ends also =
    let same = one_way one_fault l (TextAccepts worth ds root steps) (TextMisses worth ds root steps) (TextOverruns worth ds root steps) (apart worth ds root steps) stream are ends also in
    (same.0, same_end end other same.1)

pub text_read_back : ((x : Value) → IsSound x → Spells x (preferred x)) → (worth : Values) (ds : List Definition) (root : Text) (steps : ℕ) (l : Bounds) (items : List Value) → AreWritable (TextAccepts worth ds root steps) l items → length (written_bytes items) ≤ last_offset → EndsByText worth ds root steps l (written_bytes items) (found_from 0 items) (clean_end items)
text_read_back spells worth ds root steps l items w h = written_by spells (TextAccepts worth ds root steps) l items w h
