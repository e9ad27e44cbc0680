-- What controls of two types say.
use Rattle.std.specs.Prelude.{◌≡◌, ◌↔◌, ℕ, suc, ◌+◌, List, Some}
use Rattle.std.proofs.Common.{ap}
use Rattle.cbor_data.specs.Embedded.{Embeds, EmbedsAll}
use Rattle.cbor_data.specs.Value as V
use Rattle.cbor_data.specs.Value.{Value, uint, nint, bytes, text, array, pairs, tag, simple, float}
use Rattle.cddl_meaning.specs.Judges.{Answer, Yes, No, ref, left_no, left_yes, held_yes}
use Rattle.cddl_meaning.specs.Forms as F
use Rattle.cddl_meaning.specs.Held.{item, items}
use Rattle.cddl_language.specs.Controls.{left_alone, left_and_right, held_item, held_sequence}
use Rattle.cddl_language.specs.Language.{Saying, TermSays, control_node, language, type}
use Rattle.cddl_language.specs.Literals.{Values}
use Rattle.cddl_language.specs.Terms.{Definition, Term}

module _ (worth : Values) (ds : List Definition) (a b : Term) (p : ℕ) (x : Value) where
  pub both_say : Saying (language worth ds) (control_node worth ds (Some left_and_right) a b) p x Yes ↔ (TermSays worth ds a p x Yes × TermSays worth ds b p x Yes)
  both_say = (onwards, back)
    where
      onwards : Saying (language worth ds) (F.Both (type a) (type b)) p x Yes → TermSays worth ds a p x Yes × TermSays worth ds b p x Yes
      onwards (w, left_yes {v = u} {w = v} h k) = ((u, h), (v, k))

      back : TermSays worth ds a p x Yes × TermSays worth ds b p x Yes → Saying (language worth ds) (F.Both (type a) (type b)) p x Yes
      back ((u, h), (v, k)) = (suc (u + v), left_yes h k)

  pub left_says_no : (far : ℕ) → TermSays worth ds a p x (No far) → Saying (language worth ds) (control_node worth ds (Some left_and_right) a b) p x (No far)
  left_says_no far (w, h) = (suc w, left_no h)

  pub right_says_no : (far : ℕ) → TermSays worth ds a p x Yes → TermSays worth ds b p x (No far) → Saying (language worth ds) (control_node worth ds (Some left_and_right) a b) p x (No far)
  right_says_no far (u, h) (v, k) = (suc (u + v), left_yes h k)

  bytes_of : (y : Value) (bs : List ℕ) → F.bytes_in y ≡ Some bs → y ≡ bytes bs
  bytes_of (uint n) bs e = cc
  bytes_of (nint n) bs e = cc
  bytes_of (bytes cs) bs e = ap bytes same
    where
      same : cs ≡ bs
      same = cc
  bytes_of (text cs) bs e = cc
  bytes_of (array xs) bs e = cc
  bytes_of (pairs ps) bs e = cc
  bytes_of (tag n y) bs e = cc
  bytes_of (simple n) bs e = cc
  bytes_of (float w n) bs e = cc

  pub item_says : Saying (language worth ds) (control_node worth ds (Some held_item) a b) p x Yes ↔ (TermSays worth ds a p x Yes × ((bs : List ℕ) × (y : Value) × (x ≡ bytes bs) × Embeds bs y × TermSays worth ds b 0 y Yes))
  item_says = (onwards, back)
    where
      onwards : Saying (language worth ds) (F.Holding (type a) F.one_item (type b)) p x Yes → TermSays worth ds a p x Yes × ((bs : List ℕ) × (y : Value) × (x ≡ bytes bs) × Embeds bs y × TermSays worth ds b 0 y Yes)
      onwards (w, held_yes {v = u} {w = v} {y = y} {b = bs} h e (item k) g) = ((u, h), (bs, y, bytes_of x bs e, k, (v, g)))

      back : TermSays worth ds a p x Yes × ((bs : List ℕ) × (y : Value) × (x ≡ bytes bs) × Embeds bs y × TermSays worth ds b 0 y Yes) → Saying (language worth ds) (F.Holding (type a) F.one_item (type b)) p x Yes
      back ((u, h), (bs, y, e, k, (v, g))) = (suc (u + v), held_yes h (ap F.bytes_in e) (item k) g)

  pub sequence_says : Saying (language worth ds) (control_node worth ds (Some held_sequence) a b) p x Yes ↔ (TermSays worth ds a p x Yes × ((bs : List ℕ) × (ys : V.Values) × (x ≡ bytes bs) × EmbedsAll bs ys × TermSays worth ds b 0 (array ys) Yes))
  sequence_says = (onwards, back)
    where
      onwards : Saying (language worth ds) (F.Holding (type a) F.sequence_of_items (type b)) p x Yes → TermSays worth ds a p x Yes × ((bs : List ℕ) × (ys : V.Values) × (x ≡ bytes bs) × EmbedsAll bs ys × TermSays worth ds b 0 (array ys) Yes)
      onwards (w, held_yes {v = u} {w = v} {b = bs} h e (items {xs = ys} k) g) = ((u, h), (bs, ys, bytes_of x bs e, k, (v, g)))

      back : TermSays worth ds a p x Yes × ((bs : List ℕ) × (ys : V.Values) × (x ≡ bytes bs) × EmbedsAll bs ys × TermSays worth ds b 0 (array ys) Yes) → Saying (language worth ds) (F.Holding (type a) F.sequence_of_items (type b)) p x Yes
      back ((u, h), (bs, ys, e, k, (v, g))) = (suc (u + v), held_yes h (ap F.bytes_in e) (items k) g)

  pub alone_says : (o : Answer) → Saying (language worth ds) (control_node worth ds (Some left_alone) a b) p x o ↔ TermSays worth ds a p x o
  alone_says o = (onwards, back)
    where
      onwards : Saying (language worth ds) (F.Ref (type a)) p x o → TermSays worth ds a p x o
      onwards (w, ref {w = v} h) = (v, h)

      back : TermSays worth ds a p x o → Saying (language worth ds) (F.Ref (type a)) p x o
      back (w, h) = (suc w, ref h)
