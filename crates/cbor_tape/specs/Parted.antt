-- Keys part by part.
use Rattle.std.specs.Prelude.{◌≡◌, ℕ, ◌==◌, List, ◌∷◌, ◌++◌, drop, if◌then◌else◌, Option, Some, None}
use Rattle.std.specs.Cmp.Lexicographic.{slice_cmp}
use Rattle.std.specs.Ordering.{nat_cmp}
use Rattle.std.specs.declared.cmp.Ordering.{Ordering}
use Rattle.cbor_data.specs.Forms.{Form, Forms, forms_len, flat, forms_flat, IsOk, AreFormsOk, meaning, meanings}
use Rattle.cbor_tape.specs.declared.parts.Part.{Part}
use Rattle.cbor_tape.specs.declared.strings.Content.{Content}
use Rattle.cbor_tape.specs.Contents.{HasContent, IsTold}
use Rattle.cbor_tape.specs.Keys.{mark, marks}

-- the form is in b at `at`
pub record IsFormAt (b : List ℕ) (at : ℕ) (f : Form) (after : List ℕ) : Type 0 where
  pub ok : IsOk f
  pub is : drop at b ≡ flat f ++ after

-- forms are in b from `start` on, one after the other
pub record AreFormsFrom (b : List ℕ) (start : ℕ) (fs : Forms) (after : List ℕ) : Type 0 where
  pub ok : AreFormsOk fs
  pub is : drop start b ≡ forms_flat fs ++ after

abbrev pub part_content : Part → Content
part_content p = record { front = p.key.string; chunks = p.chunks }

-- what the part begins with, where its string has this content
abbrev pub part_mark : Part → List ℕ → List ℕ
part_mark p s = p.key.kind ∷ p.key.argument ∷ s

-- how many parts are in one of this kind with this argument; not told of a map
abbrev pub inside_of : ℕ → ℕ → Option ℕ
inside_of kind n = if kind == 4 then Some n else (if kind == 5 then None else (if kind == 6 then Some 1 else Some 0))

-- so many parts, which have these marks, are in b from `start` on; or nothing is known of them
abbrev pub ArePartsFrom : List ℕ → ℕ → Option ℕ → List ℕ → List ℕ → Type 0
ArePartsFrom b start None ms after = Unit {0}
ArePartsFrom b start (Some count) ms after = (fs : Forms) × AreFormsFrom b start fs after × (forms_len fs ≡ count) × (ms ≡ marks (meanings fs))

-- the part that a form begins with
pub record IsPartOf (b : List ℕ) (f : Form) (after : List ℕ) (p : Part) : Type 0 where
  pub content : List ℕ
  pub holds : HasContent b (part_content p) content
  pub rest : List ℕ
  pub marked : mark (meaning f) ≡ part_mark p content ++ rest
  pub inside : ArePartsFrom b p.end (inside_of p.key.kind p.key.argument) rest after

-- whatever form begins at `at`, it begins with this part
abbrev pub IsPartAt : List ℕ → ℕ → Part → Type 0
IsPartAt b at p = (f : Form) (after : List ℕ) → IsFormAt b at f after → IsPartOf b f after p

-- the parts are equal, or in this order whatever comes after them
abbrev pub ArePartsTold : List ℕ → Part → Part → Ordering → Type 0
ArePartsTold b p q o = (s t : List ℕ) → HasContent b (part_content p) s → HasContent b (part_content q) t → IsTold o (part_mark p s) (part_mark q t)

-- whatever forms begin at these offsets, the marks of what they mean are in this order, whatever comes after them
abbrev pub AreToldAt : List ℕ → ℕ → ℕ → Ordering → Type 0
AreToldAt b at other o = (f g : Form) (after behind : List ℕ) → IsFormAt b at f after → IsFormAt b other g behind → (u v : List ℕ) → slice_cmp nat_cmp (mark (meaning f) ++ u) (mark (meaning g) ++ v) ≡ o
