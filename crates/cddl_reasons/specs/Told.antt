-- What a reason tells: a question that was open, and has failed.
use Rattle.std.specs.Prelude.{◌≡◌, ◌≢◌, ◌⊎◌, ℕ, ◌<◌, ◌≤◌, Bool, false, List, [], ◌∷◌, ◌++◌, All, Option, Some, None, length, map, nat_eq, reverse}
use Rattle.std.specs.List.{list_any}
use Rattle.cbor_data.specs.Value.{Value}
use Rattle.cddl_meaning.specs.Forms as F
use Rattle.cddl_meaning.specs.Forms.{Language}
use Rattle.cddl_meaning.specs.Judges.{Answer, Yes, No, Fails}
use Rattle.cddl_meaning.specs.Moves as M
use Rattle.cddl_meaning.specs.Moves.{Replies}
use Rattle.cddl_match.specs.Machine.{root_question}
use Rattle.cddl_match.specs.Open.{AreOpenWith}
use Rattle.table_nodes.specs.Language.{RootSays, language_of}
use Rattle.table_nodes.specs.Nodes.{content_view}
use Rattle.table_nodes.specs.declared.nodes.GroupId.{GroupId}
use Rattle.table_nodes.specs.declared.nodes.TypeId.{TypeId}
use Rattle.table_nodes.specs.declared.table.Table.{Table}
use Rattle.type_links.specs.declared.link.Link.{Link}
use Rattle.type_links.specs.declared.link.Link.TheVariants as L
use Rattle.cddl_reasons.specs.Greedy.{is_greedy}
use Rattle.cddl_reasons.specs.Optional.{is_optional}
use Rattle.cddl_reasons.specs.declared.causes.Cause.{Cause}
use Rattle.cddl_reasons.specs.declared.causes.Cause.TheVariants as C
use Rattle.cddl_reasons.specs.declared.causes.Holder.{Holder}
use Rattle.cddl_reasons.specs.declared.causes.Reason.{Reason}
use Rattle.cddl_reasons.specs.declared.causes.Reasons.{Reasons}

-- The entries that are left are the last ones.
pub record EndIn {N : Type 0} (es left : List (F.MapEntry N)) : Type 0 where
  pub first : List (F.MapEntry N)
  pub whole : es ≡ first ++ left

-- the type that is asked, if one is
abbrev pub type_of : M.Question TypeId GroupId → List Link
type_of (M.OfType n p x) = L.Type n ∷ []
type_of (M.OfGroup g base q xs) = []
type_of (M.OfAlternative es base ps) = []

-- What of it is asked: the value of an entry, of which the key type is reported; an alternative of a group, or an entry of such an
-- alternative, by how many come after it.
abbrev pub part_of : M.Pending TypeId GroupId → List Link
part_of (M.InValue e es s) = L.Key e.key_type ∷ []
part_of (M.InAlternatives gs base place xs far) = L.Alternative (length gs) ∷ []
part_of (M.InSequence gs base far) = L.Entry (length gs) ∷ []
part_of _ = []

-- What led to the last question, by the questions and how each of them waits: the key type of an entry stands right before the
-- type of its value, which tells the entries of a map apart, and so do the entries of groups before the types that they ask.
abbrev pub links_of : List (M.Question TypeId GroupId) → List (M.Pending TypeId GroupId) → List Link
links_of (q ∷ qs) (o ∷ os) = (type_of q ++ part_of o) ++ links_of qs os
links_of _ _ = []

-- what a type reads in a byte string, if it reads anything
abbrev pub content_in : F.Node TypeId GroupId → Option F.Content
content_in (F.Holding m c k) = Some c
content_in _ = None

abbrev pub content_of : Language TypeId GroupId → M.Question TypeId GroupId → Option F.Content
content_of l (M.OfType n p x) = content_in (l.type_at n)
content_of l _ = None

abbrev pub string_at : ℕ → Option F.Content → List (ℕ × F.Content)
string_at p (Some c) = (p, c) ∷ []
string_at p None = []

-- the byte string whose content the question asks about, if it does so: its place, and what is read there
abbrev pub string_of : Language TypeId GroupId → M.Question TypeId GroupId → M.Pending TypeId GroupId → List (ℕ × F.Content)
string_of l q (M.InHeld p next) = string_at p (content_of l q)
string_of l q _ = []

-- those of many questions, by how each of them waits
abbrev pub strings_of : Language TypeId GroupId → List (M.Question TypeId GroupId) → List (M.Pending TypeId GroupId) → List (ℕ × F.Content)
strings_of l (q ∷ qs) (o ∷ os) = string_of l q o ++ strings_of l qs os
strings_of l _ _ = []

-- a byte string, as the definitions have it
abbrev pub holder_view : Holder → ℕ × F.Content
holder_view h = (h.place, content_view h.content)

-- No item of an array is left for the group, which is one of this type.
abbrev pub IsMissing : Language TypeId GroupId → M.Question TypeId GroupId → TypeId → Type 0
IsMissing l (M.OfGroup g base q []) m = l.group_at g ≡ F.Entry m
IsMissing l _ m = ⊥

-- The type is that of an array, and its no shows not there but at this place.
abbrev pub IsTooMuch : Language TypeId GroupId → M.Question TypeId GroupId → ℕ → Type 0
IsTooMuch l (M.OfType n p x) far = (g : GroupId) × (l.type_at n ≡ F.ArrayOf g) × (far ≢ p)
IsTooMuch l _ far = ⊥

-- The no of the alternative of a map shows not there but at this place.
abbrev pub IsStray : M.Question TypeId GroupId → ℕ → Type 0
IsStray (M.OfAlternative es base ps) far = far ≢ base
IsStray _ far = ⊥

-- The type is about what byte strings hold.
abbrev pub IsUnheld : Language TypeId GroupId → M.Question TypeId GroupId → F.Content → Type 0
IsUnheld l (M.OfType n p x) c = (m : TypeId) × (k : TypeId) × (l.type_at n ≡ F.Holding m c k)
IsUnheld l _ c = ⊥

-- one of these entries has this key type
abbrev pub has_key : TypeId → List (F.MapEntry TypeId) → Bool
has_key key es = list_any (λ e. nat_eq e.key_type.number key.number) es

-- So many pairs are too few for an entry with these after it, or too many.
abbrev pub IsCount : F.MapEntry TypeId → List (F.MapEntry TypeId) → Cause → Type 0
IsCount e es (C.Few key count least) = (key ≡ e.key_type) × (least ≡ e.least) × (count < least)
IsCount e es (C.Many key count most later) = (key ≡ e.key_type) × (F.at_most most ≡ e.most) × (most < count) × (later ≡ has_key key es)
IsCount e es _ = ⊥

-- It is an entry of the alternative, with these after it, and the no of the alternative shows at the map.
abbrev pub IsEntryOf : M.Question TypeId GroupId → (far : ℕ) → F.MapEntry TypeId → List (F.MapEntry TypeId) → Type 0
IsEntryOf (M.OfAlternative all base ps) far e es = (far ≡ base) × EndIn all (e ∷ es)
IsEntryOf _ far e es = ⊥

-- The entry of an alternative, with some after it, to which so many pairs belong.
abbrev pub IsCounted : M.Question TypeId GroupId → (far : ℕ) → Cause → Type 0
IsCounted q far c = (e : F.MapEntry TypeId) × (es : List (F.MapEntry TypeId)) × IsEntryOf q far e es × IsCount e es c

-- Of this question, which has failed at this place, the cause tells what it is.
abbrev pub IsCause : Language TypeId GroupId → M.Question TypeId GroupId → (far : ℕ) → Cause → Type 0
IsCause l q far C.Value = Unit {0}
IsCause l q far (C.Missing m) = IsMissing l q m
IsCause l q far C.TooMuch = IsTooMuch l q far
IsCause l q far C.Stray = IsStray q far
IsCause l q far (C.Few key count least) = IsCounted q far (C.Few key count least)
IsCause l q far (C.Many key count most later) = IsCounted q far (C.Many key count most later)
IsCause l q far (C.NothingHeld c) = IsUnheld l q (content_view c)

-- The reason is a question that was open, the last of those that were, and has failed at that place. It asks for nothing that need not
-- be there.
pub record IsReason (l : Language TypeId GroupId) (first : M.Question TypeId GroupId) (r : Reason) : Type 0 where
  -- those before it, the first one first, and how each of them waited
  pub before : List (M.Question TypeId GroupId)
  pub waits : List (M.Pending TypeId GroupId)
  pub last : M.Question TypeId GroupId
  pub next : M.Move TypeId GroupId
  pub opened : AreOpenWith l first (last ∷ reverse before) (reverse waits ++ M.InRef ∷ []) next
  pub fails : (w : ℕ) × Replies l last (Fails r.place) w
  pub links : r.links.items ≡ links_of before waits ++ type_of last
  pub strings : map holder_view r.strings.items ≡ strings_of l before waits
  pub cause : IsCause l last r.place r.cause
  pub greedy : r.greedy ≡ is_greedy l (reverse before) (reverse waits)
  pub needed : is_optional (reverse before) (reverse waits) ≡ false

-- These are reasons, and no more of them than that.
abbrev pub AreSome : Language TypeId GroupId → M.Question TypeId GroupId → (most : ℕ) → List Reason → Type 0
AreSome l first most rs = All (IsReason l first) rs × (length rs ≤ most)

-- The table says no to the item, which shows at that place, and these are reasons for it: some, if any are asked for, and no
-- more than are asked for.
pub record AreReasons (t : Table) (x : Value) (steps most : ℕ) (r : Reasons) : Type 0 where
  pub verdict : (w : ℕ) × RootSays t x (No r.place) w × (w ≤ steps)
  pub each : AreSome (language_of t) (root_question t x) most r.list.items
  pub some : 0 < most → 0 < length r.list.items

-- The table says yes to the item, or so many steps do not tell.
abbrev pub HasNone : Table → Value → ℕ → Type 0
HasNone t x steps = ((w : ℕ) × RootSays t x Yes w × (w ≤ steps)) ⊎ ((a : Answer) (w : ℕ) → RootSays t x a w → steps < w)
