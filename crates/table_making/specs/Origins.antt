-- What the types and groups of the table are of.
use Rattle.std.specs.Prelude.{◌≡◌, ℕ, true, false, List, [], ◌∷◌, ◌++◌, map, Option, Some, slice_get}
use Rattle.std.specs.declared.alloc.Global.{Global}
use Rattle.std.specs.declared.vec.Vec.{Vec}
use Rattle.cddl_meaning.specs.Alike.{AlikeAll, AlikeTypes, AlikeGroups}
use Rattle.cddl_meaning.specs.Forms as F
use Rattle.cddl_language.specs.Terms.{Text, Literal, Term, Ref, Group, Entries, Entry, Key, alternatives, entry_list, name_of}
use Rattle.cddl_language.specs.Substitution.{group_choices}
use Rattle.cddl_language.specs.Choices.{can_choose}
use Rattle.cddl_language.specs.Maps.{Alternatives, Member, cuts}
use Rattle.cddl_language.specs.Kinds as K
use Rattle.cddl_language.specs.Kinds.{is_group}
use Rattle.cddl_language.specs.Reach.{Point, points, group_points, entries_points, entry_points, key_points}
use Rattle.cddl_language.specs.Language as L
use Rattle.cddl_language.specs.Language.{TypeName, type, chosen_of, GroupName, first_of, each_of, entry, round, reference, type_node, word}
use Rattle.check_terms.specs.Table.{Table}
use Rattle.check_terms.specs.Trees.{IsTerm, IsEntries, IsEntry}
use Rattle.check_instances.specs.Closed.Closed.{AreAlternatives, AreReached}
use Rattle.cddl_language.specs.Written.Written.{AllIn, AllInGroup, AllInEntries, AllInEntry, AllInKey, IsMeant}
use Rattle.table_making.specs.Basis.{Sense}
use Rattle.table_making.specs.Entries.{IsAlikeEntry}
use Rattle.table_making.specs.Forms.{entry_form_view, group_form_view, type_form_view}
use Rattle.table_making.specs.declared.asked.Asked.{Asked}
use Rattle.table_making.specs.declared.asked.Asked.TheVariants as A
use Rattle.table_making.specs.declared.form.EntryForm.{EntryForm}
use Rattle.table_making.specs.declared.form.GroupForm.{GroupForm}
use Rattle.table_making.specs.declared.form.KeyForm.{KeyForm}
use Rattle.table_making.specs.declared.form.TypeForm.{TypeForm}
use Rattle.table_making.specs.declared.origin.GroupOrigin.{GroupOrigin}
use Rattle.table_making.specs.declared.origin.GroupOrigin.TheVariants as G
use Rattle.table_making.specs.declared.origin.TypeOrigin.{TypeOrigin}
use Rattle.table_making.specs.declared.origin.TypeOrigin.TheVariants as T

-- the references that stand in alternatives
abbrev pub all_points : List Entries → List Point
all_points [] = []
all_points (es ∷ ess) = entries_points es ++ all_points ess

abbrev pub IsReached : Sense → List Point → Type 0
IsReached s ps = AreReached s.definitions s.root ps

-- each written value in alternatives is taken for what it stands for
abbrev pub AllInEach : (Literal → Type 0) → List Entries → Type 0
AllInEach P [] = Unit {0}
AllInEach P (es ∷ ess) = AllInEntries P es × AllInEach P ess

-- All references in it are instances, and each written value in it is taken for what it stands for.
module _ (s : Sense) where
  abbrev pub IsKnown : Term → Type 0
  IsKnown x = IsReached s (points x) × AllIn (IsMeant s.worth) x

  abbrev pub IsKnownGroup : Group → Type 0
  IsKnownGroup g = IsReached s (group_points g) × AllInGroup (IsMeant s.worth) g

  abbrev pub AreKnownEntries : Entries → Type 0
  AreKnownEntries es = IsReached s (entries_points es) × AllInEntries (IsMeant s.worth) es

  abbrev pub IsKnownEntry : Entry → Type 0
  IsKnownEntry e = IsReached s (entry_points e) × AllInEntry (IsMeant s.worth) e

  abbrev pub AreKnown : List Entries → Type 0
  AreKnown ess = IsReached s (all_points ess) × AllInEach (IsMeant s.worth) ess

  abbrev pub IsKnownKey : Key → Type 0
  IsKnownKey k = IsReached s (key_points k) × AllInKey (IsMeant s.worth) k

  -- of entries of maps

  abbrev pub IsKnownMember : Member → Type 0
  IsKnownMember m = IsKnownKey m.key × IsKnown m.value

  abbrev pub AreKnownMembers : List Member → Type 0
  AreKnownMembers [] = Unit {0}
  AreKnownMembers (m ∷ ms) = IsKnownMember m × AreKnownMembers ms

  abbrev pub AreKnownAlternatives : Alternatives → Type 0
  AreKnownAlternatives [] = Unit {0}
  AreKnownAlternatives (ms ∷ mss) = AreKnownMembers ms × AreKnownAlternatives mss

-- The names of the types and groups that are of these numbers. All references that stand in them are instances, and each
-- written value in them is taken for what it stands for. What `&` chooses from is of these only where it can choose from it.
module _ (s : Sense) (t : Table) where
  pub data IsTypeOrigin : TypeName → TypeOrigin → Type 0 where
    of_row : {n : ℕ} {x : Term} → IsTerm t n x → IsReached s (points x) → AllIn (IsMeant s.worth) x → IsTypeOrigin (type x) (T.Row n)
    of_instance : {k : ℕ} {r : Ref} → slice_get s.refs k ≡ Some r → is_group s.definitions (name_of r) ≡ false → IsTypeOrigin (reference r) (T.Instance k)
    of_chosen : {o : Option ℕ} {ess : List Entries} → AreAlternatives t ess o → IsReached s (all_points ess) → AllInEach (IsMeant s.worth) ess → can_choose s.definitions ess ≡ true → IsTypeOrigin (chosen_of ess) (T.Chosen o)
    of_word : {k : ℕ} {n : Text} → slice_get t.texts k ≡ Some n → IsTypeOrigin (word n) (T.Word k)

  pub data IsGroupOrigin : GroupName → GroupOrigin → Type 0 where
    of_alternatives : {o : Option ℕ} {ess : List Entries} → AreAlternatives t ess o → IsReached s (all_points ess) → AllInEach (IsMeant s.worth) ess → IsGroupOrigin (first_of ess) (G.Alternatives o)
    of_sequence : {n : ℕ} {es : Entries} → IsEntries t n es → IsReached s (entries_points es) → AllInEntries (IsMeant s.worth) es → IsGroupOrigin (each_of es) (G.Sequence n)
    of_entry : {n : ℕ} {e : Entry} → IsEntry t n e → IsReached s (entry_points e) → AllInEntry (IsMeant s.worth) e → IsGroupOrigin (entry e) (G.Entry n)
    of_round : {n : ℕ} {e : Entry} → IsEntry t n e → IsReached s (entry_points e) → AllInEntry (IsMeant s.worth) e → IsGroupOrigin (round e) (G.Round n)

  -- the form, with parts that are of these
  abbrev pub IsTypeForm : TypeName → TypeForm → Type 0
  IsTypeForm n f = AlikeTypes IsTypeOrigin IsGroupOrigin (type_node s.worth s.definitions n) (type_form_view f)

  abbrev pub IsGroupForm : GroupName → GroupForm → Type 0
  IsGroupForm n f = AlikeGroups IsTypeOrigin IsGroupOrigin (L.group_form s.worth s.definitions n) (group_form_view f)

  -- of a term, of an instance, and of what `&` chooses from
  abbrev pub IsTermForm : Term → TypeForm → Type 0
  IsTermForm x f = IsTypeForm (type x) f

  abbrev pub IsInstanceForm : Ref → TypeForm → Type 0
  IsInstanceForm r f = IsTypeForm (reference r) f

  abbrev pub IsChosenForm : List Entries → TypeForm → Type 0
  IsChosenForm ess f = IsTypeForm (chosen_of ess) f

  -- What an entry's type is: with the row of a group with the alternatives, or with none, where it is a group.
  pub data IsAsked : K.Part → Asked → Type 0 where
    asks_type : IsAsked K.asks_type A.Type
    asks_named : {r : Ref} {o : Option ℕ} → AreAlternatives t (group_choices s.definitions r) o → AreKnown s (group_choices s.definitions r) → IsAsked (K.names_group r) (A.Group o)
    asks_opened : {r : Ref} {g : Group} {o : Option ℕ} → AreAlternatives t (alternatives g) o → AreKnown s (alternatives g) → IsAsked (K.opens r g) (A.Group o)

  -- the types from which `&` chooses
  abbrev pub AreChosen : List Entries → List TypeOrigin → Type 0
  AreChosen ess os = AlikeAll IsTypeOrigin (L.chosen_names s.worth s.definitions ess) os

  -- these, and then those of the entries
  abbrev pub AddsChosen : Entries → (old new : List TypeOrigin) → Type 0
  AddsChosen es old new = (ns : List TypeName) → AlikeAll IsTypeOrigin ns old → AlikeAll IsTypeOrigin (ns ++ map (λ e. L.chosen_name s.worth s.definitions e) (entry_list es)) new

  -- entries of maps

  abbrev pub IsEntryOf : F.MapEntry TypeName → EntryForm → Type 0
  IsEntryOf d f = IsAlikeEntry IsTypeOrigin d (entry_form_view f)

  abbrev pub IsMemberForm : Member → EntryForm → Type 0
  IsMemberForm m f = IsEntryOf (L.map_entry m) f

  abbrev pub AreMapForms : Alternatives → List (Vec EntryForm Global) → Type 0
  AreMapForms mss fss = AlikeAll (λ (ms : List Member) (fs : Vec EntryForm Global). AlikeAll IsMemberForm ms fs.items) mss fss

  -- of a key: its type, and whether it cuts
  abbrev pub IsKeyForm : Key → KeyForm → Type 0
  IsKeyForm k f = IsTypeOrigin (L.key_name k) f.origin × (cuts k ≡ f.cuts)

  -- of groups likewise
  abbrev pub IsAlternativesForm : List Entries → GroupForm → Type 0
  IsAlternativesForm ess f = IsGroupForm (first_of ess) f

  abbrev pub IsEntriesForm : Entries → GroupForm → Type 0
  IsEntriesForm es f = IsGroupForm (each_of es) f

  abbrev pub IsEntryForm : Entry → GroupForm → Type 0
  IsEntryForm e f = IsGroupForm (entry e) f

  abbrev pub IsRoundForm : Entry → GroupForm → Type 0
  IsRoundForm e f = IsGroupForm (round e) f

  abbrev pub IsPartForm : Term → GroupForm → Type 0
  IsPartForm x f = AlikeGroups IsTypeOrigin IsGroupOrigin (L.part_form s.worth s.definitions x (K.part_of s.definitions x)) (group_form_view f)
