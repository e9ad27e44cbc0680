-- What `~` of each instance unwraps, and what a type of an entry is, by rows.
use Rattle.std.specs.Prelude.{◌≡◌, ℕ, List, Option, Some, None, slice_get}
use Rattle.cddl_meaning.specs.Alike.{AlikeAll}
use Rattle.cddl_language.specs.Terms.{Term, Ref, Group, Definition}
use Rattle.cddl_language.specs.Kinds as K
use Rattle.cddl_language.specs.Kinds.{Opened, opens_group, opens_type, opened}
use Rattle.check_terms.specs.Table.{Table}
use Rattle.check_terms.specs.Trees.{IsTerm, IsGroup}
use Rattle.check_instances.specs.declared.openings.openings.Opening.{Opening}
use Rattle.check_instances.specs.declared.openings.openings.Opening.TheVariants as OpeningV
use Rattle.check_instances.specs.declared.openings.openings.Part.{Part}
use Rattle.check_instances.specs.declared.openings.openings.Part.TheVariants as PartV

pub data IsOpened (t : Table) : Option Opened → Opening → Type 0 where
  nothing : IsOpened t None OpeningV.Nothing
  group_opened : {n : ℕ} {g : Group} → IsGroup t n g → IsOpened t (Some (opens_group g)) (OpeningV.Group n)
  type_opened : {n : ℕ} {x : Term} → IsTerm t n x → IsOpened t (Some (opens_type x)) (OpeningV.Type n)

-- what `~` of the reference unwraps, where the text has the definitions xs
abbrev pub IsOpening : List Definition → Table → Ref → Opening → Type 0
IsOpening xs t r o = IsOpened t (opened xs r) o

-- of each instance
abbrev pub AreOpenings : List Definition → Table → List Ref → List Opening → Type 0
AreOpenings xs t refs os = AlikeAll (IsOpening xs t) refs os

-- what the type of an entry is, with instances by their places among these
pub data IsPart (t : Table) (refs : List Ref) : K.Part → Part → Type 0 where
  a_type : IsPart t refs K.asks_type PartV.AsksType
  a_group : {k : ℕ} {r : Ref} → slice_get refs k ≡ Some r → IsPart t refs (K.names_group r) (PartV.NamesGroup k)
  an_opened_group : {k n : ℕ} {r : Ref} {g : Group} → slice_get refs k ≡ Some r → IsGroup t n g → IsPart t refs (K.opens r g) (PartV.Opens k n)
