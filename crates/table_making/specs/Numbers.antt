-- Numbers of types and groups, by what they are of.
use Rattle.std.specs.Prelude.{◌≡◌, ℕ, List, Some, slice_get}
use Rattle.cddl_meaning.specs.Alike.{AlikeAll, AlikeGroups, AlikeNumbers, AlikeTypes}
use Rattle.cddl_meaning.specs.Forms as F
use Rattle.cddl_language.specs.Language.{TypeName, GroupName}
use Rattle.check_terms.specs.Table.{Table}
use Rattle.std.specs.declared.alloc.Global.{Global}
use Rattle.std.specs.declared.vec.Vec.{Vec}
use Rattle.table_nodes.specs.Nodes.{entry_view}
use Rattle.table_nodes.specs.declared.nodes.MapEntry.{MapEntry}
use Rattle.table_nodes.specs.declared.nodes.TypeId.{TypeId}
use Rattle.table_nodes.specs.declared.nodes.GroupId.{GroupId}
use Rattle.table_making.specs.Basis.{Sense}
use Rattle.table_making.specs.Entries.{IsAlikeEntry}
use Rattle.table_making.specs.Forms.{entry_form_view}
use Rattle.table_making.specs.Origins.{IsEntryOf, IsGroupOrigin, IsTypeOrigin}
use Rattle.table_making.specs.declared.form.EntryForm.{EntryForm}
use Rattle.table_making.specs.declared.numbers.Numbers.{Numbers}
use Rattle.table_making.specs.declared.origin.GroupOrigin.{GroupOrigin}
use Rattle.table_making.specs.declared.origin.TypeOrigin.{TypeOrigin}

-- what the numbers are of
pub record Keys : Type 0 where
  pub types : List TypeOrigin
  pub groups : List GroupOrigin

abbrev pub keys_of : Numbers → Keys
keys_of v = record { types = v.types.keys; groups = v.groups.keys }

abbrev pub IsTypeAt : Keys → TypeOrigin → TypeId → Type 0
IsTypeAt ks o m = slice_get ks.types m.number ≡ Some o

abbrev pub IsGroupAt : Keys → GroupOrigin → GroupId → Type 0
IsGroupAt ks o m = slice_get ks.groups m.number ≡ Some o

-- each is of something that has a name
pub record AreNamed (s : Sense) (t : Table) (ks : Keys) : Type 0 where
  pub types : (i : ℕ) (o : TypeOrigin) → slice_get ks.types i ≡ Some o → (n : TypeName) × IsTypeOrigin s t n o
  pub groups : (i : ℕ) (o : GroupOrigin) → slice_get ks.groups i ≡ Some o → (n : GroupName) × IsGroupOrigin s t n o

-- old numbers stay
pub record Extends (old new : Keys) : Type 0 where
  pub types : (i : ℕ) (o : TypeOrigin) → slice_get old.types i ≡ Some o → slice_get new.types i ≡ Some o
  pub groups : (i : ℕ) (o : GroupOrigin) → slice_get old.groups i ≡ Some o → slice_get new.groups i ≡ Some o

-- What is given numbers. All numbers are named afterwards, where they were before and what is given one has a name.

pub record NumbersType (old new : Keys) (o : TypeOrigin) (m : TypeId) : Type 0 where
  pub grows : Extends old new
  pub there : IsTypeAt new o m
  pub named : (s : Sense) (t : Table) (n : TypeName) → IsTypeOrigin s t n o → AreNamed s t old → AreNamed s t new

pub record NumbersGroup (old new : Keys) (o : GroupOrigin) (m : GroupId) : Type 0 where
  pub grows : Extends old new
  pub there : IsGroupAt new o m
  pub named : (s : Sense) (t : Table) (n : GroupName) → IsGroupOrigin s t n o → AreNamed s t old → AreNamed s t new

pub record NumbersTypes (old new : Keys) (os : List TypeOrigin) (ms : List TypeId) : Type 0 where
  pub grows : Extends old new
  pub there : AlikeAll (IsTypeAt new) os ms
  pub named : (s : Sense) (t : Table) (ns : List TypeName) → AlikeAll (IsTypeOrigin s t) ns os → AreNamed s t old → AreNamed s t new

pub record NumbersGroups (old new : Keys) (os : List GroupOrigin) (ms : List GroupId) : Type 0 where
  pub grows : Extends old new
  pub there : AlikeAll (IsGroupAt new) os ms
  pub named : (s : Sense) (t : Table) (ns : List GroupName) → AlikeAll (IsGroupOrigin s t) ns os → AreNamed s t old → AreNamed s t new

-- Of entries of maps.

abbrev pub IsEntryAt : Keys → EntryForm → MapEntry → Type 0
IsEntryAt ks f m = IsAlikeEntry (IsTypeAt ks) (entry_form_view f) (entry_view m)

abbrev pub AreEntriesAt : Keys → Vec EntryForm Global → Vec MapEntry Global → Type 0
AreEntriesAt ks fs ms = AlikeAll (IsEntryAt ks) fs.items ms.items

abbrev pub AreEntriesOf : Sense → Table → List (F.MapEntry TypeName) → Vec EntryForm Global → Type 0
AreEntriesOf s t ds fs = AlikeAll (IsEntryOf s t) ds fs.items

pub record NumbersEntry (old new : Keys) (f : EntryForm) (m : MapEntry) : Type 0 where
  pub grows : Extends old new
  pub there : IsEntryAt new f m
  pub named : (s : Sense) (t : Table) (d : F.MapEntry TypeName) → IsEntryOf s t d f → AreNamed s t old → AreNamed s t new

pub record NumbersEntries (old new : Keys) (fs : List EntryForm) (ms : List MapEntry) : Type 0 where
  pub grows : Extends old new
  pub there : AlikeAll (IsEntryAt new) fs ms
  pub named : (s : Sense) (t : Table) (ds : List (F.MapEntry TypeName)) → AlikeAll (IsEntryOf s t) ds fs → AreNamed s t old → AreNamed s t new

pub record NumbersMap (old new : Keys) (fss : List (Vec EntryForm Global)) (mss : List (Vec MapEntry Global)) : Type 0 where
  pub grows : Extends old new
  pub there : AlikeAll (AreEntriesAt new) fss mss
  pub named : (s : Sense) (t : Table) (dss : List (List (F.MapEntry TypeName))) → AlikeAll (AreEntriesOf s t) dss fss → AreNamed s t old → AreNamed s t new

-- What is made of a form, with numbers for its parts.

pub record MakesNumber (old new : Keys) (f : F.TagNumber TypeOrigin) (m : F.TagNumber TypeId) : Type 0 where
  pub grows : Extends old new
  pub there : AlikeNumbers (IsTypeAt new) f m
  pub named : (s : Sense) (t : Table) (n : F.TagNumber TypeName) → AlikeNumbers (IsTypeOrigin s t) n f → AreNamed s t old → AreNamed s t new

pub record MakesType (old new : Keys) (f : F.Node TypeOrigin GroupOrigin) (m : F.Node TypeId GroupId) : Type 0 where
  pub grows : Extends old new
  pub there : AlikeTypes (IsTypeAt new) (IsGroupAt new) f m
  pub named : (s : Sense) (t : Table) (n : F.Node TypeName GroupName) → AlikeTypes (IsTypeOrigin s t) (IsGroupOrigin s t) n f → AreNamed s t old → AreNamed s t new

pub record MakesGroup (old new : Keys) (f : F.Group TypeOrigin GroupOrigin) (m : F.Group TypeId GroupId) : Type 0 where
  pub grows : Extends old new
  pub there : AlikeGroups (IsTypeAt new) (IsGroupAt new) f m
  pub named : (s : Sense) (t : Table) (n : F.Group TypeName GroupName) → AlikeGroups (IsTypeOrigin s t) (IsGroupOrigin s t) n f → AreNamed s t old → AreNamed s t new

-- the name is that of what has this number
pub record HasTypeNumber (s : Sense) (t : Table) (ks : Keys) (n : TypeName) (m : TypeId) : Type 0 where
  pub origin : TypeOrigin
  pub there : IsTypeAt ks origin m
  pub named : IsTypeOrigin s t n origin

pub record HasGroupNumber (s : Sense) (t : Table) (ks : Keys) (n : GroupName) (m : GroupId) : Type 0 where
  pub origin : GroupOrigin
  pub there : IsGroupAt ks origin m
  pub named : IsGroupOrigin s t n origin
