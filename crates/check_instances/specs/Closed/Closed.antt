-- What the instances of a specification mean, by the rows of a table.
use Rattle.std.specs.Prelude.{◌≡◌, ◌≤◌, ℕ, List, [], length, Contains, Option, Some, None, slice_get}
use Rattle.cddl_meaning.specs.Alike.{AlikeAll}
use Rattle.cddl_language.specs.Terms.{Text, Term, Ref, Group, Entries, Entry, Definition, alternatives, stripped}
use Rattle.cddl_language.specs.Substitution.{type_choices, group_choices}
use Rattle.cddl_language.specs.Reach.{Reaches, Point, ref_at, most_instances}
use Rattle.cddl_language.specs.StandsFor.{AreInstances}
use Rattle.check_terms.specs.Table.{IsTable, Table}
use Rattle.check_terms.specs.Trees.{IsTerm, IsRef, IsGroup, IsEntries, IsEntry}
use Rattle.check_instances.specs.declared.closed.closed.Closed.{Closed}
use Rattle.check_instances.specs.declared.closed.closed.Meaning.{Meaning}

-- The row of this number stands for it. Lists of rows are related by `AlikeAll`, one for one.

abbrev pub TermRow : Table → Term → ℕ → Type 0
TermRow t x n = IsTerm t n x

abbrev pub EntriesRow : Table → Entries → ℕ → Type 0
EntriesRow t x n = IsEntries t n x

abbrev pub EntryRow : Table → Entry → ℕ → Type 0
EntryRow t x n = IsEntry t n x

-- the row is of a group with these alternatives; without a row there is none
pub data AreAlternatives (t : Table) : List Entries → Option ℕ → Type 0 where
  no_alternatives : AreAlternatives t [] None
  alternatives_of : {n : ℕ} (g : Group) → IsGroup t n g → AreAlternatives t (alternatives g) (Some n)

-- what a closed reference means, as a type and as a group
pub record IsMeaning (xs : List Definition) (t : Table) (r : Ref) (m : Meaning) : Type 0 where
  pub ref : IsRef t m.call r
  pub types : AlikeAll (TermRow t) (type_choices xs r) m.types.items
  pub group : AreAlternatives t (group_choices xs r) m.group

-- each reference's place among the instances, by its row
pub record ArePlaces (t : Table) (refs : List Ref) (places : List (Option ℕ)) : Type 0 where
  pub all : length places ≡ length t.rows
  pub told : (n k : ℕ) → slice_get places n ≡ Some (Some k) → (r : Ref) × (slice_get refs k ≡ Some r) × IsRef t n r
  pub found : (n : ℕ) (r : Ref) → IsRef t n r → Contains refs r → (k : ℕ) × (slice_get places n ≡ Some (Some k))

-- of each type's row, that of the type out of its parentheses
pub record AreStripped (t : Table) (rows : List ℕ) : Type 0 where
  pub all : length rows ≡ length t.rows
  pub each : (n : ℕ) (x : Term) → IsTerm t n x → (m : ℕ) × (slice_get rows n ≡ Some m) × IsTerm t m (stripped x)

-- These references are the instances, where the text has the definitions xs, and this is what they mean.
pub record IsClosed (xs : List Definition) (root : Text) (refs : List Ref) (t : Table) (c : Closed) : Type 0 where
  pub table : IsTable t
  pub instances : AreInstances xs root refs
  pub few : length refs ≤ most_instances
  pub meanings : AlikeAll (IsMeaning xs t) refs c.meanings.items
  pub places : ArePlaces t refs c.places.items
  pub stripped : AreStripped t c.stripped.items

-- what these points refer to is among the instances
abbrev pub AreReached : List Definition → Text → List Point → Type 0
AreReached xs root ps = (p : Point) → Contains ps p → Reaches xs root (ref_at p)
