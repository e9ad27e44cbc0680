-- What a search for instances finds.
use Rattle.std.specs.Prelude.{◌≢◌, ◌<◌, ◌≤◌, List, [], ◌∷◌, length, AllPairs, Contains}
use Rattle.cddl_language.specs.Terms as L
use Rattle.cddl_language.specs.Terms.{Text, Ref}
use Rattle.cddl_language.specs.Substitution.{bodies}
use Rattle.cddl_language.specs.Reach.{Reaches, most_instances}
use Rattle.cddl_language.specs.StandsFor.{AreInstances}
use Rattle.check_terms.specs.Table.{Table}
use Rattle.check_terms.specs.Trees.{IsRef}
use Rattle.check_instances.specs.declared.found.Found.{Found}
use Rattle.check_instances.specs.declared.found.Found.TheVariants as FoundV
use Rattle.check_instances.specs.declared.found.Instance.{Instance}
use Rattle.check_instances.specs.Bodies.{AreBodies}

-- the closed reference, and what it means
pub record IsInstance (xs : List L.Definition) (t : Table) (i : Instance) (r : Ref) : Type 0 where
  pub ref : IsRef t i.call r
  pub means : AreBodies t i.bodies.items (bodies xs r)

-- one for one
pub data AreFound (xs : List L.Definition) (t : Table) : List Instance → List Ref → Type 0 where
  none_found : AreFound xs t [] []
  further_found : {i : Instance} {r : Ref} {is : List Instance} {rs : List Ref} → IsInstance xs t i r → AreFound xs t is rs → AreFound xs t (i ∷ is) (r ∷ rs)

-- These are the instances, where the text has the definitions xs.
pub record HasFound (xs : List L.Definition) (root : Text) (t : Table) (found : List Instance) : Type 0 where
  pub refs : List Ref
  pub are_instances : AreInstances xs root refs
  pub are_found : AreFound xs t found refs
  pub few : length found ≤ most_instances

-- There are more than may be.
pub record HasTooMany (xs : List L.Definition) (root : Text) : Type 0 where
  pub refs : List Ref
  pub reached : (r : Ref) → Contains refs r → Reaches xs root r
  pub distinct : AllPairs (λ (q r : Ref). q ≢ r) refs
  pub many : most_instances < length refs

abbrev pub IsFound : List L.Definition → Text → Table → Found → Type 0
IsFound xs root t (FoundV.Instances found) = HasFound xs root t found.items
IsFound xs root t FoundV.TooMany = HasTooMany xs root
