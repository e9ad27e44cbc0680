-- What the places of a name's definitions say of the environment (RFC 8610 sections 2.2.2 and 3.9).
use Rattle.std.specs.Prelude.{◌≡◌, ℕ, ◌+◌, false, if◌then◌else◌, ◌&&◌, is_some, List, [], ◌∷◌, Option, Some, None, slice_get}
use Rattle.cddl_language.specs.Terms as L
use Rattle.cddl_language.specs.Terms.{Text}
use Rattle.cddl_language.specs.Environment as E
use Rattle.cddl_language.specs.Environment.{has_equals, is_in_prelude, is_same, named_so}
use Rattle.cddl_language.specs.Prelude.{prelude}
use Rattle.check_names.specs.Environment.Names.{Standing}
use Rattle.check_names.specs.Environment.Places.{first_of}

-- the places of the name's definitions, where the list begins at this place; and of those by `=`

abbrev pub named_from : ℕ → Text → List L.Definition → List ℕ
named_from i n [] = []
named_from i n (x ∷ xs) = if is_same x.name n then i ∷ named_from (i + 1) n xs else named_from (i + 1) n xs

abbrev pub equals_from : ℕ → Text → List L.Definition → List ℕ
equals_from i n [] = []
equals_from i n (x ∷ xs) = if is_same x.name n && E.is_equals x.sign then i ∷ equals_from (i + 1) n xs else equals_from (i + 1) n xs

-- the elements at these places, in this order
pub data AreAt {A : Type 0} (xs : List A) : List ℕ → List A → Type 0 where
  none_there : AreAt xs [] []
  one_there : {p : ℕ} {x : A} {ps : List ℕ} {ys : List A} → slice_get xs p ≡ Some x → AreAt xs ps ys → AreAt xs (p ∷ ps) (x ∷ ys)

abbrev pub as_list : Option ℕ → List ℕ
as_list None = []
as_list (Some p) = p ∷ []

-- of the name n, where the text has the definitions xs
pub record IsStanding (xs : List L.Definition) (n : Text) (s : Standing) : Type 0 where
  pub known : AreAt prelude (as_list s.known) (named_so n prelude)
  pub in_prelude : is_some s.known ≡ is_in_prelude n
  pub defined : AreAt xs (named_from 0 n xs) (named_so n xs)
  pub first : s.first ≡ first_of (named_from 0 n xs)
  pub first_equals : s.first_equals ≡ first_of (equals_from 0 n xs)
  pub replaced : is_some s.first_equals ≡ has_equals (named_so n xs)
  pub counting : AreAt xs s.counting (E.counting false (named_so n xs))
