-- What the machine that builds says of the bytes that it has read.
use Rattle.std.specs.Prelude.{◌≡◌, ℕ, List, [], Some}
use Rattle.cbor_data.specs.Value.{AreBytes}
use Rattle.cbor_data.specs.Machine.Machine as machine
use Rattle.read_building.specs.Building.{State, item, Text, steps_in, form_of}
use Rattle.read_building.specs.Texts.{AreTexts, IsFirstBad}

-- the machine gets along the bytes c, the first at this offset, from s to t, and each text chunk that ends in them is UTF-8
pub record IsRunTo (texts : List Text) (depth at : ℕ) (s : State) (c : List ℕ) (t : State) : Type 0 where
  pub told : List Text
  pub is : steps_in depth at texts s c ≡ Some (told, t)
  pub utf8 : AreTexts told

abbrev pub IsRun : ℕ → ℕ → State → List ℕ → State → Type 0
IsRun depth at s c t = (texts : List Text) → AreTexts texts → IsRunTo texts depth at s c t

-- the same, but the last text chunk that ends in them is no UTF-8, the first of its kind; its head is at `place`
pub record IsBadRunTo (texts : List Text) (depth at : ℕ) (s : State) (c : List ℕ) (t : State) (place : ℕ) : Type 0 where
  pub told : List Text
  pub is : steps_in depth at texts s c ≡ Some (told, t)
  pub bad : IsFirstBad told place

abbrev pub IsBadRun : ℕ → ℕ → State → List ℕ → State → ℕ → Type 0
IsBadRun depth at s c t place = (texts : List Text) → AreTexts texts → IsBadRunTo texts depth at s c t place

-- the bytes b, the first at offset o, are those of s, and each of their text chunks is UTF-8
pub record Builds (depth o : ℕ) (b : List ℕ) (s : State) : Type 0 where
  pub are : AreBytes b
  pub run : IsRunTo [] depth o (item []) b s

-- the bytes b lead the machine of forms to m, and the first of their text chunks that is no UTF-8 has its head at `place`
pub record Notes (depth o : ℕ) (b : List ℕ) (m : machine.State) (place : ℕ) : Type 0 where
  pub are : AreBytes b
  pub state : State
  pub run : IsBadRunTo [] depth o (item []) b state place
  pub form : form_of state ≡ m
