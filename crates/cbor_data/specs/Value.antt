-- What an item is (RFC 8949 section 2), without where its parts lie in memory.
use Rattle.std.specs.Prelude.{ℕ, suc, ◌+◌, ◌<◌, ◌≤◌, ◌^◌, max, List, [], ◌∷◌, ◌++◌, ◌⊎◌, IsUtf8}
use Rattle.cbor_data.specs.declared.Width.{Width}
use Rattle.cbor_data.specs.declared.Width.TheVariants.{W16, W32, W64}

-- `nint n` is the number -1 - n, a text is its UTF-8 bytes, and a float is its width and its bits.
mutual
  pub data Value : Type 0 where
    uint : ℕ → Value
    nint : ℕ → Value
    bytes : List ℕ → Value
    text : List ℕ → Value
    array : Values → Value
    pairs : Pairs → Value
    tag : ℕ → Value → Value
    simple : ℕ → Value
    float : Width → ℕ → Value

  pub data Values : Type 0 where
    no_values : Values
    value : Value → Values → Values

  pub data Pairs : Type 0 where
    no_pairs : Pairs
    pair : Value → Value → Pairs → Pairs

abbrev pub values_of : List Value → Values
values_of [] = no_values
values_of (x ∷ xs) = value x (values_of xs)

abbrev pub pairs_of : List (Value × Value) → Pairs
pairs_of [] = no_pairs
pairs_of (p ∷ ps) = pair p.0 p.1 (pairs_of ps)

abbrev pub values_len : Values → ℕ
values_len no_values = 0
values_len (value x xs) = suc (values_len xs)

abbrev pub pairs_len : Pairs → ℕ
pairs_len no_pairs = 0
pairs_len (pair k v ps) = suc (pairs_len ps)

-- each is a byte
abbrev pub AreBytes : List ℕ → Type 0
AreBytes [] = Unit {0}
AreBytes (b ∷ bs) = (b < 256) × AreBytes bs

-- each number is in the range of its type, and each text is UTF-8
abbrev mutual
  pub IsInRange : Value → Type 0
  IsInRange (uint n) = n < 2 ^ 64
  IsInRange (nint n) = n < 2 ^ 64
  IsInRange (bytes bs) = AreBytes bs
  IsInRange (text bs) = AreBytes bs × IsUtf8 bs
  IsInRange (array xs) = AreInRange xs
  IsInRange (pairs ps) = ArePairsInRange ps
  IsInRange (tag n x) = (n < 2 ^ 64) × IsInRange x
  IsInRange (simple n) = n < 256
  IsInRange (float w n) = n < 2 ^ 64

  pub AreInRange : Values → Type 0
  AreInRange no_values = Unit {0}
  AreInRange (value x xs) = IsInRange x × AreInRange xs

  pub ArePairsInRange : Pairs → Type 0
  ArePairsInRange no_pairs = Unit {0}
  ArePairsInRange (pair k v ps) = IsInRange k × IsInRange v × ArePairsInRange ps

-- the greatest number of containers (arrays, maps and tags, empty ones too) round or at a place
abbrev mutual
  pub depth_of : Value → ℕ
  depth_of (uint n) = 0
  depth_of (nint n) = 0
  depth_of (bytes bs) = 0
  depth_of (text bs) = 0
  depth_of (array xs) = suc (values_depth xs)
  depth_of (pairs ps) = suc (pairs_depth ps)
  depth_of (tag n x) = suc (depth_of x)
  depth_of (simple n) = 0
  depth_of (float w n) = 0

  pub values_depth : Values → ℕ
  values_depth no_values = 0
  values_depth (value x xs) = max (depth_of x) (values_depth xs)

  pub pairs_depth : Pairs → ℕ
  pairs_depth no_pairs = 0
  pairs_depth (pair k v ps) = max (max (depth_of k) (depth_of v)) (pairs_depth ps)

-- how many places an item has: itself and all below it
abbrev mutual
  pub place_count : Value → ℕ
  place_count (uint n) = 1
  place_count (nint n) = 1
  place_count (bytes bs) = 1
  place_count (text bs) = 1
  place_count (array xs) = suc (values_place_count xs)
  place_count (pairs ps) = suc (pairs_place_count ps)
  place_count (tag n x) = suc (place_count x)
  place_count (simple n) = 1
  place_count (float w n) = 1

  pub values_place_count : Values → ℕ
  values_place_count no_values = 0
  values_place_count (value x xs) = place_count x + values_place_count xs

  pub pairs_place_count : Pairs → ℕ
  pairs_place_count no_pairs = 0
  pairs_place_count (pair k v ps) = place_count k + (place_count v + pairs_place_count ps)

-- the item and all below it in preorder, a key before its value: place i is the i-th, the whole is place 0
abbrev mutual
  pub places : Value → List Value
  places (uint n) = uint n ∷ []
  places (nint n) = nint n ∷ []
  places (bytes bs) = bytes bs ∷ []
  places (text bs) = text bs ∷ []
  places (array xs) = array xs ∷ values_places xs
  places (pairs ps) = pairs ps ∷ pairs_places ps
  places (tag n x) = tag n x ∷ places x
  places (simple n) = simple n ∷ []
  places (float w n) = float w n ∷ []

  pub values_places : Values → List Value
  values_places no_values = []
  values_places (value x xs) = places x ++ values_places xs

  pub pairs_places : Pairs → List Value
  pairs_places no_pairs = []
  pairs_places (pair k v ps) = places k ++ (places v ++ pairs_places ps)

-- a float's bits fit its width
abbrev pub FitsWidth : Width → ℕ → Type 0
FitsWidth W16 n = n < 2 ^ 16
FitsWidth W32 n = n < 2 ^ 32
FitsWidth W64 n = n < 2 ^ 64

-- each float's bits fit its width
abbrev mutual
  pub AreBitsFitting : Value → Type 0
  AreBitsFitting (array xs) = AreValuesFitting xs
  AreBitsFitting (pairs ps) = ArePairsFitting ps
  AreBitsFitting (tag n x) = AreBitsFitting x
  AreBitsFitting (float w n) = FitsWidth w n
  AreBitsFitting _ = Unit {0}

  pub AreValuesFitting : Values → Type 0
  AreValuesFitting no_values = Unit {0}
  AreValuesFitting (value x xs) = AreBitsFitting x × AreValuesFitting xs

  pub ArePairsFitting : Pairs → Type 0
  ArePairsFitting no_pairs = Unit {0}
  ArePairsFitting (pair k v ps) = AreBitsFitting k × AreBitsFitting v × ArePairsFitting ps

-- no simple value is one of 24 to 31, which RFC 8949 section 3.3 reserves
abbrev mutual
  pub AreSimplesAssignable : Value → Type 0
  AreSimplesAssignable (array xs) = AreValuesAssignable xs
  AreSimplesAssignable (pairs ps) = ArePairsAssignable ps
  AreSimplesAssignable (tag n x) = AreSimplesAssignable x
  AreSimplesAssignable (simple n) = (n < 24) ⊎ (32 ≤ n)
  AreSimplesAssignable _ = Unit {0}

  pub AreValuesAssignable : Values → Type 0
  AreValuesAssignable no_values = Unit {0}
  AreValuesAssignable (value x xs) = AreSimplesAssignable x × AreValuesAssignable xs

  pub ArePairsAssignable : Pairs → Type 0
  ArePairsAssignable no_pairs = Unit {0}
  ArePairsAssignable (pair k v ps) = AreSimplesAssignable k × AreSimplesAssignable v × ArePairsAssignable ps
