-- What the bytes of a source from one offset to another spell (RFC 8610 Appendix B, RFC 9682).
use Rattle.std.specs.Prelude.{◌≡◌, ℕ, ◌+◌, ◌-◌, ◌^◌, ◌<◌, ◌≤◌, ◌⊎◌, true, false, List, [], ◌∷◌, slice_index, codes}
use Prim.Native.String.{String}
use Rattle.cddl_literal.specs.Bytes.{Each, IsAt, is_decimal_digit}
use Rattle.cddl_literal.specs.Numbers.{Meaning, IsNumber}
use Rattle.cddl_literal.specs.Literals.{IsText, IsBytes}
use Rattle.cddl_token.specs.Bytes.{is_ealpha, is_mark, is_id_byte, is_id_end}
use Rattle.cddl_token.specs.Numbers.{IsMisspelled, IsFloat, MaybeNegative, IsStar, IsHashNumber, IsTagNumberOpen, HoldsLarge}
use Rattle.cddl_token.specs.declared.Kind.{Kind}
use Rattle.cddl_token.specs.declared.Kind.TheVariants.{Name, NameOpen, Control, Number, Occur, Text, Bytes, Hash, TagOpen, TagHeadOpen, SimpleHeadOpen, Assign, TypeAssign, GroupAssign, Slash, DoubleSlash, Range, RangeBelow, Arrow, Cut, Colon, Comma, ParenOpen, ParenClose, BracketOpen, BracketClose, BraceOpen, BraceClose, AngleClose, Tilde, Ampersand, End}
use Rattle.cddl_token.specs.declared.Code.{Code}
use Rattle.cddl_token.specs.declared.Code.TheVariants.{BadNumber, FloatLiteral, NumberTooLarge}

-- begins with EALPHA, holds EALPHA, digits, `-` and `.`, and ends with no `-` or `.`
pub record IsId (s : List ℕ) (a b : ℕ) : Type 0 where
  pub nonempty : a < b
  pub begins : is_ealpha (slice_index s a) ≡ true
  pub holds : Each is_id_byte s a b
  pub ends : is_mark (slice_index s (b - 1)) ≡ false

-- any number of times: any number of `-` and `.`, then EALPHA or a digit
pub data IdRest (s : List ℕ) : ℕ → ℕ → Type 0 where
  no_more : {i j : ℕ} → i ≡ j → IdRest s i j
  once_more : {i k j : ℕ} → i ≤ k → Each is_mark s i k → is_id_end (slice_index s k) ≡ true → IdRest s (k + 1) j → IdRest s i j

-- an id as the grammar writes it
abbrev pub IsGrammarId : List ℕ → ℕ → ℕ → Type 0
IsGrammarId s a b = (is_ealpha (slice_index s a) ≡ true) × IdRest s (a + 1) b

-- from a to b are these bytes, one to four of them
abbrev pub AreBytes : List ℕ → List ℕ → ℕ → ℕ → Type 0
AreBytes (x ∷ []) s a b = (b ≡ a + 1) × (slice_index s a ≡ x)
AreBytes (x ∷ y ∷ []) s a b = (b ≡ a + 2) × (slice_index s a ≡ x) × (slice_index s (a + 1) ≡ y)
AreBytes (x ∷ y ∷ z ∷ []) s a b = (b ≡ a + 3) × (slice_index s a ≡ x) × (slice_index s (a + 1) ≡ y) × (slice_index s (a + 2) ≡ z)
AreBytes (x ∷ y ∷ z ∷ w ∷ []) s a b = (b ≡ a + 4) × (slice_index s a ≡ x) × (slice_index s (a + 1) ≡ y) × (slice_index s (a + 2) ≡ z) × (slice_index s (a + 3) ≡ w)
AreBytes _ s a b = ⊥

-- from a to b are these characters
abbrev pub Stands : String → List ℕ → ℕ → ℕ → Type 0
Stands text s a b = AreBytes (codes text) s a b

-- The ways to spell wrongly what would be a number.
pub data Flaw : Type 0 where
  Misspelled : Flaw
  Fractional : Flaw
  TooLarge : Flaw

abbrev pub flaw_code : Flaw → Code
flaw_code Misspelled = BadNumber
flaw_code Fractional = FloatLiteral
flaw_code TooLarge = NumberTooLarge

-- what can be read at an offset: a token, or a number that is flawed
pub data Reading : Type 0 where
  Good : Kind → Reading
  Bad : Flaw → Reading

-- The bytes of s from a to b spell it.
abbrev pub Spells : Reading → List ℕ → ℕ → ℕ → Type 0
Spells (Good Name) s a b = IsId s a b
Spells (Good NameOpen) s a b = (e : ℕ) × (b ≡ e + 1) × IsId s a e × IsAt "<" s e
Spells (Good Control) s a b = IsAt "." s a × IsId s (a + 1) b
Spells (Good Number) s a b = (m : Meaning) × IsNumber s a b m
Spells (Good Occur) s a b = (Stands "+" s a b ⊎ Stands "?" s a b) ⊎ ((low high : ℕ) × IsStar s a b low high × (low < 2 ^ 64) × (high < 2 ^ 64))
Spells (Good Text) s a b = (v : List ℕ) × IsText s a b v
Spells (Good Bytes) s a b = (v : List ℕ) × IsBytes s a b v
Spells (Good Hash) s a b = (Stands "#" s a b ⊎ ((b ≡ a + 2) × IsAt "#" s a × (is_decimal_digit (slice_index s (a + 1)) ≡ true))) ⊎ ((n : ℕ) × IsHashNumber s a b n × (n < 2 ^ 64))
Spells (Good TagOpen) s a b = Stands "#6(" s a b ⊎ ((n : ℕ) × IsTagNumberOpen s a b n × (n < 2 ^ 64))
Spells (Good TagHeadOpen) s a b = Stands "#6.<" s a b
Spells (Good SimpleHeadOpen) s a b = Stands "#7.<" s a b
Spells (Good Assign) s a b = Stands "=" s a b
Spells (Good TypeAssign) s a b = Stands "/=" s a b
Spells (Good GroupAssign) s a b = Stands "//=" s a b
Spells (Good Slash) s a b = Stands "/" s a b
Spells (Good DoubleSlash) s a b = Stands "//" s a b
Spells (Good Range) s a b = Stands ".." s a b
Spells (Good RangeBelow) s a b = Stands "..." s a b
Spells (Good Arrow) s a b = Stands "=>" s a b
Spells (Good Cut) s a b = Stands "^" s a b
Spells (Good Colon) s a b = Stands ":" s a b
Spells (Good Comma) s a b = Stands "," s a b
Spells (Good ParenOpen) s a b = Stands "(" s a b
Spells (Good ParenClose) s a b = Stands ")" s a b
Spells (Good BracketOpen) s a b = Stands "[" s a b
Spells (Good BracketClose) s a b = Stands "]" s a b
Spells (Good BraceOpen) s a b = Stands "{" s a b
Spells (Good BraceClose) s a b = Stands "}" s a b
Spells (Good AngleClose) s a b = Stands ">" s a b
Spells (Good Tilde) s a b = Stands "~" s a b
Spells (Good Ampersand) s a b = Stands "&" s a b
Spells (Good End) s a b = ⊥
Spells (Bad Misspelled) s a b = Stands "-" s a b ⊎ MaybeNegative IsMisspelled s a b
Spells (Bad Fractional) s a b = MaybeNegative IsFloat s a b
Spells (Bad TooLarge) s a b = HoldsLarge s a b

-- From a to b is what r spells, and nothing longer can be read at a.
pub record IsLongest (r : Reading) (s : List ℕ) (a b : ℕ) : Type 0 where
  pub spelled : Spells r s a b
  pub longest : (q : Reading) (m : ℕ) → Spells q s a m → m ≤ b
