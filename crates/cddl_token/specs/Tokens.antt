-- A source is gaps and tokens by turns, or can't be read from some offset on.
use Rattle.std.specs.Prelude.{◌≡◌, ℕ, ◌+◌, ◌<◌, ◌≤◌, ◌⊎◌, true, false, List, [], ◌∷◌, length, slice_index}
use Rattle.std.specs.Prelude.{Result, Ok, Err}
use Rattle.cddl_literal.specs.Bytes.{Each, IsAt, is_blank, is_in_comment}
use Rattle.cddl_literal.specs.Prefixed.{IsCrLf}
use Rattle.cddl_token.specs.Strings.{OpensString, OpensPrefixed, StringFault}
use Rattle.cddl_token.specs.Spelling.{Reading, Flaw, Good, Bad, flaw_code, Spells, IsLongest}
use Rattle.cddl_token.specs.declared.Kind.{Kind}
use Rattle.cddl_token.specs.declared.Kind.TheVariants.{Name, End}
use Rattle.cddl_token.specs.declared.Code.{Code}
use Rattle.cddl_token.specs.declared.Code.TheVariants.{BadCharacter}
use Rattle.cddl_token.specs.declared.Fault.{Fault}
use Rattle.cddl_token.specs.declared.Refusal.{Refusal}
use Rattle.cddl_token.specs.declared.Refusal.TheVariants.{At, Memory}

-- At i a line ends, or the source.
abbrev pub IsLineEnd : List ℕ → ℕ → Type 0
IsLineEnd s i = ((i ≡ length s) ⊎ IsAt "\n" s i) ⊎ IsCrLf s i

-- from `;` at i up to the end of the line, which is at k
pub record IsComment (s : List ℕ) (i k : ℕ) : Type 0 where
  pub begins : IsAt ";" s i
  pub past : i < k
  pub holds : Each is_in_comment s (i + 1) k
  pub ends : IsLineEnd s k

-- from i on and before j are white space and comments
pub data GapFrom (s : List ℕ) : ℕ → ℕ → Type 0 where
  none : {i j : ℕ} → i ≡ j → GapFrom s i j
  blank : {i j : ℕ} → is_blank (slice_index s i) ≡ true → GapFrom s (i + 1) j → GapFrom s i j
  line : {i j : ℕ} → IsCrLf s i → GapFrom s (i + 2) j → GapFrom s i j
  comment : {i k j : ℕ} → IsComment s i k → GapFrom s k j → GapFrom s i j

-- neither white space nor a comment begins at i
pub record StartsNoGap (s : List ℕ) (i : ℕ) : Type 0 where
  pub blank : is_blank (slice_index s i) ≡ false
  pub line : IsCrLf s i → ⊥
  pub comment : (k : ℕ) → IsComment s i k → ⊥

-- the word that opens a byte string is no name
abbrev pub IsAllowed : Kind → List ℕ → ℕ → Type 0
IsAllowed Name s a = OpensPrefixed s a → ⊥
IsAllowed _ s a = Unit {0}

-- From a to b is a token, the longest that can be read at a.
pub record IsToken (kind : Kind) (s : List ℕ) (a b : ℕ) : Type 0 where
  pub longest : IsLongest (Good kind) s a b
  pub allowed : IsAllowed kind s a

-- Why no token can be read at a, though the source goes on there, and where that shows.
pub data FaultAt (s : List ℕ) (a : ℕ) : Code → ℕ → Type 0 where
  -- the longest that can be read is a flawed number
  flawed : {flaw : Flaw} {code : Code} {b at : ℕ} → at ≡ a → code ≡ flaw_code flaw → IsLongest (Bad flaw) s a b → FaultAt s a code at
  -- a string opens, and its inside has a fault
  in_string : {code : Code} {at : ℕ} → StringFault s a code at → FaultAt s a code at
  -- the first byte that a comment may not hold
  in_comment : {at : ℕ} → IsAt ";" s a → a < at → at < length s → Each is_in_comment s (a + 1) at → is_in_comment (slice_index s at) ≡ false → (IsLineEnd s at → ⊥) → FaultAt s a BadCharacter at
  -- nothing begins so
  unknown : {at : ℕ} → at ≡ a → StartsNoGap s a → (OpensString s a → ⊥) → (IsAt ";" s a → ⊥) → ((q : Reading) (m : ℕ) → Spells q s a m → ⊥) → FaultAt s a BadCharacter at

-- a token as what it is and where it is
pub record Spanned : Type 0 where
  pub kind : Kind
  pub start : ℕ
  pub end : ℕ

abbrev pub token : Kind → ℕ → ℕ → Spanned
token k a b = record { kind = k; start = a; end = b }

-- From i on, s is gaps and the tokens ts by turns, each the longest at its offset, and then the end.
pub data Tokenized (s : List ℕ) : ℕ → List Spanned → Type 0 where
  ends : {i : ℕ} {ts : List Spanned} → GapFrom s i (length s) → ts ≡ token End (length s) (length s) ∷ [] → Tokenized s i ts
  more : {i a b : ℕ} {kind : Kind} {ts : List Spanned} → GapFrom s i a → IsToken kind s a b → Tokenized s b ts → Tokenized s i (token kind a b ∷ ts)

-- From i on, s is gaps and tokens by turns up to an offset where no token can be read, and the fault is there.
pub data Refused (s : List ℕ) : ℕ → Code → ℕ → Type 0 where
  here : {i a : ℕ} {code : Code} {at : ℕ} → GapFrom s i a → a < length s → FaultAt s a code at → Refused s i code at
  later : {i a b : ℕ} {kind : Kind} {code : Code} {at : ℕ} → GapFrom s i a → IsToken kind s a b → Refused s b code at → Refused s i code at

-- What a function found at a: a token within the source, or why none can be read.
abbrev pub IsRead : List ℕ → ℕ → Result (Kind × ℕ) Fault → Type 0
IsRead s a (Ok t) = IsToken t.0 s a t.1 × (t.1 ≤ length s)
IsRead s a (Err f) = FaultAt s a f.code f.at

-- the same of a function that takes memory
abbrev pub IsFound : List ℕ → ℕ → Result (Kind × ℕ) Refusal → Type 0
IsFound s a (Ok t) = IsToken t.0 s a t.1 × (t.1 ≤ length s)
IsFound s a (Err (At code at)) = FaultAt s a code at
IsFound s a (Err Memory) = Unit {0}
