-- Bytes that spell a sign spell nothing else.
use Rattle.std.proofs.Common.{◌≡◌, ℕ, ◌+◌, List, slice_index, refl, arith}
use Rattle.cddl_token.specs.Spelling.{Reading, Good, Spells}
use Rattle.cddl_token.proofs.BeginFacts.{elsewhere}
use Rattle.cddl_token.specs.declared.Kind.TheVariants.{Assign, TypeAssign, GroupAssign, Slash, DoubleSlash, Arrow, Cut, Colon, Comma, ParenOpen, ParenClose, BracketOpen, BracketClose, BraceOpen, BraceClose, AngleClose, Tilde, Ampersand}

-- It begins with b, which nothing else begins with but what is named.
module _ (s : List ℕ) (a m : ℕ) where
  pub cut_one : slice_index s a ≡ 94 → (q : Reading) → Spells q s a m → q ≡ Good Cut
  cut_one first (Good Cut) h = refl
  cut_one first q h = absurd (elsewhere q s a m first refl h)

  pub colon_one : slice_index s a ≡ 58 → (q : Reading) → Spells q s a m → q ≡ Good Colon
  colon_one first (Good Colon) h = refl
  colon_one first q h = absurd (elsewhere q s a m first refl h)

  pub comma_one : slice_index s a ≡ 44 → (q : Reading) → Spells q s a m → q ≡ Good Comma
  comma_one first (Good Comma) h = refl
  comma_one first q h = absurd (elsewhere q s a m first refl h)

  pub paren_open_one : slice_index s a ≡ 40 → (q : Reading) → Spells q s a m → q ≡ Good ParenOpen
  paren_open_one first (Good ParenOpen) h = refl
  paren_open_one first q h = absurd (elsewhere q s a m first refl h)

  pub paren_close_one : slice_index s a ≡ 41 → (q : Reading) → Spells q s a m → q ≡ Good ParenClose
  paren_close_one first (Good ParenClose) h = refl
  paren_close_one first q h = absurd (elsewhere q s a m first refl h)

  pub bracket_open_one : slice_index s a ≡ 91 → (q : Reading) → Spells q s a m → q ≡ Good BracketOpen
  bracket_open_one first (Good BracketOpen) h = refl
  bracket_open_one first q h = absurd (elsewhere q s a m first refl h)

  pub bracket_close_one : slice_index s a ≡ 93 → (q : Reading) → Spells q s a m → q ≡ Good BracketClose
  bracket_close_one first (Good BracketClose) h = refl
  bracket_close_one first q h = absurd (elsewhere q s a m first refl h)

  pub brace_open_one : slice_index s a ≡ 123 → (q : Reading) → Spells q s a m → q ≡ Good BraceOpen
  brace_open_one first (Good BraceOpen) h = refl
  brace_open_one first q h = absurd (elsewhere q s a m first refl h)

  pub brace_close_one : slice_index s a ≡ 125 → (q : Reading) → Spells q s a m → q ≡ Good BraceClose
  brace_close_one first (Good BraceClose) h = refl
  brace_close_one first q h = absurd (elsewhere q s a m first refl h)

  pub angle_close_one : slice_index s a ≡ 62 → (q : Reading) → Spells q s a m → q ≡ Good AngleClose
  angle_close_one first (Good AngleClose) h = refl
  angle_close_one first q h = absurd (elsewhere q s a m first refl h)

  pub tilde_one : slice_index s a ≡ 126 → (q : Reading) → Spells q s a m → q ≡ Good Tilde
  tilde_one first (Good Tilde) h = refl
  tilde_one first q h = absurd (elsewhere q s a m first refl h)

  pub ampersand_one : slice_index s a ≡ 38 → (q : Reading) → Spells q s a m → q ≡ Good Ampersand
  ampersand_one first (Good Ampersand) h = refl
  ampersand_one first q h = absurd (elsewhere q s a m first refl h)

  pub assign_one : slice_index s a ≡ 61 → m ≡ a + 1 → (q : Reading) → Spells q s a m → q ≡ Good Assign
  assign_one first end (Good Assign) h = refl
  assign_one first end (Good Arrow) h = absurd (omega (arith, h.0))
  assign_one first end q h = absurd (elsewhere q s a m first refl h)

  pub arrow_one : slice_index s a ≡ 61 → m ≡ a + 2 → (q : Reading) → Spells q s a m → q ≡ Good Arrow
  arrow_one first end (Good Arrow) h = refl
  arrow_one first end (Good Assign) h = absurd (omega (arith, h.0))
  arrow_one first end q h = absurd (elsewhere q s a m first refl h)

  pub slash_one : slice_index s a ≡ 47 → m ≡ a + 1 → (q : Reading) → Spells q s a m → q ≡ Good Slash
  slash_one first end (Good Slash) h = refl
  slash_one first end (Good DoubleSlash) h = absurd (omega (arith, h.0))
  slash_one first end (Good TypeAssign) h = absurd (omega (arith, h.0))
  slash_one first end (Good GroupAssign) h = absurd (omega (arith, h.0))
  slash_one first end q h = absurd (elsewhere q s a m first refl h)

  pub double_slash_one : slice_index s a ≡ 47 → m ≡ a + 2 → slice_index s (a + 1) ≡ 47 → (q : Reading) → Spells q s a m → q ≡ Good DoubleSlash
  double_slash_one first end second (Good DoubleSlash) h = refl
  double_slash_one first end second (Good Slash) h = absurd (omega (arith, h.0))
  double_slash_one first end second (Good TypeAssign) h = absurd (omega (arith, h.2))
  double_slash_one first end second (Good GroupAssign) h = absurd (omega (arith, h.0))
  double_slash_one first end second q h = absurd (elsewhere q s a m first refl h)

  pub type_assign_one : slice_index s a ≡ 47 → m ≡ a + 2 → slice_index s (a + 1) ≡ 61 → (q : Reading) → Spells q s a m → q ≡ Good TypeAssign
  type_assign_one first end second (Good TypeAssign) h = refl
  type_assign_one first end second (Good Slash) h = absurd (omega (arith, h.0))
  type_assign_one first end second (Good DoubleSlash) h = absurd (omega (arith, h.2))
  type_assign_one first end second (Good GroupAssign) h = absurd (omega (arith, h.0))
  type_assign_one first end second q h = absurd (elsewhere q s a m first refl h)

  pub group_assign_one : slice_index s a ≡ 47 → m ≡ a + 3 → (q : Reading) → Spells q s a m → q ≡ Good GroupAssign
  group_assign_one first end (Good GroupAssign) h = refl
  group_assign_one first end (Good Slash) h = absurd (omega (arith, h.0))
  group_assign_one first end (Good DoubleSlash) h = absurd (omega (arith, h.0))
  group_assign_one first end (Good TypeAssign) h = absurd (omega (arith, h.0))
  group_assign_one first end q h = absurd (elsewhere q s a m first refl h)
