use Rattle.std.proofs.Common.{arith, refl}
use Rattle.std.specs.List.{Contains}
use Rattle.cddl_token.specs.declared.Kind.{Kind}
use Rattle.cddl_token.specs.declared.Kind.TheVariants.{ParenClose, BracketClose, BraceClose, AngleClose, Comma, Colon, Arrow, Cut, Assign, TypeAssign, GroupAssign, Slash, DoubleSlash, Range, RangeBelow, Control, Occur, Name, NameOpen, Number, Text, Bytes, Hash, TagOpen, TagHeadOpen, SimpleHeadOpen, ParenOpen, BracketOpen, BraceOpen, Tilde, Ampersand, End}
use Rattle.cddl_explain.specs.declared.expected.TheConstants.{KINDS}
use Rattle.cddl_explain.proofs.laws.each_kind_is_asked.Goals as goal

asked : (kind : Kind) → Contains KINDS kind
asked ParenClose = (0, omega arith, refl)
asked BracketClose = (1, omega arith, refl)
asked BraceClose = (2, omega arith, refl)
asked AngleClose = (3, omega arith, refl)
asked Comma = (4, omega arith, refl)
asked Colon = (5, omega arith, refl)
asked Arrow = (6, omega arith, refl)
asked Cut = (7, omega arith, refl)
asked Assign = (8, omega arith, refl)
asked TypeAssign = (9, omega arith, refl)
asked GroupAssign = (10, omega arith, refl)
asked Slash = (11, omega arith, refl)
asked DoubleSlash = (12, omega arith, refl)
asked Range = (13, omega arith, refl)
asked RangeBelow = (14, omega arith, refl)
asked Control = (15, omega arith, refl)
asked Occur = (16, omega arith, refl)
asked Name = (17, omega arith, refl)
asked NameOpen = (18, omega arith, refl)
asked Number = (19, omega arith, refl)
asked Text = (20, omega arith, refl)
asked Bytes = (21, omega arith, refl)
asked Hash = (22, omega arith, refl)
asked TagOpen = (23, omega arith, refl)
asked TagHeadOpen = (24, omega arith, refl)
asked SimpleHeadOpen = (25, omega arith, refl)
asked ParenOpen = (26, omega arith, refl)
asked BracketOpen = (27, omega arith, refl)
asked BraceOpen = (28, omega arith, refl)
asked Tilde = (29, omega arith, refl)
asked Ampersand = (30, omega arith, refl)
asked End = (31, omega arith, refl)

pub returns : goal.returns
returns c = asked
