use Rattle.std.proofs.Common.{refl, arith}
use Rattle.cddl_token.specs.Strings.{unclosed, bad_escape, bad_character}
use Rattle.cddl_token.proofs.strings.stop_at.Goals as goal

pub returns-then-here-source : goal.returns-then-here-source
returns-then-here-source c = unclosed (omega arith) refl

pub returns-then-source-here-eq92 : goal.returns-then-source-here-eq92
returns-then-source-here-eq92 c = bad_escape c.if-source-here-eq92.true refl

pub returns-else-source-here-eq92 : goal.returns-else-source-here-eq92
returns-else-source-here-eq92 c = bad_character (omega arith) c.if-source-here-eq92.false refl
