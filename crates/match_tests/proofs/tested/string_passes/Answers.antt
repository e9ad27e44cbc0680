use Rattle.std.specs.Prelude.{not}
use Rattle.std.proofs.Common.{ap}
use Rattle.match_tests.proofs.tested.string_passes.Goals as goal

pub returns-in-Differs : goal.returns-in-Differs
returns-in-Differs c = rw c.in-Differs.is (ap not c.is_string-in-Differs.ensures)
