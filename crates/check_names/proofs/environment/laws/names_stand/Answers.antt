use Rattle.std.proofs.Common.{subst, sym}
use Rattle.check_names.specs.Environment.Environment.{IsStanding}
use Rattle.check_names.proofs.OfEnvironment.Naming.{are_standing}
use Rattle.check_names.proofs.environment.laws.names_stand.Goals as goal

pub returns : goal.returns
returns c t count k known definitions names xs n name is g h are e f = subst (IsStanding xs n) (sym (are.each k name f)) (are_standing t is k n e known definitions xs g h)
