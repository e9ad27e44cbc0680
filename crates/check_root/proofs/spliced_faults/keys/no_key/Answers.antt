use Rattle.std.proofs.Common.{sym, subst}
use Rattle.cddl_language.specs.Faults.{rules}
use Rattle.cddl_language.specs.MapFaults.{HasNoKey}
use Rattle.lists.specs.Least.{IsLeast}
use Rattle.check_root.proofs.OfSplicedFaults.Keyless.{least_keyless}
use Rattle.check_root.proofs.spliced_faults.keys.no_key.Goals as goal

pub returns : goal.returns
returns c = λ s root t refs spliced faults. subst (IsLeast (HasNoKey (rules s) root)) (sym c.least_keyless.ensures) (least_keyless s root t refs c.args.spliced.now c.args.faults.now spliced faults)
