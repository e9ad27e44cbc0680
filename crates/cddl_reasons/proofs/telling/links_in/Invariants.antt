use Rattle.std.proofs.Common.{◌≡◌, take}
use Rattle.cddl_reasons.specs.Opened.{asked_in, waits_in}
use Rattle.cddl_reasons.specs.Told.{links_of}
use Rattle.cddl_reasons.proofs.telling.links_in.Given as goal

abbrev pub invariant-loop-waiting : goal.invariant-loop-waiting
invariant-loop-waiting l = l.links.items ≡ links_of (asked_in (take l.waiting-index l.below)) (waits_in (take l.waiting-index l.below))
