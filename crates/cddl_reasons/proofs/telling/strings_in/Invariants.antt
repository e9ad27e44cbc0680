use Rattle.std.proofs.Common.{◌≡◌, map, take}
use Rattle.cddl_reasons.specs.Opened.{asked_in, waits_in}
use Rattle.cddl_reasons.specs.Told.{holder_view, strings_of}
use Rattle.table_nodes.specs.Language.{language_of}
use Rattle.cddl_reasons.proofs.telling.strings_in.Given as goal

abbrev pub invariant-loop-waiting : goal.invariant-loop-waiting
invariant-loop-waiting l = map holder_view l.strings.items ≡ strings_of (language_of l.table) (asked_in (take l.waiting-index l.below)) (waits_in (take l.waiting-index l.below))
