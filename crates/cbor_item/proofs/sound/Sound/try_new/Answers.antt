use Rattle.std.proofs.Common.{◌≤◌, rules}
use Rattle.std.proofs.lemmas.Result.{IfErr-weaker}
use Rattle.cbor_data.specs.Sound.{HasShortSpelling}
use Rattle.cbor_data.specs.Value.{AreBitsFitting, AreSimplesAssignable, depth_of}
use Rattle.item_nodes.specs.View.{view}
use Rattle.cbor_item.proofs.Plain.{short_spelling, repeat_first}
use Rattle.cbor_item.proofs.sound.Sound.try_new.Goals as goal

pub try_spelled-requires-clause-spelled : goal.try_spelled-requires-clause-spelled
try_spelled-requires-clause-spelled c =
    let x = view c.args.item in
    let assignable : AreSimplesAssignable x = search rules in
    let fitting : AreBitsFitting x = search rules in
    short_spelling x c.note_ranges.ensures assignable fitting c.in_ok-check_length.ensures.ok

pub returns-clause-err : goal.returns-clause-err
returns-clause-err c =
    let x = view c.args.item in
    let shallow : depth_of x ≤ 256 = search rules in
    let assignable : AreSimplesAssignable x = search rules in
    let fitting : AreBitsFitting x = search rules in
    let short : HasShortSpelling x = short_spelling x c.note_ranges.ensures assignable fitting c.in_ok-check_length.ensures.ok in
    IfErr-weaker c.try_spelled.result _ _ (λ e r. repeat_first x e short shallow r) c.try_spelled.ensures.err
