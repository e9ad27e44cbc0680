use Rattle.std.proofs.Common.{get_or}
use Rattle.std.proofs.lemmas.List.{drop_more}
use Rattle.std.proofs.Math.ListN.{drop_of_length-le}
use Rattle.check_text.proofs.OfSiteFaults.Marking.{all_marked, next_mark}
use Rattle.check_text.proofs.site_faults.marks.add_marks.Goals as goal

pub loop-name-preserved : goal.loop-name-preserved
loop-name-preserved c = next_mark c.loop-name.marks.keys _ c.args.rule (get_or c.args.parameters.now c.loop-name.name-index 0) _ _ c.args.marks.now.keys (drop_more c.args.parameters.now c.loop-name.name-index 0 c.loop-name-test.true) c.in_ok-add_mark.ensures c.args.parameters.now c.loop-name.invariant

pub returns : goal.returns
returns c = all_marked c.loop-name.marks.keys c.args.marks.now.keys c.args.rule _ c.args.parameters.now (drop_of_length-le c.args.parameters.now c.loop-name-test.false) c.loop-name.invariant
