use Rattle.std.proofs.Common.{◌++◌, ◌∷◌, [], ◌∙◌, ap}
use Rattle.std.proofs.lemmas.Option.{slice_get-get_or}
use Rattle.alternatives.proofs.Making.{one_member}
use Rattle.alternatives.proofs.pieces.add_from_none.Goals as goal

pub loop-member-preserved : goal.loop-member-preserved
loop-member-preserved c = one_member c.loop-member.all.items c.push.new.self.items _ c.args.members.now c.loop-member.member-index _ (slice_get-get_or c.args.members.now c.loop-member.member-index _ c.loop-member-test.true) (c.in_ok-push.ensures.items ∙ ap (λ m. c.loop-member.all.items ++ m ∷ []) c.member_from.ensures) c.loop-member.invariant
