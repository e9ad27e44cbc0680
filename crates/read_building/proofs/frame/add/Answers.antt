use Rattle.std.proofs.Common.{◌≡◌, ◌∷◌, false, None, sym, ap, ◌∙◌, subst}
use Rattle.read_building.specs.Building as building
use Rattle.item_nodes.specs.View.{view}
use Rattle.read_building.specs.Stages.{frame_of, ends}
use Rattle.read_building.specs.declared.frame.Frame.TheVariants.{Array, Map}
use Rattle.read_building.proofs.Containers.{member_added, pair_added}
use Rattle.read_building.proofs.frame.add.Goals as goal

pub returns-in_ok-push_member-in-Array : goal.returns-in_ok-push_member-in-Array
returns-in_ok-push_member-in-Array c =
    let v = c.in-Array.members in
    let w = c.push_member.new.members in
    λ around. ap (λ f. building.give (view c.args.item) (frame_of f ∷ around)) c.in-Array.is
    ∙ (member_added c.in-Array.left v w c.args.item around c.in_ok-push_member-in-Array.ensures (subst (λ f. ends f ≡ false) c.in-Array.is c.requires)
    ∙ ap (λ l. building.item (frame_of (Array l w) ∷ around)) (sym c.count_down.ensures))

pub returns-in_ok-push_pair-in-Some : goal.returns-in_ok-push_pair-in-Some
returns-in_ok-push_pair-in-Some c =
    let v = c.in-Map.pairs in
    let w = c.push_pair.new.pairs in
    let is = c.in-Map.is ∙ ap (Map c.in-Map.left v) (sym c.take.ensures.value ∙ c.in-Some.is) in
    λ around. ap (λ f. building.give (view c.args.item) (frame_of f ∷ around)) is
    ∙ (pair_added c.in-Map.left v w c.in-Some.first c.args.item around c.in_ok-push_pair-in-Some.ensures (subst (λ f. ends f ≡ false) is c.requires)
    ∙ (ap (λ l. building.item (frame_of (Map l w None) ∷ around)) (sym c.count_down-in-Some.ensures)
    ∙ ap (λ k. building.item (frame_of (Map c.count_down-in-Some.new.left w k) ∷ around)) (sym c.take.ensures.after)))
