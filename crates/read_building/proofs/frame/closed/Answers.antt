use Rattle.std.proofs.Common.{◌≡◌, ◌∷◌, true, sym, ap, ◌∙◌, subst}
use Rattle.read_building.specs.Building as building
use Rattle.item_nodes.specs.View.{view}
use Rattle.read_building.specs.Stages.{frame_of, ends}
use Rattle.read_building.specs.declared.frame.Frame.TheVariants.{Map}
use Rattle.item_nodes.proofs.Lemmas.{view-Array, view-Map}
use Rattle.read_building.proofs.Containers.{array_closed, map_closed}
use Rattle.read_building.proofs.frame.closed.Goals as goal

pub returns-in_ok-push_member-in-Array : goal.returns-in_ok-push_member-in-Array
returns-in_ok-push_member-in-Array c =
    let is = c.in-Array.is in
    λ around. ap (λ f. building.give (view c.args.item) (frame_of f ∷ around)) is
    ∙ (array_closed c.in-Array.field-0 c.in-Array.members c.push_member.new.members c.args.item around c.in_ok-push_member-in-Array.ensures (subst (λ f. ends f ≡ true) is c.requires)
    ∙ ap (λ x. building.give x around) (sym (view-Array c.push_member.new.members)))

pub returns-in_ok-push_pair-in-Map : goal.returns-in_ok-push_pair-in-Map
returns-in_ok-push_pair-in-Map c =
    let is = c.in-Map.is ∙ ap (Map c.in-Map.field-0 c.in-Map.pairs) c.in-Some.is in
    λ around. ap (λ f. building.give (view c.args.item) (frame_of f ∷ around)) is
    ∙ (map_closed c.in-Map.field-0 c.in-Map.pairs c.push_pair.new.pairs c.in-Some.key c.args.item around c.in_ok-push_pair-in-Map.ensures (subst (λ f. ends f ≡ true) is c.requires)
    ∙ ap (λ x. building.give x around) (sym (view-Map c.push_pair.new.pairs)))
