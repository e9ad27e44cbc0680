use Rattle.std.proofs.Common.{ap, ◌∙◌}
use Rattle.std.specs.Option.{option_map}
use Rattle.std.specs.Result.{result_ok}
use Rattle.cbor_data.specs.Value.{places}
use Rattle.item_nodes.specs.View.{view}
use Rattle.cbor_item.proofs.OfPlace.Searching.{result_ok-map, element-get}
use Rattle.cbor_item.proofs.place.seek.item_at.Goals as goal

pub returns : goal.returns
returns c =
    ap (option_map (λ found. view found.now)) c.ok.ensures.value ∙ result_ok-map (λ found. view found.now) (λ left. left) c.seek.result
    ∙ ap result_ok c.seek.ensures ∙ element-get (places (view c.args.item.now)) c.args.place
