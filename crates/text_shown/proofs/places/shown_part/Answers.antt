use Rattle.std.proofs.Common.{rules, vec_items}
use Rattle.std.proofs.lemmas.List.{take_min}
use Rattle.text_shown.proofs.places.shown_part.Goals as goal

pub returns : goal.returns
returns c = let t = take_min 60 (vec_items c.in_ok-characters.characters) in search (rules, t)
