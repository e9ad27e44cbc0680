use Rattle.std.proofs.Common.{◌≡◌, ◌+◌, length, arith, rules, ◌∙◌}
use Rattle.std.proofs.lemmas.Grind.{common_steps}
use Rattle.tree_nodes.specs.declared.tree.GrpEnt.TheViews.{out-Group}
use Rattle.source_pieces.proofs.Listing.{group_count}
use Rattle.source_pieces.proofs.rules.count_of.Goals as goal

pub returns-in-Some : goal.returns-in-Some
returns-in-Some c =
    let e : c.in-Some.count ≡ length (out-Group c.args.group.now).others.items + 1 = first_of (search rules, grind (arith, common_steps), cc) in
    λ read. e ∙ group_count read c.args.group.now
