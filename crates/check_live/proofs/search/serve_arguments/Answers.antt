use Rattle.std.proofs.Common.{◌≤◌, subst}
use Rattle.tree_nodes.specs.View.{view_ref}
use Rattle.check_live.specs.Search.{state}
use Rattle.check_live.proofs.Searching.{all_arguments}
use Rattle.check_live.proofs.search.serve_arguments.Goals as goal

pub returns : goal.returns
returns c read = all_arguments c.args.numbers.now.keys read c.args.site (view_ref read c.args.name.now) c.args.number c.loop-place.place (state c.args.search.now) (state c.loop-place.search) (subst (λ n. n ≤ c.loop-place.place) (c.argument_count-place-end.ensures read) c.loop-place-test.false) (c.loop-place.invariant read)
