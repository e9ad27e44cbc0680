use Rattle.std.proofs.Common.{◌<◌, ◌≤◌, ◌∙◌, length, refl, subst}
use Rattle.std.proofs.lemmas.Option.{slice_get_read}
use Rattle.tree_nodes.specs.View.{token_of}
use Rattle.check_live.specs.Search.{state}
use Rattle.check_live.proofs.Searching.{all_served, next_site}
use Rattle.check_live.proofs.search.run.Goals as goal

pub loop-place-preserved : goal.loop-place-preserved
loop-place-preserved c rs ds h = next_site c.args.numbers.now.keys (token_of c.args.tree.now) c.args.terms.now.texts rs ds c.loop-place.place (state c.loop-place.search) (state c.serve.new.search) c.index-site.result.now (slice_get_read c.loop-place.search.standing.items (length c.loop-place.search.standing.items) c.loop-place.place c.index-site.result.now refl (subst (λ n. c.loop-place.place < n) (c.len.ensures ∙ c.loop-place.search.standing.ok.0) c.loop-place-test.true) c.index-site.ensures) c.in_ok-serve.ensures (c.loop-place.invariant rs ds h)

pub returns : goal.returns
returns c rs ds h = all_served c.args.numbers.now.keys (token_of c.args.tree.now) c.args.terms.now.texts rs ds c.loop-place.place (state c.loop-place.search) (subst (λ n. n ≤ c.loop-place.place) (c.len.ensures ∙ c.loop-place.search.standing.ok.0) c.loop-place-test.false) (c.loop-place.invariant rs ds h)
