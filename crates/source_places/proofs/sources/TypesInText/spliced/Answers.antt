use Rattle.std.proofs.Common.{◌≡◌, ◌*◌, ℕ, List, arith, subst}
use Rattle.graphs.specs.Implications.Implications.{AreFollowing}
use Rattle.graphs.specs.declared.implications.Implication.{Implication}
use Rattle.source_places.proofs.Splicing.{are_spliced}
use Rattle.source_places.proofs.Stepping.{ok_then}
use Rattle.source_places.proofs.sources.TypesInText.spliced.Goals as goal

pub returns-in-Some : goal.returns-in-Some
returns-in-Some c =
    let x = c.args.self.now in
    let product = c.in-Some.ensures.1 in
    let facts : c.in-Some.facts ≡ 2 * x.names = omega (arith, product) in
    ok_then c.following.result _ _ (λ v f. are_spliced x c.args.map c.in_ok-steps.steps.items c.in_ok-steps.ensures v.items (subst (λ (n : ℕ). AreFollowing n c.in_ok-steps.steps.items v.items) facts (subst (λ (is : List Implication). AreFollowing c.in-Some.facts is v.items) c.deref.ensures.value f))) c.following.ensures
