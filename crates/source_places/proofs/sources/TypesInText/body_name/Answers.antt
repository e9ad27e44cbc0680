use Rattle.std.proofs.Common.{◌≡◌, List, Some, ap, refl, slice_get, subst, true}
use Rattle.std.proofs.lemmas.Option.{slice_get_read}
use Rattle.source_pieces.specs.declared.rules.RuleAt.{RuleAt}
use Rattle.source_places.proofs.Splicing.{in_body, no_body, not_true, only_body}
use Rattle.source_places.proofs.sources.TypesInText.body_name.Goals as goal

pub returns-in-Some-clause-some : goal.returns-in-Some-clause-some
returns-in-Some-clause-some c =
    let there = slice_get_read c.deref.result.now _ c.args.piece.rule c.in_ok-rule.rule.now refl c.in_ok-rule.ensures.lookup.3.0 c.in_ok-rule.ensures.lookup.1 in
    let got = subst (λ (rs : List RuleAt). slice_get rs c.args.piece.rule ≡ Some c.in_ok-rule.rule.now) c.deref.ensures.value there in
    in_body c.args.self.now c.args.piece c.in_ok-rule.rule.now true got (c.is_round.ensures.0 c.if-is_round.true)

pub returns-in-Some-clause-all : goal.returns-in-Some-clause-all
returns-in-Some-clause-all c =
    let there = slice_get_read c.deref.result.now _ c.args.piece.rule c.in_ok-rule.rule.now refl c.in_ok-rule.ensures.lookup.3.0 c.in_ok-rule.ensures.lookup.1 in
    let got = subst (λ (rs : List RuleAt). slice_get rs c.args.piece.rule ≡ Some c.in_ok-rule.rule.now) c.deref.ensures.value there in
    λ n h. ap Some (only_body c.args.self.now c.args.piece c.in_ok-rule.rule.now true got (c.is_round.ensures.0 c.if-is_round.true) n h)

pub returns-in-Some-2-clause-all : goal.returns-in-Some-2-clause-all
returns-in-Some-2-clause-all c =
    let there = slice_get_read c.deref.result.now _ c.args.piece.rule c.in_ok-rule.rule.now refl c.in_ok-rule.ensures.lookup.3.0 c.in_ok-rule.ensures.lookup.1 in
    let got = subst (λ (rs : List RuleAt). slice_get rs c.args.piece.rule ≡ Some c.in_ok-rule.rule.now) c.deref.ensures.value there in
    λ n h. absurd (no_body c.args.self.now c.args.piece c.in_ok-rule.rule.now got c.in-Some-2.is (λ e. not_true c.is_round.result c.if-is_round.false (c.is_round.ensures.1 e)) n h)
