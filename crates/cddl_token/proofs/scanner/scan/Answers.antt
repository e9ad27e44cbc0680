use Rattle.std.proofs.Common.{◌≡◌, ◌-◌, [], ◌∷◌, ◌++◌, length, slice_index, refl, sym, ◌∙◌, ap, subst, inl, inr, arith, rules}
use Rattle.std.specs.Prelude.{All, Err, MatchResult, map, slice_range}
use Rattle.std.proofs.lemmas.List.Elements.{All-push}
use Rattle.cddl_token.specs.declared.Kind.TheVariants.{End}
use Rattle.cddl_token.specs.Answers.{span, IsReadFrom, StopsScan}
use Rattle.cddl_token.specs.Tokens.{GapFrom, Tokenized, ends, more, here, later, token}
use Rattle.cddl_token.proofs.SpellingFacts.{spelled_past}
use Rattle.cddl_token.proofs.SpellingFacts.{spelled_ascii}
use Rattle.cddl_token.proofs.TextFacts.{pushed, pushed_last, no_bytes, ap_below, stops_scan}
use Rattle.cddl_token.proofs.scanner.scan.Goals as goal

pub returns-in-Err : goal.returns-in-Err
returns-in-Err c = let found = c.in-Err.ensures in c.loop-start.invariant.refused _ _ (here found.1 found.2 found.3)

pub returns-in_err-kind : goal.returns-in_err-kind
returns-in_err-kind c =
    let refusal = c.in_err-kind.field-0.0 in
    let stops = stops_scan c.args.source.now c.loop-start.at c.in-Ok.start refusal c.in-Ok.ensures.0 (omega (arith, c.in-Ok.ensures)) c.loop-start.invariant.refused c.in_err-kind.ensures in
    let is : c.from_residual.result ≡ Err refusal = search rules in
    subst (λ r. MatchResult r (λ v. Tokenized c.args.source.now 0 (map span v.items) × All (IsReadFrom c.args.source.now) v.items) (λ e. StopsScan c.args.source.now e)) (sym is) stops

pub loop-start-smaller : goal.loop-start-smaller
loop-start-smaller c =
    let found = c.in_ok-kind.ensures in
    let past = spelled_past _ _ _ _ found.0.longest.spelled in
    omega (arith, c.in-Ok.ensures, found.1)

pub loop-start-preserved : goal.loop-start-preserved
loop-start-preserved c =
    let found = c.in_ok-kind.ensures in
    record {
      in_source = found.1;
      found = λ ts rest. subst (λ xs. Tokenized c.args.source.now 0 (map span xs ++ ts)) (sym c.in-Ok-push-2.ensures.items) (pushed c.args.source.now c.loop-start.out.items _ ts (c.loop-start.invariant.found _ (more c.in-Ok.ensures.0 found.0 rest)));
      each = subst (All (IsReadFrom c.args.source.now)) (sym c.in-Ok-push-2.ensures.items) (All-push (IsReadFrom c.args.source.now) c.loop-start.out.items _ c.loop-start.invariant.each (c.text_between.ensures ∙ ap (λ s. slice_range s c.in-Ok.start c.in_ok-kind.end) c.requires, inr found.0.longest.spelled));
      refused = λ code place rest. c.loop-start.invariant.refused code place (later c.in-Ok.ensures.0 found.0 rest);
    }

pub returns-in-Ok-push : goal.returns-in-Ok-push
returns-in-Ok-push c =
    let same : c.in-Ok.start ≡ length c.args.source.now = c.if-start-source.true in
    let gap = subst (GapFrom c.args.source.now c.loop-start.at) same c.in-Ok.ensures.0 in (
      subst (λ xs. Tokenized c.args.source.now 0 (map span xs)) (sym c.in-Ok-push.ensures.items) (pushed_last c.args.source.now c.loop-start.out.items _ (c.loop-start.invariant.found _ (ends gap (ap (λ n. token End n n ∷ []) same)))),
      subst (All (IsReadFrom c.args.source.now)) (sym c.in-Ok-push.ensures.items) (All-push (IsReadFrom c.args.source.now) c.loop-start.out.items _ c.loop-start.invariant.each (no_bytes c.args.source.now c.in-Ok.start, inl refl)),
    )

pub text_between-requires-clause-past : goal.text_between-requires-clause-past
text_between-requires-clause-past c = spelled_past _ _ _ _ c.in_ok-kind.ensures.0.longest.spelled

pub text_between-requires-clause-last : goal.text_between-requires-clause-last
text_between-requires-clause-last c = ap_below (λ s. slice_index s (c.in_ok-kind.end - 1)) (sym c.requires) (spelled_ascii _ _ _ _ c.in_ok-kind.ensures.0.longest.spelled).1
