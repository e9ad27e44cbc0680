use Rattle.std.proofs.Common.{◌≡◌, ◌+◌, ◌-◌, subst, arith}
use Rattle.std.specs.Str.{IsCharBoundary}
use Rattle.std.proofs.lemmas.Str.{IsCharBoundary-after_ascii}
use Rattle.cddl_token.proofs.scanner.text_between.Goals as goal

pub range-requires-clause-end_boundary : goal.range-requires-clause-end_boundary
range-requires-clause-end_boundary c =
    let last : c.args.end - 1 + 1 ≡ c.args.end = omega arith in
    subst (IsCharBoundary c.args.text.now) last (IsCharBoundary-after_ascii c.args.text.now (c.args.end - 1) c.utf8.text (omega arith) c.requires.last)
