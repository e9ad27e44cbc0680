use Rattle.std.proofs.Common.{slice_index, refl, sym, ◌∙◌, arith}
use Rattle.cddl_token.specs.Tokens.{unknown}
use Rattle.cddl_token.proofs.BeginFacts.{begins_nothing, elsewhere}
use Rattle.cddl_token.proofs.StringFacts.{opens_nothing}
use Rattle.cddl_token.proofs.scanner.sign_at.Goals as goal

pub returns-in-None : goal.returns-in-None
returns-in-None c =
    let none = begins_nothing (slice_index c.args.source.now c.args.at) c.requires.no_letter (sym c.is_digit.ensures ∙ c.if-is_digit.false) (c.in-None.ensures) (λ e. omega arith) (λ e. omega arith) (λ e. omega arith) (λ e. omega arith) (λ e. omega arith) (λ e. omega arith) (λ e. omega arith) (λ e. omega arith) in
    unknown refl c.requires.no_gap (opens_nothing c.args.source.now c.args.at c.requires.no_letter (λ e. omega arith) (λ e. omega arith)) c.requires.no_comment (λ q m. elsewhere q c.args.source.now c.args.at m refl (none q))
