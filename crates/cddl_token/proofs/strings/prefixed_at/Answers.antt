use Rattle.std.proofs.Common.{◌+◌, ◌∙◌, refl, sym}
use Rattle.cddl_literal.specs.declared.Quote.TheVariants.{Single}
use Rattle.cddl_token.specs.Tokens.{in_string}
use Rattle.cddl_token.specs.Strings.{prefixed, bad_bytes}
use Rattle.cddl_token.proofs.StringFacts.{prefixed_token, closed_within}
use Rattle.cddl_token.proofs.strings.prefixed_at.Goals as goal

pub returns-then-byte_at-ne39 : goal.returns-then-byte_at-ne39
returns-then-byte_at-ne39 c =
    in_string (prefixed c.args.coding c.args.start c.coded_end-end.result c.requires.opens c.coded_end-end.ensures.furthest (λ e. c.if-byte_at-ne39.true (c.byte_at.ensures.value ∙ e)) c.stop_at-fault.ensures)

pub returns-in-Ok-Some : goal.returns-in-Ok-Some
returns-in-Ok-Some c =
    let close = sym c.byte_at.ensures.value ∙ c.if-byte_at-ne39.false in
    let held = c.coded_end-end.ensures.closed close in
    let found = rw c.in-Ok-Some.field-0-is at (c.in-Ok-Some.ensures held.0 held.1) in
    (prefixed_token c.args.coding c.args.source.now c.args.at c.args.start c.coded_end-end.result c.requires.opens c.coded_end-end.ensures.furthest held.0 _ held.1 close (sym found), closed_within Single c.args.source.now c.coded_end-end.result close)

pub returns-in-Ok-None : goal.returns-in-Ok-None
returns-in-Ok-None c =
    let close = sym c.byte_at.ensures.value ∙ c.if-byte_at-ne39.false in
    let held = c.coded_end-end.ensures.closed close in
    let missed = rw c.in-Ok-None.field-0-is at (c.in-Ok-None.ensures held.0 held.1) in
    in_string (bad_bytes (c.coded_end-end.result + 1) (c.args.coding, held.0, record { start = c.args.start; end = c.coded_end-end.result; opens = c.requires.opens; holds = held.1; closes = close; ends = refl }, sym missed) refl refl)
