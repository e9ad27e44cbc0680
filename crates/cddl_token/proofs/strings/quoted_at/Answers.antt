use Rattle.std.proofs.Common.{sym, ◌∙◌}
use Rattle.cddl_token.specs.Tokens.{in_string}
use Rattle.cddl_token.specs.Strings.{quoted}
use Rattle.cddl_token.proofs.StringFacts.{text_found, plain_found}
use Rattle.cddl_token.proofs.strings.quoted_at.Goals as goal

pub returns-then-byte_at-quote_byte : goal.returns-then-byte_at-quote_byte
returns-then-byte_at-quote_byte c =
    in_string (quoted c.args.quote c.characters_end-end.result c.requires.begins c.characters_end-end.ensures.furthest (λ e. c.if-byte_at-quote_byte.true (c.byte_at.ensures.value ∙ e ∙ sym c.quote_byte.ensures)) c.stop_at.ensures)

pub returns-in-Double : goal.returns-in-Double
returns-in-Double c = text_found c.args.quote c.args.source.now c.args.at c.characters_end-end.result c.in-Double.is c.requires.begins c.characters_end-end.ensures.furthest (sym c.byte_at.ensures.value ∙ c.if-byte_at-quote_byte.false ∙ c.quote_byte.ensures)

pub returns-in-Single : goal.returns-in-Single
returns-in-Single c = plain_found c.args.quote c.args.source.now c.args.at c.characters_end-end.result c.in-Single.is c.requires.begins c.characters_end-end.ensures.furthest (sym c.byte_at.ensures.value ∙ c.if-byte_at-quote_byte.false ∙ c.quote_byte.ensures)
