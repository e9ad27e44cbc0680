use Rattle.std.proofs.Common.{sym, ◌∙◌}
use Rattle.cddl_token.proofs.NameFacts.{name_token, name_open_token}
use Rattle.cddl_token.proofs.names.name_at.Goals as goal

pub returns-then-byte_at-eq60-clause-token : goal.returns-then-byte_at-eq60-clause-token
returns-then-byte_at-eq60-clause-token c =
    name_open_token c.args.source.now c.args.at c.id_end-end.result c.id_end-end.ensures.id c.id_end-end.ensures.longest c.requires.no_string (sym c.byte_at.ensures.value ∙ c.if-byte_at-eq60.true)

pub returns-else-byte_at-eq60-clause-token : goal.returns-else-byte_at-eq60-clause-token
returns-else-byte_at-eq60-clause-token c =
    name_token c.args.source.now c.args.at c.id_end-end.result c.id_end-end.ensures.id c.id_end-end.ensures.longest c.requires.no_string (λ e. c.if-byte_at-eq60.false (c.byte_at.ensures.value ∙ e))
