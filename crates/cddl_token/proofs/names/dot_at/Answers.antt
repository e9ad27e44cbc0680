use Rattle.std.proofs.Common.{refl, sym, ap, ◌∙◌, arith}
use Rattle.cddl_token.specs.Bytes.{is_ealpha}
use Rattle.cddl_token.specs.Tokens.{unknown}
use Rattle.cddl_token.proofs.NameFacts.{lone_dot, control_token, dot_opens, range_token, range_below_token}
use Rattle.cddl_token.proofs.names.dot_at.Goals as goal

pub returns-then-is_ealpha : goal.returns-then-is_ealpha
returns-then-is_ealpha c = (control_token c.args.source.now c.args.at _ c.requires.begins c.id_end.ensures.id c.id_end.ensures.longest, c.id_end.ensures.in_source)

pub returns-then-next-ne46 : goal.returns-then-next-ne46
returns-then-next-ne46 c =
    unknown refl c.requires.no_gap (dot_opens c.args.source.now c.args.at c.requires.begins) (λ e. omega (arith, c.requires.begins))
    (lone_dot c.args.source.now c.args.at c.requires.begins (λ e. c.if-next-ne46.true (c.byte_at-next.ensures.value ∙ e)) (ap is_ealpha (sym c.byte_at-next.ensures.value) ∙ sym c.is_ealpha.ensures ∙ c.if-is_ealpha.false))

pub returns-then-byte_at-eq46 : goal.returns-then-byte_at-eq46
returns-then-byte_at-eq46 c = (range_below_token c.args.source.now c.args.at c.requires.begins (sym c.byte_at-next.ensures.value ∙ c.if-next-ne46.false) (sym c.byte_at.ensures.value ∙ c.if-byte_at-eq46.true), omega arith)

pub returns-else-byte_at-eq46 : goal.returns-else-byte_at-eq46
returns-else-byte_at-eq46 c = (range_token c.args.source.now c.args.at c.requires.begins (sym c.byte_at-next.ensures.value ∙ c.if-next-ne46.false) (λ e. c.if-byte_at-eq46.false (c.byte_at.ensures.value ∙ e)), omega arith)
