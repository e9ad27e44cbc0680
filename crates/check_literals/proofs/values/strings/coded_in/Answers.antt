use Rattle.std.proofs.Common.{◌∙◌}
use Rattle.check_literals.proofs.OfValues.Quoting.{no_coding, not_one}
use Rattle.check_literals.proofs.values.strings.coded_in.Goals as goal

pub returns-then-byte_at-ne39 : goal.returns-then-byte_at-ne39
returns-then-byte_at-ne39 c = no_coding c.args.coding c.args.source.now c.args.start c.requires.opens (λ d h. c.if-byte_at-ne39.true (c.byte_at.ensures.value ∙ (c.closes_at_stop.ensures.prefixed _ _ _ _ _ _ d h c.requires.opens c.coded_end-end.ensures.furthest).1))

pub returns-then-source-end-ne1 : goal.returns-then-source-end-ne1
returns-then-source-end-ne1 c = no_coding c.args.coding c.args.source.now c.args.start c.requires.opens (λ d h. not_one _ _ c.if-source-end-ne1.true (c.closes_at_stop.ensures.prefixed _ _ _ _ _ _ d h c.requires.opens c.coded_end-end.ensures.furthest).0)
