use Rattle.std.proofs.Common.{sym, subst}
use Rattle.item_nodes.specs.View.{pairs_view}
use Rattle.match_moves.specs.Views.{question_view}
use Rattle.match_tests.specs.Views.{subject_view}
use Rattle.table_nodes.specs.Language.{language_of}
use Rattle.table_nodes.specs.Nodes.{entries_view}
use Rattle.cddl_reasons.specs.Told.{IsCause}
use Rattle.cddl_reasons.proofs.telling.cause_of.Goals as goal

pub returns-in-OfType : goal.returns-in-OfType
returns-in-OfType c = subst (λ q. IsCause (language_of c.args.table.now) (question_view q) c.args.far c.type_cause.result) (sym c.in-OfType.is) (c.type_cause.ensures (subject_view c.in-OfType.subject))

pub returns-in-OfGroup : goal.returns-in-OfGroup
returns-in-OfGroup c = subst (λ q. IsCause (language_of c.args.table.now) (question_view q) c.args.far c.group_cause.result) (sym c.in-OfGroup.is) (c.group_cause.ensures c.in-OfGroup.base c.in-OfGroup.place c.args.far)

pub returns-in-OfAlternative : goal.returns-in-OfAlternative
returns-in-OfAlternative c = subst (λ q. IsCause (language_of c.args.table.now) (question_view q) c.args.far c.alternative_cause.result) (sym c.in-OfAlternative.is) (c.alternative_cause.ensures (language_of c.args.table.now) (entries_view c.in-OfAlternative.entries.now) (pairs_view c.in-OfAlternative.pairs.now))
