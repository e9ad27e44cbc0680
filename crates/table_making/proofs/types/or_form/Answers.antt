use Rattle.std.proofs.Common.{◌∙◌}
use Rattle.cddl_language.specs.Terms.{choices, or}
use Rattle.table_making.proofs.Forming.{choice_formed, row_list}
use Rattle.table_making.proofs.Knowing.{each_choice}
use Rattle.table_making.proofs.types.or_form.Goals as goal

pub returns-in-Ok-row_origins : goal.returns-in-Ok-row_origins
returns-in-Ok-row_origins c s a b is re = choice_formed s c.args.terms.now (choices (or a b)) c.in-Ok.rows.items c.in-Ok-row_origins.origins.items (each_choice s (or a b) re) (c.in-Ok.ensures (or a b) is) (c.in-Ok-row_origins.ensures ∙ row_list c.deref.ensures.value)
