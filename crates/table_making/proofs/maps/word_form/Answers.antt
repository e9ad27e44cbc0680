use Rattle.std.proofs.Common.{ap, sym, ◌∙◌}
use Rattle.cbor_data.specs.Value as V
use Rattle.cddl_meaning.specs.Forms as F
use Rattle.table_making.proofs.Forming.{plain_formed, same_meaning}
use Rattle.table_making.proofs.maps.word_form.Goals as goal

pub returns-in-Ok : goal.returns-in-Ok
returns-in-Ok c s n e = plain_formed s c.args.terms.now (F.equals (V.text n)) _ (ap F.equals (c.text_item.ensures ∙ ap V.text (c.in-Ok.ensures.ok ∙ sym (same_meaning _ n c.in-Some.name.now e c.in-Some.ensures))))
