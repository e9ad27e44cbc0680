use Rattle.std.proofs.Common.{ap, ◌∙◌}
use Rattle.cddl_meaning.specs.Forms.{Plain, is_other}
use Rattle.item_nodes.specs.View.{view}
use Rattle.table_nodes.specs.Language.{language_of}
use Rattle.table_nodes.specs.Nodes.{entry_view, test_view, type_view}
use Rattle.tape_match.proofs.Left.{known_by, literal_key, literal_says}
use Rattle.tape_match.proofs.keys.key_known.Goals as goal

pub returns-in-Some-Plain-Equals : goal.returns-in-Some-Plain-Equals
returns-in-Some-Plain-Equals c =
    let l = language_of c.args.table.now in
    let e = entry_view c.args.entry.now in
    let v = view c.in-Some-Plain-Equals.literal in
    let is = c.in-Some-Plain-Equals.ensures.found ∙ (ap type_view c.in-Some-Plain-Equals.field-0-is ∙ ap (λ t. Plain (test_view t)) c.in-Some-Plain-Equals.field-0-0-is) in
    known_by l e v c.args.seen 1 c.literal_known.result (λ x. ap (λ o. is_other o x) (literal_key l.type_at e.key_type v is)) (λ x same. literal_says l (l.type_at e.key_type) v x is same) c.literal_known.ensures.cost c.literal_known.ensures.known
