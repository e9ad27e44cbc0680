use Rattle.std.proofs.Common.{sym, ap, ◌∙◌}
use Rattle.cddl_language.specs.Numbers.{before}
use Rattle.cddl_language.specs.Sites.{ref_name}
use Rattle.cddl_token.specs.declared.Token.{Token}
use Rattle.tree_nodes.specs.View.{token_of, view_ref}
use Rattle.tree_nodes.proofs.Lemmas.{view-Applied, view-Name}
use Rattle.check_reading.proofs.words.listing.name_text.Goals as goal

pub returns-in-Name : goal.returns-in-Name
returns-in-Name c =
    let read = token_of c.args.tree.now in
    ap (λ (t : Token). t.text.now) c.token.ensures ∙ sym (ap ref_name (ap (view_ref read) c.in-Name.is ∙ view-Name read c.in-Name.token))

pub returns-in-Applied : goal.returns-in-Applied
returns-in-Applied c =
    let read = token_of c.args.tree.now in
    c.opened_name.ensures ∙ ap (λ (t : Token). before 60 t.text.now) c.token-in-Applied.ensures ∙ sym (ap ref_name (ap (view_ref read) c.in-Applied.is ∙ view-Applied read c.in-Applied.opening c.in-Applied.arguments c.in-Applied.closing))
