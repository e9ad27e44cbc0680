use Rattle.std.proofs.Common.{Some, refl, sym, ap, ◌∙◌, option_map}
use Rattle.lists.proofs.Lemmas.{on_ok}
use Rattle.tree_nodes.specs.View.{token_of, view_ref}
use Rattle.check_live.specs.Search.{no_number, state}
use Rattle.check_live.proofs.Searching.{brings_name}
use Rattle.check_live.proofs.search.serve.Goals as goal

pub returns-in-Some-find_text : goal.returns-in-Some-find_text
returns-in-Some-find_text c =
    let read = token_of c.args.tree.now in
    on_ok c.serve_name.result _ _ (brings_name c.args.numbers.now.keys read c.args.terms.now.texts c.args.site (state c.args.search.now) (state c.serve_name.new.search) c.in-Some.name.now c.in-Some-find_text.number (sym (c.name_at.ensures read) ∙ ap (option_map (λ n. view_ref read n.now)) c.in-Some.is) (c.in-Some-find_text.ensures.found ∙ ap Some c.name_text.ensures)) c.serve_name.ensures

pub returns-in-None : goal.returns-in-None
returns-in-None c =
    let read = token_of c.args.tree.now in
    no_number (view_ref read c.in-Some.name.now) (sym (c.name_at.ensures read) ∙ ap (option_map (λ n. view_ref read n.now)) c.in-Some.is) (λ k l e. c.in-None.ensures.missing k l (e ∙ ap Some (sym c.name_text.ensures))) refl
