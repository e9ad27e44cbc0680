use Rattle.std.proofs.Common.{Some, sym, ap, subst, ◌∙◌, option_map}
use Rattle.lists.proofs.Lemmas.{on_ok}
use Rattle.tree_nodes.specs.View.{view_ref, view_type1}
use Rattle.check_live.specs.Search.{AddsArgument, state}
use Rattle.check_live.proofs.Searching.{next_argument}
use Rattle.check_live.proofs.search.serve_place.Goals as goal

pub returns-in-Some-argument : goal.returns-in-Some-argument
returns-in-Some-argument c =
    on_ok c.serve_argument.result _ _ (λ adds read from h.
    next_argument c.args.numbers.now.keys read c.args.site (view_ref read c.args.name.now) c.args.number c.args.place c.in-Some.slot (view_type1 read c.in-Some-argument.argument.now) (state c.args.search.now) (state c.serve_argument.new.search) (sym (c.argument.ensures read) ∙ ap (option_map (λ x. view_type1 read x.now)) c.in-Some-argument.is) (c.in-Some.ensures.found ∙ ap Some c.slot_of.ensures) (subst (λ m. AddsArgument m read c.args.site c.in-Some.slot (view_type1 read c.in-Some-argument.argument.now) (state c.args.search.now) (state c.serve_argument.new.search)) c.len.ensures.len (adds read)) from h) c.serve_argument.ensures
