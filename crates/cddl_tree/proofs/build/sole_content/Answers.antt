use Rattle.std.proofs.Common.{◌∙◌, ap, sym, Option, None, List, map}
use Rattle.tree_nodes.specs.Syntax.Syntax as S
use Rattle.cddl_token.specs.declared.Token.{Token}
use Rattle.tree_nodes.specs.declared.tree.GrpEnt.{GrpEnt}
use Rattle.tree_nodes.specs.declared.tree.Entry.{Entry}
use Rattle.tree_nodes.specs.declared.tree.GrpChoice.{GrpChoice}
use Rattle.cddl_tree.specs.Frames.{view_entries}
use Rattle.tree_nodes.specs.View.{leaf, with_choices, view_choice, view_grpent, view_types}
use Rattle.tree_nodes.proofs.Lemmas.{view-Group}
use Rattle.cddl_tree.proofs.Contents.{along_groups, view_entries-push, empty_items, empty, full, several_no_type, comma_no_type}
use Rattle.cddl_tree.proofs.build.sole_content.Goals as goal

pub returns-in-None : goal.returns-in-None
returns-in-None c read = let e = empty_items c.args.first c.in-None.ensures.cases.0 in let f = empty_items c.pop.new.self c.in-None.ensures.cases.1 in (view-Group read _ _ ∙ (ap (λ (xs : List GrpChoice). with_choices (S.sole (view_entries read c.pop.new.self.items)) (map (view_choice read) xs)) c.requires ∙ ap S.sole (ap (view_entries read) f ∙ sym (ap (view_entries read) e))), ap (λ (xs : List Entry). S.is_type (S.sole (view_entries read xs))) e)

pub whole-requires-clause-group : goal.whole-requires-clause-group
whole-requires-clause-group c read = several_no_type read _ _ _ (full c.pop.new.self _ c.is_empty.ensures c.if-not-is_empty.true)

pub returns-then-not-is_empty : goal.returns-then-not-is_empty
returns-then-not-is_empty c = along_groups c.whole.result _ _ (λ read. ap S.sole (ap (view_entries read) c.in-Some.ensures.items ∙ view_entries-push read c.pop.new.self.items c.in-Some.entry.grpent c.in-Some.entry.comma)) c.whole.ensures

pub returns-in-Some-comma : goal.returns-in-Some-comma
returns-in-Some-comma c = along_groups c.whole-in-Some-comma.result _ _ (λ read. ap S.sole (ap (view_entries read) c.in-Some.ensures.items ∙ view_entries-push read c.pop.new.self.items c.in-Some.entry.grpent c.in-Some.entry.comma ∙ ap (λ (o : Option Token). S.entries (view_entries read c.pop.new.self.items) (view_grpent read c.in-Some.entry.grpent) o) (ap (leaf read) c.in-Some-comma.is))) c.whole-in-Some-comma.ensures

pub whole-requires-in-Some-comma-clause-group : goal.whole-requires-in-Some-comma-clause-group
whole-requires-in-Some-comma-clause-group c read = comma_no_type (view_entries read c.pop.new.self.items) (view_grpent read c.in-Some.entry.grpent) (read c.in-Some-comma.comma)

pub returns-in-Ok : goal.returns-in-Ok
returns-in-Ok c read = let e = empty c.pop.new.self _ c.is_empty.ensures c.if-not-is_empty.false in ap S.sole (ap (view_entries read) c.in-Some.ensures.items ∙ view_entries-push read c.pop.new.self.items c.in-Some.entry.grpent c.in-Some.entry.comma ∙ (ap (λ (xs : List Entry). S.entries (view_entries read xs) (view_grpent read c.in-Some.entry.grpent) (leaf read c.in-Some.entry.comma)) e ∙ (ap (λ (x : S.GrpEnt). S.entries S.no_entries x (leaf read c.in-Some.entry.comma)) (c.in-Ok.ensures.bare read) ∙ ap (λ (o : Option Token). S.entries S.no_entries (S.typed None (view_types read c.in-Ok.types)) o) (ap (leaf read) c.in-None-comma.is))))

pub returns-in-Err : goal.returns-in-Err
returns-in-Err c = along_groups c.whole-in-Err.result _ _ (λ read. ap S.sole (ap (view_entries read) c.in-Some.ensures.items ∙ view_entries-push read c.pop.new.self.items c.in-Some.entry.grpent c.in-Some.entry.comma ∙ (ap (λ (x : GrpEnt). S.entries (view_entries read c.pop.new.self.items) (view_grpent read x) (leaf read c.in-Some.entry.comma)) (sym c.in-Err.ensures.other.0) ∙ ap (λ (o : Option Token). S.entries (view_entries read c.pop.new.self.items) (view_grpent read c.in-Err.grpent) o) (ap (leaf read) c.in-None-comma.is)))) c.whole-in-Err.ensures
