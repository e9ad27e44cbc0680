use Rattle.source_pieces.proofs.Adding.{on_ok, adds_as}
use Rattle.source_pieces.proofs.Nodes.{group_body, grouped_body, keyed_body, typed_body}
use Rattle.source_pieces.proofs.entries.add_body.Goals as goal

pub returns-in-Typed : goal.returns-in-Typed
returns-in-Typed c = on_ok c.add_lone.result _ _ (adds_as _ (λ read. typed_body read _ _ _ c.in-Typed.is)) c.add_lone.ensures

pub returns-in-Keyed : goal.returns-in-Keyed
returns-in-Keyed c = on_ok c.add_lone-in-Keyed.result _ _ (adds_as _ (λ read. keyed_body read _ _ _ _ c.in-Keyed.is)) c.add_lone-in-Keyed.ensures

pub returns-in-Some : goal.returns-in-Some
returns-in-Some c =
    on_ok c.add_lone-in-Some.result _ _ (adds_as _ (λ read. grouped_body read _ c.in-Grouped.occur c.in-Some.field-0 c.in-Grouped.opening c.in-Grouped.group c.in-Grouped.closing c.in-Grouped.is c.in-Some.is)) c.add_lone-in-Some.ensures

pub returns-in-None : goal.returns-in-None
returns-in-None c =
    on_ok c.add_entries_of.result _ _ (adds_as _ (λ read. group_body read _ c.in-Grouped.occur c.in-Grouped.opening c.in-Grouped.group c.in-Grouped.closing c.in-Grouped.is c.in-None.is)) c.add_entries_of.ensures
