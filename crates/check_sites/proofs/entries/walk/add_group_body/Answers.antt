use Rattle.check_sites.proofs.OfEntries.Adding.{adds_as, on_ok}
use Rattle.check_sites.proofs.OfEntries.Nodes.{body_of_group, body_of_keyed, body_of_some, body_of_typed}
use Rattle.check_sites.proofs.entries.walk.add_group_body.Goals as goal

pub returns-in-None : goal.returns-in-None
returns-in-None c = on_ok c.add_group.result _ _ (adds_as _ (λ read. body_of_group read _ _ c.in-Grouped.opening c.in-Grouped.group c.in-Grouped.closing c.in-Grouped.is c.in-None.is)) c.add_group.ensures

pub returns-in-Some : goal.returns-in-Some
returns-in-Some c = on_ok c.add_entry.result _ _ (adds_as _ (λ read. body_of_some read _ _ c.in-Grouped.opening c.in-Grouped.group c.in-Grouped.closing _ c.in-Grouped.is c.in-Some.is)) c.add_entry.ensures

pub returns-in-Typed : goal.returns-in-Typed
returns-in-Typed c = on_ok c.add_entry-in-Typed.result _ _ (adds_as _ (λ read. body_of_typed read _ _ _ c.in-Typed.is)) c.add_entry-in-Typed.ensures

pub returns-in-Keyed : goal.returns-in-Keyed
returns-in-Keyed c = on_ok c.add_entry-in-Keyed.result _ _ (adds_as _ (λ read. body_of_keyed read _ _ _ _ c.in-Keyed.is)) c.add_entry-in-Keyed.ensures
