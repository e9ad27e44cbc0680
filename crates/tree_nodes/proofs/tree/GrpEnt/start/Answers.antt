use Rattle.std.proofs.Common.{subst}
use Rattle.tree_nodes.specs.Syntax.Syntax as S
use Rattle.tree_nodes.specs.declared.tree.MemberKey.{MemberKey}
use Rattle.tree_nodes.specs.View.{view_key, view_types, token_of, StartsAt}
use Rattle.tree_nodes.proofs.Starting.{keyed_start}
use Rattle.tree_nodes.proofs.Lemmas.{views}
use Rattle.tree_nodes.proofs.tree.GrpEnt.start.Goals as goal

pub returns-in-Some : goal.returns-in-Some
returns-in-Some c = simp (c.in-Typed.is, c.in-Some.is, views) c.start_of.ensures

pub returns-in-None : goal.returns-in-None
returns-in-None c = simp (c.in-Typed.is, c.in-None.is, views) c.start.ensures

pub returns-in-Some-occur : goal.returns-in-Some-occur
returns-in-Some-occur c = simp (c.in-Keyed.is, c.in-Some-occur.is, views) c.start_of-in-Some-occur.ensures

pub returns-in-None-occur : goal.returns-in-None-occur
returns-in-None-occur c = simp (c.in-Keyed.is, c.in-None-occur.is, views) (keyed_start _ (view_types (token_of c.args.tree.now) c.in-Keyed.types) _ (subst (λ (x : MemberKey). StartsAt (S.flat_key (view_key (token_of c.args.tree.now) x)) c.start-in-None-occur.result) c.deref.ensures c.start-in-None-occur.ensures))

pub returns-in-Some-occur-2 : goal.returns-in-Some-occur-2
returns-in-Some-occur-2 c = simp (c.in-Grouped.is, c.in-Some-occur-2.is, views) c.start_of-in-Some-occur-2.ensures

pub returns-in-None-occur-2 : goal.returns-in-None-occur-2
returns-in-None-occur-2 c = simp (c.in-Grouped.is, c.in-None-occur-2.is, views) c.start_of-in-None-occur-2.ensures
