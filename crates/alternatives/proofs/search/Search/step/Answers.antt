use Rattle.std.proofs.Common.{rules, ◌<◌, subst, sym}
use Rattle.lists.proofs.Lemmas.{ok_then}
use Rattle.alternatives.specs.Search.{IsKept, Keeps, entered, gap, state}
use Rattle.alternatives.proofs.Steps.{IsStep, top_within, top_summary, next_within, goes_on, goes_back}
use Rattle.alternatives.proofs.search.Search.step.Goals as goal

pub offset_bounds-parts-number : goal.offset_bounds-parts-number
offset_bounds-parts-number c = let l = top_within c.args.parts.now (state c.args.self.now) c.requires.kept c.args.number c.requires.top in search rules

pub bounds-parts-number : goal.bounds-parts-number
bounds-parts-number c = top_within c.args.parts.now (state c.args.self.now) c.requires.kept c.args.number c.requires.top

pub leave-requires : goal.leave-requires
leave-requires c = top_summary c.args.parts.now (state c.args.self.now) c.requires.kept c.args.number c.requires.top

pub enter-requires : goal.enter-requires
enter-requires c = next_within c.args.parts.now (state c.args.self.now) c.requires.kept c.args.number c.requires.top c.deref.result.now c.deref.ensures.value c.in-Some.next c.in-Some.ensures

onward : (c : goal.After-enter) → IsStep c.args.parts.now (state c.args.self.now) (entered c.in-Some.next (state c.args.self.now))
onward c = goes_on c.args.parts.now (state c.args.self.now) c.requires.kept c.args.number c.requires.top c.deref.result.now c.deref.ensures.value c.in-Some.next c.in-Some.ensures

pub returns-in-Some-clause-kept : goal.returns-in-Some-clause-kept
returns-in-Some-clause-kept c = ok_then c.enter.result _ _ (λ u e. subst (IsKept c.args.parts.now) (sym e) (onward c).kept) c.enter.ensures

pub returns-in-Some-clause-keeps : goal.returns-in-Some-clause-keeps
returns-in-Some-clause-keeps c = ok_then c.enter.result _ _ (λ u e. subst (Keeps (state c.args.self.now)) (sym e) (onward c).keeps) c.enter.ensures

pub returns-in-Some-clause-gap : goal.returns-in-Some-clause-gap
returns-in-Some-clause-gap c = ok_then c.enter.result _ _ (λ u e. subst (λ t. gap t < gap (state c.args.self.now)) (sym e) (onward c).less) c.enter.ensures

pub returns-in-None-clause-kept : goal.returns-in-None-clause-kept
returns-in-None-clause-kept c = subst (IsKept c.args.parts.now) (sym c.leave.ensures) (goes_back c.args.parts.now (state c.args.self.now) c.requires.kept c.args.number c.requires.top c.deref.result.now c.deref.ensures.value c.in-None.ensures).kept
