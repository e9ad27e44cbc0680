use Rattle.check_terms.specs.Texts.Controls.{membership_view}
use Rattle.check_literals.specs.Sizes.Controllers.{AreListed, HaveLists, IsReady}
use Rattle.check_literals.proofs.sizes.sets.listed.Given as goal

abbrev pub invariant-loop-number : goal.invariant-loop-number
invariant-loop-number l = record {
  listed : AreListed l.sources l.sizable l.sizes;
  ready : IsReady l.sources l.sizes l.search;
  all : HaveLists (membership_view l.membership) l.terms l.sizable l.number l.sizes;
}
