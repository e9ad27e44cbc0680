use Rattle.std.proofs.Common.{◌≡◌, length}
use Rattle.graphs.specs.Implications.Rules.{AreHeads, AreLinks}
use Rattle.graphs.proofs.implications.rules.links_of.Given as goal

abbrev pub invariant-loop-place : goal.invariant-loop-place
invariant-loop-place l = record {
  all : length l.links.items ≡ l.place;
  heads_are : AreHeads l.facts l.premises l.place l.heads.items;
  links_are : AreLinks l.facts l.premises l.links.items;
}
