use Rattle.table_making.specs.Basis.{IsSource, Sense}
use Rattle.table_making.specs.Numbers.{Extends}
use Rattle.table_making.specs.Search.{HasSearch, keys_in}
use Rattle.table_making.proofs.search.Search.run.Given as goal

abbrev pub invariant-loop : goal.invariant-loop
invariant-loop l = record {
  grows : Extends (keys_in l.fn.self) (keys_in l.self);
  keeps : (s : Sense) → IsSource s l.terms l.source → HasSearch s l.terms l.fn.self → HasSearch s l.terms l.self;
}
