use Rattle.std.proofs.Common.{◌≡◌, ◌<◌, ℕ, Some, slice_get}
use Rattle.cddl_language.specs.Terms.{Ref}
use Rattle.table_making.specs.Basis.{IsSource, Sense}
use Rattle.table_making.specs.Numbers.{AreNamed, Extends, keys_of}
use Rattle.table_making.specs.Search.{HasNumber}
use Rattle.table_making.proofs.instances.number_instances.Given as goal

abbrev pub invariant-loop-place : goal.invariant-loop-place
invariant-loop-place l = record {
  grows : Extends (keys_of l.fn.numbers) (keys_of l.numbers);
  named : (s : Sense) → IsSource s l.terms l.source → AreNamed s l.terms (keys_of l.fn.numbers) → AreNamed s l.terms (keys_of l.numbers);
  numbered : (s : Sense) (k : ℕ) (r : Ref) → IsSource s l.terms l.source → k < l.place → slice_get s.refs k ≡ Some r → HasNumber s l.terms (keys_of l.numbers) r;
}
