-- What was read of the references of a text.
use Rattle.std.specs.Prelude.{List}
use Rattle.cddl_language.specs.Terms.{Text, Ref, Definition}
use Rattle.check_terms.specs.Table.{Table}
use Rattle.check_names.specs.declared.kinds.kinds.Kinds.{Kinds}
use Rattle.check_names.specs.Kinds.Kinds.{AreKinds}
use Rattle.check_instances.specs.declared.closed.closed.Closed.{Closed}
use Rattle.check_instances.specs.Closed.Closed.{IsClosed}
use Rattle.check_instances.specs.declared.openings.openings.Opening.{Opening}
use Rattle.check_instances.specs.Openings.Openings.{AreOpenings}

-- the instances, the kinds of names and what is opened are those of these definitions and this root
pub record IsResolved (xs : List Definition) (root : Text) (refs : List Ref) (t : Table) (c : Closed) (ks : Kinds) (os : List Opening) : Type 0 where
  pub closed : IsClosed xs root refs t c
  pub kinds : AreKinds t.texts xs ks
  pub openings : AreOpenings xs t refs os
