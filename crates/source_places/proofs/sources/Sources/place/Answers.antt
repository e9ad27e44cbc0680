use Rattle.std.proofs.Common.{subst}
use Rattle.source_pieces.specs.Instances.{all_as_written}
use Rattle.source_places.specs.States.{IsLastIn}
use Rattle.source_places.proofs.Naming.{no_rule}
use Rattle.source_places.proofs.sources.Sources.place.Goals as goal

pub place_in-requires : goal.place_in-requires
place_in-requires c = subst (IsLastIn c.args.self.now.text c.args.chain.now) c.in-Some.is c.last_instance.ensures

pub returns-in-None-clause-none : goal.returns-in-None-clause-none
returns-in-None-clause-none c = λ s table known m h. no_rule s known.terms known.nodes c.args.self.now.text all_as_written known.types m (subst (IsLastIn c.args.self.now.text c.args.chain.now) c.in-None.is c.last_instance.ensures m h)
