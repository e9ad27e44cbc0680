use Rattle.check_instances.proofs.OfClosed.Reached.{alternatives_reached, group_reached, types_reached}
use Rattle.check_instances.proofs.closed.laws.meanings_are_reached.Goals as goal

pub returns-clause-types : goal.returns-clause-types
returns-clause-types c = λ xs root r x reaches h. types_reached xs root r x reaches h

pub returns-clause-group : goal.returns-clause-group
returns-clause-group c = λ xs root r g reaches e. group_reached xs root r g reaches e

pub returns-clause-alternatives : goal.returns-clause-alternatives
returns-clause-alternatives c = λ xs root r es reaches h. alternatives_reached xs root r es reaches h
