-- What the nodes of a specification are made from.
use Rattle.std.specs.Prelude.{◌≡◌, Bool, List, Option}
use Rattle.tree_nodes.specs.Syntax.Syntax.{Cddl}
use Rattle.cddl_language.specs.Terms.{Text, Ref, Definition}
use Rattle.cddl_language.specs.Reading.{definitions_in, rules_of}
use Rattle.cddl_language.specs.Literals.{AreRight, Values}
use Rattle.check_terms.specs.Table.{Table}
use Rattle.check_names.specs.declared.kinds.kinds.Kinds.{Kinds}
use Rattle.check_names.specs.Kinds.Kinds.{AreKinds}
use Rattle.check_instances.specs.declared.closed.closed.Closed.{Closed}
use Rattle.check_instances.specs.Closed.Closed.{IsClosed}
use Rattle.check_instances.specs.declared.openings.openings.Opening.{Opening}
use Rattle.check_instances.specs.Openings.Openings.{AreOpenings}
use Rattle.check_literals.specs.Literals.{AreLiterals}
use Rattle.check_literals.specs.declared.known.Literals.{Literals}
use Rattle.check_literals.specs.Sizes.Sizes.{AreMembers}
use Rattle.check_literals.specs.declared.sizes.known.Members.{Members}
use Rattle.check_groups.specs.Choosing.Choosing.{AreChoosable}
use Rattle.check_groups.specs.Splices.Parts.{AreParts}
use Rattle.alternatives.specs.declared.Part.{Part}
use Rattle.alternatives.specs.declared.summary.Summary.{Summary}
use Rattle.alternatives.specs.Summaries.{AreSummaries}
use Rattle.table_making.specs.declared.source.Source.{Source}

-- a text's tree and its definitions, the root's name, the instances in order, and what written values stand for
pub record Sense : Type 0 where
  pub worth : Values
  pub tree : Cddl
  pub definitions : List Definition
  pub root : Text
  pub refs : List Ref

pub record IsBasis (s : Sense) (t : Table) (c : Closed) (kinds : Kinds) (openings : List Opening) (literals : Literals) (members : Members) (flags : List Bool) (parts : List Part) (summaries : List (Option Summary)) : Type 0 where
  pub closed : IsClosed s.definitions s.root s.refs t c
  pub kinds_are : AreKinds t.texts s.definitions kinds
  pub openings_are : AreOpenings s.definitions t s.refs openings
  pub literals_are : AreLiterals s.definitions s.root s.worth t literals
  pub members_are : AreMembers s.definitions s.root s.worth t members
  pub choosable : AreChoosable s.definitions s.root t flags
  pub parts_are : AreParts s.definitions s.root t parts
  pub summaries_are : AreSummaries parts summaries
  pub defined : s.definitions ≡ definitions_in (rules_of s.tree)
  pub right : AreRight s.tree s.worth

abbrev pub IsSource : Sense → Table → Source → Type 0
IsSource s t src = IsBasis s t src.closed.now src.kinds.now src.openings.now src.literals.now src.members.now src.choosable.now src.parts.now src.summaries.now
