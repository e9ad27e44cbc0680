-- What each stage has found.
use Rattle.std.specs.Prelude.{◌≡◌, ◌≤◌, List, length, map, Option, Some, None, slice_get}
use Rattle.cddl_language.specs.Terms.{Definition, Ref, Text}
use Rattle.cddl_language.specs.Faults.{HasBadController, HasBadRange, HasNotLiteral, HasTooManyInstances, IsFaultAt, Specification, definitions, root_of, rules}
use Rattle.cddl_language.specs.Literals.{AreRight, AreTokens, Values}
use Rattle.cddl_language.specs.Prelude.{prelude}
use Rattle.cddl_language.specs.Reach.{most_instances}
use Rattle.cddl_language.specs.Reading.{name_at}
use Rattle.cddl_language.specs.StandsFor.{AreInstances}
use Rattle.tree_nodes.specs.declared.tree.Tree.{Tree}
use Rattle.tree_nodes.specs.View.{view}
use Rattle.check_terms.specs.Definitions.{AreDefinitions}
use Rattle.check_terms.specs.Table.{Table}
use Rattle.check_names.specs.Environment.Names.{AreNames}
use Rattle.check_names.specs.Kinds.Kinds.{AreKinds}
use Rattle.check_reading.specs.declared.survey.survey.Survey.{Survey}
use Rattle.lists.specs.Least.{IsLeast}
use Rattle.check_reading.specs.Survey.Survey.{IsSurvey}
use Rattle.cddl_language.specs.Live.Live.{IsClear}
use Rattle.check_text.specs.Codes.{text_codes}
use Rattle.check_text.specs.First.{IsFirst}
use Rattle.check_instances.specs.Found.{AreFound}
use Rattle.check_reached.specs.Asked.{AreAsked, AreEntriesAsked}
use Rattle.check_reached.specs.Reached.{AreReachedWords}
use Rattle.check_instances.specs.Closed.Closed.{IsClosed}
use Rattle.check_instances.specs.Openings.Openings.{AreOpenings}
use Rattle.check_literals.specs.Literals.{AreLiterals}
use Rattle.check_literals.specs.Sizes.Sizes.{AreControllers, AreMembers}
use Rattle.check_groups.specs.Choosing.Choosing.{AreChoosable}
use Rattle.cddl_language.specs.MapFaults.{HasMapShape, HasNoKey, HasTooManyAlternatives}
use Rattle.alternatives.specs.Summaries.{AreSummaries}
use Rattle.check_groups.specs.Splices.Parts.{AreParts}
use Rattle.check_root.specs.ReachedFaults.Unwrapping.{OpensWrongly}
use Rattle.check_maps.specs.Spliced.Spliced.{AreSpliced}
use Rattle.check_maps.specs.MapCycles.Coming.{AreComingBack}
use Rattle.check_maps.specs.MapFaults.Faults.{AreFaults}
use Rattle.cddl_check.specs.declared.closing.Meant.{Meant}
use Rattle.cddl_check.specs.declared.finding.Instanced.{Instanced}
use Rattle.cddl_check.specs.declared.mapping.MapFaults.{MapFaults}
use Rattle.cddl_check.specs.declared.mapping.Maps.{Maps}
use Rattle.cddl_check.specs.declared.questioning.Questions.{Questions}
use Rattle.cddl_check.specs.declared.reading.Reading.{Reading}
use Rattle.cddl_check.specs.declared.splicing.Splices.{Splices}

-- The specification has this tree, of tokens, and this name as its root, and the values are right for it.
pub record IsGiven (s : Specification) (worth : Values) (x : Tree) (name : Option Text) : Type 0 where
  pub tree : s.tree ≡ view x
  pub given : s.given ≡ name
  pub tokens : AreTokens s.tree
  pub right : AreRight s.tree worth

-- Nothing is wrong in the whole text.
pub record IsRight (s : Specification) (worth : Values) : Type 0 where
  pub no_fault : IsFirst (IsFaultAt s worth) text_codes None
  pub clear : IsClear s

-- The root, its instances in order, which are no more than may be, and the words at the sites that it reaches.
pub record IsRooted (s : Specification) (root : Text) (refs : List Ref) (t : Table) (x : Instanced) : Type 0 where
  pub rooted : root_of s ≡ Some root
  pub instances : AreInstances (definitions s) root refs
  pub few : length refs ≤ most_instances
  pub no_more : IsLeast (HasTooManyInstances s root) None
  pub reached : AreReachedWords (rules s) root t x.reached.items

-- The same, and the survey, by the numbers of the table.
pub record IsInstanced (s : Specification) (root : Text) (refs : List Ref) (t : Table) (tree : Tree) (v : Survey) (x : Instanced) : Type 0 where
  pub survey : IsSurvey t tree v
  pub rooted : IsRooted s root refs t x
  pub number : slice_get t.texts x.root ≡ Some root
  pub found : AreFound (definitions s) t x.instances.items refs

-- The definitions, their names and the kinds of these, by the numbers of the table, and where each rule begins.
pub record IsNamed (s : Specification) (t : Table) (v : Survey) : Type 0 where
  pub known : AreDefinitions t v.known.items prelude
  pub defined : AreDefinitions t v.definitions.items (definitions s)
  pub names : AreNames (length t.texts) v.known.items v.definitions.items v.names.items
  pub kinds : AreKinds t.texts (definitions s) v.kinds
  pub starts : v.starts.items ≡ map name_at (rules s)

-- The checks left at the sites that the root reaches, and the least offset where `~` unwraps wrongly.
pub record IsAsking (s : Specification) (root : Text) (t : Table) (x : Questions) : Type 0 where
  pub asked : AreAsked (rules s) root t x.asked.items
  pub entries : AreEntriesAsked (rules s) root t x.entries.items
  pub opens : IsLeast (OpensWrongly s root) x.opens

-- What the instances mean and open, which literals and controllers types are, and what may be chosen from.
pub record IsMeant (ds : List Definition) (worth : Values) (root : Text) (refs : List Ref) (t : Table) (x : Meant) : Type 0 where
  pub closed : IsClosed ds root refs t x.closed
  pub openings : AreOpenings ds t refs x.openings.items
  pub literals : AreLiterals ds root worth t x.literals
  pub controllers : AreControllers ds root worth t x.controllers
  pub members : AreMembers ds root worth t x.members
  pub choosable : AreChoosable ds root t x.choosable.items

-- What the groups in maps stand for.
pub record AreSplices (ds : List Definition) (root : Text) (t : Table) (x : Splices) : Type 0 where
  pub parts : AreParts ds root t x.parts.items
  pub summaries : AreSummaries x.parts.items x.summaries.items

-- Nothing is wrong with literals and numbers.
pub record AreValued (s : Specification) (worth : Values) (root : Text) : Type 0 where
  pub literals : IsLeast (HasNotLiteral s worth root) None
  pub ranges : IsLeast (HasBadRange s worth root) None
  pub controllers : IsLeast (HasBadController s worth root) None

-- What is spliced into the maps that are reached, which of it leads back, and what is wrong with each row.
pub record AreMaps (s : Specification) (root : Text) (refs : List Ref) (t : Table) (x : Maps) : Type 0 where
  pub spliced : AreSpliced (rules s) root t refs x.spliced.items
  pub returning : AreComingBack (definitions s) root t refs x.spliced.items x.returning.items
  pub faults : AreFaults (definitions s) root t x.faults.items

-- The least offsets of what is wrong in maps.
pub record AreMapFaults (s : Specification) (root : Text) (x : MapFaults) : Type 0 where
  pub no_key : IsLeast (HasNoKey (rules s) root) x.no_key
  pub shape : IsLeast (HasMapShape (rules s) root) x.shape
  pub too_many : IsLeast (HasTooManyAlternatives (rules s) root) x.too_many

-- Nothing is wrong in maps.
pub record AreFlat (s : Specification) (root : Text) : Type 0 where
  pub keyed : IsLeast (HasNoKey (rules s) root) None
  pub shaped : IsLeast (HasMapShape (rules s) root) None
  pub few : IsLeast (HasTooManyAlternatives (rules s) root) None

-- All of this, for a text in which nothing is wrong.
pub record IsReading (s : Specification) (worth : Values) (root : Text) (refs : List Ref) (t : Table) (tree : Tree) (x : Reading) : Type 0 where
  pub right : IsRight s worth
  pub rooted : IsRooted s root refs t x.instanced
  pub number : slice_get t.texts x.instanced.root ≡ Some root
  pub survey : IsSurvey t tree x.survey
  pub named : IsNamed s t x.survey
  pub asking : IsAsking s root t x.questions
  pub meant : IsMeant (definitions s) worth root refs t x.meant
  pub splices : AreSplices (definitions s) root t x.splices
