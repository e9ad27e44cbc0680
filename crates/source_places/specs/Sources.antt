-- What is known of a specification's rules and of its types in the text, by the numbers of its terms and of its table.
use Rattle.std.specs.Prelude.{◌≡◌, ◌<◌, ℕ, false, List, Option, Some, map, slice_get}
use Rattle.tree_nodes.specs.Syntax.Syntax as S
use Rattle.cddl_language.specs.Reading.{definitions_in, rules_of}
use Rattle.cddl_language.specs.Terms.{Ref, Term, Text}
use Rattle.check_terms.specs.Definitions.{AreDefinitions}
use Rattle.check_terms.specs.Table.{AreDistinct, Grows, Holds, Table, Tree}
use Rattle.check_terms.specs.Trees.{IsRef, IsTerm}
use Rattle.check_instances.specs.declared.closed.closed.Meaning.{Meaning}
use Rattle.table_making.specs.Basis.{Sense}
use Rattle.table_making.specs.Nodes.{AreNodes}
use Rattle.table_making.specs.declared.making.Nodes.{Nodes}
use Rattle.table_making.specs.declared.origin.TypeOrigin.{TypeOrigin}
use Rattle.table_nodes.specs.Nodes.{language_in}
use Rattle.table_nodes.specs.Language.{language_of, root_of}
use Rattle.table_nodes.specs.declared.table.Table.{Table as Made}
use Rattle.source_pieces.specs.Instances.{all_as_written}
use Rattle.source_pieces.specs.Origins.{ArePieces}
use Rattle.source_pieces.specs.Rules.{AreRules}
use Rattle.source_places.specs.States.{name_number}
use Rattle.source_places.specs.declared.sources.Sources.{Sources}
use Rattle.source_places.specs.declared.sources.TypesInText.{TypesInText}

-- What is made by the table of terms t, the meanings of instances, the rules of the text, and the origins of a table's types, with
-- what the terms of each rule are in an instance. The table u has all that t has by the same numbers, and what stands in the text has
-- its numbers there.
pub record IsMade (closed : S.Rule → Term → Term) (t : Table) (ms : List Meaning) (rs : List S.Rule) (os : List TypeOrigin) (x : TypesInText) : Type 0 where
  pub more : Table
  pub grows : Grows t more
  pub stays : (n : Option ℕ) (y : Tree) → Holds t n y → Holds more n y
  pub distinct : AreDistinct more.texts
  pub one_term : (n : ℕ) (a b : Term) → IsTerm more n a → IsTerm more n b → a ≡ b
  pub one_row : (n m : ℕ) (a : Term) → IsTerm more n a → IsTerm more m a → n ≡ m
  pub names : (n : ℕ) (y : Text) → slice_get more.texts n ≡ Some y → n < x.names
  pub origins : x.origins.items ≡ os
  pub numbers : x.numbers.items ≡ map (name_number t.rows) ms
  pub rules : AreRules more rs x.rules.items
  pub pieces : ArePieces closed more rs x.pieces.items

-- the row of an instance's reference
abbrev pub call_of : Meaning → ℕ
call_of m = m.call

-- What is kept to tell what the types are in an instance: the terms are those of this table, and the definitions and the references
-- of the instances stand in it.
pub record IsKept (more : Table) (ms : List Meaning) (rs : List S.Rule) (x : Sources) : Type 0 where
  pub same_terms : more ≡ x.terms
  pub unfilled : x.text.filled ≡ false
  pub definitions : AreDefinitions x.terms x.definitions.items (definitions_in rs)
  pub calls : x.calls.items ≡ map call_of ms

-- what is made of the types as they are written, and what is kept
pub record IsTold (t : Table) (ms : List Meaning) (rs : List S.Rule) (os : List TypeOrigin) (x : Sources) : Type 0 where
  pub made : IsMade all_as_written t ms rs os x.text
  pub kept : IsKept made.more ms rs x

-- The numbers are of the types of a table that was made of nodes, which are of what the origins say.
pub record AreTypesOf (closed : S.Rule → Term → Term) (s : Sense) (terms : Table) (nodes : Nodes) (x : TypesInText) : Type 0 where
  pub meanings : List Meaning
  pub are_nodes : AreNodes s terms nodes
  pub are_meanings : (k : ℕ) (q : Ref) → slice_get s.refs k ≡ Some q → (m : Meaning) × (slice_get meanings k ≡ Some m) × IsRef terms m.call q
  pub made : IsMade closed terms meanings (rules_of s.tree) nodes.type_origins.items x

-- The places are of the types of this table, made of nodes that are of what the origins say.
pub record AreSources (s : Sense) (table : Made) (x : Sources) : Type 0 where
  pub terms : Table
  pub nodes : Nodes
  pub types : AreTypesOf all_as_written s terms nodes x.text
  pub kept : IsKept types.made.more types.meanings (rules_of s.tree) x
  pub same_language : language_of table ≡ language_in nodes.types.items nodes.groups.items
  pub same_root : root_of table ≡ nodes.root
