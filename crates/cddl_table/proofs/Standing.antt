-- The table stands for the specification.
use Rattle.std.proofs.Common.{◌≡◌, ℕ, Option, Some, Result, Ok, Err, IfOk, IfErr, Contains, map, slice_get, sym, subst}
use Rattle.lists.proofs.Lemmas.{from_contains, from_get, to_contains, to_get}
use Rattle.cddl_meaning.specs.Alike.{AreAlike}
use Rattle.cddl_meaning.specs.Forms.{Language}
use Rattle.cddl_meaning.specs.Ranks.Ranked.{AllMayBeEmpty, IsRanked}
use Rattle.cddl_language.specs.Language.{GroupName, TypeName, entry, language, reference}
use Rattle.cddl_language.specs.Terms.{Term, Ref, Group, Entries, alternatives, call, entry_list, no_terms}
use Rattle.cddl_language.specs.Free.{MayBeEmpty}
use Rattle.cddl_language.specs.Substitution.{group_choices}
use Rattle.cddl_language.specs.Kinds.{names_group, opens, part_of}
use Rattle.cddl_language.specs.Reach.{Reaches, points, group_points}
use Rattle.cddl_language.specs.StandsFor.{StandsFor}
use Rattle.check_terms.specs.Table.{Table, Tree, Holds}
use Rattle.check_instances.specs.declared.closed.closed.Closed.{Closed}
use Rattle.check_instances.specs.declared.closed.closed.Meaning.{Meaning}
use Rattle.check_instances.specs.Closed.Closed.{AreReached, IsClosed, IsMeaning}
use Rattle.check_recursion.specs.declared.graph.Ranks.{Ranks}
use Rattle.check_recursion.specs.Order.{AreRanked}
use Rattle.table_nodes.specs.declared.nodes.GroupId.{GroupId}
use Rattle.table_nodes.specs.declared.nodes.TypeId.{TypeId}
use Rattle.table_nodes.specs.declared.table.Table.{Table as Made}
use Rattle.table_nodes.specs.Language.{language_of, rank_of, ranks_of, root_of}
use Rattle.table_nodes.specs.Nodes.{language_in}
use Rattle.table_making.specs.Basis.{Sense}
use Rattle.table_making.specs.Nodes.{AreNodes}
use Rattle.table_making.specs.declared.making.Nodes.{Nodes}
use Rattle.cddl_table.proofs.Down.{Given}

-- What is known of the instances, by the laws of others.
pub record Laws (s : Sense) (t : Table) (c : Closed) : Type 0 where
  pub same_row : (n m : Option ℕ) (x : Tree) → Holds t n x → Holds t m x → n ≡ m
  pub meaning : (k : ℕ) (q : Ref) → slice_get s.refs k ≡ Some q → (m : Meaning) × (slice_get c.meanings.items k ≡ Some m) × IsMeaning s.definitions t q m
  pub group_reached : (q : Ref) (g : Group) → Reaches s.definitions s.root q → alternatives g ≡ group_choices s.definitions q → AreReached s.definitions s.root (group_points g)
  pub part_named : (x : Term) (q : Ref) → AreReached s.definitions s.root (points x) → part_of s.definitions x ≡ names_group q → Reaches s.definitions s.root q
  pub part_opened : (x : Term) (q : Ref) (g : Group) → AreReached s.definitions s.root (points x) → part_of s.definitions x ≡ opens q g → Reaches s.definitions s.root q
  pub empty : (es : Entries) → AllMayBeEmpty (language s.worth s.definitions) (map entry (entry_list es)) → MayBeEmpty s.definitions es

module _ (s : Sense) (t : Table) (c : Closed) (closed : IsClosed s.definitions s.root s.refs t c) where
  pub given : (r : Ranks) → AreRanked s.definitions s.root s.refs t r → Laws s t c → Given s t r
  given r ranked laws = record {
    ranked = ranked;
    same_row = λ n m x h k. same n m (laws.same_row (Some n) (Some m) x h k);
    instance = λ k q e. closed.instances.only q (to_contains s.refs q (from_get s.refs k q e));
    placed = placed;
    group_row = λ q h. let k = placed q h in let m = laws.meaning k.0 q k.1 in (m.0.group, m.2.group);
    group_reached = laws.group_reached;
    part_named = laws.part_named;
    part_opened = laws.part_opened;
    empty = laws.empty;
  }
    where
      same : (n m : ℕ) → Some n ≡ Some m → n ≡ m
      same n m e = cc

      placed : (q : Ref) → Reaches s.definitions s.root q → (k : ℕ) × (slice_get s.refs k ≡ Some q)
      placed q h = to_get s.refs q (from_contains s.refs q (closed.instances.all q h))

  pub stands : (v : Nodes) → AreNodes s t v → (table : Made) → language_of table ≡ language_in v.types.items v.groups.items → root_of table ≡ v.root → IsRanked (language_of table) (rank_of table) (ranks_of table) → StandsFor s.worth s.definitions s.root (language_of table) (root_of table) (rank_of table) (ranks_of table)
  stands v nodes table same_language same_root ranked = record {
    types = nodes.type_names;
    groups = nodes.group_names;
    alike = subst (λ (l : Language TypeId GroupId). AreAlike (language s.worth s.definitions) l (λ (n : TypeName) (m : TypeId). Contains nodes.type_names (n, m)) (λ (n : GroupName) (m : GroupId). Contains nodes.group_names (n, m))) (sym same_language) nodes.alike;
    root_node = subst (λ (m : TypeId). Contains nodes.type_names (reference (call s.root no_terms), m)) (sym same_root) nodes.root_node;
    instances = s.refs;
    are_instances = closed.instances;
    have_nodes = nodes.have_nodes;
    ranked = ranked;
  }
