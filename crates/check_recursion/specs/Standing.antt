-- What the nodes stand for, and the steps from node to node.
use Rattle.std.specs.Prelude.{◌≡◌, ℕ, List, Some, slice_get}
use Rattle.cddl_language.specs.Terms.{Text, Term, Ref, Group, Entries, Entry, Definition}
use Rattle.cddl_language.specs.Reach.{at_name, at_unwrapping, at_choice, at_chosen_name, at_opened_choice}
use Rattle.check_terms.specs.Table.{Table}
use Rattle.check_terms.specs.Trees.{IsTerm, IsGroup, IsEntries, IsEntry}
use Rattle.check_recursion.specs.declared.node.Node.{Node}
use Rattle.check_recursion.specs.declared.node.Node.TheVariants.{Row, Chosen, Name, Unwrapping, Choice, ChosenName, OpenedChoice}
use Rattle.check_recursion.specs.Asking.{Asked, a_type, a_group, some_entries, an_entry, chosen_group, chosen_entries, chosen_entry, a_point, IsReached, Asks}

-- rows are those of the table, places those of the instances
pub data Stands (t : Table) (refs : List Ref) : Node → Asked → Type 0 where
  type_row : {n : ℕ} {x : Term} → IsTerm t n x → Stands t refs (Row n) (a_type x)
  group_row : {n : ℕ} {g : Group} → IsGroup t n g → Stands t refs (Row n) (a_group g)
  entries_row : {n : ℕ} {es : Entries} → IsEntries t n es → Stands t refs (Row n) (some_entries es)
  entry_row : {n : ℕ} {e : Entry} → IsEntry t n e → Stands t refs (Row n) (an_entry e)
  chosen_group_row : {n : ℕ} {g : Group} → IsGroup t n g → Stands t refs (Chosen n) (chosen_group g)
  chosen_entries_row : {n : ℕ} {es : Entries} → IsEntries t n es → Stands t refs (Chosen n) (chosen_entries es)
  chosen_entry_row : {n : ℕ} {e : Entry} → IsEntry t n e → Stands t refs (Chosen n) (chosen_entry e)
  name_place : {k : ℕ} {r : Ref} → slice_get refs k ≡ Some r → Stands t refs (Name k) (a_point (at_name r))
  unwrapping_place : {k : ℕ} {r : Ref} → slice_get refs k ≡ Some r → Stands t refs (Unwrapping k) (a_point (at_unwrapping r))
  choice_place : {k : ℕ} {r : Ref} → slice_get refs k ≡ Some r → Stands t refs (Choice k) (a_point (at_choice r))
  chosen_name_place : {k : ℕ} {r : Ref} → slice_get refs k ≡ Some r → Stands t refs (ChosenName k) (a_point (at_chosen_name r))
  opened_choice_place : {k : ℕ} {r : Ref} → slice_get refs k ≡ Some r → Stands t refs (OpenedChoice k) (a_point (at_opened_choice r))

-- What the one node stands for asks what the other one stands for. All references in it are instances.
pub record IsStep (xs : List Definition) (root : Text) (refs : List Ref) (t : Table) (n m : Node) : Type 0 where
  pub asker : Asked
  pub asked : Asked
  pub from : Stands t refs n asker
  pub to : Stands t refs m asked
  pub reached : IsReached xs root asker
  pub asks : Asks xs asker asked
