-- What is asked of at the sites that a root reaches, in each instance.
use Rattle.std.specs.Prelude.{◌≡◌, ℕ, true, List, [], ◌∷◌, ◌++◌, map, Contains, Option, Some, None, slice_get}
use Rattle.cddl_token.specs.declared.Token.{Token}
use Rattle.tree_nodes.specs.Syntax.Syntax as S
use Rattle.tree_nodes.specs.declared.tree.Leaf.{Leaf}
use Rattle.cddl_language.specs.Controls.{Comparison, Computation, Membership}
use Rattle.cddl_language.specs.Faults.{comparison_of, computation_of, membership_of, is_range_sign, operand_at}
use Rattle.cddl_language.specs.MapFaults.{closed_entry, entry_at}
use Rattle.cddl_language.specs.Reading.{group_of, name_in, operation, parameters_in, ref_of, term_of2}
use Rattle.cddl_language.specs.Sites.{IsInstance, IsReached, Site, a_choice_of, a_choice_of_name, a_map, an_operation}
use Rattle.cddl_language.specs.Substitution.{fill, fill_group, fill_ref}
use Rattle.cddl_language.specs.Terms.{Ref, Term, Text, arguments_of}
use Rattle.check_terms.specs.declared.definition.Definition.{Definition}
use Rattle.check_terms.specs.Definitions.{AreTexts}
use Rattle.check_terms.specs.Filled.{filled, term_trees}
use Rattle.check_terms.specs.Table.{Holds, Table, Tree}
use Rattle.check_terms.specs.Trees.{IsEntry, IsGroup, IsRef, IsTerm, entry_tree, group_tree, ref_tree, term_tree}
use Rattle.check_terms.specs.Fill.Templates.{AreTrees}
use Rattle.check_sites.specs.declared.sites.site.Found.{Found}
use Rattle.check_sites.specs.declared.entries.entry.Holder.{Holder}
use Rattle.check_sites.specs.declared.entries.entry.Holder.TheVariants as HolderV
use Rattle.check_sites.specs.declared.entries.entry.TextEntry.{TextEntry}
use Rattle.check_sites.specs.Entries.Entries.{group_inside, opened_inside, rule_inside, view_node}
use Rattle.check_sites.specs.Sites.View.{view_site}
use Rattle.check_reading.specs.Parts.{Placed, Wanted, comparand_question, entry_wanted, first_part, last_part, members_question, operand_question}
use Rattle.check_reading.specs.declared.parts.part.Question.{Question}
use Rattle.check_reading.specs.declared.parts.part.Question.TheVariants as QuestionV
use Rattle.check_reached.specs.Calls.{refs_named}
use Rattle.check_reached.specs.declared.asked.Asked.{Asked}

-- with the arguments of a reference in the place of these parameters
abbrev pub wanted_in : List Text → Wanted → Ref → Wanted
wanted_in ps w r = record { at = w.at; question = w.question; tree = filled ps (term_trees (arguments_of r)) w.tree; call = ref_tree r }

-- of each of these references
abbrev pub wanted_each : List Text → Wanted → List Ref → List Wanted
wanted_each ps w refs = map (wanted_in ps w) refs

abbrev pub wanted_some : List Text → Option Wanted → List Ref → List Wanted
wanted_some ps None refs = []
wanted_some ps (Some w) refs = wanted_each ps w refs

-- at a site of a rule, in the instances of its name among these

abbrev pub wanted_there : List Ref → Option S.Rule → Site → List Wanted
wanted_there refs None p = []
wanted_there refs (Some r) p = wanted_some (parameters_in r) (first_part p) (refs_named (name_in r) refs) ++ wanted_some (parameters_in r) (last_part p) (refs_named (name_in r) refs)

abbrev pub wanted_at : (Leaf → Token) → List S.Rule → List Ref → Found → List Wanted
wanted_at read rs refs f = wanted_there refs (slice_get rs f.rule) (view_site read f.site)

-- by each of these
abbrev pub wanted_by : {A : Type 0} → (A → List Wanted) → List A → List Wanted
wanted_by of [] = []
wanted_by of (x ∷ xs) = of x ++ wanted_by of xs

abbrev pub wanted_all : (Leaf → Token) → List S.Rule → List Ref → List Found → List Wanted
wanted_all read rs refs fs = wanted_by (wanted_at read rs refs) fs

-- of a part or of an entry in a rule, in the instances of its name among these

abbrev pub wanted_one : List Ref → Option S.Rule → Wanted → List Wanted
wanted_one refs None w = []
wanted_one refs (Some r) w = wanted_each (parameters_in r) w (refs_named (name_in r) refs)

abbrev pub wanted_placed : List S.Rule → List Ref → Placed → List Wanted
wanted_placed rs refs w = wanted_one refs (slice_get rs w.0) w.1

abbrev pub wanted_entry : (Leaf → Token) → List S.Rule → List Ref → TextEntry → List Wanted
wanted_entry read rs refs x = wanted_one refs (slice_get rs x.rule) (entry_wanted x.holder (view_node read x.node))

abbrev pub wanted_entries : (Leaf → Token) → List S.Rule → List Ref → List TextEntry → List Wanted
wanted_entries read rs refs xs = wanted_by (wanted_entry read rs refs) xs

-- What was asked, one for one.

pub record IsAnswer (t : Table) (a : Asked) (w : Wanted) : Type 0 where
  pub at : a.at ≡ w.at
  pub question : a.question ≡ w.question
  pub holds : Holds t (Some a.row) w.tree
  pub call : Holds t (Some a.call) w.call

pub data AreAnswers (t : Table) : List Asked → List Wanted → Type 0 where
  no_answers : AreAnswers t [] []
  further_answer : {a : Asked} {w : Wanted} {answers : List Asked} {ws : List Wanted} → IsAnswer t a w → AreAnswers t answers ws → AreAnswers t (a ∷ answers) (w ∷ ws)

-- The definition at a rule's place, and the rows of the instances of its name among these references.
pub record IsReady (t : Table) (refs : List Ref) (ls : List (List ℕ)) (d : Option Definition) (r : S.Rule) : Type 0 where
  pub definition : Definition
  pub calls : List ℕ
  pub there : d ≡ Some definition
  pub parameters : AreTexts t.texts definition.parameters.items (parameters_in r)
  pub listed : slice_get ls definition.name ≡ Some calls
  pub trees : AreTrees t calls (map ref_tree (refs_named (name_in r) refs))

pub record AreReady (t : Table) (rs : List S.Rule) (refs : List Ref) (ls : List (List ℕ)) (ds : List Definition) : Type 0 where
  pub some : (k : ℕ) (r : S.Rule) → slice_get rs k ≡ Some r → IsReady t refs ls (slice_get ds k) r
  pub none : (k : ℕ) → slice_get rs k ≡ None → slice_get ds k ≡ None

-- All that is asked of: each by a site that is reached, and each such site in each of its instances.
module _ (rs : List S.Rule) (root : Text) (t : Table) where
  pub data IsAsked (a : Asked) : Type 0 where
    choosing : {r : S.Rule} {xs : List Term} {u : Token} {g : S.Group} → IsReached rs root r xs (a_choice_of u g) → IsGroup t a.row (fill_group (parameters_in r) xs (group_of g)) → a.at ≡ u.start → a.question ≡ QuestionV.ChoosesFrom → IsAsked a
    choosing_by_name : {r : S.Rule} {xs : List Term} {u : Token} {f : S.Ref} → IsReached rs root r xs (a_choice_of_name u f) → IsRef t a.row (fill_ref (parameters_in r) xs (ref_of f)) → a.at ≡ u.start → a.question ≡ QuestionV.ChoosesByName → IsAsked a
    first_end : {r : S.Rule} {xs : List Term} {x y : S.Type2} {o : S.Operator} → IsReached rs root r xs (an_operation x o y) → is_range_sign o ≡ true → IsTerm t a.row (fill (parameters_in r) xs (term_of2 x)) → a.at ≡ operand_at x → a.question ≡ QuestionV.IsWhole → IsAsked a
    last_end : {r : S.Rule} {xs : List Term} {x y : S.Type2} {o : S.Operator} → IsReached rs root r xs (an_operation x o y) → is_range_sign o ≡ true → IsTerm t a.row (fill (parameters_in r) xs (term_of2 y)) → a.at ≡ operand_at y → a.question ≡ QuestionV.IsWhole → IsAsked a
    controller : {r : S.Rule} {xs : List Term} {x y : S.Type2} {o : S.Operator} {c : Comparison} → IsReached rs root r xs (an_operation x o y) → comparison_of o ≡ Some c → IsTerm t a.row (fill (parameters_in r) xs (term_of2 y)) → a.at ≡ operand_at y → a.question ≡ comparand_question c → IsAsked a
    members_controller : {r : S.Rule} {xs : List Term} {x y : S.Type2} {o : S.Operator} {m : Membership} → IsReached rs root r xs (an_operation x o y) → membership_of o ≡ Some m → IsTerm t a.row (fill (parameters_in r) xs (term_of2 y)) → a.at ≡ operand_at y → a.question ≡ members_question m → IsAsked a
    left_operand : {r : S.Rule} {xs : List Term} {x y : S.Type2} {o : S.Operator} {c : Computation} → IsReached rs root r xs (an_operation x o y) → computation_of o ≡ Some c → IsTerm t a.row (fill (parameters_in r) xs (term_of2 x)) → a.at ≡ operand_at x → a.question ≡ operand_question c → IsAsked a
    computation : {r : S.Rule} {xs : List Term} {x y : S.Type2} {o : S.Operator} {c : Computation} → IsReached rs root r xs (an_operation x o y) → computation_of o ≡ Some c → IsTerm t a.row (fill (parameters_in r) xs (operation (term_of2 x) o (term_of2 y))) → a.at ≡ operand_at y → a.question ≡ QuestionV.Computes → IsAsked a
    of_map : {r : S.Rule} {xs : List Term} {u : Token} {g : S.Group} → IsReached rs root r xs (a_map u g) → IsGroup t a.row (fill_group (parameters_in r) xs (group_of g)) → a.at ≡ u.start → a.question ≡ QuestionV.MapGroup → IsAsked a

  -- the question was asked of the row of this tree
  pub record WasAsked (answers : List Asked) (at : ℕ) (q : Question) (x : Tree) : Type 0 where
    pub asked : Asked
    pub contained : Contains answers asked
    pub same_at : asked.at ≡ at
    pub same_question : asked.question ≡ q
    pub holds : Holds t (Some asked.row) x

  pub record AreAsked (answers : List Asked) : Type 0 where
    pub sound : (a : Asked) → Contains answers a → IsAsked a
    pub groups : (r : S.Rule) (xs : List Term) (u : Token) (g : S.Group) → IsReached rs root r xs (a_choice_of u g) → WasAsked answers u.start QuestionV.ChoosesFrom (group_tree (fill_group (parameters_in r) xs (group_of g)))
    pub references : (r : S.Rule) (xs : List Term) (u : Token) (f : S.Ref) → IsReached rs root r xs (a_choice_of_name u f) → WasAsked answers u.start QuestionV.ChoosesByName (ref_tree (fill_ref (parameters_in r) xs (ref_of f)))
    pub first_ends : (r : S.Rule) (xs : List Term) (x y : S.Type2) (o : S.Operator) → IsReached rs root r xs (an_operation x o y) → is_range_sign o ≡ true → WasAsked answers (operand_at x) QuestionV.IsWhole (term_tree (fill (parameters_in r) xs (term_of2 x)))
    pub last_ends : (r : S.Rule) (xs : List Term) (x y : S.Type2) (o : S.Operator) → IsReached rs root r xs (an_operation x o y) → is_range_sign o ≡ true → WasAsked answers (operand_at y) QuestionV.IsWhole (term_tree (fill (parameters_in r) xs (term_of2 y)))
    pub controllers : (r : S.Rule) (xs : List Term) (x y : S.Type2) (o : S.Operator) (c : Comparison) → IsReached rs root r xs (an_operation x o y) → comparison_of o ≡ Some c → WasAsked answers (operand_at y) (comparand_question c) (term_tree (fill (parameters_in r) xs (term_of2 y)))
    pub members_controllers : (r : S.Rule) (xs : List Term) (x y : S.Type2) (o : S.Operator) (m : Membership) → IsReached rs root r xs (an_operation x o y) → membership_of o ≡ Some m → WasAsked answers (operand_at y) (members_question m) (term_tree (fill (parameters_in r) xs (term_of2 y)))
    pub left_operands : (r : S.Rule) (xs : List Term) (x y : S.Type2) (o : S.Operator) (c : Computation) → IsReached rs root r xs (an_operation x o y) → computation_of o ≡ Some c → WasAsked answers (operand_at x) (operand_question c) (term_tree (fill (parameters_in r) xs (term_of2 x)))
    pub computations : (r : S.Rule) (xs : List Term) (x y : S.Type2) (o : S.Operator) (c : Computation) → IsReached rs root r xs (an_operation x o y) → computation_of o ≡ Some c → WasAsked answers (operand_at y) QuestionV.Computes (term_tree (fill (parameters_in r) xs (operation (term_of2 x) o (term_of2 y))))
    pub maps : (r : S.Rule) (xs : List Term) (u : Token) (g : S.Group) → IsReached rs root r xs (a_map u g) → WasAsked answers u.start QuestionV.MapGroup (group_tree (fill_group (parameters_in r) xs (group_of g)))

-- Of entries: each in a map that is reached, and each in a rule's own group or in the one that `~` of its name unwraps, in each of
-- its instances.

abbrev pub held_inside : Holder → S.Rule → List S.GrpEnt
held_inside HolderV.Map r = []
held_inside HolderV.Rule r = rule_inside r
held_inside HolderV.Opened r = opened_inside r

module _ (rs : List S.Rule) (root : Text) (t : Table) where
  pub data IsEntryAsked (a : Asked) : Type 0 where
    of_map_entry : {r : S.Rule} {xs : List Term} {u : Token} {g : S.Group} {e : S.GrpEnt} → IsReached rs root r xs (a_map u g) → Contains (group_inside g) e → IsEntry t a.row (closed_entry r xs e) → a.at ≡ entry_at e → a.question ≡ QuestionV.Entry HolderV.Map → IsEntryAsked a
    of_rule_entry : {r : S.Rule} {i : Ref} {h : Holder} {e : S.GrpEnt} → IsInstance rs root r i → Contains (held_inside h r) e → IsRef t a.call i → IsEntry t a.row (closed_entry r (arguments_of i) e) → a.at ≡ entry_at e → a.question ≡ QuestionV.Entry h → IsEntryAsked a

  -- in the instance of this reference
  pub record WasAskedIn (answers : List Asked) (i : Ref) (at : ℕ) (q : Question) (x : Tree) : Type 0 where
    pub was : WasAsked rs root t answers at q x
    pub call : IsRef t was.asked.call i

  pub record AreEntriesAsked (answers : List Asked) : Type 0 where
    pub sound : (a : Asked) → Contains answers a → IsEntryAsked a
    pub maps : (r : S.Rule) (xs : List Term) (u : Token) (g : S.Group) (e : S.GrpEnt) → IsReached rs root r xs (a_map u g) → Contains (group_inside g) e → WasAsked rs root t answers (entry_at e) (QuestionV.Entry HolderV.Map) (entry_tree (closed_entry r xs e))
    pub rules : (r : S.Rule) (i : Ref) (h : Holder) (e : S.GrpEnt) → IsInstance rs root r i → Contains (held_inside h r) e → WasAskedIn answers i (entry_at e) (QuestionV.Entry h) (entry_tree (closed_entry r (arguments_of i) e))
