-- What is asked of at the sites of a text and of its entries.
use Rattle.std.specs.Prelude.{◌≡◌, ℕ, if◌then◌else◌, List, [], ◌∷◌, ◌++◌, flat_map, Option, Some, None, option_map}
use Rattle.cddl_token.specs.declared.Token.{Token}
use Rattle.tree_nodes.specs.Syntax.Syntax as S
use Rattle.tree_nodes.specs.declared.tree.Leaf.{Leaf}
use Rattle.tree_nodes.specs.View.{view_group, view_operator, view_ref, view_type2}
use Rattle.cddl_language.specs.Controls.{Comparison, Computation, Control, compared, computation_in, computed, control_of, is_ordering, join, Membership, of_size, of_bits, member, sum}
use Rattle.cddl_language.specs.Faults.{operand_at}
use Rattle.cddl_language.specs.MapFaults.{entry_at}
use Rattle.cddl_language.specs.Reading.{control_name, entry_of, group_of, operation, ref_of, term_of2}
use Rattle.cddl_language.specs.Sites.{Site, a_choice_of, a_choice_of_name, a_map, an_operation}
use Rattle.check_terms.specs.Table.{Holds, Table, Tree, nothing}
use Rattle.check_terms.specs.Trees.{entry_tree, group_tree, ref_tree, term_tree}
use Rattle.check_sites.specs.declared.sites.site.Found.{Found}
use Rattle.check_sites.specs.declared.entries.entry.Holder.{Holder}
use Rattle.check_sites.specs.declared.entries.entry.TextEntry.{TextEntry}
use Rattle.check_sites.specs.Entries.Entries.{AreEntries, view_node}
use Rattle.check_sites.specs.Sites.View.{view_site}
use Rattle.check_reading.specs.declared.parts.nodes.Node.{Node}
use Rattle.check_reading.specs.declared.parts.nodes.Node.TheVariants as NodeV
use Rattle.check_reading.specs.declared.parts.nodes.NodePart.{NodePart}
use Rattle.check_reading.specs.declared.parts.part.Part.{Part}
use Rattle.check_reading.specs.declared.parts.part.Question.{Question}
use Rattle.check_reading.specs.declared.parts.part.Question.TheVariants as QuestionV

-- A question of the row of a tree, and the offset of its fault; with the reference of the instance, or nothing before there is
-- one.
pub record Wanted : Type 0 where
  pub at : ℕ
  pub question : Question
  pub tree : Tree
  pub call : Tree

-- What is asked of at a site, with the rule's parameters in it.

abbrev pub operand_wanted : S.Type2 → Question → Wanted
operand_wanted x q = record { at = operand_at x; question = q; tree = term_tree (term_of2 x); call = nothing }

abbrev pub end_of : S.Type2 → Wanted
end_of x = operand_wanted x QuestionV.IsWhole

-- of what an item is compared with
abbrev pub comparand_question : Comparison → Question
comparand_question c = if is_ordering c then QuestionV.IsNumber else QuestionV.IsLiteral

-- of a controller with members
abbrev pub members_question : Membership → Question
members_question of_size = QuestionV.HasSizes
members_question of_bits = QuestionV.HasBits

-- of an operand of a computation
abbrev pub operand_question : Computation → Question
operand_question sum = QuestionV.IsAddend
operand_question (join j) = QuestionV.IsString

abbrev pub question_of_operand : Option Computation → Option Question
question_of_operand None = None
question_of_operand (Some c) = Some (operand_question c)

-- of what stands to the left of an operator
abbrev pub question_before : S.Operator → Option Question
question_before (S.range t) = Some QuestionV.IsWhole
question_before (S.range_below t) = Some QuestionV.IsWhole
question_before (S.control t) = question_of_operand (computation_in (control_of (control_name t)))

-- of a computation with its right side, reported at that side
abbrev pub computation_wanted : S.Type2 → S.Operator → S.Type2 → Wanted
computation_wanted x o y = record { at = operand_at y; question = QuestionV.Computes; tree = term_tree (operation (term_of2 x) o (term_of2 y)); call = nothing }

-- of what stands to the right of an operator, by the control that it is

abbrev pub controller_wanted : S.Type2 → S.Operator → S.Type2 → Option Control → Option Wanted
controller_wanted x o y (Some (compared c)) = Some (operand_wanted y (comparand_question c))
controller_wanted x o y (Some (member m)) = Some (operand_wanted y (members_question m))
controller_wanted x o y (Some (computed c)) = Some (computation_wanted x o y)
controller_wanted x o y _ = None

abbrev pub wanted_after : S.Type2 → S.Operator → S.Type2 → Option Wanted
wanted_after x (S.range t) y = Some (end_of y)
wanted_after x (S.range_below t) y = Some (end_of y)
wanted_after x (S.control t) y = controller_wanted x (S.control t) y (control_of (control_name t))

abbrev pub first_part : Site → Option Wanted
first_part (a_choice_of u g) = Some (record { at = u.start; question = QuestionV.ChoosesFrom; tree = group_tree (group_of g); call = nothing })
first_part (a_choice_of_name u f) = Some (record { at = u.start; question = QuestionV.ChoosesByName; tree = ref_tree (ref_of f); call = nothing })
first_part (an_operation x o y) = option_map (operand_wanted x) (question_before o)
first_part (a_map u g) = Some (record { at = u.start; question = QuestionV.MapGroup; tree = group_tree (group_of g); call = nothing })
first_part _ = None

abbrev pub last_part : Site → Option Wanted
last_part (an_operation x o y) = wanted_after x o y
last_part _ = None

-- the same of the code's parts

abbrev pub node_tree : (Leaf → Token) → Node → Tree
node_tree read (NodeV.Group g) = group_tree (group_of (view_group read g.now))
node_tree read (NodeV.Reference f) = ref_tree (ref_of (view_ref read f.now))
node_tree read (NodeV.Operand x) = term_tree (term_of2 (view_type2 read x.now))
node_tree read (NodeV.Operation x o y) = term_tree (operation (term_of2 (view_type2 read x.now)) (view_operator read o) (term_of2 (view_type2 read y.now)))
node_tree read (NodeV.Entry e) = entry_tree (entry_of (view_node read e))

abbrev pub wanted : (Leaf → Token) → NodePart → Wanted
wanted read p = record { at = p.at; question = p.question; tree = node_tree read p.node; call = nothing }

-- of an entry
abbrev pub entry_wanted : Holder → S.GrpEnt → Wanted
entry_wanted h e = record { at = entry_at e; question = QuestionV.Entry h; tree = entry_tree (entry_of e); call = nothing }

-- What is asked of in the rule at a place.

abbrev pub Placed : Type 0
Placed = ℕ × Wanted

abbrev pub some_placed : ℕ → Option Wanted → List Placed
some_placed k None = []
some_placed k (Some w) = (k, w) ∷ []

abbrev pub of_found : (Leaf → Token) → Found → List Placed
of_found read f = some_placed f.rule (first_part (view_site read f.site)) ++ some_placed f.rule (last_part (view_site read f.site))

abbrev pub of_entry : (Leaf → Token) → TextEntry → List Placed
of_entry read x = (x.rule, entry_wanted x.holder (view_node read x.node)) ∷ []

-- The parts by the rows of a table, one for one.

pub record IsPart (t : Table) (p : Part) (w : Placed) : Type 0 where
  pub rule : p.rule ≡ w.0
  pub at : p.at ≡ w.1.at
  pub question : p.question ≡ w.1.question
  pub holds : Holds t (Some p.row) w.1.tree

pub data AreParts (t : Table) : List Part → List Placed → Type 0 where
  no_parts : AreParts t [] []
  further_part : {p : Part} {w : Placed} {ps : List Part} {ws : List Placed} → IsPart t p w → AreParts t ps ws → AreParts t (p ∷ ps) (w ∷ ws)

-- the parts are of the entries of the maps at these sites, and of those of the rules
pub record AreEntryParts (t : Table) (rs : List S.Rule) (read : Leaf → Token) (fs : List Found) (ps : List Part) : Type 0 where
  pub entries : List TextEntry
  pub listed : AreEntries rs read fs entries
  pub parts : AreParts t ps (flat_map (of_entry read) entries)
