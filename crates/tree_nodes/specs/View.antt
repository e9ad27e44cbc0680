-- What a tree of the code stands for, where a function reads the token of each leaf.
use Rattle.std.specs.Prelude.{◌≡◌, ℕ, List, [], ◌∷◌, Option, Some, None, get_or}
use Rattle.cddl_token.specs.declared.Token.{Token}
use Rattle.tree_nodes.specs.declared.tree.GrpEnt.{GrpEnt}
use Rattle.tree_nodes.specs.declared.tree.MemberKey.{MemberKey}
use Rattle.tree_nodes.specs.declared.tree.Ref.{Ref}
use Rattle.tree_nodes.specs.declared.tree.Type1.{Type1}
use Rattle.tree_nodes.specs.declared.tree.Type2.{Type2}
use Rattle.tree_nodes.specs.declared.tree.Entry.{Entry}
use Rattle.tree_nodes.specs.declared.tree.Further.{Further}
use Rattle.tree_nodes.specs.declared.tree.GenericArg.{GenericArg}
use Rattle.tree_nodes.specs.declared.tree.Group.{Group}
use Rattle.tree_nodes.specs.declared.tree.GrpChoice.{GrpChoice}
use Rattle.tree_nodes.specs.declared.tree.Types.{Types}
use Rattle.tree_nodes.specs.declared.tree.Value.{Value}
use Rattle.tree_nodes.specs.declared.tree.Operator.{Operator}
use Rattle.tree_nodes.specs.declared.tree.Parameter.{Parameter}
use Rattle.tree_nodes.specs.declared.tree.GenericParm.{GenericParm}
use Rattle.tree_nodes.specs.declared.tree.RuleName.{RuleName}
use Rattle.tree_nodes.specs.declared.tree.AssignT.{AssignT}
use Rattle.tree_nodes.specs.declared.tree.AssignG.{AssignG}
use Rattle.tree_nodes.specs.declared.tree.Rule.{Rule}
use Rattle.tree_nodes.specs.declared.tree.Tree.{Tree}
use Rattle.tree_nodes.specs.declared.tree.Leaf.{Leaf}
use Rattle.tree_nodes.specs.declared.tree.Value.TheVariants as ValueV
use Rattle.tree_nodes.specs.declared.tree.Operator.TheVariants as OperatorV
use Rattle.tree_nodes.specs.declared.tree.RuleName.TheVariants as RuleNameV
use Rattle.tree_nodes.specs.declared.tree.AssignT.TheVariants as AssignTV
use Rattle.tree_nodes.specs.declared.tree.AssignG.TheVariants as AssignGV
use Rattle.tree_nodes.specs.declared.tree.Rule.TheVariants as RuleV
use Rattle.tree_nodes.specs.declared.tree.GrpEnt.TheFolds.{fold-GrpEnt, fold-MemberKey, fold-Ref, fold-Type1, fold-Type2, fold-Entry, fold-Further, fold-GenericArg, fold-Group, fold-GrpChoice, fold-Types}
use Rattle.tree_nodes.specs.declared.tree.GrpEnt.TheOpen.{GrpEnt-F, MemberKey-F, Ref-F, Type1-F, Type2-F, Entry-F, Further-F, GenericArg-F, Group-F, GrpChoice-F, Types-F}
use Rattle.tree_nodes.specs.Syntax.Syntax as S

-- The token of a leaf that may be missing.
abbrev pub leaf : (Leaf → Token) → Option Leaf → Option Token
leaf read None = None
leaf read (Some t) = Some (read t)

abbrev pub view_value : (Leaf → Token) → Value → S.Value
view_value read (ValueV.Number t) = S.number (read t)
view_value read (ValueV.Text t) = S.text (read t)
view_value read (ValueV.Bytes t) = S.bytes (read t)

abbrev pub view_operator : (Leaf → Token) → Operator → S.Operator
view_operator read (OperatorV.Range t) = S.range (read t)
view_operator read (OperatorV.RangeBelow t) = S.range_below (read t)
view_operator read (OperatorV.Control t) = S.control (read t)

-- A list with further parts at its end, each after its sign.
abbrev pub with_types : S.Types → List (Token × S.Type1) → S.Types
with_types t [] = t
with_types t (x ∷ xs) = with_types (S.or t x.0 x.1) xs

abbrev pub with_arguments : S.GenericArg → List (Token × S.Type1) → S.GenericArg
with_arguments a [] = a
with_arguments a (x ∷ xs) = with_arguments (S.arguments a x.0 x.1) xs

abbrev pub with_entries : S.GrpChoice → List (S.GrpEnt × Option Token) → S.GrpChoice
with_entries es [] = es
with_entries es (x ∷ xs) = with_entries (S.entries es x.0 x.1) xs

abbrev pub with_choices : S.Group → List (Token × S.GrpChoice) → S.Group
with_choices g [] = g
with_choices g (x ∷ xs) = with_choices (S.orelse g x.0 x.1) xs

-- One level of a node, whose parts are given by what they stand for.
abbrev pub Opened : (Type 0 → Type 0 → Type 0 → Type 0 → Type 0 → Type 0 → Type 0 → Type 0 → Type 0 → Type 0 → Type 0 → Type 0) → Type 0
Opened F = F S.GrpEnt S.MemberKey S.Ref S.Type1 S.Type2 (S.GrpEnt × Option Token) (Token × S.Type1) S.GenericArg S.Group (Token × S.GrpChoice) S.Types

-- What a node stands for, from what its parts stand for.

abbrev pub grpent_step : (Leaf → Token) → Opened GrpEnt-F → S.GrpEnt
grpent_step read (GrpEnt-F.Typed o t) = S.typed (leaf read o) t
grpent_step read (GrpEnt-F.Keyed o k t) = S.keyed (leaf read o) k.value t
grpent_step read (GrpEnt-F.Grouped o p g c) = S.grouped (leaf read o) (read p) g (read c)

abbrev pub key_step : (Leaf → Token) → Opened MemberKey-F → S.MemberKey
key_step read (MemberKey-F.TypeKey r u a) = S.type_key r (leaf read u) (read a)
key_step read (MemberKey-F.Bareword n c) = S.bareword (read n) (read c)
key_step read (MemberKey-F.ValueKey v c) = S.value_key (view_value read v) (read c)

abbrev pub ref_step : (Leaf → Token) → Opened Ref-F → S.Ref
ref_step read (Ref-F.Name t) = S.name (read t)
ref_step read (Ref-F.Applied o a c) = S.applied (read o) a.value (read c)

abbrev pub type1_step : (Leaf → Token) → Opened Type1-F → S.Type1
type1_step read (Type1-F.One x) = S.one x.value
type1_step read (Type1-F.Operation x o y) = S.operation x.value (view_operator read o) y.value

abbrev pub type2_step : (Leaf → Token) → Opened Type2-F → S.Type2
type2_step read (Type2-F.Literal v) = S.literal (view_value read v)
type2_step read (Type2-F.Typename r) = S.typename r
type2_step read (Type2-F.Parens o t c) = S.parens (read o) t.value (read c)
type2_step read (Type2-F.MapOf o g c) = S.map_of (read o) g (read c)
type2_step read (Type2-F.ArrayOf o g c) = S.array_of (read o) g (read c)
type2_step read (Type2-F.Unwrapped u r) = S.unwrapped (read u) r
type2_step read (Type2-F.ChoiceOf a o g c) = S.choice_of (read a) (read o) g (read c)
type2_step read (Type2-F.ChoiceOfName a r) = S.choice_of_name (read a) r
type2_step read (Type2-F.Tagged o t c) = S.tagged (read o) t.value (read c)
type2_step read (Type2-F.TaggedBy o h a p t c) = S.tagged_by (read o) h.value (read a) (read p) t.value (read c)
type2_step read (Type2-F.SimpleBy o h c) = S.simple_by (read o) h.value (read c)
type2_step read (Type2-F.Hash t) = S.hash (read t)

abbrev pub entry_step : (Leaf → Token) → Opened Entry-F → S.GrpEnt × Option Token
entry_step read e = (e.grpent, leaf read e.comma)

abbrev pub further_step : (Leaf → Token) → Opened Further-F → Token × S.Type1
further_step read x = (read x.sign, x.type1)

abbrev pub arg_step : (Leaf → Token) → Opened GenericArg-F → S.GenericArg
arg_step read a = with_arguments (S.argument a.first) a.others.items

abbrev pub group_step : (Leaf → Token) → Opened Group-F → S.Group
group_step read g = with_choices (S.sole (with_entries S.no_entries g.first.items)) g.others.items

abbrev pub choice_step : (Leaf → Token) → Opened GrpChoice-F → Token × S.GrpChoice
choice_step read c = (read c.slashes, with_entries S.no_entries c.entries.items)

abbrev pub types_step : (Leaf → Token) → Opened Types-F → S.Types
types_step read t = with_types (S.only t.first) t.others.items

-- What a node stands for.

unfoldable pub view_grpent : (Leaf → Token) → GrpEnt → S.GrpEnt
view_grpent read = fold-GrpEnt S.GrpEnt S.MemberKey S.Ref S.Type1 S.Type2 (S.GrpEnt × Option Token) (Token × S.Type1) S.GenericArg S.Group (Token × S.GrpChoice) S.Types (grpent_step read) (key_step read) (ref_step read) (type1_step read) (type2_step read) (entry_step read) (further_step read) (arg_step read) (group_step read) (choice_step read) (types_step read)

unfoldable pub view_key : (Leaf → Token) → MemberKey → S.MemberKey
view_key read = fold-MemberKey S.GrpEnt S.MemberKey S.Ref S.Type1 S.Type2 (S.GrpEnt × Option Token) (Token × S.Type1) S.GenericArg S.Group (Token × S.GrpChoice) S.Types (grpent_step read) (key_step read) (ref_step read) (type1_step read) (type2_step read) (entry_step read) (further_step read) (arg_step read) (group_step read) (choice_step read) (types_step read)

unfoldable pub view_ref : (Leaf → Token) → Ref → S.Ref
view_ref read = fold-Ref S.GrpEnt S.MemberKey S.Ref S.Type1 S.Type2 (S.GrpEnt × Option Token) (Token × S.Type1) S.GenericArg S.Group (Token × S.GrpChoice) S.Types (grpent_step read) (key_step read) (ref_step read) (type1_step read) (type2_step read) (entry_step read) (further_step read) (arg_step read) (group_step read) (choice_step read) (types_step read)

unfoldable pub view_type1 : (Leaf → Token) → Type1 → S.Type1
view_type1 read = fold-Type1 S.GrpEnt S.MemberKey S.Ref S.Type1 S.Type2 (S.GrpEnt × Option Token) (Token × S.Type1) S.GenericArg S.Group (Token × S.GrpChoice) S.Types (grpent_step read) (key_step read) (ref_step read) (type1_step read) (type2_step read) (entry_step read) (further_step read) (arg_step read) (group_step read) (choice_step read) (types_step read)

unfoldable pub view_type2 : (Leaf → Token) → Type2 → S.Type2
view_type2 read = fold-Type2 S.GrpEnt S.MemberKey S.Ref S.Type1 S.Type2 (S.GrpEnt × Option Token) (Token × S.Type1) S.GenericArg S.Group (Token × S.GrpChoice) S.Types (grpent_step read) (key_step read) (ref_step read) (type1_step read) (type2_step read) (entry_step read) (further_step read) (arg_step read) (group_step read) (choice_step read) (types_step read)

unfoldable pub view_entry : (Leaf → Token) → Entry → S.GrpEnt × Option Token
view_entry read = fold-Entry S.GrpEnt S.MemberKey S.Ref S.Type1 S.Type2 (S.GrpEnt × Option Token) (Token × S.Type1) S.GenericArg S.Group (Token × S.GrpChoice) S.Types (grpent_step read) (key_step read) (ref_step read) (type1_step read) (type2_step read) (entry_step read) (further_step read) (arg_step read) (group_step read) (choice_step read) (types_step read)

unfoldable pub view_further : (Leaf → Token) → Further → Token × S.Type1
view_further read = fold-Further S.GrpEnt S.MemberKey S.Ref S.Type1 S.Type2 (S.GrpEnt × Option Token) (Token × S.Type1) S.GenericArg S.Group (Token × S.GrpChoice) S.Types (grpent_step read) (key_step read) (ref_step read) (type1_step read) (type2_step read) (entry_step read) (further_step read) (arg_step read) (group_step read) (choice_step read) (types_step read)

unfoldable pub view_arg : (Leaf → Token) → GenericArg → S.GenericArg
view_arg read = fold-GenericArg S.GrpEnt S.MemberKey S.Ref S.Type1 S.Type2 (S.GrpEnt × Option Token) (Token × S.Type1) S.GenericArg S.Group (Token × S.GrpChoice) S.Types (grpent_step read) (key_step read) (ref_step read) (type1_step read) (type2_step read) (entry_step read) (further_step read) (arg_step read) (group_step read) (choice_step read) (types_step read)

unfoldable pub view_group : (Leaf → Token) → Group → S.Group
view_group read = fold-Group S.GrpEnt S.MemberKey S.Ref S.Type1 S.Type2 (S.GrpEnt × Option Token) (Token × S.Type1) S.GenericArg S.Group (Token × S.GrpChoice) S.Types (grpent_step read) (key_step read) (ref_step read) (type1_step read) (type2_step read) (entry_step read) (further_step read) (arg_step read) (group_step read) (choice_step read) (types_step read)

unfoldable pub view_choice : (Leaf → Token) → GrpChoice → Token × S.GrpChoice
view_choice read = fold-GrpChoice S.GrpEnt S.MemberKey S.Ref S.Type1 S.Type2 (S.GrpEnt × Option Token) (Token × S.Type1) S.GenericArg S.Group (Token × S.GrpChoice) S.Types (grpent_step read) (key_step read) (ref_step read) (type1_step read) (type2_step read) (entry_step read) (further_step read) (arg_step read) (group_step read) (choice_step read) (types_step read)

unfoldable pub view_types : (Leaf → Token) → Types → S.Types
view_types read = fold-Types S.GrpEnt S.MemberKey S.Ref S.Type1 S.Type2 (S.GrpEnt × Option Token) (Token × S.Type1) S.GenericArg S.Group (Token × S.GrpChoice) S.Types (grpent_step read) (key_step read) (ref_step read) (type1_step read) (type2_step read) (entry_step read) (further_step read) (arg_step read) (group_step read) (choice_step read) (types_step read)

abbrev pub with_parameters : (Leaf → Token) → S.GenericParm → List Parameter → S.GenericParm
with_parameters read p [] = p
with_parameters read p (x ∷ xs) = with_parameters read (S.parameters p (read x.comma) (read x.name)) xs

abbrev pub view_parm : (Leaf → Token) → GenericParm → S.GenericParm
view_parm read p = with_parameters read (S.parameter (read p.first)) p.others.items

abbrev pub view_name : (Leaf → Token) → RuleName → S.RuleName
view_name read (RuleNameV.Plain t) = S.plain (read t)
view_name read (RuleNameV.Generic o p c) = S.generic (read o) (view_parm read p) (read c)

abbrev pub view_assignt : (Leaf → Token) → AssignT → S.AssignT
view_assignt read (AssignTV.TypeIs t) = S.type_is (read t)
view_assignt read (AssignTV.TypeOr t) = S.type_or (read t)

abbrev pub view_assigng : (Leaf → Token) → AssignG → S.AssignG
view_assigng read (AssignGV.GroupIs t) = S.group_is (read t)
view_assigng read (AssignGV.GroupOr t) = S.group_or (read t)

abbrev pub view_rule : (Leaf → Token) → Rule → S.Rule
view_rule read (RuleV.TypeRule n a t) = S.type_rule (view_name read n) (view_assignt read a) (view_types read t)
view_rule read (RuleV.GroupRule n a e) = S.group_rule (view_name read n) (view_assigng read a) (view_grpent read e)

abbrev pub with_rules : (Leaf → Token) → S.Rules → List Rule → S.Rules
with_rules read rs [] = rs
with_rules read rs (r ∷ more) = with_rules read (S.rules rs (view_rule read r)) more

-- The token of a leaf, and the end where there is none.
abbrev pub token_of : Tree → Leaf → Token
token_of t l = get_or t.tokens.now l.index t.end.now

abbrev pub view : Tree → S.Cddl
view t = S.cddl (with_rules (token_of t) S.no_rules t.rules.items) t.end.now

-- The first of the tokens begins there.
abbrev pub StartsAt : List S.Lexeme → ℕ → Type 0
StartsAt [] at = ⊥
StartsAt (t ∷ ts) at = at ≡ t.1.start
