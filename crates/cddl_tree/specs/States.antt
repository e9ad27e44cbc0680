-- What a state of the parser stands for.
use Rattle.cddl_tree.specs.Frames.{made, below, view_parameters, view_now, Refused}
use Rattle.std.specs.Prelude.{◌≡◌, ℕ, ◌≤◌, List, [], ◌∷◌, ◌++◌, Option, Some, None, Result, Ok, Err, Box, Vec}
use Rattle.std.specs.declared.alloc.Global.{Global}
use Rattle.cddl_token.specs.declared.Token.{Token}
use Rattle.cddl_token.specs.declared.Kind.TheVariants.{End}
use Rattle.cddl_token.specs.declared.Refusal.{Refusal}
use Rattle.cddl_token.specs.declared.Refusal.TheVariants.{At, Memory}
use Rattle.cddl_token.specs.declared.Code.TheVariants.{Unexpected}
use Rattle.cddl_tree.specs.declared.frames.Stop.{Stop}
use Rattle.cddl_tree.specs.declared.frames.Stop.TheVariants as Stops
use Rattle.cddl_tree.specs.declared.state.State.{State}
use Rattle.cddl_tree.specs.declared.state.Progress.{Progress}
use Rattle.tree_nodes.specs.declared.tree.Rule.{Rule}
use Rattle.tree_nodes.specs.declared.tree.Leaf.{Leaf}
use Rattle.cddl_tree.specs.declared.frames.Current.{Current}
use Rattle.cddl_tree.specs.declared.state.State.TheVariants as St
use Rattle.tree_nodes.specs.Syntax.Machine as M
use Rattle.tree_nodes.specs.Syntax.Syntax as S
use Rattle.tree_nodes.specs.Syntax.Answers.{lexemes, nesting_limit, open_after, deepest, IsRefused}
use Rattle.tree_nodes.specs.View.{view_parm, view_name, with_rules}

abbrev pub view_rules : (Leaf → Token) → List Rule → S.Rules
view_rules read rs = with_rules read S.no_rules rs

abbrev pub view_state : (Leaf → Token) → State → Option M.State
view_state read St.Begin = Some M.begin
view_state read (St.WantParm rs o before) = Some (M.awaits_parm (view_rules read rs.items) (read o) (view_parameters read before))
view_state read (St.HaveParm rs o p) = Some (M.have_parm (view_rules read rs.items) (read o) (view_parm read p))
view_state read (St.WantAssign rs n) = Some (M.awaits_assign (view_rules read rs.items) (view_name read n))
view_state read (St.Body rs fs now) = view_now read (below read (view_rules read rs.items) fs.items) now.value
view_state read (St.Done rs end) = Some (M.done (S.cddl (view_rules read rs.items) (read end)))

abbrev pub GivesState : (Leaf → Token) → ℕ → Result (Box State Global) Stop → M.State → Type 0
GivesState read start (Ok s) m = view_state read s.value ≡ Some m
GivesState read start (Err e) m = Refused start e m

-- a body that is awaited at the position, or memory ran out
abbrev pub BeginsBody : (Leaf → Token) → Result (Box State Global) Stop → Option M.AtTypes → Type 0
BeginsBody read (Ok s) k = view_state read s.value ≡ made M.open_types k
BeginsBody read (Err e) k = e ≡ Stops.Memory

-- the source's end is the last token
abbrev pub EndsInEnd : List Token → Type 0
EndsInEnd ts = (front : List Token) × (e : Token) × (ts ≡ front ++ e ∷ []) × (e.kind ≡ End)

-- what the caller is told of it
abbrev pub refusal_of : Stop → Refusal
refusal_of (Stops.Unexpected n) = At Unexpected n
refusal_of Stops.Memory = Memory

-- the refusal is why the tokens are no specification, or memory ran out
abbrev pub Refuses : List Token → Refusal → Type 0
Refuses ts (At code at) = IsRefused ts code at
Refuses ts Memory = Unit {0}

-- The parser after the tokens, which nest within the limit.
pub record Stands (read : Leaf → Token) (p : Progress) (ts : List Token) : Type 0 where
  pub position : view_state read p.state.value ≡ Some (M.run M.begin (lexemes ts))
  pub count : p.count ≡ open_after 0 (lexemes ts)
  pub within : deepest 0 (lexemes ts) ≤ nesting_limit

-- it comes after the token, or all tokens that begin so are refused
abbrev pub Advances : (Leaf → Token) → List Token → Token → Result Progress Refusal → Type 0
Advances read ts t (Ok p) = Stands read p (ts ++ t ∷ [])
Advances read ts t (Err e) = (back : List Token) → Refuses (ts ++ t ∷ back) e

-- the rules, where the parser is after the end
abbrev pub rules_in : State → Option (Vec Rule Global)
rules_in (St.Done rs end) = Some rs
rules_in _ = None

-- what is reported for a token is what is read there
abbrev pub IsRead : (Leaf → Token) → Current → Type 0
IsRead read t = ((read t.leaf).kind ≡ t.kind) × ((read t.leaf).start ≡ t.start)
