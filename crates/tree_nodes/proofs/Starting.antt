-- What a node begins with.
use Rattle.std.proofs.Common.{◌≡◌, ℕ, List, [], ◌∷◌, ◌++◌, Option, None, sym, map, subst}
use Rattle.cddl_token.specs.declared.Token.{Token}
use Rattle.tree_nodes.specs.declared.tree.Types.{Types}
use Rattle.tree_nodes.specs.declared.tree.GenericArg.{GenericArg}
use Rattle.tree_nodes.specs.declared.tree.GenericParm.{GenericParm}
use Rattle.tree_nodes.specs.declared.tree.Parameter.{Parameter}
use Rattle.tree_nodes.specs.declared.tree.Leaf.{Leaf}
use Rattle.tree_nodes.specs.declared.tree.GrpEnt.TheViews.{out-Types, out-GenericArg}
use Rattle.cddl_token.specs.declared.Kind.TheVariants.{Cut, Arrow}
use Rattle.tree_nodes.specs.Syntax.Syntax as S
use Rattle.tree_nodes.specs.View.{view_types, view_type1, view_arg, view_parm, view_further, with_types, with_arguments, with_parameters, StartsAt}
use Rattle.tree_nodes.proofs.Lemmas.{view_out-Types, view_out-GenericArg}

pub starts_append : (xs ys : List S.Lexeme) (n : ℕ) → StartsAt xs n → StartsAt (xs ++ ys) n
starts_append [] ys n h = absurd h
starts_append (x ∷ xs) ys n h = h

with_types_start : (t : S.Types) (xs : List (Token × S.Type1)) (n : ℕ) → StartsAt (S.flat_types t) n → StartsAt (S.flat_types (with_types t xs)) n
with_types_start t [] n h = h
with_types_start t (x ∷ xs) n h = with_types_start (S.or t x.0 x.1) xs n (starts_append (S.flat_types t) _ n h)

with_arguments_start : (t : S.GenericArg) (xs : List (Token × S.Type1)) (n : ℕ) → StartsAt (S.flat_arg t) n → StartsAt (S.flat_arg (with_arguments t xs)) n
with_arguments_start t [] n h = h
with_arguments_start t (x ∷ xs) n h = with_arguments_start (S.arguments t x.0 x.1) xs n (starts_append (S.flat_arg t) _ n h)

with_parameters_start : (read : Leaf → Token) (t : S.GenericParm) (xs : List Parameter) (n : ℕ) → StartsAt (S.flat_parm t) n → StartsAt (S.flat_parm (with_parameters read t xs)) n
with_parameters_start read t [] n h = h
with_parameters_start read t (x ∷ xs) n h = with_parameters_start read (S.parameters t (read x.comma) (read x.name)) xs n (starts_append (S.flat_parm t) _ n h)

pub types_start : (read : Leaf → Token) (t : Types) (n : ℕ) → StartsAt (S.flat_type1 (view_type1 read (out-Types t).first)) n → StartsAt (S.flat_types (view_types read t)) n
types_start read t n h = subst (λ (x : S.Types). StartsAt (S.flat_types x) n) (sym (view_out-Types read t)) (with_types_start (S.only (view_type1 read (out-Types t).first)) (map (view_further read) (out-Types t).others.items) n h)

pub arg_start : (read : Leaf → Token) (t : GenericArg) (n : ℕ) → StartsAt (S.flat_type1 (view_type1 read (out-GenericArg t).first)) n → StartsAt (S.flat_arg (view_arg read t)) n
arg_start read t n h = subst (λ (x : S.GenericArg). StartsAt (S.flat_arg x) n) (sym (view_out-GenericArg read t)) (with_arguments_start (S.argument (view_type1 read (out-GenericArg t).first)) (map (view_further read) (out-GenericArg t).others.items) n h)

pub parm_start : (read : Leaf → Token) (p : GenericParm) (n : ℕ) → n ≡ (read p.first).start → StartsAt (S.flat_parm (view_parm read p)) n
parm_start read p n h = with_parameters_start read (S.parameter (read p.first)) p.others.items n h

pub operation_start : (x : S.Type2) (o : S.Operator) (y : S.Type2) (n : ℕ) → StartsAt (S.flat_type2 x) n → StartsAt (S.flat_type1 (S.operation x o y)) n
operation_start x o y n h = starts_append (S.flat_type2 x) (S.flat_operator o ∷ S.flat_type2 y) n h

pub type_key_start : (r : S.Type1) (u : Option Token) (a : Token) (n : ℕ) → StartsAt (S.flat_type1 r) n → StartsAt (S.flat_key (S.type_key r u a)) n
type_key_start r u a n h = starts_append (S.flat_type1 r) (S.optional Cut u ++ (Arrow, a) ∷ []) n h

pub keyed_start : (k : S.MemberKey) (t : S.Types) (n : ℕ) → StartsAt (S.flat_key k) n → StartsAt (S.flat_entry (S.keyed None k t)) n
keyed_start k t n h = starts_append (S.flat_key k) (S.flat_types t) n h
