use Rattle.std.proofs.Common.{◌≡◌, ◌-◌, List, length, option_map, Some, None, slice_get, refl, sym, ap, subst, ◌∙◌}
use Rattle.std.specs.Borrow.{Bor}
use Rattle.tree_nodes.specs.declared.tree.Further.{Further}
use Rattle.tree_nodes.specs.declared.tree.Types.{Types}
use Rattle.tree_nodes.specs.View.{view_types}
use Rattle.tree_nodes.proofs.Lemmas.{views}
use Rattle.source_pieces.proofs.Ending.{none_last}
use Rattle.source_pieces.proofs.Nodes.{all_bare, inner_is, no_inner, one_bare, one_whole}
use Rattle.source_pieces.proofs.bare.+bare.Goals as goal

pub bare_types-returns-in-Some : goal.bare_types-returns-in-Some
bare_types-returns-in-Some t c = λ read.
    all_bare read c.args.types.now c.in-Some.field-0.now
    (subst (λ (xs : List Further). slice_get xs (length xs - 1) ≡ Some c.in-Some.field-0.now) c.deref.ensures.value (sym c.last.ensures.value ∙ ap (option_map (λ (x : Bor Further). x.now)) c.in-Some.is))

pub bare_types-returns-in-Some-type1_inside : goal.bare_types-returns-in-Some-type1_inside
bare_types-returns-in-Some-type1_inside t c = λ read.
    let alone = none_last _ (subst (λ (xs : List Further). slice_get xs (length xs - 1) ≡ None) c.deref.ensures.value (sym c.last.ensures.value ∙ ap (option_map (λ (x : Bor Further). x.now)) c.in-None.is)) in
    inner_is (λ (x : Bor Types). view_types read x.now) _ c.type1_inside.result c.in-Some-type1_inside.inner c.in-Some-type1_inside.is
    ∙ c.type1_inside.ensures read
    ∙ one_bare read c.args.types.now alone

pub bare_types-returns-in-None-type1_inside : goal.bare_types-returns-in-None-type1_inside
bare_types-returns-in-None-type1_inside t c = λ read.
    let alone = none_last _ (subst (λ (xs : List Further). slice_get xs (length xs - 1) ≡ None) c.deref.ensures.value (sym c.last.ensures.value ∙ ap (option_map (λ (x : Bor Further). x.now)) c.in-None.is)) in
    one_whole read c.args.types.now alone
    ∙ no_inner (λ (x : Bor Types). view_types read x.now) _ c.type1_inside.result c.in-None-type1_inside.is
    ∙ c.type1_inside.ensures read
    ∙ one_bare read c.args.types.now alone

pub type1_inside-returns-in-One : goal.type1_inside-returns-in-One
type1_inside-returns-in-One t c = λ read. simp (c.in-One.is, views) (rw c.deref.ensures at c.type2_inside.ensures read)

pub type1_inside-returns-in-Operation : goal.type1_inside-returns-in-Operation
type1_inside-returns-in-Operation t c = λ read. simp (c.in-Operation.is, views) refl

pub type2_inside-returns-in-Parens : goal.type2_inside-returns-in-Parens
type2_inside-returns-in-Parens t c = λ read. simp (c.in-Parens.is, views) (rw c.deref.ensures at c.bare_types.ensures read)

pub type2_inside-returns-in-Literal : goal.type2_inside-returns-in-Literal
type2_inside-returns-in-Literal t c = λ read. simp (c.in-Literal.is, views) refl

pub type2_inside-returns-in-Typename : goal.type2_inside-returns-in-Typename
type2_inside-returns-in-Typename t c = λ read. simp (c.in-Typename.is, views) refl

pub type2_inside-returns-in-MapOf : goal.type2_inside-returns-in-MapOf
type2_inside-returns-in-MapOf t c = λ read. simp (c.in-MapOf.is, views) refl

pub type2_inside-returns-in-ArrayOf : goal.type2_inside-returns-in-ArrayOf
type2_inside-returns-in-ArrayOf t c = λ read. simp (c.in-ArrayOf.is, views) refl

pub type2_inside-returns-in-Unwrapped : goal.type2_inside-returns-in-Unwrapped
type2_inside-returns-in-Unwrapped t c = λ read. simp (c.in-Unwrapped.is, views) refl

pub type2_inside-returns-in-ChoiceOf : goal.type2_inside-returns-in-ChoiceOf
type2_inside-returns-in-ChoiceOf t c = λ read. simp (c.in-ChoiceOf.is, views) refl

pub type2_inside-returns-in-ChoiceOfName : goal.type2_inside-returns-in-ChoiceOfName
type2_inside-returns-in-ChoiceOfName t c = λ read. simp (c.in-ChoiceOfName.is, views) refl

pub type2_inside-returns-in-Tagged : goal.type2_inside-returns-in-Tagged
type2_inside-returns-in-Tagged t c = λ read. simp (c.in-Tagged.is, views) refl

pub type2_inside-returns-in-TaggedBy : goal.type2_inside-returns-in-TaggedBy
type2_inside-returns-in-TaggedBy t c = λ read. simp (c.in-TaggedBy.is, views) refl

pub type2_inside-returns-in-SimpleBy : goal.type2_inside-returns-in-SimpleBy
type2_inside-returns-in-SimpleBy t c = λ read. simp (c.in-SimpleBy.is, views) refl

pub type2_inside-returns-in-Hash : goal.type2_inside-returns-in-Hash
type2_inside-returns-in-Hash t c = λ read. simp (c.in-Hash.is, views) refl
