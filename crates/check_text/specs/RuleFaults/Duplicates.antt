-- Names that are defined twice, and parameters that stand twice in one list.
use Rattle.std.specs.Prelude.{◌≡◌, ◌≢◌, ℕ, ◌<◌, nat_eq, Bool, true, false, not, if◌then◌else◌, ◌&&◌, List, Option, Some, None, slice_get}
use Rattle.std.specs.List.{list_any}
use Rattle.cddl_token.specs.declared.Token.{Token}
use Rattle.tree_nodes.specs.Syntax.Syntax as S
use Rattle.cddl_language.specs.Environment as E
use Rattle.cddl_language.specs.Faults as F
use Rattle.cddl_language.specs.Reading.{definition_of, name_at, name_in, parameter_tokens, rule_head, sign_of, text_of}
use Rattle.check_terms.specs.declared.definition.Body.{Body}
use Rattle.check_terms.specs.declared.definition.Body.TheVariants as BodyV
use Rattle.check_terms.specs.declared.definition.Definition.{Definition}
use Rattle.check_terms.specs.declared.definition.Sign.{Sign}
use Rattle.check_terms.specs.declared.definition.Sign.TheVariants as SignV
use Rattle.check_names.specs.declared.environment.environment.Name.{Name}
use Rattle.check_names.specs.Environment.Places.{is_equals}

-- the fault of one rule of these
pub data IsDuplicateAt (rs : List S.Rule) (r : S.Rule) (at : ℕ) : Type 0 where
  other_equals : {q : S.Rule} → E.is_equals (sign_of r) ≡ true → F.first_equals rs (name_in r) ≡ Some q → definition_of r ≢ definition_of q → at ≡ name_at r → IsDuplicateAt rs r at
  parameter_twice : {t u : Token} {j k : ℕ} → j < k → slice_get (parameter_tokens (rule_head r)) j ≡ Some t → slice_get (parameter_tokens (rule_head r)) k ≡ Some u → text_of t ≡ text_of u → at ≡ u.start → IsDuplicateAt rs r at

-- one of these numbers stands before, too, and this is its offset, of these
pub record IsRepeated (ns offsets : List ℕ) (at : ℕ) : Type 0 where
  pub earlier : ℕ
  pub later : ℕ
  pub number : ℕ
  pub before : earlier < later
  pub first : slice_get ns earlier ≡ Some number
  pub second : slice_get ns later ≡ Some number
  pub there : slice_get offsets later ≡ Some at

-- What the code finds.

abbrev pub same_sign : Sign → Sign → Bool
same_sign SignV.Is SignV.Is = true
same_sign SignV.TypeOr SignV.TypeOr = true
same_sign SignV.GroupOr SignV.GroupOr = true
same_sign _ _ = false

abbrev pub same_body : Body → Body → Bool
same_body (BodyV.Types n) (BodyV.Types m) = nat_eq n m
same_body (BodyV.Entry n) (BodyV.Entry m) = nat_eq n m
same_body _ _ = false

abbrev pub same_definition : Definition → Definition → Bool
same_definition d e = nat_eq d.name e.name && (same_sign d.sign e.sign && (same_body d.body e.body && E.is_same d.parameters.items e.parameters.items))

abbrev pub first_place : Option Name → Option ℕ
first_place None = None
first_place (Some n) = n.first_equals

abbrev pub differs_there : Definition → Option Definition → Bool
differs_there d None = false
differs_there d (Some e) = not (same_definition d e)

abbrev pub differs : List Definition → Definition → Option ℕ → Bool
differs ds d None = false
differs ds d (Some p) = differs_there d (slice_get ds p)

abbrev pub other_equals_by : List Definition → List Name → Definition → ℕ → Option ℕ
other_equals_by ds names d at = if is_equals d.sign && differs ds d (first_place (slice_get names d.name)) then Some at else None

abbrev pub is_among : ℕ → List ℕ → Bool
is_among k ns = list_any (λ n. nat_eq k n) ns

abbrev pub told_again : Bool → Option ℕ → Option ℕ
told_again new o = if new then None else o
