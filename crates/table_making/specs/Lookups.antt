-- What is looked up, and what is made of it.
use Rattle.std.specs.Prelude.{ℕ, ltb, Bool, true, false, [], Option, Some, None, option_map}
use Rattle.cbor_data.specs.Value.{Value}
use Rattle.cddl_meaning.specs.Forms as F
use Rattle.cddl_literal.specs.Numbers.{Meaning}
use Rattle.cddl_language.specs.Controls.{Comparison, is_ordering, Control, left_alone, left_and_right, held_item, held_sequence, compared, Membership, member, computed}
use Rattle.cddl_language.specs.Language.{comparand, compared_test, membership_test}
use Rattle.cddl_language.specs.Literals.{item_of}
use Rattle.cddl_language.specs.Sizes.{Sizes}
use Rattle.check_terms.specs.declared.row.Row.{Row}
use Rattle.check_instances.specs.declared.openings.openings.Opening.{Opening}
use Rattle.check_instances.specs.declared.openings.openings.Opening.TheVariants as OpeningV
use Rattle.alternatives.specs.declared.summary.Summary.{Summary}
use Rattle.table_making.specs.declared.origin.GroupOrigin.{GroupOrigin}
use Rattle.table_making.specs.declared.origin.TypeOrigin.{TypeOrigin}
use Rattle.table_making.specs.declared.origin.TypeOrigin.TheVariants as T

abbrev pub flattened : Option (Option ℕ) → Option ℕ
flattened None = None
flattened (Some o) = o

abbrev pub is_flagged : Option Bool → Bool
is_flagged (Some true) = true
is_flagged _ = false

-- whether what is looked up stands for something
abbrev pub is_told : Option (Option Summary) → Bool
is_told (Some (Some s)) = true
is_told _ = false

abbrev pub opened_view : Opening → F.Node TypeOrigin GroupOrigin
opened_view (OpeningV.Type n) = F.Ref (T.Row n)
opened_view _ = F.Choice []

-- what is asked of an item that is compared with this literal, where there is one with which it can be compared so
abbrev pub test_by : Comparison → Option Meaning → Option F.Test
test_by c m = option_map (compared_test c) (comparand (is_ordering c) m)

abbrev pub such_view : ℕ → Option F.Test → F.Node TypeOrigin GroupOrigin
such_view left (Some t) = F.Such (T.Row left) t
such_view left None = F.Choice []

abbrev pub member_view : Membership → ℕ → Option Sizes → F.Node TypeOrigin GroupOrigin
member_view k left (Some rs) = F.Such (T.Row left) (membership_test k rs)
member_view k left None = F.Choice []

-- a literal and nothing else, where there is one
abbrev pub equal_view : Option Meaning → F.Node TypeOrigin GroupOrigin
equal_view (Some m) = F.Plain (F.equals (item_of m))
equal_view None = F.Choice []

-- What a control makes of the rows of its two types, of the literals that its controller and itself are, if they are some, and of
-- the members of its controller for each control that asks for some.
abbrev pub control_form_view : Option Control → (left right : ℕ) → (controller own : Option Meaning) → (Membership → Option Sizes) → F.Node TypeOrigin GroupOrigin
control_form_view (Some left_alone) left right m own rs = F.Ref (T.Row left)
control_form_view (Some left_and_right) left right m own rs = F.Both (T.Row left) (T.Row right)
control_form_view (Some held_item) left right m own rs = F.Holding (T.Row left) F.one_item (T.Row right)
control_form_view (Some held_sequence) left right m own rs = F.Holding (T.Row left) F.sequence_of_items (T.Row right)
control_form_view (Some (compared c)) left right m own rs = such_view left (test_by c m)
control_form_view (Some (member k)) left right m own rs = member_view k left (rs k)
control_form_view (Some (computed c)) left right m own rs = equal_view own
control_form_view None left right m own rs = F.Choice []

abbrev pub between_view : Bool → Option Value → Option Value → F.Node TypeOrigin GroupOrigin
between_view closed (Some a) (Some b) = F.Plain (F.between a b closed)
between_view closed _ _ = F.Choice []

abbrev pub text_in : Option Row → Option ℕ
text_in None = None
text_in (Some r) = r.text

-- the least number of times is over the greatest
abbrev pub is_over : ℕ → F.Most → Bool
is_over least (F.at_most n) = ltb n least
is_over least F.any_number_of = false
