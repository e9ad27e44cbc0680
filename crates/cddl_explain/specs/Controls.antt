-- What is wrong with what stands beside a control, by the control.
use Rattle.std.specs.Prelude.{ℕ, ◌||◌, Bool, List, ◌++◌, codes, Option, Some, None, if◌then◌else◌}
use Rattle.cddl_token.specs.declared.Token.{Token}
use Rattle.cddl_explain.specs.Meant.{is_control, is_word}
use Rattle.cddl_explain.specs.declared.controls.TheConstants as text
use Rattle.cddl_explain.specs.declared.predicates.TheConstants as general

-- it makes one string of two (RFC 9165 section 2.2)
abbrev pub joins : List ℕ → Bool
joins control = is_word control (codes ".cat") || is_word control (codes ".det")

-- it asks whether numbers are members of what stands on its right (RFC 8610 sections 3.8.1 and 3.8.2)
abbrev pub asks_members : List ℕ → Bool
asks_members control = is_word control (codes ".size") || is_word control (codes ".bits")

-- of what stands after this control and is no literal for it
abbrev pub not_literal : List ℕ → List ℕ
not_literal control =
    if is_word control (codes ".plus") then text.NO_SUMMAND.now
    else if joins control then text.NO_STRING.now
    else codes "begins no literal, as `" ++ (control ++ codes "` takes: a number, a text or a byte string")

-- of what this control cannot take
abbrev pub not_taken : List ℕ → List ℕ
not_taken control =
    if joins control then text.NO_TEXT.now
    else if asks_members control then codes "begins no choice of unsigned numbers and ranges of them, as `" ++ (control ++ codes "` takes")
    else codes "begins no whole number, as `" ++ (control ++ codes "` takes")

-- the control that a token is, if it is one
abbrev pub control_in : Option Token → Option (List ℕ)
control_in None = None
control_in (Some t) = if is_control t.kind then Some t.text.now else None

abbrev pub literal_by : Option (List ℕ) → List ℕ
literal_by None = general.NOT_LITERAL.now
literal_by (Some control) = not_literal control

-- of what is no literal, by the token before it: where that is no control, it stands on the left of one
abbrev pub literal_case : Option Token → List ℕ
literal_case before = literal_by (control_in before)

abbrev pub controller_by : Option (List ℕ) → List ℕ
controller_by None = general.BAD_CONTROLLER.now
controller_by (Some control) = not_taken control

-- of what a control cannot take, by the token before it
abbrev pub controller_case : Option Token → List ℕ
controller_case before = controller_by (control_in before)
