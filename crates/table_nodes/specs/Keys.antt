-- What the form of a type shows of the one value that it is.
use Rattle.std.specs.Prelude.{◌≡◌, ℕ, List, Option, Some, None, slice_get}
use Rattle.std.specs.Coded.{Coded-set, Π_prop, coded_option}
use Rattle.cbor_data.specs.Codes.{coded_value}
use Rattle.cbor_data.specs.Value.{Value}
use Rattle.cddl_meaning.specs.Forms.{key_in, most_forms}
use Rattle.item_nodes.specs.View.{view}
use Rattle.table_nodes.specs.Choices.{type_in}
use Rattle.table_nodes.specs.declared.keys.Shown.{Shown}
use Rattle.table_nodes.specs.declared.keys.Shown.TheVariants as S
use Rattle.table_nodes.specs.declared.nodes.Node.{Node}
use Rattle.table_nodes.specs.declared.nodes.TypeId.{TypeId}

-- the value; or, as a type is the same that is known, its value
abbrev pub shown_value : Shown → (TypeId → Option Value) → Option Value
shown_value (S.Value l) next = Some (view l.now)
shown_value (S.Same m) next = next m
shown_value S.Nothing next = None

-- The one value that each type is known to be is what the form of the type that is kept for it shows by itself.
abbrev pub AreLiterals : List Node → List TypeId → Type 0
AreLiterals types literals = (i : ℕ) (n : TypeId) → slice_get literals i ≡ Some n → key_in (type_in types) most_forms (record { number = i }) ≡ key_in (type_in types) 0 n

-- That has one proof at most, so a table may hold it.
pub are_literals_once : (types : List Node) (literals : List TypeId) → IsProp (AreLiterals types literals)
are_literals_once types literals = Π_prop (λ i. Π_prop (λ n. Π_prop (λ e. Coded-set (coded_option coded_value) _ _)))
