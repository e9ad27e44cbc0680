-- With how many of the same entries the alternatives of maps begin.
use Rattle.std.specs.Prelude.{◌≡◌, ℕ, ◌-◌, ◌≤◌, List, Bool, Option, Some, None, length, take, slice_get, refl}
use Rattle.std.specs.Coded.{Coded, Coded-set, Π_prop, code_by, coded×, coded_bool, coded_list, coded_option, coded_ℕ, le_prop, ×_prop}
use Rattle.cddl_meaning.specs.Forms as F
use Rattle.cddl_meaning.specs.Forms.{Most, at_most, any_number_of}
use Rattle.table_nodes.specs.Choices.{type_in}
use Rattle.table_nodes.specs.declared.fronts.Front.{Front}
use Rattle.table_nodes.specs.declared.nodes.Node.{Node}
use Rattle.table_nodes.specs.declared.nodes.TypeId.{TypeId}

-- the same at first, so many
abbrev pub BeginAlike : {A : Type 0} → ℕ → (some others : List A) → Type 0
BeginAlike n some others = (n ≤ length others) × (take n some ≡ take n others)

-- The alternative of the map begins with so many entries as the one before does.
abbrev pub IsFront : List Node → Front → Type 0
IsFront types f = (ways : List (List (F.MapEntry TypeId))) (some others : List (F.MapEntry TypeId)) → type_in types f.of ≡ F.MapOf ways → slice_get ways (f.way - 1) ≡ Some some → slice_get ways f.way ≡ Some others → BeginAlike f.entries some others

abbrev pub AreFronts : List Node → List Front → Type 0
AreFronts types fronts = (i : ℕ) (f : Front) → slice_get fronts i ≡ Some f → IsFront types f

-- A code of entries.

abbrev most_code : Most → Option ℕ
most_code (at_most n) = Some n
most_code any_number_of = None

abbrev most_from : Option ℕ → Most
most_from (Some n) = at_most n
most_from None = any_number_of

pub most_back : (m : Most) → most_from (most_code m) ≡ m
most_back (at_most n) = refl
most_back any_number_of = refl

abbrev coded_most : Coded Most
coded_most = code_by (Option ℕ) (coded_option coded_ℕ) most_code most_from most_back

abbrev pub coded_entry : Coded (F.MapEntry TypeId)
coded_entry =
    code_by (ℕ × (Most × (ℕ × (Bool × ℕ)))) (coded× coded_ℕ (coded× coded_most (coded× coded_ℕ (coded× coded_bool coded_ℕ))))
    (λ e. (e.least, (e.most, (e.key_type.number, (e.cuts, e.value_type.number)))))
    (λ p. record { least = p.0; most = p.1.0; key_type = record { number = p.1.1.0 }; cuts = p.1.1.1.0; value_type = record { number = p.1.1.1.1 } })
    (λ _. refl)

-- That has one proof at most, so a table may hold it.
pub are_fronts_once : (types : List Node) (fronts : List Front) → IsProp (AreFronts types fronts)
are_fronts_once types fronts = Π_prop (λ i. Π_prop (λ f. Π_prop (λ e. Π_prop (λ ways. Π_prop (λ some. Π_prop (λ others. Π_prop (λ a. Π_prop (λ b. Π_prop (λ c. ×_prop le_prop (Coded-set (coded_list coded_entry) _ _))))))))))
