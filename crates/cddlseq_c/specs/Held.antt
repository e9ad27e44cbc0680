-- What a handle holds, as callers see it.
use Rattle.std.specs.Prelude.{ℕ, refl}
use Rattle.std.specs.Coded.{Coded, code_by, coded×, coded_ℕ}
use Rattle.cbor_data.specs.Faults.{Bounds}
use Rattle.table_nodes.specs.declared.table.Table.{Table}
use Rattle.table_nodes.specs.contracts.table.Table.{the_row as table_row}

-- a table, and what an item may have
pub record Held : Type 0 where
  pub table : Table
  pub limits : Bounds
  pub steps : ℕ

abbrev coded_bounds : Coded Bounds
coded_bounds = code_by (ℕ × ℕ) (coded× coded_ℕ coded_ℕ) (λ l. (l.depth, l.item_bytes)) (λ p. record { depth = p.0; item_bytes = p.1 }) (λ _. refl)

abbrev pub coded_held : Coded Held
coded_held =
    code_by (Table × (Bounds × ℕ)) (coded× table_row.coded (coded× coded_bounds coded_ℕ)) (λ h. (h.table, (h.limits, h.steps)))
    (λ p. record { table = p.0; limits = p.1.0; steps = p.1.1 })
    (λ _. refl)
