-- What says of an item whether it is accepted.
use Rattle.std.specs.Prelude.{ℕ, refl}
use Rattle.std.specs.Coded.{Coded, code_by, coded×, coded_ℕ}
use Rattle.table_nodes.specs.declared.table.Table.{Table}
use Rattle.table_nodes.specs.contracts.table.Table.{the_row as table_row}

-- a specification's table, and the most judgements that may be made of one item
pub record Judge : Type 0 where
  pub table : Table
  pub steps : ℕ

abbrev pub judge_of : Table → ℕ → Judge
judge_of table steps = record { table = table; steps = steps }

abbrev pub coded_judge : Coded Judge
coded_judge = code_by (Table × ℕ) (coded× table_row.coded coded_ℕ) (λ j. (j.table, j.steps)) (λ p. record { table = p.0; steps = p.1 }) (λ _. refl)
