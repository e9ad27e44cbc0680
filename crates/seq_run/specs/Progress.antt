-- What a caller sees of a session.
use Rattle.std.specs.Prelude.{ℕ, List, Option, refl}
use Rattle.std.specs.Coded.{Coded, code_by, coded×, coded_ℕ, coded_list, coded_option}
use Rattle.cbor_data.specs.Value.{Value}
use Rattle.cbor_data.specs.Codes.{coded_value}
use Rattle.cbor_data.specs.Faults.{Bounds}
use Rattle.cbor_data.specs.Sequence.{Found}
use Rattle.seq_run.specs.Judge.{Judge, coded_judge}
use Rattle.seq_run.specs.declared.end.Stopped.{Stopped}
use Rattle.seq_run.specs.contracts.end.Stopped.{the_row as stopped_row}

-- the specification with the steps, the limits, the bytes fed, the items taken with their offsets, and why nothing more is
-- taken, if so
pub record Progress : Type 0 where
  pub judge : Judge
  pub limits : Bounds
  pub fed : List ℕ
  pub taken : List Found
  pub stopped : Option Stopped

abbrev coded_bounds : Coded Bounds
coded_bounds = code_by (ℕ × ℕ) (coded× coded_ℕ coded_ℕ) (λ l. (l.depth, l.item_bytes)) (λ p. record { depth = p.0; item_bytes = p.1 }) (λ _. refl)

abbrev coded_found : Coded Found
coded_found = code_by (ℕ × Value) (coded× coded_ℕ coded_value) (λ f. (f.offset, f.item)) (λ p. record { offset = p.0; item = p.1 }) (λ _. refl)

abbrev coded_stopped : Coded Stopped
coded_stopped = stopped_row.coded

abbrev pub coded_progress : Coded Progress
coded_progress =
    code_by (Judge × (Bounds × (List ℕ × (List Found × Option Stopped))))
    (coded× coded_judge (coded× coded_bounds (coded× (coded_list coded_ℕ) (coded× (coded_list coded_found) (coded_option coded_stopped)))))
    (λ p. (p.judge, (p.limits, (p.fed, (p.taken, p.stopped)))))
    (λ p. record { judge = p.0; limits = p.1.0; fed = p.1.1.0; taken = p.1.1.1.0; stopped = p.1.1.1.1 })
    (λ _. refl)
