-- What callers see of a stream that comes in pieces.
use Rattle.std.specs.Prelude.{Option, refl}
use Rattle.std.specs.Coded.{Coded, code_by, coded×, coded_option}
use Rattle.cbor_data.specs.Value.{Value}
use Rattle.cbor_data.specs.Codes.{coded_value}
use Rattle.seq_run.specs.Progress.{Progress, coded_progress}

-- how far its session has come, and the item that the last piece completed, if it was fed for one
pub record Fed : Type 0 where
  pub progress : Progress
  pub item : Option Value

abbrev pub coded_fed : Coded Fed
coded_fed = code_by (Progress × Option Value) (coded× coded_progress (coded_option coded_value)) (λ f. (f.progress, f.item)) (λ p. record { progress = p.0; item = p.1 }) (λ _. refl)
