use Rattle.std.proofs.Common.{ap, sym, ◌∙◌}
use Rattle.cbor_data.specs.Preferred.{preferred}
use Rattle.cbor_data.proofs.Apart.{valid_apart}
use Rattle.cbor_data.proofs.Falls.{one_order}
use Rattle.cbor_data.proofs.Rises.{rising, in_order}
use Rattle.cbor_data.proofs.deterministic_rises.Goals as goal

pub returns : goal.returns
returns c = record {
  rises = λ x w h. rising x w (valid_apart x h);
  alone = λ x y d w h r. ap preferred (sym (in_order x r) ∙ one_order d w (valid_apart y h));
}
