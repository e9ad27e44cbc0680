use Rattle.cbor_data.specs.Deterministic.{ordered}
use Rattle.cbor_data.proofs.ByDeterministic.{deterministic_spelled}
use Rattle.cbor_data.proofs.SameSound.{sound_writable, same_sound, read_back_same, read_back_again}
use Rattle.cbor_data.proofs.deterministic_read_back.Goals as goal

pub returns : goal.returns
returns c = record {
  some = λ x s. (ordered x, deterministic_spelled x (sound_writable x s));
  sound = λ x y s h. same_sound x y (read_back_same x y s h) s;
  same = read_back_same;
  again = read_back_again;
}
