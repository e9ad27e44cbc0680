use Rattle.check_reached.proofs.Growing.{words_reached}
use Rattle.check_reached.proofs.laws.reached_words_grow.Goals as goal

pub returns : goal.returns
returns c old new grows rs root ws are = words_reached old new grows rs root ws are
