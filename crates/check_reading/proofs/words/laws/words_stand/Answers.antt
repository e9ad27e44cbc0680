use Rattle.check_reading.proofs.OfWords.Standing.{every, found}
use Rattle.check_reading.proofs.words.laws.words_stand.Goals as goal

pub returns-clause-found : goal.returns-clause-found
returns-clause-found c t read fs ws are w there = found t read fs ws are w there

pub returns-clause-every : goal.returns-clause-every
returns-clause-every c t read fs ws are f x there e = every t read fs ws are f x there e
