use Rattle.check_reading.proofs.OfSurvey.Growing.{grown}
use Rattle.check_reading.proofs.survey.laws.survey_grows.Goals as goal

pub returns : goal.returns
returns c = λ old new tree v grows same table is. grown old new tree v grows same table is (λ ds xs h. c.growing_keeps.ensures.definitions old new grows ds xs h) (c.growing_keeps.ensures.tree old new grows)
