use Rattle.std.specs.Option.{option_map}
use Rattle.std.proofs.Common.{◌≡◌, true, ap}
use Rattle.cddl_meaning.specs.Forms.{is_below, is_up_to}
use Rattle.cddl_language.specs.Controls.{equal, different, less, at_most, greater, at_least}
use Rattle.cddl_language.specs.Literals.{item_of, literal_of, whole}
use Rattle.cddl_language.proofs.Compared.{differs_so, equals_so, passes_says, shows_left, shows_missed}
use Rattle.cddl_language.proofs.comparisons_say.Goals as goal

pub returns-clause-equal : goal.returns-clause-equal
returns-clause-equal c worth ds a b m p x e = passes_says worth ds a p x equal (option_map item_of (literal_of worth ds b)) (item_of m) _ (ap (option_map item_of) e) (equals_so x m)

pub returns-clause-different : goal.returns-clause-different
returns-clause-different c worth ds a b m p x e = passes_says worth ds a p x different (option_map item_of (literal_of worth ds b)) (item_of m) _ (ap (option_map item_of) e) (differs_so x m)

pub returns-clause-less : goal.returns-clause-less
returns-clause-less c worth ds a b v p x e = passes_says worth ds a p x less (whole (literal_of worth ds b)) v (is_below x v ≡ true) e (λ h. h, λ h. h)

pub returns-clause-at_most : goal.returns-clause-at_most
returns-clause-at_most c worth ds a b v p x e = passes_says worth ds a p x at_most (whole (literal_of worth ds b)) v (is_up_to x v ≡ true) e (λ h. h, λ h. h)

pub returns-clause-greater : goal.returns-clause-greater
returns-clause-greater c worth ds a b v p x e = passes_says worth ds a p x greater (whole (literal_of worth ds b)) v (is_below v x ≡ true) e (λ h. h, λ h. h)

pub returns-clause-at_least : goal.returns-clause-at_least
returns-clause-at_least c worth ds a b v p x e = passes_says worth ds a p x at_least (whole (literal_of worth ds b)) v (is_up_to v x ≡ true) e (λ h. h, λ h. h)

pub returns-clause-left : goal.returns-clause-left
returns-clause-left c worth ds a b n d v p x far e g h = shows_left worth ds a b n d v p x e g far h

pub returns-clause-missed : goal.returns-clause-missed
returns-clause-missed c worth ds a b n d v p x e g h k = shows_missed worth ds a b n d v p x e g h k
