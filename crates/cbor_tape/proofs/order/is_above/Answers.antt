use Rattle.std.proofs.Common.{Option, ℕ, sym, subst, ◌∙◌}
use Rattle.cbor_tape.specs.Keys.{IsAbove}
use Rattle.cbor_tape.proofs.Marks.{first_above, higher_above}
use Rattle.cbor_tape.proofs.order.is_above.Goals as goal

pub returns-in-None : goal.returns-in-None
returns-in-None c = λ _ own k.
    subst (λ (o : Option ℕ). IsAbove c.args.bytes.now o c.args.at own) (sym c.in-None.is) (first_above c.args.bytes.now c.args.at own k)

pub returns-in-Less : goal.returns-in-Less
returns-in-Less c = λ _ own k.
    subst (λ (o : Option ℕ). IsAbove c.args.bytes.now o c.args.at own) (sym c.in-Some.is)
    (higher_above c.args.bytes.now c.in-Some.top c.args.at own k (λ top h. c.order.ensures top own h k (λ equal. cc) ∙ c.in-Less.is))
