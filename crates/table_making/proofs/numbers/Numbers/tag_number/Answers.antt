use Rattle.std.proofs.Common.{subst, sym}
use Rattle.cddl_meaning.specs.Forms as F
use Rattle.table_making.specs.Forms.{tag_form_view}
use Rattle.table_making.specs.Numbers.{MakesNumber, keys_of}
use Rattle.table_making.proofs.Numbering.{made_any, made_exactly, made_such}
use Rattle.table_making.proofs.numbers.Numbers.tag_number.Goals as goal

pub returns-in-Any : goal.returns-in-Any
returns-in-Any c = subst (λ f. MakesNumber (keys_of c.args.self.now) (keys_of c.args.self.now) (tag_form_view f) F.any_number) (sym c.in-Any.is) (made_any (keys_of c.args.self.now))

pub returns-in-Exactly : goal.returns-in-Exactly
returns-in-Exactly c = subst (λ f. MakesNumber (keys_of c.args.self.now) (keys_of c.args.self.now) (tag_form_view f) (F.exactly c.in-Exactly.number)) (sym c.in-Exactly.is) (made_exactly (keys_of c.args.self.now) c.in-Exactly.number)

pub returns-in_ok-head-in-SuchAs : goal.returns-in_ok-head-in-SuchAs
returns-in_ok-head-in-SuchAs c = subst (λ f. MakesNumber (keys_of c.args.self.now) (keys_of c.number_type.new.self) (tag_form_view f) (F.such_as c.in_ok-head-in-SuchAs.head)) (sym c.in-SuchAs.is) (made_such (keys_of c.args.self.now) (keys_of c.number_type.new.self) c.in-SuchAs.origin c.in_ok-head-in-SuchAs.head c.in_ok-head-in-SuchAs.ensures)
