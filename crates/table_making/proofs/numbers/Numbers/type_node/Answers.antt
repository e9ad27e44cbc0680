use Rattle.std.proofs.Common.{subst, sym}
use Rattle.cddl_meaning.specs.Forms as F
use Rattle.table_nodes.specs.Nodes.{alternatives_view, content_view, tag_number_view, test_view}
use Rattle.table_making.specs.Forms.{tag_form_view, type_form_view}
use Rattle.table_making.specs.Numbers.{MakesType, NumbersMap, NumbersTypes, keys_of}
use Rattle.table_making.proofs.Numbering.{made_array, made_both, made_choice, made_holding, made_map, made_plain, made_ref, made_simple, made_such_as, made_tag}
use Rattle.table_making.proofs.numbers.Numbers.type_node.Goals as goal

pub returns-in-Plain : goal.returns-in-Plain
returns-in-Plain c = subst (λ f. MakesType (keys_of c.args.self.now) (keys_of c.args.self.now) (type_form_view f) (F.Plain (test_view c.in-Plain.test))) (sym c.in-Plain.is) (made_plain (keys_of c.args.self.now) (test_view c.in-Plain.test))

pub returns-in_ok-number-in-Ref : goal.returns-in_ok-number-in-Ref
returns-in_ok-number-in-Ref c = subst (λ f. MakesType (keys_of c.args.self.now) (keys_of c.number_type.new.self) (type_form_view f) (F.Ref c.in_ok-number-in-Ref.number)) (sym c.in-Ref.is) (made_ref (keys_of c.args.self.now) (keys_of c.number_type.new.self) c.in-Ref.origin c.in_ok-number-in-Ref.number c.in_ok-number-in-Ref.ensures)

pub returns-in_ok-numbers-in-Choice : goal.returns-in_ok-numbers-in-Choice
returns-in_ok-numbers-in-Choice c = subst (λ f. MakesType (keys_of c.args.self.now) (keys_of c.number_types.new.self) (type_form_view f) (F.Choice c.in_ok-numbers-in-Choice.numbers.items)) (sym c.in-Choice.is) (made_choice (keys_of c.args.self.now) (keys_of c.number_types.new.self) c.in-Choice.origins.items c.in_ok-numbers-in-Choice.numbers.items (subst (λ os. NumbersTypes (keys_of c.args.self.now) (keys_of c.number_types.new.self) os c.in_ok-numbers-in-Choice.numbers.items) c.deref.ensures.value c.in_ok-numbers-in-Choice.ensures))

pub returns-in_ok-number-in-ArrayOf : goal.returns-in_ok-number-in-ArrayOf
returns-in_ok-number-in-ArrayOf c = subst (λ f. MakesType (keys_of c.args.self.now) (keys_of c.number_group.new.self) (type_form_view f) (F.ArrayOf c.in_ok-number-in-ArrayOf.number)) (sym c.in-ArrayOf.is) (made_array (keys_of c.args.self.now) (keys_of c.number_group.new.self) c.in-ArrayOf.origin c.in_ok-number-in-ArrayOf.number c.in_ok-number-in-ArrayOf.ensures)

pub returns-in_ok-content-in-TagOf : goal.returns-in_ok-content-in-TagOf
returns-in_ok-content-in-TagOf c = subst (λ f. MakesType (keys_of c.args.self.now) (keys_of c.number_type-in-TagOf.new.self) (type_form_view f) (F.TagOf (tag_number_view c.in_ok-tag-in-TagOf.tag) c.in_ok-content-in-TagOf.content)) (sym c.in-TagOf.is) (made_tag (keys_of c.args.self.now) (keys_of c.tag_number.new.self) (keys_of c.number_type-in-TagOf.new.self) (tag_form_view c.in-TagOf.form) (tag_number_view c.in_ok-tag-in-TagOf.tag) c.in-TagOf.origin c.in_ok-content-in-TagOf.content c.in_ok-tag-in-TagOf.ensures c.in_ok-content-in-TagOf.ensures)

pub returns-in_ok-number-in-SimpleBy : goal.returns-in_ok-number-in-SimpleBy
returns-in_ok-number-in-SimpleBy c = subst (λ f. MakesType (keys_of c.args.self.now) (keys_of c.number_type-in-SimpleBy.new.self) (type_form_view f) (F.SimpleBy c.in_ok-number-in-SimpleBy.number)) (sym c.in-SimpleBy.is) (made_simple (keys_of c.args.self.now) (keys_of c.number_type-in-SimpleBy.new.self) c.in-SimpleBy.origin c.in_ok-number-in-SimpleBy.number c.in_ok-number-in-SimpleBy.ensures)

pub returns-in_ok-alternatives-in-MapOf : goal.returns-in_ok-alternatives-in-MapOf
returns-in_ok-alternatives-in-MapOf c = subst (λ f. MakesType (keys_of c.args.self.now) (keys_of c.number_map.new.self) (type_form_view f) (F.MapOf (alternatives_view c.in_ok-alternatives-in-MapOf.alternatives.items))) (sym c.in-MapOf.is) (made_map (keys_of c.args.self.now) (keys_of c.number_map.new.self) c.in-MapOf.forms.items c.in_ok-alternatives-in-MapOf.alternatives.items (subst (λ fss. NumbersMap (keys_of c.args.self.now) (keys_of c.number_map.new.self) fss c.in_ok-alternatives-in-MapOf.alternatives.items) c.deref-in-MapOf.ensures.value c.in_ok-alternatives-in-MapOf.ensures))

pub returns-in_ok-right-in-Both : goal.returns-in_ok-right-in-Both
returns-in_ok-right-in-Both c = subst (λ f. MakesType (keys_of c.args.self.now) (keys_of c.number_type-in-Both-2.new.self) (type_form_view f) (F.Both c.in_ok-left-in-Both.left c.in_ok-right-in-Both.right)) (sym c.in-Both.is) (made_both (keys_of c.args.self.now) (keys_of c.number_type-in-Both.new.self) (keys_of c.number_type-in-Both-2.new.self) c.in-Both.left c.in-Both.right c.in_ok-left-in-Both.left c.in_ok-right-in-Both.right c.in_ok-left-in-Both.ensures c.in_ok-right-in-Both.ensures)

pub returns-in_ok-number-in-Such : goal.returns-in_ok-number-in-Such
returns-in_ok-number-in-Such c = subst (λ f. MakesType (keys_of c.args.self.now) (keys_of c.number_type-in-Such.new.self) (type_form_view f) (F.Such c.in_ok-number-in-Such.number (test_view c.in-Such.test))) (sym c.in-Such.is) (made_such_as (keys_of c.args.self.now) (keys_of c.number_type-in-Such.new.self) (test_view c.in-Such.test) c.in-Such.origin c.in_ok-number-in-Such.number c.in_ok-number-in-Such.ensures)

pub returns-in_ok-right-in-Holding : goal.returns-in_ok-right-in-Holding
returns-in_ok-right-in-Holding c = subst (λ f. MakesType (keys_of c.args.self.now) (keys_of c.number_type-in-Holding-2.new.self) (type_form_view f) (F.Holding c.in_ok-left-in-Holding.left (content_view c.in-Holding.content) c.in_ok-right-in-Holding.right)) (sym c.in-Holding.is) (made_holding (keys_of c.args.self.now) (keys_of c.number_type-in-Holding.new.self) (keys_of c.number_type-in-Holding-2.new.self) (content_view c.in-Holding.content) c.in-Holding.left c.in-Holding.right c.in_ok-left-in-Holding.left c.in_ok-right-in-Holding.right c.in_ok-left-in-Holding.ensures c.in_ok-right-in-Holding.ensures)
