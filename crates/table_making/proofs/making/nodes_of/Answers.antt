use Rattle.cddl_language.specs.Language.{reference}
use Rattle.cddl_language.specs.Terms.{call, no_terms}
use Rattle.std.proofs.Common.{refl}
use Rattle.table_making.specs.Numbers.{HasTypeNumber, keys_of}
use Rattle.table_making.specs.Origins.{of_instance}
use Rattle.table_making.specs.Search.{keys_in}
use Rattle.table_making.specs.declared.origin.TypeOrigin.TheVariants as T
use Rattle.table_making.proofs.Ending.{finished, none_named}
use Rattle.table_making.proofs.Searching.{number_stays, search_begun}
use Rattle.table_making.proofs.making.nodes_of.Goals as goal

pub returns : goal.returns
returns c = λ s basis e kind.
    let t = c.args.terms.now in
    let first = keys_of c.new-numbers.result in
    let second = keys_of c.number_type.new.self in
    let third = keys_of c.number_instances.new.numbers in
    let last = keys_in c.run.new.self in
    let name = reference (call s.root no_terms) in
    let top = c.in_ok-top.ensures in
    let instances = c.in_ok-number_instances.ensures in
    let ran = c.in_ok-run.ensures in
    let made = c.in_ok-nodes.ensures in
    let named_first = none_named s t first c.new-numbers.ensures.types c.new-numbers.ensures.groups in
    let named_second = top.named s t name (of_instance e kind) named_first in
    let named_third = instances.named s basis named_second in
    let begun = search_begun s t third c.new.result.items c.new-2.result.items c.new.ensures.items c.new-2.ensures.items named_third in
    let has_top : HasTypeNumber s t last name c.in_ok-top.top = record { origin = T.Instance c.args.root; there = ran.grows.types c.in_ok-top.top.number (T.Instance c.args.root) (instances.grows.types c.in_ok-top.top.number (T.Instance c.args.root) top.there); named = of_instance e kind } in
    finished s t (λ n a b h g. (c.equal_numbers.ensures.term n n a b h g).0 refl) (λ n a b h g. (c.equal_numbers.ensures.group n n a b h g).0 refl) (λ n a b h g. (c.equal_numbers.ensures.entries n n a b h g).0 refl) (λ n a b h g. (c.equal_numbers.ensures.entry n n a b h g).0 refl) c.in_ok-nodes.nodes c.run.new.self c.in_ok-top.top made.root made.types made.groups made.type_origins made.group_origins (ran.keeps s basis begun) ran.whole has_top (λ k r h. number_stays s t third last ran.grows r (instances.numbered s k r basis h))
