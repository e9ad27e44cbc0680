use Rattle.std.proofs.Common.{◌≡◌, ◌++◌, ◌∷◌, [], List, ℕ, map, ◌∙◌, refl, sym, ap, subst}
use Rattle.std.specs.Prelude.{codes, flat_map}
use Rattle.std.specs.Io.KnownBytes.{Appends}
use Rattle.std.proofs.lemmas.Fn.{FoldsTo-push}
use Rattle.std.proofs.lemmas.Iterator.Consumers.{YieldsList-at, YieldsList-end}
use Rattle.std.proofs.lemmas.Iterator.Splits.{YieldsList-from_lines}
use Rattle.std.proofs.lemmas.List.{flat_map_more, map-append}
use Rattle.call_lines.proofs.Exchanges.{appends_more, appends_none}
use Rattle.call_lines.proofs.lines.answer_all.Goals as goal

abbrev told : List ℕ × List ℕ → List ℕ
told exchange = exchange.1 ++ codes "\n"

pub loop-line-init : goal.loop-line-init
loop-line-init g c = ([], refl, refl, appends_none _)

pub loop-line-preserved : goal.loop-line-preserved
loop-line-preserved g c =
    let so_far = c.loop-line.invariant in
    let one = c.in_ok-write_answer.ensures in
    let line = c.in-Some.line in
    let exchange : List ℕ × List ℕ = (line.now, one.0) in (
      so_far.0 ++ exchange ∷ [],
      map-append (λ e. e.0) so_far.0 (exchange ∷ []) ∙ (ap (λ texts. texts ++ line.now ∷ []) so_far.1 ∙ sym (map-append (λ x. x.now) c.loop-line.yielded (line ∷ []))),
      FoldsTo-push _ _ so_far.0 _ exchange _ so_far.2 one.1,
      subst (Appends _ _) (flat_map_more told [] so_far.0 exchange) (appends_more _ _ _ _ _ so_far.3 one.2),
    )

pub returns : goal.returns
returns g c =
    let so_far = c.loop-line.invariant in
    let text = c.args.text.now in
    let split = YieldsList-at c.into_iter-line-iterator.ensures.into_iter_gives (YieldsList-from_lines text c.lines-line-items.ensures.rest) in
    let ended = YieldsList-end split c.loop-line.yielded _ c.loop-line.yielded_by _ _ c.in-None.is c.next.ensures.steps in
    (flat_map told so_far.0, record { exchanges = so_far.0; asked = so_far.1 ∙ ended.0; answered = so_far.2; written = refl }, so_far.3)
