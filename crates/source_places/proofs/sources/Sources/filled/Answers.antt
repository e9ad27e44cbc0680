use Rattle.std.proofs.Common.{◌≡◌, ◌<◌, ℕ, refl, slice_get, sym, ap, subst, ◌∙◌}
use Rattle.lists.proofs.Lemmas.{same_some, within}
use Rattle.check_terms.specs.Definitions.{AreDefinitions}
use Rattle.check_terms.specs.Table.{Grows, Table}
use Rattle.cddl_language.specs.Reading.{definitions_in}
use Rattle.source_pieces.specs.Instances.{all_as_written}
use Rattle.source_pieces.specs.Origins.{ArePieces}
use Rattle.source_pieces.specs.Rules.{AreRules}
use Rattle.source_places.specs.States.{flattened}
use Rattle.source_places.proofs.sources.Sources.filled.Goals as goal

pub returns-clause-filled : goal.returns-clause-filled
returns-clause-filled c = λ t ms rs os made kept q n numbered named trees.
    let x = c.args.self.now in
    let copy = c.in_ok-terms.terms in
    let new = c.filled.new.terms in
    let copied : Grows x.terms copy = c.in_ok-terms.ensures in
    let to_new : Grows made.more new = subst (λ (u : Table). Grows u new) (sym kept.same_terms) (c.growing_keeps.ensures.further _ _ _ copied c.in_ok-pieces.ensures.grows) in
    let grows : Grows t new = c.growing_keeps.ensures.further _ _ _ made.grows to_new in
    let name : c.in-Some.name ≡ n = same_some (sym c.in-Some.is ∙ c.instance_name.ensures ∙ ap flattened numbered) in
    record {
      more = new;
      grows = grows;
      stays = c.growing_keeps.ensures.tree _ _ grows;
      distinct = c.equal_numbers.ensures.table.texts;
      one_term = λ m a b h k. (c.equal_numbers.ensures.term m m a b h k).0 refl;
      one_row = λ m l a h k. (c.equal_numbers.ensures.term m l a a h k).1 refl;
      names = λ m y e. subst (λ (k : ℕ). m < k) (sym c.text_count.ensures.value) (within _ m y e);
      origins = c.in_ok-copied.ensures ∙ c.deref-4.ensures.value ∙ made.origins;
      numbers = c.in_ok-copied-2.ensures ∙ c.deref-5.ensures.value ∙ made.numbers;
      rules = subst (AreRules new rs) (sym (c.in_ok-copied-3.ensures ∙ c.deref-6.ensures.value)) (c.growing_keeps_rules.ensures made.more new to_new rs x.text.rules.items made.rules);
      pieces =
          c.in_ok-pieces.ensures.filled x.terms rs q copied
          (subst (λ ds. AreDefinitions x.terms ds (definitions_in rs)) (sym c.deref.ensures.value) kept.definitions)
          (subst (AreRules x.terms rs) (sym c.deref-2.ensures.value) (subst (λ (u : Table). AreRules u rs x.text.rules.items) kept.same_terms made.rules))
          (subst (ArePieces all_as_written x.terms rs) (sym c.deref-3.ensures.value) (subst (λ (u : Table). ArePieces all_as_written u rs x.text.pieces.items) kept.same_terms made.pieces))
          (ap (slice_get x.terms.texts) name ∙ named)
          c.requires
          trees;
    }
