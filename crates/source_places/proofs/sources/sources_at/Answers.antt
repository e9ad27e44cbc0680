use Rattle.std.proofs.Common.{ℕ, ◌<◌, refl, subst, sym}
use Rattle.lists.proofs.Lemmas.{within}
use Rattle.check_terms.specs.Table.{Grows}
use Rattle.source_places.proofs.sources.sources_at.Goals as goal

pub returns : goal.returns
returns c =
    let further = c.growing_keeps.ensures.further in
    let later = further _ _ _ c.in_ok-rules.ensures.grows c.in_ok-pieces.ensures.grows in
    let grows : Grows c.args.terms.now c.pieces_at.new.terms = further _ _ _ c.in_ok-all.ensures (further _ _ _ c.in_ok-definitions.ensures.grows later) in
    record {
      made = record {
        more = c.pieces_at.new.terms;
        grows = grows;
        stays = c.growing_keeps.ensures.tree _ _ grows;
        distinct = c.equal_numbers.ensures.table.texts;
        one_term = λ n a b h k. (c.equal_numbers.ensures.term n n a b h k).0 refl;
        one_row = λ n m a h k. (c.equal_numbers.ensures.term n m a a h k).1 refl;
        names = λ n y e. subst (λ (m : ℕ). n < m) (sym c.text_count.ensures.value) (within _ n y e);
        origins = refl;
        numbers = c.in_ok-numbers.ensures;
        rules = c.growing_keeps_rules.ensures _ _ c.in_ok-pieces.ensures.grows _ _ c.in_ok-rules.ensures.rules;
        pieces = c.in_ok-pieces.ensures.pieces;
      };
      kept = record { same_terms = refl; unfilled = refl; definitions = c.growing_keeps.ensures.definitions _ _ later _ _ c.in_ok-definitions.ensures.definitions; calls = c.in_ok-calls.ensures };
    }
