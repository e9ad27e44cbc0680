use Rattle.std.proofs.Common.{List, slice_get, refl, sym, ap, ◌∙◌}
use Rattle.lists.proofs.Lemmas.{ok_then}
use Rattle.cddl_language.specs.Terms.{name_of}
use Rattle.check_terms.specs.declared.fill.slots.Slots.{Slots}
use Rattle.source_pieces.specs.Instances.{all_as_written}
use Rattle.source_pieces.proofs.FilledPieces.{definition_there, pieces_as, pieces_filled, texts_kept, trees_kept}
use Rattle.source_pieces.proofs.Reading.{rules_kept}
use Rattle.source_pieces.proofs.filling.filled.Goals as goal

pub returns-clause-filled : goal.returns-clause-filled
returns-clause-filled c =
    ok_then c.pieces.result _ _
    (λ v made t rs q g definitions rules pieces named some trees.
    let now = c.args.terms.now in
    pieces_filled rs q now c.pieces.new.terms c.args.pieces.now v.items
    (pieces_as all_as_written all_as_written t now rs c.args.pieces.now g (λ r u. refl) pieces)
    (made rs q
    (record {
      rules = rules_kept t now rs c.args.rules.now g rules;
      slots = λ i r y e f.
          let d = definition_there t c.args.definitions.now rs i r definitions e in
          record {
            numbers = d.0.parameters.items;
            places = c.in_ok-slots.ensures i y d.0 (ap (λ (ys : List Slots). slice_get ys i) (sym c.deref.ensures.value) ∙ f) d.1;
            texts = texts_kept t now g d.2.parameters;
          };
      name = g.texts c.args.name (name_of q) named;
      arguments = trees_kept t now g trees;
      some = some;
    })))
    c.pieces.ensures.filled
