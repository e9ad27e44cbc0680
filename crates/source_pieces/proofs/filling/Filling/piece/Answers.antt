use Rattle.std.proofs.Common.{Bor, option_map, refl, sym, ap, ◌∙◌}
use Rattle.check_terms.specs.declared.fill.slots.Slots.{Slots}
use Rattle.cddl_language.specs.Reading.{parameters_in}
use Rattle.cddl_language.specs.Substitution.{fill}
use Rattle.cddl_language.specs.Terms.{arguments_of}
use Rattle.source_pieces.specs.Instances.{term_in}
use Rattle.source_pieces.proofs.Closing.{key_as, may_as, name_kept}
use Rattle.source_pieces.proofs.FilledPieces.{filled_term, key_filled, other_piece, texts_kept, trees_kept}
use Rattle.source_pieces.proofs.Growing.{grown}
use Rattle.source_pieces.proofs.Reading.{may_kept}
use Rattle.source_pieces.specs.Pieces.{name_there}
use Rattle.source_pieces.proofs.filling.Filling.piece.Goals as goal

pub returns-then-rule-self-clause-filled : goal.returns-then-rule-self-clause-filled
returns-then-rule-self-clause-filled c = λ rs q h. other_piece c.args.terms.now rs c.args.self.now q c.is_table.ensures.texts h c.args.piece c.in-Some.rule c.args.terms.now (c.growing_keeps.ensures.same c.args.terms.now) (sym c.rule_at.ensures ∙ c.in-Some.is) c.if-rule-self.true

pub returns-clause-filled : goal.returns-clause-filled
returns-clause-filled c = λ rs q h.
    let old = c.args.terms.now in
    let mid = c.origin.new.terms in
    let new = c.origin-2.new.terms in
    let first = c.in_ok-origin.ensures.grows in
    let second = c.in_ok-key.ensures.grows in
    record {
      rule = refl;
      is = λ r p e is.
          let slots = h.slots c.args.piece.rule r c.in-Some-slots_at.slots.now e (sym c.slots_at.ensures ∙ ap (option_map (λ (y : Bor Slots). y.now)) c.in-Some-slots_at.is) in
          let f = fill (parameters_in r) (arguments_of q) in
          let term = filled_term old rs c.args.self.now q c.is_table.ensures.texts h c.args.piece.rule c.in-Some.rule r (sym c.rule_at.ensures ∙ c.in-Some.is) e c.if-rule-self.false in
          record {
            origin = may_as f (term_in q r) term mid new second p c.in_ok-origin.origin (c.in_ok-origin.ensures.origin slots.numbers (parameters_in r) (arguments_of q) slots.places slots.texts h.arguments p is.origin);
            key =
                key_as f (term_in q r) term new new (c.growing_keeps.ensures.same new) p c.in_ok-key.key
                (key_filled f old new c.args.piece.key c.in_ok-key.key
                (λ k g. c.in_ok-key.ensures.origin slots.numbers (parameters_in r) (arguments_of q) slots.places (texts_kept old mid first slots.texts) (trees_kept old mid first h.arguments) k (may_kept old mid k c.args.piece.key first g))
                c.in_ok-key.ensures.none p is.key);
            around = is.around;
            entry = is.entry;
            name = name_kept old new (name_there p) c.args.piece.name (grown old mid new first second) is.name;
            own = is.own;
            span = is.span;
          };
    }
