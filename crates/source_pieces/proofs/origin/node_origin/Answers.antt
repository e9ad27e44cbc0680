use Rattle.std.proofs.Common.{◌≡◌, ap, sym, subst, ◌∙◌, None, Some}
use Rattle.tree_nodes.specs.Syntax.Syntax as S
use Rattle.tree_nodes.specs.View.{token_of, view_key, view_type1, view_type2, view_types, view_value}
use Rattle.table_making.specs.declared.origin.TypeOrigin.TheVariants as T
use Rattle.source_pieces.specs.Origins.{MayBeOf, in_its_place, is_of, may_be_group, no_type, of_type, of_value, of_word}
use Rattle.source_pieces.specs.Pieces.{Piece, a_key, a_member, a_type, a_value, a_word, an_entry, key_piece, operand}
use Rattle.source_pieces.specs.Walk.{view_around, view_inner, view_node}
use Rattle.source_pieces.proofs.origin.node_origin.Goals as goal

pub returns-in_ok-read_types-in-Choice-clause-origin : goal.returns-in_ok-read_types-in-Choice-clause-origin
returns-in_ok-read_types-in-Choice-clause-origin c =
    let read = token_of c.args.tree.now in
    let e : view_node read c.args.node ≡ a_type (view_types read c.in-Choice.types.now) = simp c.in-Choice.is in
    subst (λ (p : Piece). MayBeOf c.read_types.new.terms p (Some (T.Row c.in_ok-read_types-in-Choice.field-0))) (sym e) (is_of (of_type c.in_ok-read_types-in-Choice.ensures.term))

pub returns-in_ok-read_type1-in-Operation-clause-origin : goal.returns-in_ok-read_type1-in-Operation-clause-origin
returns-in_ok-read_type1-in-Operation-clause-origin c =
    let read = token_of c.args.tree.now in
    let e : view_node read c.args.node ≡ a_type (S.only (view_type1 read c.in-Operation.type1.now)) = simp c.in-Operation.is in
    subst (λ (p : Piece). MayBeOf c.read_type1.new.terms p (Some (T.Row c.in_ok-read_type1-in-Operation.field-0))) (sym e) (is_of (of_type c.in_ok-read_type1-in-Operation.ensures.term))

pub returns-in_ok-read_operand-in-Operand-clause-origin : goal.returns-in_ok-read_operand-in-Operand-clause-origin
returns-in_ok-read_operand-in-Operand-clause-origin c =
    let read = token_of c.args.tree.now in
    let e : view_node read c.args.node ≡ operand (view_type2 read c.in-Operand.type2.now) = simp c.in-Operand.is in
    subst (λ (p : Piece). MayBeOf c.read_operand.new.terms p (Some (T.Row c.in_ok-read_operand-in-Operand.field-0))) (sym e) (is_of (of_type c.in_ok-read_operand-in-Operand.ensures.term))

pub returns-in_ok-read_literal-in-Literal-clause-origin : goal.returns-in_ok-read_literal-in-Literal-clause-origin
returns-in_ok-read_literal-in-Literal-clause-origin c =
    let read = token_of c.args.tree.now in
    let e : view_node read c.args.node ≡ operand (S.literal (view_value read c.in-Literal.value)) = simp c.in-Literal.is in
    subst (λ (p : Piece). MayBeOf c.read_literal.new.terms p (Some (T.Row c.in_ok-read_literal-in-Literal.field-0))) (sym e) (is_of (of_type c.in_ok-read_literal-in-Literal.ensures.literal))

pub returns-in_ok-add_text-in-Word-clause-origin : goal.returns-in_ok-add_text-in-Word-clause-origin
returns-in_ok-add_text-in-Word-clause-origin c =
    let read = token_of c.args.tree.now in
    let e : view_node read c.args.node ≡ a_word (read c.in-Word.leaf) = simp c.in-Word.is in
    subst (λ (p : Piece). MayBeOf c.add_text.new.self p (Some (T.Word c.in_ok-add_text-in-Word.field-0))) (sym e) (is_of (of_word (c.in_ok-add_text-in-Word.ensures.there ∙ ap Some c.text_at.ensures)))

pub returns-in_ok-read_types-in-Value-clause-origin : goal.returns-in_ok-read_types-in-Value-clause-origin
returns-in_ok-read_types-in-Value-clause-origin c =
    let read = token_of c.args.tree.now in
    let e : view_node read c.args.node ≡ a_value (view_around read c.in-Value.field-0) (key_piece (view_key read c.in-Value.field-1.now)) (view_types read c.in-Value.types.now) = simp c.in-Value.is in
    subst (λ (p : Piece). MayBeOf c.read_types-in-Value.new.terms p (Some (T.Row c.in_ok-read_types-in-Value.field-0))) (sym e) (is_of (of_value c.in_ok-read_types-in-Value.ensures.term))

pub returns-in-Entry-clause-origin : goal.returns-in-Entry-clause-origin
returns-in-Entry-clause-origin c =
    let read = token_of c.args.tree.now in
    let n = c.in-Entry.field-0 in
    let e : view_node read c.args.node ≡ an_entry (view_around read n.around) n.alternative n.place (view_inner read n.inner) = simp c.in-Entry.is in
    subst (λ (p : Piece). MayBeOf c.args.terms.now p None) (sym e) no_type

pub returns-in-Key-clause-origin : goal.returns-in-Key-clause-origin
returns-in-Key-clause-origin c =
    let read = token_of c.args.tree.now in
    let e : view_node read c.args.node ≡ a_key (view_around read c.in-Key.field-0) (key_piece (view_key read c.in-Key.field-1.now)) = simp c.in-Key.is in
    subst (λ (p : Piece). MayBeOf c.args.terms.now p None) (sym e) in_its_place

pub returns-in-Member-clause-origin : goal.returns-in-Member-clause-origin
returns-in-Member-clause-origin c =
    let read = token_of c.args.tree.now in
    let e : view_node read c.args.node ≡ a_member (view_around read c.in-Member.field-0) (view_types read c.in-Member.field-1.now) = simp c.in-Member.is in
    subst (λ (p : Piece). MayBeOf c.args.terms.now p None) (sym e) may_be_group
