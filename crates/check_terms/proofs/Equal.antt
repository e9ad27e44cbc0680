-- What `==` says of texts and of rows.
use Rattle.std.proofs.Common.{◌≡◌, ℕ, List, Option, None, Some, true, nat_eq, refl, sym, ap, subst, Bor}
use Rattle.std.specs.Option.{option_eq}
use Rattle.std.specs.Cmp.Lexicographic as texts
use Rattle.std.specs.Cmp.Lexicographic.{pointwise}
use Rattle.std.proofs.lemmas.Bool.{eqb-true}
use Rattle.std.proofs.lemmas.Cmp.{nat_list_eq_equiv}
use Rattle.std.specs.contracts.prelude.RefStrPartialEq.TheImpl as text_eq
use Rattle.lists.proofs.Lemmas.{both}
use Rattle.check_terms.specs.contracts.row.RowPartialEq.TheImpl as row_eq
use Rattle.check_terms.specs.contracts.row.RowEq.TheImpl.Laws.{laws-law}
use Rattle.check_terms.specs.contracts.row.Form.{the_type}
use Rattle.check_terms.specs.declared.row.Form.{Form}
use Rattle.check_terms.specs.declared.row.Row.{Row}
use denote.Enum.Bare.{sameb, same_true}

pub row_itself : (x : Row) → (row_eq.ghosts).eq x x ≡ true
row_itself x = laws-law.refl x

same_number : (o p : Option ℕ) → option_eq nat_eq o p ≡ true → o ≡ p
same_number None None e = refl
same_number None (Some m) e = cc
same_number (Some n) None e = cc
same_number (Some n) (Some m) e = ap Some (eqb-true n m e)

same_form : (f g : Form) → sameb the_type f g ≡ true → f ≡ g
same_form f g e = same_true the_type tt f g e

pub same_row : (x y : Row) → (row_eq.ghosts).eq x y ≡ true → x ≡ y
same_row x y h =
    let form = both _ _ h in
    let text = both _ _ form.1 in
    let parts = both _ _ text.1 in
    λ i. record {
      form = same_form x.form y.form form.0 i;
      text = same_number x.text y.text text.0 i;
      first = same_number x.first y.first parts.0 i;
      second = same_number x.second y.second parts.1 i;
    }

pub same_text : (x y : Bor (List ℕ)) → (text_eq.ghosts).eq x y ≡ true → x.now ≡ y.now
same_text x y h = texts.same_text x.now y.now (sym h)

pub alike_texts : (x y : Bor (List ℕ)) → x.now ≡ y.now → (text_eq.ghosts).eq x y ≡ true
alike_texts x y e = subst (λ t. pointwise nat_eq x.now t ≡ true) e (nat_list_eq_equiv.refl x.now)
