-- In an operand at a site that is reached, each written value is taken for what it stands for.
use Rattle.std.proofs.Common.{List, ◌∷◌, sym, subst}
use Rattle.std.specs.Prelude.{Contains}
use Rattle.tree_nodes.specs.Syntax.Syntax as S
use Rattle.cddl_language.specs.Terms.{Text, Term, Ref, call, arguments_of}
use Rattle.cddl_language.specs.Literals.{AreRight, Values}
use Rattle.cddl_language.specs.Reading.{parameters_in, rules_of, term_of2}
use Rattle.cddl_language.specs.Sites.{IsReached, an_operation}
use Rattle.cddl_language.specs.Substitution.{fill}
use Rattle.cddl_language.specs.Written.Written.{AllIn, AllInRef, IsMeant}
use Rattle.cddl_language.proofs.OfWritten.Filled.{AllTerms, as_list, in_filled}
use Rattle.cddl_language.proofs.OfWritten.Found.{in_type2}
use Rattle.cddl_language.proofs.OfWritten.Meant.{reference_meant}
use Rattle.cddl_language.proofs.OfWritten.Standing.{back, front, rest, stands, the_instance}

module _ (x : S.Cddl) (worth : Values) (right : AreRight x worth) where
  in_arguments : (r : Ref) → AllInRef (IsMeant worth) r → AllTerms (IsMeant worth) (arguments_of r)
  in_arguments (call n ts) h = as_list (IsMeant worth) ts h

  in_operand : (a : S.Type2) → ((l : S.Lexeme) → Contains (S.flat_type2 a) l → Contains (S.flat x) l) → AllIn (IsMeant worth) (term_of2 a)
  in_operand a h = in_type2 (IsMeant worth) a (λ l c v w. right v (l, h l c, w))

  module _ (root : Text) (r : S.Rule) (xs : List Term) (a b : S.Type2) (o : S.Operator) (h : IsReached (rules_of x) root r xs (an_operation a o b)) where
    given : AllTerms (IsMeant worth) xs
    given =
        let i = the_instance (rules_of x) root r xs (an_operation a o b) h in
        subst (AllTerms (IsMeant worth)) (sym i.1.1) (in_arguments i.0 (reference_meant x worth right root i.0 i.1.0))

    pub first_meant : AllIn (IsMeant worth) (fill (parameters_in r) xs (term_of2 a))
    first_meant = in_filled (IsMeant worth) (parameters_in r) xs given (term_of2 a) (in_operand a (front (Contains (S.flat x)) (S.flat_type2 a) (S.flat_operator o ∷ S.flat_type2 b) (stands x root r xs (an_operation a o b) h)))

    pub last_meant : AllIn (IsMeant worth) (fill (parameters_in r) xs (term_of2 b))
    last_meant = in_filled (IsMeant worth) (parameters_in r) xs given (term_of2 b) (in_operand b (rest (Contains (S.flat x)) (S.flat_operator o) (S.flat_type2 b) (back (Contains (S.flat x)) (S.flat_type2 a) (S.flat_operator o ∷ S.flat_type2 b) (stands x root r xs (an_operation a o b) h))))
