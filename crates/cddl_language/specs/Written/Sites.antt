-- The tokens of what stands at a site.
use Rattle.std.specs.Prelude.{List, [], ◌∷◌, ◌++◌}
use Rattle.cddl_token.specs.declared.Kind.TheVariants as K
use Rattle.tree_nodes.specs.Syntax.Syntax as S
use Rattle.cddl_language.specs.Sites.{Site, a_name, an_unwrapping, a_choice_of, a_choice_of_name, a_hash, an_operation, an_entry, a_map}

-- each with the kind that the grammar has for it; brackets are left out
abbrev pub site_lexemes : Site → List S.Lexeme
site_lexemes (a_name b f) = S.flat_ref f
site_lexemes (an_unwrapping b t f) = (K.Tilde, t) ∷ S.flat_ref f
site_lexemes (a_choice_of t g) = (K.Ampersand, t) ∷ S.flat_group g
site_lexemes (a_choice_of_name t f) = (K.Ampersand, t) ∷ S.flat_ref f
site_lexemes (a_hash t) = (K.Hash, t) ∷ []
site_lexemes (an_operation x o y) = S.flat_type2 x ++ S.flat_operator o ∷ S.flat_type2 y
site_lexemes (an_entry e) = S.flat_entry e
site_lexemes (a_map t g) = S.flat_group g
