-- What was asked of borrowed lists is true of the lists.
use Rattle.std.proofs.Common.{◌≡◌, ℕ, List, length, refl, sym, subst}
use Rattle.cddl_language.specs.Prelude.{prelude}
use Rattle.cddl_language.specs.Terms as L
use Rattle.cddl_language.specs.Terms.{Text}
use Rattle.check_terms.specs.declared.definition.Definition.{Definition}
use Rattle.check_terms.specs.Definitions.{AreDefinitions}
use Rattle.check_terms.specs.Table.{Table}
use Rattle.check_names.specs.declared.environment.environment.Name.{Name}
use Rattle.check_names.specs.Environment.Names.{AreNames}
use Rattle.check_names.specs.declared.kinds.kinds.Kinds.{Kinds}
use Rattle.check_names.specs.Kinds.Kinds.{AreKinds}

pub same_names : {m n : ℕ} {known own ks os : List Definition} {names : List Name} → m ≡ n → ks ≡ known → os ≡ own → AreNames m ks os names → AreNames n known own names
same_names {n = n} {known = known} {ks = ks} {os = os} {names = names} e f g h = subst (λ z. AreNames n known z names) g (subst (λ z. AreNames n z os names) f (subst (λ z. AreNames z ks os names) e h))

pub same_kinds : {t : Table} {known own ks os : List Definition} {names ns : List Name} {kinds : Kinds} {xs : List L.Definition} → ns ≡ names → ks ≡ known → os ≡ own → ((ys : List L.Definition) → AreDefinitions t ks prelude → AreDefinitions t os ys → AreNames (length t.texts) ks os ns → AreKinds t.texts ys kinds) → AreDefinitions t known prelude → AreDefinitions t own xs → AreNames (length t.texts) known own names → AreKinds t.texts xs kinds
same_kinds {t = t} {known = known} {own = own} {ks = ks} {os = os} {names = names} {ns = ns} {xs = xs} e f g given kd od an = given xs (subst (λ z. AreDefinitions t z prelude) (sym f) kd) (subst (λ z. AreDefinitions t z xs) (sym g) od) (same_names refl (sym f) (sym g) (subst (λ z. AreNames (length t.texts) known own z) (sym e) an))
