-- The definitions that lines of the prelude say.
use Rattle.std.specs.Prelude.{ℕ, List}
use Rattle.std.specs.Borrow.{Bor}
use Rattle.cddl_language.specs.Terms.{Term, hash, or, tagged, Definition}
use Rattle.cddl_language.specs.Prelude.{definition, int_and_integer, plain}
use Rattle.check_reading.specs.declared.prelude.lines.Meaning.{Meaning}
use Rattle.check_reading.specs.declared.prelude.lines.Meaning.TheVariants.{Hash, Alias, Either, Tagged, TaggedPair}

abbrev pub term_of : Meaning → Term
term_of (Hash x) = hash x.now
term_of (Alias x) = plain x.now
term_of (Either x y) = or (plain x.now) (plain y.now)
term_of (Tagged o x) = tagged o.now (plain x.now)
term_of (TaggedPair o x y) = tagged o.now (int_and_integer x.now y.now)

-- a name, and what it means
abbrev pub Line : Type 0
Line = Bor (List ℕ) × Meaning

abbrev pub definition_in : Line → Definition
definition_in l = definition l.0.now (term_of l.1)
