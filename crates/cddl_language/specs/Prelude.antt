-- The prelude (RFC 8610 appendix D): the definitions that each specification begins with.
--
-- The table is `unfoldable`, so that it is not written out where a clause names it.
use Rattle.std.specs.Prelude.{List, [], ◌∷◌, None, true, false, codes}
use Rattle.cddl_language.specs.Terms.{Text, Term, named, array_of, tagged, hash, or, call, no_terms, sole, no_entries, entries, keyed, bareword, is, of_types, Definition}

-- a name without arguments
abbrev pub plain : Text → Term
plain n = named (call n no_terms)

abbrev pub definition : Text → Term → Definition
definition n t = record { name = n; parameters = []; sign = is; body = of_types t }

-- `[a: int, b: integer]`
abbrev pub int_and_integer : Text → Text → Term
int_and_integer a b = array_of (sole (entries (entries no_entries (keyed None (bareword a) (plain (codes "int"))) true) (keyed None (bareword b) (plain (codes "integer"))) false))

unfoldable pub prelude : List Definition
prelude =
    definition (codes "any") (hash (codes "#"))
    ∷ definition (codes "uint") (hash (codes "#0"))
    ∷ definition (codes "nint") (hash (codes "#1"))
    ∷ definition (codes "int") (or (plain (codes "uint")) (plain (codes "nint")))
    ∷ definition (codes "bstr") (hash (codes "#2"))
    ∷ definition (codes "bytes") (plain (codes "bstr"))
    ∷ definition (codes "tstr") (hash (codes "#3"))
    ∷ definition (codes "text") (plain (codes "tstr"))
    ∷ definition (codes "tdate") (tagged (codes "#6.0(") (plain (codes "tstr")))
    ∷ definition (codes "time") (tagged (codes "#6.1(") (plain (codes "number")))
    ∷ definition (codes "number") (or (plain (codes "int")) (plain (codes "float")))
    ∷ definition (codes "biguint") (tagged (codes "#6.2(") (plain (codes "bstr")))
    ∷ definition (codes "bignint") (tagged (codes "#6.3(") (plain (codes "bstr")))
    ∷ definition (codes "bigint") (or (plain (codes "biguint")) (plain (codes "bignint")))
    ∷ definition (codes "integer") (or (plain (codes "int")) (plain (codes "bigint")))
    ∷ definition (codes "unsigned") (or (plain (codes "uint")) (plain (codes "biguint")))
    ∷ definition (codes "decfrac") (tagged (codes "#6.4(") (int_and_integer (codes "e10") (codes "m")))
    ∷ definition (codes "bigfloat") (tagged (codes "#6.5(") (int_and_integer (codes "e2") (codes "m")))
    ∷ definition (codes "eb64url") (tagged (codes "#6.21(") (plain (codes "any")))
    ∷ definition (codes "eb64legacy") (tagged (codes "#6.22(") (plain (codes "any")))
    ∷ definition (codes "eb16") (tagged (codes "#6.23(") (plain (codes "any")))
    ∷ definition (codes "encoded-cbor") (tagged (codes "#6.24(") (plain (codes "bstr")))
    ∷ definition (codes "uri") (tagged (codes "#6.32(") (plain (codes "tstr")))
    ∷ definition (codes "b64url") (tagged (codes "#6.33(") (plain (codes "tstr")))
    ∷ definition (codes "b64legacy") (tagged (codes "#6.34(") (plain (codes "tstr")))
    ∷ definition (codes "regexp") (tagged (codes "#6.35(") (plain (codes "tstr")))
    ∷ definition (codes "mime-message") (tagged (codes "#6.36(") (plain (codes "tstr")))
    ∷ definition (codes "cbor-any") (tagged (codes "#6.55799(") (plain (codes "any")))
    ∷ definition (codes "float16") (hash (codes "#7.25"))
    ∷ definition (codes "float32") (hash (codes "#7.26"))
    ∷ definition (codes "float64") (hash (codes "#7.27"))
    ∷ definition (codes "float16-32") (or (plain (codes "float16")) (plain (codes "float32")))
    ∷ definition (codes "float32-64") (or (plain (codes "float32")) (plain (codes "float64")))
    ∷ definition (codes "float") (or (plain (codes "float16-32")) (plain (codes "float64")))
    ∷ definition (codes "false") (hash (codes "#7.20"))
    ∷ definition (codes "true") (hash (codes "#7.21"))
    ∷ definition (codes "bool") (or (plain (codes "false")) (plain (codes "true")))
    ∷ definition (codes "nil") (hash (codes "#7.22"))
    ∷ definition (codes "null") (plain (codes "nil"))
    ∷ definition (codes "undefined") (hash (codes "#7.23"))
    ∷ []
