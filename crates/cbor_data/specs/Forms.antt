-- The written forms of items (RFC 8949 section 3): each tree is one way to write one item, and is only printed.
use Rattle.std.specs.Prelude.{◌≡◌, ℕ, suc, ◌<◌, ◌≤◌, ◌^◌, List, [], ◌∷◌, ◌++◌, length}
use Rattle.std.specs.Int.{w8, w16, w32, w64, to_be_bytes}
use Rattle.std.specs.Str.{IsUtf8}
use Rattle.cbor_data.specs.declared.Width.{Width}
use Rattle.cbor_data.specs.Value.{Value, uint, nint, bytes, text, array, pairs, tag, simple, float, Values, no_values, value, Pairs, no_pairs, pair, FitsWidth, AreBytes}
use Rattle.cbor_data.specs.Preferred.{initial, float_bytes}

-- how large the argument of a head is written: inside the initial byte, or in so many bytes after it
pub data ArgumentSize : Type 0 where
  inside : ArgumentSize
  one : ArgumentSize
  two : ArgumentSize
  four : ArgumentSize
  eight : ArgumentSize

abbrev pub head_in : ArgumentSize → ℕ → ℕ → List ℕ
head_in inside major n = initial major n ∷ []
head_in one major n = initial major 24 ∷ to_be_bytes w8 n
head_in two major n = initial major 25 ∷ to_be_bytes w16 n
head_in four major n = initial major 26 ∷ to_be_bytes w32 n
head_in eight major n = initial major 27 ∷ to_be_bytes w64 n

abbrev pub FitsSize : ArgumentSize → ℕ → Type 0
FitsSize inside n = n < 24
FitsSize one n = n < 2 ^ 8
FitsSize two n = n < 2 ^ 16
FitsSize four n = n < 2 ^ 32
FitsSize eight n = n < 2 ^ 64

-- a definite string, as a chunk of an indefinite one (RFC 8949 section 3.2.3)
pub record Chunk : Type 0 where
  pub size : ArgumentSize
  pub content : List ℕ

mutual
  pub data Form : Type 0 where
    uint_form : ArgumentSize → ℕ → Form
    nint_form : ArgumentSize → ℕ → Form
    bytes_form : ArgumentSize → List ℕ → Form
    bytes_chunks : List Chunk → Form
    text_form : ArgumentSize → List ℕ → Form
    text_chunks : List Chunk → Form
    array_form : ArgumentSize → Forms → Form
    array_to_break : Forms → Form
    pairs_form : ArgumentSize → PairForms → Form
    pairs_to_break : PairForms → Form
    tag_form : ArgumentSize → ℕ → Form → Form
    simple_inside : ℕ → Form
    simple_next : ℕ → Form
    float_form : Width → ℕ → Form

  pub data Forms : Type 0 where
    no_forms : Forms
    form : Form → Forms → Forms

  pub data PairForms : Type 0 where
    no_pair_forms : PairForms
    pair_form : Form → Form → PairForms → PairForms

abbrev pub forms_len : Forms → ℕ
forms_len no_forms = 0
forms_len (form f fs) = suc (forms_len fs)

abbrev pub pair_forms_len : PairForms → ℕ
pair_forms_len no_pair_forms = 0
pair_forms_len (pair_form k v ps) = suc (pair_forms_len ps)

abbrev pub chunk_bytes : ℕ → Chunk → List ℕ
chunk_bytes major c = head_in c.size major (length c.content) ++ c.content

abbrev pub chunks_bytes : ℕ → List Chunk → List ℕ
chunks_bytes major [] = []
chunks_bytes major (c ∷ cs) = chunk_bytes major c ++ chunks_bytes major cs

abbrev pub joined : List Chunk → List ℕ
joined [] = []
joined (c ∷ cs) = c.content ++ joined cs

-- an indefinite form: its initial byte, what is in it, and the break
abbrev pub to_break : ℕ → List ℕ → List ℕ
to_break major inner = initial major 31 ∷ (inner ++ 255 ∷ [])

-- the bytes of a form
abbrev mutual
  pub flat : Form → List ℕ
  flat (uint_form p n) = head_in p 0 n
  flat (nint_form p n) = head_in p 1 n
  flat (bytes_form p s) = head_in p 2 (length s) ++ s
  flat (bytes_chunks cs) = to_break 2 (chunks_bytes 2 cs)
  flat (text_form p s) = head_in p 3 (length s) ++ s
  flat (text_chunks cs) = to_break 3 (chunks_bytes 3 cs)
  flat (array_form p fs) = head_in p 4 (forms_len fs) ++ forms_flat fs
  flat (array_to_break fs) = to_break 4 (forms_flat fs)
  flat (pairs_form p ps) = head_in p 5 (pair_forms_len ps) ++ pair_forms_flat ps
  flat (pairs_to_break ps) = to_break 5 (pair_forms_flat ps)
  flat (tag_form p n f) = head_in p 6 n ++ flat f
  flat (simple_inside n) = initial 7 n ∷ []
  flat (simple_next n) = initial 7 24 ∷ n ∷ []
  flat (float_form w n) = float_bytes w n

  pub forms_flat : Forms → List ℕ
  forms_flat no_forms = []
  forms_flat (form f fs) = flat f ++ forms_flat fs

  pub pair_forms_flat : PairForms → List ℕ
  pair_forms_flat no_pair_forms = []
  pair_forms_flat (pair_form k v ps) = flat k ++ (flat v ++ pair_forms_flat ps)

abbrev pub AreChunksOk : List Chunk → Type 0
AreChunksOk [] = Unit {0}
AreChunksOk (c ∷ cs) = (FitsSize c.size (length c.content) × AreBytes c.content) × AreChunksOk cs

-- each argument fits its size
abbrev mutual
  pub IsOk : Form → Type 0
  IsOk (uint_form p n) = FitsSize p n
  IsOk (nint_form p n) = FitsSize p n
  IsOk (bytes_form p s) = FitsSize p (length s) × AreBytes s
  IsOk (bytes_chunks cs) = AreChunksOk cs
  IsOk (text_form p s) = FitsSize p (length s) × AreBytes s
  IsOk (text_chunks cs) = AreChunksOk cs
  IsOk (array_form p fs) = FitsSize p (forms_len fs) × AreFormsOk fs
  IsOk (array_to_break fs) = AreFormsOk fs
  IsOk (pairs_form p ps) = FitsSize p (pair_forms_len ps) × ArePairFormsOk ps
  IsOk (pairs_to_break ps) = ArePairFormsOk ps
  IsOk (tag_form p n f) = FitsSize p n × IsOk f
  IsOk (simple_inside n) = n < 24
  IsOk (simple_next n) = (32 ≤ n) × (n < 256)
  IsOk (float_form w n) = FitsWidth w n

  pub AreFormsOk : Forms → Type 0
  AreFormsOk no_forms = Unit {0}
  AreFormsOk (form f fs) = IsOk f × AreFormsOk fs

  pub ArePairFormsOk : PairForms → Type 0
  ArePairFormsOk no_pair_forms = Unit {0}
  ArePairFormsOk (pair_form k v ps) = IsOk k × IsOk v × ArePairFormsOk ps

-- the item that a form writes
abbrev mutual
  pub meaning : Form → Value
  meaning (uint_form p n) = uint n
  meaning (nint_form p n) = nint n
  meaning (bytes_form p s) = bytes s
  meaning (bytes_chunks cs) = bytes (joined cs)
  meaning (text_form p s) = text s
  meaning (text_chunks cs) = text (joined cs)
  meaning (array_form p fs) = array (meanings fs)
  meaning (array_to_break fs) = array (meanings fs)
  meaning (pairs_form p ps) = pairs (pair_meanings ps)
  meaning (pairs_to_break ps) = pairs (pair_meanings ps)
  meaning (tag_form p n f) = tag n (meaning f)
  meaning (simple_inside n) = simple n
  meaning (simple_next n) = simple n
  meaning (float_form w n) = float w n

  pub meanings : Forms → Values
  meanings no_forms = no_values
  meanings (form f fs) = value (meaning f) (meanings fs)

  pub pair_meanings : PairForms → Pairs
  pair_meanings no_pair_forms = no_pairs
  pair_meanings (pair_form k v ps) = pair (meaning k) (meaning v) (pair_meanings ps)

abbrev pub AllText : List Chunk → Type 0
AllText [] = Unit {0}
AllText (c ∷ cs) = IsUtf8 c.content × AllText cs

-- each text chunk is UTF-8 by itself
abbrev mutual
  pub HasText : Form → Type 0
  HasText (text_form p s) = IsUtf8 s
  HasText (text_chunks cs) = AllText cs
  HasText (array_form p fs) = HaveText fs
  HasText (array_to_break fs) = HaveText fs
  HasText (pairs_form p ps) = HavePairsText ps
  HasText (pairs_to_break ps) = HavePairsText ps
  HasText (tag_form p n f) = HasText f
  HasText _ = Unit {0}

  pub HaveText : Forms → Type 0
  HaveText no_forms = Unit {0}
  HaveText (form f fs) = HasText f × HaveText fs

  pub HavePairsText : PairForms → Type 0
  HavePairsText no_pair_forms = Unit {0}
  HavePairsText (pair_form k v ps) = HasText k × HasText v × HavePairsText ps

-- the bytes are one well-formed item: some form prints them (UTF-8 is not asked)
pub record IsWellFormed (b : List ℕ) : Type 0 where
  pub written : Form
  pub ok : IsOk written
  pub is : b ≡ flat written

-- the bytes are a spelling of the item: in any width of argument and both kinds of length, each text chunk UTF-8 by itself
pub record Spells (x : Value) (b : List ℕ) : Type 0 where
  pub written : Form
  pub ok : IsOk written
  pub text : HasText written
  pub is : b ≡ flat written
  pub meant : x ≡ meaning written

-- some well-formed list begins so
abbrev pub Begins : List ℕ → Type 0
Begins b = (more : List ℕ) × IsWellFormed (b ++ more)

-- a proper beginning of some well-formed list
abbrev pub IsUnfinished : List ℕ → Type 0
IsUnfinished b = (next : ℕ) × (more : List ℕ) × IsWellFormed (b ++ next ∷ more)
