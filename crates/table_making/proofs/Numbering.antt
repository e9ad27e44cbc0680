-- Numbers that are given, and what is made with them.
use Rattle.std.specs.declared.alloc.Global.{Global}
use Rattle.std.specs.declared.vec.Vec.{Vec}
use Rattle.std.proofs.Common.{◌≡◌, ℕ, List, [], ◌∷◌, ◌++◌, refl, sym, subst, ◌∙◌}
use Rattle.lists.proofs.Lemmas.{none_more as append_none}
use Rattle.cddl_meaning.specs.Alike.{AlikeAll, none, both, AlikeTypes, plain, refs, choices, arrays, tags, simples, maps, boths, suches, holdings, AlikeNumbers, any_numbers, same_number, heads, AlikeGroups, entries, group_refs, sequences, alternates, repeats}
use Rattle.cddl_meaning.specs.Forms as F
use Rattle.cddl_language.specs.Language.{TypeName, GroupName}
use Rattle.check_terms.specs.Table.{Table}
use Rattle.table_nodes.specs.Nodes.{alternatives_view, entry_view}
use Rattle.table_nodes.specs.declared.nodes.MapEntry.{MapEntry}
use Rattle.table_nodes.specs.declared.nodes.TypeId.{TypeId}
use Rattle.table_nodes.specs.declared.nodes.GroupId.{GroupId}
use Rattle.table_making.specs.Basis.{Sense}
use Rattle.table_making.specs.Forms.{entry_form_view, map_form_view}
use Rattle.table_making.specs.Numbers.{AreEntriesAt, AreNamed, Extends, IsEntryAt, IsGroupAt, IsTypeAt, Keys, MakesGroup, MakesNumber, MakesType, NumbersGroup, NumbersGroups, NumbersMap, NumbersType, NumbersTypes}
use Rattle.table_making.specs.Origins.{IsGroupOrigin, IsTypeOrigin}
use Rattle.table_making.specs.declared.form.EntryForm.{EntryForm}
use Rattle.table_making.specs.declared.origin.GroupOrigin.{GroupOrigin}
use Rattle.table_making.specs.declared.origin.TypeOrigin.{TypeOrigin}
use Rattle.table_making.proofs.Pairing.{map_alike, map_back}
use Rattle.table_making.proofs.Listing.{alike_more, alike_pushed, appended}

pub same_keys : (ks : Keys) → Extends ks ks
same_keys ks = record { types = λ i o e. e; groups = λ i o e. e }

pub further_keys : (a b c : Keys) → Extends a b → Extends b c → Extends a c
further_keys a b c g h = record { types = λ i o e. h.types i o (g.types i o e); groups = λ i o e. h.groups i o (g.groups i o e) }

-- A loop that numbers a list.

name_of_middle : {N O : Type 0} (R : N → O → Type 0) (ns : List N) (done : List O) (o : O) (more : List O) → AlikeAll R ns (done ++ (o ∷ more)) → (n : N) × R n o
name_of_middle R [] [] o more h = elim h [ ]
name_of_middle R (n ∷ ns) [] o more (both h hs) = (n, h)
name_of_middle R [] (p ∷ done) o more h = elim h [ ]
name_of_middle R (n ∷ ns) (p ∷ done) o more (both h hs) = name_of_middle R ns done o more hs

module _ {N O M : Type 0} (At : Keys → O → M → Type 0) (Is : Sense → Table → N → O → Type 0) where
  pub record IsNumbering (old now : Keys) (os left : List O) (ms : List M) : Type 0 where
    pub grows : Extends old now
    pub done : List O
    pub joins : done ++ left ≡ os
    pub there : AlikeAll (At now) done ms
    pub named : (s : Sense) (t : Table) (ns : List N) → AlikeAll (Is s t) ns os → AreNamed s t old → AreNamed s t now

  pub numbering_begun : (old : Keys) (os : List O) (ms : List M) → ms ≡ [] → IsNumbering old old os os ms
  numbering_begun old os ms e = record { grows = same_keys old; done = []; joins = refl; there = subst (AlikeAll (At old) []) (sym e) none; named = λ s t ns h so. so }

  pub numbering_on : ((a b : Keys) → Extends a b → (o : O) (m : M) → At a o m → At b o m) → (old now new : Keys) (os left more : List O) (o : O) (ms later : List M) (m : M) → left ≡ o ∷ more → later ≡ ms ++ m ∷ [] → Extends now new → At new o m → ((s : Sense) (t : Table) (n : N) → Is s t n o → AreNamed s t now → AreNamed s t new) → IsNumbering old now os left ms → IsNumbering old new os more later
  numbering_on keeps old now new os left more o ms later m e f grows there named w = record {
    grows = further_keys old now new w.grows grows;
    done = w.done ++ o ∷ [];
    joins = appended w.done (o ∷ []) more ∙ joined;
    there = subst (AlikeAll (At new) (w.done ++ o ∷ [])) (sym f) (alike_pushed (At new) w.done ms o m (alike_more (At now) (At new) (keeps now new grows) w.done ms w.there) there);
    named = λ s t ns h so.
        let n = name_of_middle (Is s t) ns w.done o more (subst (AlikeAll (Is s t) ns) (sym joined) h) in
        named s t n.0 n.1 (w.named s t ns h so);
  }
    where
      joined : w.done ++ (o ∷ more) ≡ os
      joined = subst (λ xs. w.done ++ xs ≡ os) e w.joins

  pub numbering_ended : (old now : Keys) (os left : List O) (ms : List M) → left ≡ [] → IsNumbering old now os left ms → AlikeAll (At now) os ms
  numbering_ended old now os left ms e w = subst (λ xs. AlikeAll (At now) xs ms) (sym (append_none w.done) ∙ subst (λ xs. w.done ++ xs ≡ os) e w.joins) w.there

pub type_stays : (a b : Keys) → Extends a b → (o : TypeOrigin) (m : TypeId) → IsTypeAt a o m → IsTypeAt b o m
type_stays a b g o m e = g.types m.number o e

pub group_stays : (a b : Keys) → Extends a b → (o : GroupOrigin) (m : GroupId) → IsGroupAt a o m → IsGroupAt b o m
group_stays a b g o m e = g.groups m.number o e

pub entry_stays : (a b : Keys) → Extends a b → (f : EntryForm) (m : MapEntry) → IsEntryAt a f m → IsEntryAt b f m
entry_stays a b g f m h = record { least = h.least; most = h.most; cuts = h.cuts; key = g.types m.key_type.number f.key h.key; value = g.types m.value_type.number f.value h.value }

pub entries_stay : (a b : Keys) → Extends a b → (fs : Vec EntryForm Global) (ms : Vec MapEntry Global) → AreEntriesAt a fs ms → AreEntriesAt b fs ms
entries_stay a b g fs ms h = alike_more (IsEntryAt a) (IsEntryAt b) (entry_stays a b g) fs.items ms.items h

-- What is made of forms.

pub made_any : (ks : Keys) → MakesNumber ks ks F.any_number F.any_number
made_any ks = record { grows = same_keys ks; there = any_numbers; named = λ s t n h so. so }

pub made_exactly : (ks : Keys) (k : ℕ) → MakesNumber ks ks (F.exactly k) (F.exactly k)
made_exactly ks k = record { grows = same_keys ks; there = same_number; named = λ s t n h so. so }

pub made_such : (old new : Keys) (o : TypeOrigin) (m : TypeId) → NumbersType old new o m → MakesNumber old new (F.such_as o) (F.such_as m)
made_such old new o m w = record { grows = w.grows; there = heads w.there; named = λ s t n h so. by s t n h so }
  where
    by : (s : Sense) (t : Table) (n : F.TagNumber TypeName) → AlikeNumbers (IsTypeOrigin s t) n (F.such_as o) → AreNamed s t old → AreNamed s t new
    by s t n (heads {n = k} h) so = w.named s t k h so

pub made_plain : (ks : Keys) (x : F.Test) → MakesType ks ks (F.Plain x) (F.Plain x)
made_plain ks x = record { grows = same_keys ks; there = plain; named = λ s t n h so. so }

pub made_ref : (old new : Keys) (o : TypeOrigin) (m : TypeId) → NumbersType old new o m → MakesType old new (F.Ref o) (F.Ref m)
made_ref old new o m w = record { grows = w.grows; there = refs w.there; named = λ s t n h so. by s t n h so }
  where
    by : (s : Sense) (t : Table) (n : F.Node TypeName GroupName) → AlikeTypes (IsTypeOrigin s t) (IsGroupOrigin s t) n (F.Ref o) → AreNamed s t old → AreNamed s t new
    by s t n (refs {n = k} h) so = w.named s t k h so

pub made_choice : (old new : Keys) (os : List TypeOrigin) (ms : List TypeId) → NumbersTypes old new os ms → MakesType old new (F.Choice os) (F.Choice ms)
made_choice old new os ms w = record { grows = w.grows; there = choices w.there; named = λ s t n h so. by s t n h so }
  where
    by : (s : Sense) (t : Table) (n : F.Node TypeName GroupName) → AlikeTypes (IsTypeOrigin s t) (IsGroupOrigin s t) n (F.Choice os) → AreNamed s t old → AreNamed s t new
    by s t n (choices {ns = k} h) so = w.named s t k h so

pub made_array : (old new : Keys) (o : GroupOrigin) (m : GroupId) → NumbersGroup old new o m → MakesType old new (F.ArrayOf o) (F.ArrayOf m)
made_array old new o m w = record { grows = w.grows; there = arrays w.there; named = λ s t n h so. by s t n h so }
  where
    by : (s : Sense) (t : Table) (n : F.Node TypeName GroupName) → AlikeTypes (IsTypeOrigin s t) (IsGroupOrigin s t) n (F.ArrayOf o) → AreNamed s t old → AreNamed s t new
    by s t n (arrays {g = k} h) so = w.named s t k h so

pub made_tag : (old mid new : Keys) (f : F.TagNumber TypeOrigin) (k : F.TagNumber TypeId) (o : TypeOrigin) (m : TypeId) → MakesNumber old mid f k → NumbersType mid new o m → MakesType old new (F.TagOf f o) (F.TagOf k m)
made_tag old mid new f k o m v w = record { grows = further_keys old mid new v.grows w.grows; there = tags (kept f k v.there) w.there; named = λ s t n h so. by s t n h so }
  where
    kept : (f : F.TagNumber TypeOrigin) (k : F.TagNumber TypeId) → AlikeNumbers (IsTypeAt mid) f k → AlikeNumbers (IsTypeAt new) f k
    kept f k any_numbers = any_numbers
    kept f k same_number = same_number
    kept f k (heads {n = p} {m = q} h) = heads (w.grows.types q.number p h)

    by : (s : Sense) (t : Table) (n : F.Node TypeName GroupName) → AlikeTypes (IsTypeOrigin s t) (IsGroupOrigin s t) n (F.TagOf f o) → AreNamed s t old → AreNamed s t new
    by s t n (tags {s = p} {n = q} g h) so = w.named s t q h (v.named s t p g so)

pub made_simple : (old new : Keys) (o : TypeOrigin) (m : TypeId) → NumbersType old new o m → MakesType old new (F.SimpleBy o) (F.SimpleBy m)
made_simple old new o m w = record { grows = w.grows; there = simples w.there; named = λ s t n h so. by s t n h so }
  where
    by : (s : Sense) (t : Table) (n : F.Node TypeName GroupName) → AlikeTypes (IsTypeOrigin s t) (IsGroupOrigin s t) n (F.SimpleBy o) → AreNamed s t old → AreNamed s t new
    by s t n (simples {n = k} h) so = w.named s t k h so

pub made_both : (old mid new : Keys) (o p : TypeOrigin) (m k : TypeId) → NumbersType old mid o m → NumbersType mid new p k → MakesType old new (F.Both o p) (F.Both m k)
made_both old mid new o p m k v w = record { grows = further_keys old mid new v.grows w.grows; there = boths (w.grows.types m.number o v.there) w.there; named = λ s t n h so. by s t n h so }
  where
    by : (s : Sense) (t : Table) (n : F.Node TypeName GroupName) → AlikeTypes (IsTypeOrigin s t) (IsGroupOrigin s t) n (F.Both o p) → AreNamed s t old → AreNamed s t new
    by s t n (boths {n = q} {o = r} g h) so = w.named s t r h (v.named s t q g so)

pub made_such_as : (old new : Keys) (x : F.Test) (o : TypeOrigin) (m : TypeId) → NumbersType old new o m → MakesType old new (F.Such o x) (F.Such m x)
made_such_as old new x o m w = record { grows = w.grows; there = suches w.there (λ y. refl) (λ y. refl); named = λ s t n h so. by s t n h so }
  where
    by : (s : Sense) (t : Table) (n : F.Node TypeName GroupName) → AlikeTypes (IsTypeOrigin s t) (IsGroupOrigin s t) n (F.Such o x) → AreNamed s t old → AreNamed s t new
    by s t n (suches {n = k} h same bits) so = w.named s t k h so

pub made_holding : (old mid new : Keys) (c : F.Content) (o p : TypeOrigin) (m k : TypeId) → NumbersType old mid o m → NumbersType mid new p k → MakesType old new (F.Holding o c p) (F.Holding m c k)
made_holding old mid new c o p m k v w = record { grows = further_keys old mid new v.grows w.grows; there = holdings (w.grows.types m.number o v.there) w.there; named = λ s t n h so. by s t n h so }
  where
    by : (s : Sense) (t : Table) (n : F.Node TypeName GroupName) → AlikeTypes (IsTypeOrigin s t) (IsGroupOrigin s t) n (F.Holding o c p) → AreNamed s t old → AreNamed s t new
    by s t n (holdings {n = q} {o = r} g h) so = w.named s t r h (v.named s t q g so)

pub made_map : (old new : Keys) (fss : List (Vec EntryForm Global)) (mss : List (Vec MapEntry Global)) → NumbersMap old new fss mss → MakesType old new (F.MapOf (map_form_view fss)) (F.MapOf (alternatives_view mss))
made_map old new fss mss w = record { grows = w.grows; there = maps (map_alike (IsTypeAt new) entry_form_view entry_view fss mss w.there); named = λ s t n h so. by s t n h so }
  where
    by : (s : Sense) (t : Table) (n : F.Node TypeName GroupName) → AlikeTypes (IsTypeOrigin s t) (IsGroupOrigin s t) n (F.MapOf (map_form_view fss)) → AreNamed s t old → AreNamed s t new
    by s t n (maps {dss = dss} h) so = w.named s t dss (map_back (IsTypeOrigin s t) entry_form_view dss fss h) so

pub made_entry : (old new : Keys) (o : TypeOrigin) (m : TypeId) → NumbersType old new o m → MakesGroup old new (F.Entry o) (F.Entry m)
made_entry old new o m w = record { grows = w.grows; there = entries w.there; named = λ s t n h so. by s t n h so }
  where
    by : (s : Sense) (t : Table) (n : F.Group TypeName GroupName) → AlikeGroups (IsTypeOrigin s t) (IsGroupOrigin s t) n (F.Entry o) → AreNamed s t old → AreNamed s t new
    by s t n (entries {n = k} h) so = w.named s t k h so

pub made_group_ref : (old new : Keys) (o : GroupOrigin) (m : GroupId) → NumbersGroup old new o m → MakesGroup old new (F.GroupRef o) (F.GroupRef m)
made_group_ref old new o m w = record { grows = w.grows; there = group_refs w.there; named = λ s t n h so. by s t n h so }
  where
    by : (s : Sense) (t : Table) (n : F.Group TypeName GroupName) → AlikeGroups (IsTypeOrigin s t) (IsGroupOrigin s t) n (F.GroupRef o) → AreNamed s t old → AreNamed s t new
    by s t n (group_refs {g = k} h) so = w.named s t k h so

pub made_sequence : (old new : Keys) (os : List GroupOrigin) (ms : List GroupId) → NumbersGroups old new os ms → MakesGroup old new (F.Sequence os) (F.Sequence ms)
made_sequence old new os ms w = record { grows = w.grows; there = sequences w.there; named = λ s t n h so. by s t n h so }
  where
    by : (s : Sense) (t : Table) (n : F.Group TypeName GroupName) → AlikeGroups (IsTypeOrigin s t) (IsGroupOrigin s t) n (F.Sequence os) → AreNamed s t old → AreNamed s t new
    by s t n (sequences {gs = k} h) so = w.named s t k h so

pub made_alternatives : (old new : Keys) (os : List GroupOrigin) (ms : List GroupId) → NumbersGroups old new os ms → MakesGroup old new (F.Alternatives os) (F.Alternatives ms)
made_alternatives old new os ms w = record { grows = w.grows; there = alternates w.there; named = λ s t n h so. by s t n h so }
  where
    by : (s : Sense) (t : Table) (n : F.Group TypeName GroupName) → AlikeGroups (IsTypeOrigin s t) (IsGroupOrigin s t) n (F.Alternatives os) → AreNamed s t old → AreNamed s t new
    by s t n (alternates {gs = k} h) so = w.named s t k h so

pub made_repeat : (old new : Keys) (least : ℕ) (most : F.Most) (o : GroupOrigin) (m : GroupId) → NumbersGroup old new o m → MakesGroup old new (F.Repeat least most o) (F.Repeat least most m)
made_repeat old new least most o m w = record { grows = w.grows; there = repeats w.there; named = λ s t n h so. by s t n h so }
  where
    by : (s : Sense) (t : Table) (n : F.Group TypeName GroupName) → AlikeGroups (IsTypeOrigin s t) (IsGroupOrigin s t) n (F.Repeat least most o) → AreNamed s t old → AreNamed s t new
    by s t n (repeats {g = k} h) so = w.named s t k h so
