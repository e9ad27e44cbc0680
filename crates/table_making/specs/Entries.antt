-- Entries of maps, one for one.
use Rattle.std.specs.Prelude.{◌≡◌}
use Rattle.cddl_meaning.specs.Forms.{MapEntry}

-- the same bounds and the same cut, of related types
pub record IsAlikeEntry {N M : Type 0} (R : N → M → Type 0) (d : MapEntry N) (e : MapEntry M) : Type 0 where
  pub least : d.least ≡ e.least
  pub most : d.most ≡ e.most
  pub cuts : d.cuts ≡ e.cuts
  pub key : R d.key_type e.key_type
  pub value : R d.value_type e.value_type
