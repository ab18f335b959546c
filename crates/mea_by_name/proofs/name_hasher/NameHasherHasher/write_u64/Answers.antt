use Rattle.std.proofs.Common.{ℕ, ap, sym}
use Rattle.std.proofs.lemmas.Nat.{from_le_bytes-to_le_bytes_8}
use Rattle.std.specs.Hash.{le_bytes}
use Rattle.mea_by_name.specs.declared.name_hasher.NameHasher.{NameHasher}
use Rattle.mea_by_name.proofs.name_hasher.NameHasherHasher.write_u64.Goals as goal

-- the hasher that has read a name
abbrev read : ℕ → NameHasher
read n = record { name = n }

pub returns : goal.returns
unfolding le_bytes
returns c = ap read (sym (from_le_bytes-to_le_bytes_8 c.args.name c.ranges.name.fits))
