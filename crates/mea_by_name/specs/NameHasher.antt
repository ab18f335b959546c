-- what a `NameHasher` computes
use Rattle.std.specs.Prelude.{ℕ, ◌*◌, ◌/◌, ◌%◌, ◌^◌, List, length, nat_eq, if◌then◌else◌, bit_and, bit_or, bit_xor}
use Rattle.std.specs.Int.{w64, from_le_bytes}
use Rattle.mea_by_name.specs.declared.name_hasher.NameHasher.{NameHasher}

-- the hasher once it has read the bytes: they are a name where they are eight
abbrev pub name_read : NameHasher → List ℕ → NameHasher
name_read h bytes = if nat_eq (length bytes) 8 then record { name = from_le_bytes w64 bytes } else h

-- a number with its bits from the `by`-th on folded into its lowest
abbrev pub folded : ℕ → ℕ → ℕ
folded by x = bit_xor x (x / 2 ^ by)

-- the place of a name: four names that follow each other have one, and it has 24 bits
abbrev pub name_place : ℕ → ℕ
name_place name = bit_and (folded 29 (folded 14 (folded 9 (folded 4 (name / 4))))) 0xff_ffff

-- the tag of a name, in eight bits
abbrev pub name_tag : ℕ → ℕ
name_tag name = (name * 0x9e37_79b9_7f4a_7c15) % 2 ^ 64 / 2 ^ 56

-- the hash of a name
abbrev pub name_hash : ℕ → ℕ
name_hash name = bit_or ((name_tag name * 2 ^ 24) % 2 ^ 64) (name_place name)
