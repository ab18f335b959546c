-- numbers in a line
use Rattle.std.specs.Prelude.{ℕ, ◌<◌, ◌^◌, ◌==◌, ◌&&◌, ◌||◌, not, Bool, List, [], ◌∷◌, length, slice_index, Option, Some, None, nat_lt, if◌then◌else◌}
use Rattle.std.specs.Str.{all_ascii_digits}
use Rattle.std.specs.Str.Parse.{digits_value}

-- digits of a number below 2 ^ 64, with no leading zero but for 0 itself
abbrev pub is_number : List ℕ → Bool
is_number bytes = all_ascii_digits bytes && nat_lt 0 (length bytes) && (not (slice_index bytes 0 == 48) || length bytes == 1) && nat_lt (digits_value 10 bytes) (2 ^ 64)

abbrev pub number_of : List ℕ → Option ℕ
number_of bytes = if is_number bytes then Some (digits_value 10 bytes) else None

-- a number that is a count: below 2 ^ 32
abbrev pub count_of : ℕ → Option ℕ
count_of n = if nat_lt n (2 ^ 32) then Some n else None

-- each number fits its type
abbrev pub AreFit : List ℕ → Type 0
AreFit [] = Unit {0}
AreFit (n ∷ ns) = (n < 2 ^ 64) × AreFit ns
