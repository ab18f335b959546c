use Rattle.std.proofs.Common.{◌≡◌, ◌+◌, ◌<◌, ◌^◌, drop}
use Rattle.std.specs.Str.{all_ascii_digits}
use Rattle.std.specs.Str.Parse.{digits_value, digits_value_after}
use Rattle.mea_text.specs.Words.{before_space, place_of_space}
use Rattle.mea_text.proofs.number.digits_of.Given as goal

-- the bytes so far are digits, and the value and the place of the space go on with the rest
abbrev pub invariant-loop-byte : goal.invariant-loop-byte
invariant-loop-byte l = record {
  digits : all_ascii_digits (before_space (drop l.byte-index l.bytes)) ≡ all_ascii_digits (before_space l.bytes);
  told : digits_value_after 10 l.value (before_space (drop l.byte-index l.bytes)) ≡ digits_value 10 (before_space l.bytes);
  place : l.byte-index + place_of_space (drop l.byte-index l.bytes) ≡ place_of_space l.bytes;
  counted : l.digits ≡ l.byte-index;
  fits : l.value < 2 ^ 64;
}
