use Rattle.std.proofs.Common.{◌≡◌, ◌+◌, ◌-◌, ◌*◌, true, false, drop, get_or, sym, ap, ◌∙◌, arith}
use Rattle.std.specs.Str.Parse.{digits_value_after}
use Rattle.std.proofs.lemmas.Bool.{ne_eqb}
use Rattle.mea_text.specs.Words.{before_space}
use Rattle.mea_text.proofs.Values.{apart_of, all_more, not_all, place_goes, value_grows, value_more}
use Rattle.mea_text.proofs.number.digits_of.Goals as goal

pub returns-then-not-is_ascii_digit : goal.returns-then-not-is_ascii_digit
returns-then-not-is_ascii_digit c = λ h.
    let none = not_all c.args.bytes.now c.loop-byte.byte-index c.loop-byte-test.true (ne_eqb (get_or c.args.bytes.now c.loop-byte.byte-index 0) 32 c.if-byte-eq32.false) (sym c.if-not-is_ascii_digit.ensures.value) in
    let no : false ≡ true = sym none ∙ c.loop-byte.invariant.digits ∙ h.0 in
    absurd (cc)

pub returns-in_err-checked_mul : goal.returns-in_err-checked_mul
returns-in_err-checked_mul c = rw c.from_residual.ensures (λ h.
    let bs = c.args.bytes.now in
    let i = c.loop-byte.byte-index in
    let m = c.loop-byte.value in
    let more = value_more bs i c.loop-byte-test.true m (apart_of (get_or bs i 0) (sym c.if-not-is_ascii_digit.ensures.value)) (sym c.if-not-is_ascii_digit.ensures.value) in
    let least = value_grows (m * 10 + (get_or bs i 0 - 48)) (before_space (drop (i + 1) bs)) in
    omega (arith, h.1, c.loop-byte.invariant.told, more, least, c.in_err-checked_mul.ensures))

pub returns-in_err-value : goal.returns-in_err-value
returns-in_err-value c = rw c.from_residual-in_err-value.ensures (λ h.
    let bs = c.args.bytes.now in
    let i = c.loop-byte.byte-index in
    let m = c.loop-byte.value in
    let more = value_more bs i c.loop-byte-test.true m (apart_of (get_or bs i 0) (sym c.if-not-is_ascii_digit.ensures.value)) (sym c.if-not-is_ascii_digit.ensures.value) in
    let least = value_grows (m * 10 + (get_or bs i 0 - 48)) (before_space (drop (i + 1) bs)) in
    omega (arith, h.1, c.loop-byte.invariant.told, more, least, c.in_err-value.ensures, c.in_ok-checked_mul.ensures, c.from-digit.ensures))

pub loop-byte-preserved : goal.loop-byte-preserved
loop-byte-preserved c =
    let bs = c.args.bytes.now in
    let i = c.loop-byte.byte-index in
    let m = c.loop-byte.value in
    let digit = sym c.if-not-is_ascii_digit.ensures.value in
    let apart = apart_of (get_or bs i 0) digit in
    let goes = place_goes bs i c.loop-byte-test.true apart in
    let same : c.in_ok-value.value ≡ m * 10 + (get_or bs i 0 - 48) = omega (arith, c.in_ok-value.ensures, c.in_ok-checked_mul.ensures, c.from-digit.ensures) in
    record {
      digits = all_more bs i c.loop-byte-test.true apart digit ∙ c.loop-byte.invariant.digits;
      told =
          ap (λ v. digits_value_after 10 v (before_space (drop (i + 1) bs))) same
          ∙ value_more bs i c.loop-byte-test.true m apart digit
          ∙ c.loop-byte.invariant.told;
      place = omega (arith, goes, c.loop-byte.invariant.place);
      counted = omega (arith, c.loop-byte.invariant.counted);
      fits = omega (arith, c.in_ok-value.ensures);
    }
