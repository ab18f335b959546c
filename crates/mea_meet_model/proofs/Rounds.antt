-- rounds of a size, counted by all arrivals
use Rattle.std.proofs.Common.{◌≡◌, ℕ, ◌+◌, ◌-◌, ◌*◌, ◌/◌, ◌%◌, ◌<◌, ◌≤◌, ◌==◌, inl, inr, true, false, zero, suc, ap, sym, ◌∙◌, arith, nat_le}
use Rattle.std.proofs.lemmas.Bool.{leb-false, lt-leb, eq-eqb, eqb-true, cases_lt}
use Rattle.std.proofs.lemmas.Nat.{div-add-mod', div-mul-add}
use Rattle.std.proofs.Math.Nat.{add-mul, mul-mod_left, mod-lt}

-- an arrival that does not lead is of the round under way, as the next is
pub same_round : (size arrivals : ℕ) → 1 ≤ size → ((arrivals + 1) % size == 0) ≡ false → (arrivals + 1) / size ≡ arrivals / size
same_round size arrivals some follows =
    let round : ℕ = arrivals / size in
    let rest : ℕ = arrivals % size in
    let parts : round * size + rest ≡ arrivals = div-add-mod' arrivals size in
    let within : rest < size = mod-lt arrivals (omega (arith, some)) in
    let next : arrivals + 1 ≡ round * size + (rest + 1) = omega (arith, parts) in
    elim (cases_lt (rest + 1) size) [
      | inl before ↦ ap (λ a. a / size) next ∙ div-mul-add round size (rest + 1) before
      | inr end ↦
          let product : (round + 1) * size ≡ round * size + 1 * size = add-mul round 1 size in
          let last : arrivals + 1 ≡ (round + 1) * size = omega (arith, next, product, within, end) in
          let multiple : (arrivals + 1) % size ≡ 0 = ap (λ a. a % size) last ∙ mul-mod_left (round + 1) size in
          absurd (let leads = eq-eqb ((arrivals + 1) % size) 0 multiple in cc)
    ]

-- an arrival that leads is the last of its round
last_of : (size arrivals q : ℕ) → 1 ≤ size → q * size ≡ arrivals + 1 → arrivals / size + 1 ≡ q
last_of size arrivals zero some all = absurd (omega (arith, all))
last_of size arrivals (suc p) some all =
    let product : (p + 1) * size ≡ p * size + 1 * size = add-mul p 1 size in
    let whole : arrivals ≡ p * size + (size - 1) = omega (arith, some, all, product) in
    let round : arrivals / size ≡ p = ap (λ a. a / size) whole ∙ div-mul-add p size (size - 1) (omega (arith, some)) in
    omega (arith, round)

pub next_round : (size arrivals : ℕ) → 1 ≤ size → ((arrivals + 1) % size == 0) ≡ true → (arrivals + 1) / size ≡ arrivals / size + 1
next_round size arrivals some leads =
    let rest : (arrivals + 1) % size ≡ 0 = eqb-true ((arrivals + 1) % size) 0 leads in
    let all : (arrivals + 1) / size * size ≡ arrivals + 1 = omega (arith, rest, div-add-mod' (arrivals + 1) size) in
    sym (last_of size arrivals ((arrivals + 1) / size) some all)

-- as many arrivals as make a round end one
pub one_round : (size arrivals : ℕ) → 1 ≤ size → (arrivals + size) / size ≡ arrivals / size + 1
one_round size arrivals some =
    let round : ℕ = arrivals / size in
    let rest : ℕ = arrivals % size in
    let parts : round * size + rest ≡ arrivals = div-add-mod' arrivals size in
    let within : rest < size = mod-lt arrivals (omega (arith, some)) in
    let product : (round + 1) * size ≡ round * size + 1 * size = add-mul round 1 size in
    let whole : arrivals + size ≡ (round + 1) * size + rest = omega (arith, parts, product) in
    ap (λ a. a / size) whole ∙ div-mul-add (round + 1) size rest within

-- a round that has begun and has not completed is the one under way
pub the_round : (size round arrivals : ℕ) → round * size ≤ arrivals → nat_le ((round + 1) * size) arrivals ≡ false → arrivals / size ≡ round
the_round size round arrivals begun runs =
    let over : arrivals < (round + 1) * size = leb-false ((round + 1) * size) arrivals runs in
    let product : (round + 1) * size ≡ round * size + 1 * size = add-mul round 1 size in
    let rest : ℕ = arrivals - round * size in
    let whole : arrivals ≡ round * size + rest = omega (arith, begun) in
    ap (λ a. a / size) whole ∙ div-mul-add round size rest (omega (arith, over, product, begun))

-- the round under way has not completed
pub under_way : (size arrivals : ℕ) → 1 ≤ size → nat_le ((arrivals / size + 1) * size) arrivals ≡ false
under_way size arrivals some =
    let rest : arrivals % size < size = mod-lt arrivals (omega (arith, some)) in
    let product : (arrivals / size + 1) * size ≡ arrivals / size * size + 1 * size = add-mul (arrivals / size) 1 size in
    lt-leb ((arrivals / size + 1) * size) arrivals (omega (arith, rest, product, div-add-mod' arrivals size))

-- and it has begun
pub has_begun : (size arrivals : ℕ) → arrivals / size * size ≤ arrivals
has_begun size arrivals = omega (arith, div-add-mod' arrivals size)
