-- chains of keys by their next and previous keys, as functions
use Rattle.std.proofs.Common.{◌≡◌, ◌≢◌, ◌⊎◌, ap₂, ℕ, zero, suc, ◌+◌, true, false, eqb, List, [], ◌∷◌, ◌++◌, length, drop, refl, sym, ap, subst, ◌∙◌, inl, inr, arith}
use Rattle.std.proofs.lemmas.Bool.{cases_eq, eq-eqb, ne_eqb}
use Rattle.std.specs.List.{list_any, AllByRecursion}
use Rattle.mea_base.specs.WaitList.{without, IsAbsent, IsDistinct, StandsBefore, StandsLast}
use Rattle.mea_base.specs.WaitListLinks.{walk, IsChain}

pub all_from_absent : (n : ℕ) (ks : List ℕ) → IsAbsent n ks → AllByRecursion (λ k. k ≢ n) ks
all_from_absent n [] absent = tt
all_from_absent n (k ∷ ks) absent = (absent.0, all_from_absent n ks absent.1)

-- a key that is absent is not found
pub unlinked_from_absent : (n : ℕ) (ks : List ℕ) → IsAbsent n ks → list_any (λ k. eqb k n) ks ≡ false
unlinked_from_absent n [] absent = refl
unlinked_from_absent n (k ∷ ks) absent = rw (ne_eqb k n absent.0) (unlinked_from_absent n ks absent.1)

-- and nothing is taken out
pub without-absent : (n : ℕ) (ks : List ℕ) → IsAbsent n ks → without n ks ≡ ks
without-absent n [] absent = refl
without-absent n (k ∷ ks) absent = rw (ne_eqb k n absent.0) (ap (λ js. k ∷ js) (without-absent n ks absent.1))

-- the first key, and the others
pub first-without : (n : ℕ) (ks : List ℕ) → ks ≡ n ∷ drop 1 ks → IsDistinct ks → ks ≡ n ∷ without n ks
first-without n [] is distinct = absurd (cc)
first-without n (k ∷ ks) is distinct =
    let same : k ≡ n = cc in
    let absent : IsAbsent n ks = subst (λ j. IsAbsent j ks) same distinct.0 in
    rw (eq-eqb k n same, without-absent n ks absent) (ap (λ j. j ∷ ks) same)

pub length-without : (n : ℕ) (ks : List ℕ) → IsDistinct ks → list_any (λ k. eqb k n) ks ≡ true → length (without n ks) + 1 ≡ length ks
length-without n [] distinct found = absurd (cc)
length-without n (k ∷ ks) distinct found =
    elim (cases_eq k n) [
      | inl same ↦
          let absent : IsAbsent n ks = subst (λ j. IsAbsent j ks) same distinct.0 in
          rw (eq-eqb k n same, without-absent n ks absent) (omega arith)
      | inr differs ↦
          let rest = length-without n ks distinct.1 (rw (ne_eqb k n differs) at found) in
          rw (ne_eqb k n differs) (omega (arith, rest))
    ]

pub absent_before : (k n : ℕ) (ks : List ℕ) → k ≢ n → IsAbsent k (without n ks) → IsAbsent k ks
absent_before k n [] differs absent = tt
absent_before k n (m ∷ ms) differs absent =
    elim (cases_eq m n) [
      | inl same ↦ ((λ e. differs (sym e ∙ same)), absent_before k n ms differs (rw (eq-eqb m n same) at absent))
      | inr other ↦ let both = rw (ne_eqb m n other) at absent in (both.0, absent_before k n ms differs both.1)
    ]

pub absent_from_push : (n m : ℕ) (ns : List ℕ) → IsAbsent n (ns ++ m ∷ []) → IsAbsent n ns × (m ≢ n)
absent_from_push n m [] absent = (tt, absent.0)
absent_from_push n m (k ∷ ks) absent = let rest = absent_from_push n m ks absent.1 in ((absent.0, rest.0), rest.1)

pub length-walk : (next : ℕ → ℕ) (count key : ℕ) → length (walk next count key) ≡ count
length-walk next zero key = refl
length-walk next (suc count) key = ap suc (length-walk next count (next key))

-- the walk along a chain gives its keys
pub walk-chain : (next prev : ℕ → ℕ) (a : ℕ) (ks : List ℕ) (z : ℕ) → IsChain next prev a ks z → walk next (length ks) (next a) ≡ ks
walk-chain next prev a [] z chain = refl
walk-chain next prev a (k ∷ ks) z chain = rw chain.0 (ap (λ js. k ∷ js) (walk-chain next prev k ks z chain.2))

-- what holds of all keys holds of one that is found
pub found_of : (P : ℕ → Type 0) (n : ℕ) (ks : List ℕ) → AllByRecursion P ks → list_any (λ k. eqb k n) ks ≡ true → P n
found_of P n [] all found = absurd (cc)
found_of P n (k ∷ ks) all found =
    elim (cases_eq k n) [
      | inl same ↦ subst P same all.0
      | inr differs ↦ found_of P n ks all.1 (rw (ne_eqb k n differs) at found)
    ]

-- a key on a chain names the key that stands behind it, and the last one names the end
pub behind : (next prev : ℕ → ℕ) (a : ℕ) (ks : List ℕ) (z n : ℕ) → IsChain next prev a ks z → list_any (λ k. eqb k n) ks ≡ true
    → ((next n ≡ z) × StandsLast n ks) ⊎ StandsBefore n (next n) ks
behind next prev a [] z n chain found = absurd (cc)
behind next prev a (k ∷ []) z n chain found =
    elim (cases_eq k n) [
      | inl same ↦ inl (ap next (sym same) ∙ chain.2.0, ([], ap (λ j. j ∷ []) same))
      | inr differs ↦ absurd (let none = rw (ne_eqb k n differs) at found in cc)
    ]
behind next prev a (k ∷ j ∷ js) z n chain found =
    elim (cases_eq k n) [
      | inl same ↦ inr ([], js, ap₂ (λ x y. x ∷ y ∷ js) same (sym chain.2.0 ∙ ap next same))
      | inr differs ↦ elim (behind next prev k (j ∷ js) z n chain.2 (rw (ne_eqb k n differs) at found)) [
        | inl last ↦ inl (last.0, (k ∷ last.1.0, ap (λ ks. k ∷ ks) last.1.1))
        | inr before ↦ inr (k ∷ before.0, before.1, ap (λ ks. k ∷ ks) before.2)
      ]
    ]

-- a key that is absent stands behind none
pub absent_behind : (k m n : ℕ) (ks front back : List ℕ) → IsAbsent k ks → ks ≡ front ++ m ∷ n ∷ back → n ≢ k
absent_behind k m n ks front back absent is = absent_in front (rw is at absent)
  where
    absent_in : (js : List ℕ) → IsAbsent k (js ++ m ∷ n ∷ back) → n ≢ k
    absent_in [] absent = absent.1.0
    absent_in (j ∷ js) absent = absent_in js absent.1

-- the same keys beside each key of a chain make the same chain
pub chain-alike : (next prev next' prev' : ℕ → ℕ) (a : ℕ) (ks : List ℕ) (z : ℕ) → next' a ≡ next a
    → AllByRecursion (λ k. (next' k ≡ next k) × (prev' k ≡ prev k)) ks → prev' z ≡ prev z → IsChain next prev a ks z → IsChain next' prev' a ks z
chain-alike next prev next' prev' a [] z forth all back chain = (forth ∙ chain.0, back ∙ chain.1)
chain-alike next prev next' prev' a (k ∷ ks) z forth all back chain =
    (forth ∙ chain.0, all.0.1 ∙ chain.1, chain-alike next prev next' prev' k ks z all.0.0 all.1 back chain.2)

-- what holds of all keys but one holds of those among which it is absent
pub all_but : (P : ℕ → Type 0) (n : ℕ) (ks : List ℕ) → ((k : ℕ) → k ≢ n → P k) → IsAbsent n ks → AllByRecursion P ks
all_but P n [] most absent = tt
all_but P n (k ∷ ks) most absent = (most k absent.0, all_but P n ks most absent.1)

-- a key on the chain: its neighbours name it, and what holds of all keys holds of them too
pub record HasNeighbours (next prev : ℕ → ℕ) (P : ℕ → Type 0) (n : ℕ) : Type 0 where
  pub before : next (prev n) ≡ n
  pub after : prev (next n) ≡ n
  pub prev_on : P (prev n)
  pub next_on : P (next n)

neighbours_of_first : (next prev : ℕ → ℕ) (P : ℕ → Type 0) (a k : ℕ) (ks : List ℕ) (z : ℕ) → IsChain next prev a (k ∷ ks) z → P a
    → AllByRecursion P ks → P z → HasNeighbours next prev P k
neighbours_of_first next prev P a k [] z chain first all last = record {
  before = rw chain.1 chain.0;
  after = rw chain.2.0 chain.2.1;
  prev_on = rw chain.1 first;
  next_on = rw chain.2.0 last;
}
neighbours_of_first next prev P a k (j ∷ js) z chain first all last = record {
  before = rw chain.1 chain.0;
  after = rw chain.2.0 chain.2.1;
  prev_on = rw chain.1 first;
  next_on = rw chain.2.0 all.0;
}

pub neighbours : (next prev : ℕ → ℕ) (P : ℕ → Type 0) (a : ℕ) (ks : List ℕ) (z n : ℕ) → IsChain next prev a ks z → P a → AllByRecursion P ks → P z
    → list_any (λ k. eqb k n) ks ≡ true → HasNeighbours next prev P n
neighbours next prev P a [] z n chain first all last found = absurd (cc)
neighbours next prev P a (k ∷ ks) z n chain first all last found =
    elim (cases_eq k n) [
      | inl same ↦ subst (HasNeighbours next prev P) same (neighbours_of_first next prev P a k ks z chain first all.1 last)
      | inr differs ↦ neighbours next prev P k ks z n chain.2 all.0 all.1 last (rw (ne_eqb k n differs) at found)
    ]

-- the key before the end names it, and what holds of all keys holds of it too
pub last_of : (next prev : ℕ → ℕ) (P : ℕ → Type 0) (a : ℕ) (ks : List ℕ) (z : ℕ) → IsChain next prev a ks z → P a → AllByRecursion P ks
    → (next (prev z) ≡ z) × P (prev z)
last_of next prev P a [] z chain first all = (rw chain.1 chain.0, rw chain.1 first)
last_of next prev P a (k ∷ ks) z chain first all = last_of next prev P k ks z chain.2 all.0 all.1

-- the key behind the start is named by it, and what holds of all keys holds of it too
pub first_of : (next prev : ℕ → ℕ) (P : ℕ → Type 0) (a : ℕ) (ks : List ℕ) (z : ℕ) → IsChain next prev a ks z → AllByRecursion P ks → P z
    → (prev (next a) ≡ a) × P (next a)
first_of next prev P a [] z chain all last = (rw chain.0 chain.1, rw chain.0 last)
first_of next prev P a (k ∷ ks) z chain all last = (rw chain.0 chain.1, rw chain.0 all.0)

first_differs : (next prev : ℕ → ℕ) (a k : ℕ) (ks : List ℕ) (z : ℕ) → IsChain next prev a (k ∷ ks) z → IsAbsent k ks → k ≢ z → next k ≢ k
first_differs next prev a k [] z chain absent other = λ same. other (sym same ∙ chain.2.0)
first_differs next prev a k (j ∷ js) z chain absent other = λ same. absent.0 (sym chain.2.0 ∙ same)

-- a key on the chain does not name itself
pub next_differs : (next prev : ℕ → ℕ) (a : ℕ) (ks : List ℕ) (z n : ℕ) → IsChain next prev a ks z → IsDistinct ks → IsAbsent z ks
    → list_any (λ k. eqb k n) ks ≡ true → next n ≢ n
next_differs next prev a [] z n chain distinct absent found = absurd (cc)
next_differs next prev a (k ∷ ks) z n chain distinct absent found =
    elim (cases_eq k n) [
      | inl same ↦ subst (λ j. next j ≢ j) same (first_differs next prev a k ks z chain distinct.0 absent.0)
      | inr differs ↦ next_differs next prev k ks z n chain.2 distinct.1 absent.1 (rw (ne_eqb k n differs) at found)
    ]

-- the keys beside each key, once n is taken out
module _ (next prev next' prev' : ℕ → ℕ) (n : ℕ) (before : next (prev n) ≡ n) (after : prev (next n) ≡ n) (next_prev : next' (prev n) ≡ next n)
    (prev_next : prev' (next n) ≡ prev n) (other_next : (k : ℕ) → k ≢ prev n → k ≢ n → next' k ≡ next k)
    (other_prev : (k : ℕ) → k ≢ next n → k ≢ n → prev' k ≡ prev k) where
  -- a link between two other keys stays
  link_stays : (a b : ℕ) → next a ≡ b → prev b ≡ a → a ≢ n → b ≢ n → (next' a ≡ b) × (prev' b ≡ a)
  link_stays a b forth back a_other b_other = (
    other_next a (λ same. b_other (sym forth ∙ ap next same ∙ before)) a_other ∙ forth,
    other_prev b (λ same. a_other (sym back ∙ ap prev same ∙ after)) b_other ∙ back,
  )

  -- a chain that n is not on stays
  chain-kept : (a : ℕ) (ks : List ℕ) (z : ℕ) → IsChain next prev a ks z → IsAbsent n ks → a ≢ n → z ≢ n → IsChain next' prev' a ks z
  chain-kept a [] z chain absent a_other z_other = link_stays a z chain.0 chain.1 a_other z_other
  chain-kept a (k ∷ ks) z chain absent a_other z_other =
      let link = link_stays a k chain.0 chain.1 a_other absent.0 in
      (link.0, link.1, chain-kept k ks z chain.2 absent.1 absent.0 z_other)

  -- the chain behind n goes on from the key before n
  chain-joined : (ks : List ℕ) (z : ℕ) → IsChain next prev n ks z → IsAbsent n ks → z ≢ n → IsChain next' prev' (prev n) ks z
  chain-joined [] z chain absent z_other = (next_prev ∙ chain.0, ap prev' (sym chain.0) ∙ prev_next)
  chain-joined (k ∷ ks) z chain absent z_other =
      (next_prev ∙ chain.0, ap prev' (sym chain.0) ∙ prev_next, chain-kept k ks z chain.2 absent.1 absent.0 z_other)

  pub chain-without : (a : ℕ) (ks : List ℕ) (z : ℕ) → IsChain next prev a ks z → IsDistinct ks → a ≢ n → z ≢ n → IsChain next' prev' a (without n ks) z
  chain-without a [] z chain distinct a_other z_other = link_stays a z chain.0 chain.1 a_other z_other
  chain-without a (k ∷ ks) z chain distinct a_other z_other =
      elim (cases_eq k n) [
        | inl same ↦
            let rest : IsChain next prev n ks z = subst (λ j. IsChain next prev j ks z) same chain.2 in
            let absent : IsAbsent n ks = subst (λ j. IsAbsent j ks) same distinct.0 in
            let front : prev n ≡ a = ap prev (sym same) ∙ chain.1 in
            rw (eq-eqb k n same, without-absent n ks absent, ← front) (chain-joined ks z rest absent z_other)
        | inr differs ↦ rw (ne_eqb k n differs)
            (let link = link_stays a k chain.0 chain.1 a_other differs in (link.0, link.1, chain-without k ks z chain.2 distinct.1 differs z_other))
      ]

-- n was put between p and the key behind p
pub record IsPutBehind (next prev next' prev' : ℕ → ℕ) (p n : ℕ) : Type 0 where
  pub after : prev (next p) ≡ p
  pub p_next : next' p ≡ n
  pub n_next : next' n ≡ next p
  pub n_prev : prev' n ≡ p
  pub next_prev : prev' (next p) ≡ n
  pub other_next : (k : ℕ) → k ≢ p → k ≢ n → next' k ≡ next k
  pub other_prev : (k : ℕ) → k ≢ next p → k ≢ n → prev' k ≡ prev k

module _ (next prev next' prev' : ℕ → ℕ) (p n : ℕ) (put : IsPutBehind next prev next' prev' p n) where
  -- the chain that starts at p
  pub chain-push_head : (ks : List ℕ) (z : ℕ) → IsChain next prev p ks z → IsAbsent n ks → IsAbsent p ks → IsDistinct ks → IsAbsent z ks → z ≢ n
      → IsChain next' prev' p (n ∷ ks) z
  chain-push_head [] z chain n_absent p_absent distinct z_absent z_other =
      (put.p_next, put.n_prev, (put.n_next ∙ chain.0, ap prev' (sym chain.0) ∙ put.next_prev))
  chain-push_head (k ∷ ks) z chain n_absent p_absent distinct z_absent z_other =
      let rest : IsChain next' prev' k ks z =
      chain-alike next prev next' prev' k ks z
      (put.other_next k p_absent.0 n_absent.0)
      (away ks n_absent.1 p_absent.1 (subst (λ j. IsAbsent j ks) (sym chain.0) distinct.0))
      (put.other_prev z (λ same. z_absent.0 (sym (same ∙ chain.0))) z_other)
      chain.2 in
      (put.p_next, put.n_prev, (put.n_next ∙ chain.0, ap prev' (sym chain.0) ∙ put.next_prev, rest))
    where
      away : (js : List ℕ) → IsAbsent n js → IsAbsent p js → IsAbsent (next p) js → AllByRecursion (λ j. (next' j ≡ next j) × (prev' j ≡ prev j)) js
      away [] n_off p_off next_off = tt
      away (j ∷ js) n_off p_off next_off = ((put.other_next j p_off.0 n_off.0, put.other_prev j next_off.0 n_off.0), away js n_off.1 p_off.1 next_off.1)

  -- the chain that ends behind p
  pub chain-push_tail : (a : ℕ) (ks : List ℕ) → IsChain next prev a ks (next p) → IsAbsent (next p) ks → IsAbsent n ks → a ≢ n
      → IsChain next' prev' a (ks ++ n ∷ []) (next p)
  chain-push_tail a [] chain z_absent n_absent a_other =
      let start : a ≡ p = sym chain.1 ∙ put.after in
      (ap next' start ∙ put.p_next, put.n_prev ∙ sym start, (put.n_next, put.next_prev))
  chain-push_tail a (k ∷ ks) chain z_absent n_absent a_other = (
    put.other_next a (λ same. z_absent.0 (sym chain.0 ∙ ap next same)) a_other ∙ chain.0,
    put.other_prev k z_absent.0 n_absent.0 ∙ chain.1,
    chain-push_tail k ks chain.2 z_absent.1 n_absent.1 n_absent.0,
  )
