-- a pour pays the head first, and grants in queue order
use Rattle.std.proofs.Common.{◌≡◌, ℕ, ◌+◌, ◌-◌, ◌<◌, ◌≤◌, ◌==◌, Bool, true, false, cond, List, [], ◌∷◌, ◌++◌, map, filter, min, nat_lt, refl, ap, ◌∙◌, arith, nat_le}
use Rattle.std.proofs.lemmas.Bool.{leb-true, leb-false}
use Rattle.std.proofs.lemmas.Bool.Decides.{nat_tests}
use Rattle.mea_base.specs.Queue.{lacks_after, waiting_after, granted_in}
use Rattle.mea_sem_model.specs.Hall.{Who, everyone}
use Rattle.mea_sem_model.specs.Valid.{AllLack}

abbrev still : List (Who × ℕ) → List (Who × ℕ)
still q = filter {X = Who × ℕ} (λ e. nat_lt 0 e.1) q

abbrev whole : List (Who × ℕ) → List Who
whole q = map {A = Who × ℕ} (λ e. e.0) (filter {X = Who × ℕ} (λ e. e.1 == 0) q)

-- what those before took is gone for those behind
after_less : (q : List (Who × ℕ)) (before k n : ℕ) → k ≤ n → lacks_after (before + k) q n ≡ lacks_after before q (n - k)
after_less [] before k n less = refl
after_less (e ∷ q) before k n less =
    let lack : min e.1 (before + k + e.1 - n) ≡ min e.1 (before + e.1 - (n - k)) =
    ap (min e.1) (let same : before + k + e.1 - n ≡ before + e.1 - (n - k) = omega arith in same) in
    let sums : before + k + e.1 ≡ before + e.1 + k = omega arith in
    ap (λ l. (e.0, l) ∷ lacks_after (before + k + e.1) q n) lack
    ∙ ap (λ b. (e.0, min e.1 (before + e.1 - (n - k))) ∷ lacks_after b q n) sums
    ∙ ap (λ t. (e.0, min e.1 (before + e.1 - (n - k))) ∷ t) (after_less q (before + e.1) k n less)

-- those before take all
after_none : (q : List (Who × ℕ)) (before n : ℕ) → n ≤ before → lacks_after before q n ≡ q
after_none [] before n less = refl
after_none (e ∷ q) before n less =
    let lack : min e.1 (before + e.1 - n) ≡ e.1 = omega arith in
    ap (λ l. (e.0, l) ∷ lacks_after (before + e.1) q n) lack ∙ ap (λ t. e ∷ t) (after_none q (before + e.1) n (omega arith))

still_all : (q : List (Who × ℕ)) → AllLack q → still q ≡ q
still_all [] all = refl
still_all (e ∷ q) all =
    let some : nat_lt 0 e.1 ≡ true = let more = all.0 in grind (arith, nat_tests) in
    ap (λ b. cond b (e ∷ still q) (still q)) some ∙ ap (λ t. e ∷ t) (still_all q all.1)

whole_none : (q : List (Who × ℕ)) → AllLack q → whole q ≡ []
whole_none [] all = refl
whole_none (e ∷ q) all =
    let some : (e.1 == 0) ≡ false = let more = all.0 in grind (arith, nat_tests) in
    ap (λ b. map {A = Who × ℕ} (λ e. e.0) (cond b (e ∷ filter {X = Who × ℕ} (λ e. e.1 == 0) q) (filter {X = Who × ℕ} (λ e. e.1 == 0) q))) some
    ∙ whole_none q all.1

-- ---- a head that is paid in full
past_lacks : (e : Who × ℕ) (q : List (Who × ℕ)) (n : ℕ) → e.1 ≤ n → lacks_after 0 (e ∷ q) n ≡ (e.0, 0) ∷ lacks_after 0 q (n - e.1)
past_lacks e q n enough =
    let lack : min e.1 (0 + e.1 - n) ≡ 0 = omega arith in
    ap (λ l. (e.0, l) ∷ lacks_after (0 + e.1) q n) lack ∙ ap (λ t. (e.0, 0) ∷ t) (after_less q 0 e.1 n enough)

pub past_waiting : (e : Who × ℕ) (q : List (Who × ℕ)) (n : ℕ) → e.1 ≤ n → waiting_after (e ∷ q) n ≡ waiting_after q (n - e.1)
past_waiting e q n enough = ap still (past_lacks e q n enough)

pub past_granted : (e : Who × ℕ) (q : List (Who × ℕ)) (n : ℕ) → e.1 ≤ n → granted_in (e ∷ q) n ≡ e.0 ∷ granted_in q (n - e.1)
past_granted e q n enough = ap whole (past_lacks e q n enough)

-- ---- a head that is paid in part
part_lacks : (e : Who × ℕ) (q : List (Who × ℕ)) (n : ℕ) → n < e.1 → lacks_after 0 (e ∷ q) n ≡ (e.0, e.1 - n) ∷ q
part_lacks e q n short =
    let lack : min e.1 (0 + e.1 - n) ≡ e.1 - n = omega arith in
    ap (λ l. (e.0, l) ∷ lacks_after (0 + e.1) q n) lack ∙ ap (λ t. (e.0, e.1 - n) ∷ t) (after_none q (0 + e.1) n (omega arith))

pub part_waiting : (e : Who × ℕ) (q : List (Who × ℕ)) (n : ℕ) → AllLack q → n < e.1 → waiting_after (e ∷ q) n ≡ (e.0, e.1 - n) ∷ q
part_waiting e q n all short = ap still (part_lacks e q n short) ∙ still_all ((e.0, e.1 - n) ∷ q) (let some : 1 ≤ e.1 - n = omega arith in some, all)

pub part_granted : (e : Who × ℕ) (q : List (Who × ℕ)) (n : ℕ) → AllLack q → n < e.1 → granted_in (e ∷ q) n ≡ []
part_granted e q n all short = ap whole (part_lacks e q n short) ∙ whole_none ((e.0, e.1 - n) ∷ q) (let some : 1 ≤ e.1 - n = omega arith in some, all)

-- those who are granted stood before those who wait on, and nobody changes places
pub in_order : (q : List (Who × ℕ)) (n : ℕ) → AllLack q → granted_in q n ++ everyone (waiting_after q n) ≡ everyone q
in_order [] n all = refl
in_order (e ∷ q) n all = by_test (nat_le e.1 n) refl (in_order q (n - e.1) all.1)
  where
    by_test : (b : Bool) → nat_le e.1 n ≡ b → granted_in q (n - e.1) ++ everyone (waiting_after q (n - e.1)) ≡ everyone q
        → granted_in (e ∷ q) n ++ everyone (waiting_after (e ∷ q) n) ≡ everyone (e ∷ q)
    by_test true t rest =
        let enough = leb-true e.1 n t in
        ap (λ ws. ws ++ everyone (waiting_after (e ∷ q) n)) (past_granted e q n enough)
        ∙ ap (λ p. e.0 ∷ (granted_in q (n - e.1) ++ everyone p)) (past_waiting e q n enough) ∙ ap (λ ws. e.0 ∷ ws) rest
    by_test false t rest =
        let short = leb-false e.1 n t in
        ap (λ ws. ws ++ everyone (waiting_after (e ∷ q) n)) (part_granted e q n all.1 short) ∙ ap everyone (part_waiting e q n all.1 short)
