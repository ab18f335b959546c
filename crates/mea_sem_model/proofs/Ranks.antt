-- those who wait, in the order of a rank of each
use Rattle.std.proofs.Common.{◌≡◌, ℕ, ◌<◌, ◌==◌, ◌||◌, ◌++◌, Bool, true, false, cond, List, [], ◌∷◌, filter, refl, ap, sym, subst, arith}
use Rattle.std.proofs.lemmas.Bool.{eqb-true, eq-eqb}
use Rattle.std.proofs.lemmas.List.Sums.{sum_by-cons}
use Rattle.mea_base.proofs.Tests.{on_true, on_false}
use Rattle.mea_sem_model.specs.Hall.{Who, Waiter, Debt, names, everyone}
use Rattle.mea_sem_model.specs.Step.{with_debt}
use Rattle.mea_sem_model.specs.Valid.{count}
use Rattle.mea_sem_model.proofs.HallLemmas.{among}

-- each future among these has a greater rank
abbrev pub AreAfter : (ℕ → ℕ) → ℕ → List Who → Type 0
AreAfter rank k [] = Unit {0}
AreAfter rank k (Waiter f ∷ ws) = (k < rank f) × AreAfter rank k ws
AreAfter rank k (Debt ∷ ws) = AreAfter rank k ws

-- the ranks of the futures among these rise
abbrev pub AreRanked : (ℕ → ℕ) → List Who → Type 0
AreRanked rank [] = Unit {0}
AreRanked rank (Waiter f ∷ ws) = AreAfter rank (rank f) ws × AreRanked rank ws
AreRanked rank (Debt ∷ ws) = AreRanked rank ws

-- who is among these and comes behind a head
one_of : (g f : ℕ) (ws : List Who) (P : ℕ → Type 0) → P g → (among ws f ≡ true → P f) → among (Waiter g ∷ ws) f ≡ true → P f
one_of g f ws P here later a = elim (g == f) as (λ b. (g == f) ≡ b → (b || among ws f) ≡ true → P f) [
  | true ↦ λ e t. subst P (eqb-true g f e) here
  | false ↦ λ e t. later t
] refl a

pub among_here : (f : ℕ) (ws : List Who) → among (Waiter f ∷ ws) f ≡ true
among_here f ws = ap (λ b. b || among ws f) (eq-eqb f f refl)

pub among_later : (g f : ℕ) (ws : List Who) → among ws f ≡ true → among (Waiter g ∷ ws) f ≡ true
among_later g f ws a = elim (g == f) as (λ b. (b || among ws f) ≡ true) [ true ↦ refl | false ↦ a ]

pub after_member : (rank : ℕ → ℕ) (k : ℕ) (ws : List Who) (f : ℕ) → AreAfter rank k ws → among ws f ≡ true → k < rank f
after_member rank k [] f after a = absurd (cc)
after_member rank k (Waiter g ∷ ws) f after a = one_of g f ws (λ j. k < rank j) after.0 (λ t. after_member rank k ws f after.1 t) a
after_member rank k (Debt ∷ ws) f after a = after_member rank k ws f after a

-- ---- parts
after_front : (rank : ℕ → ℕ) (k : ℕ) (ws vs : List Who) → AreAfter rank k (ws ++ vs) → AreAfter rank k ws
after_front rank k [] vs after = tt
after_front rank k (Waiter g ∷ ws) vs after = (after.0, after_front rank k ws vs after.1)
after_front rank k (Debt ∷ ws) vs after = after_front rank k ws vs after

after_rest : (rank : ℕ → ℕ) (k : ℕ) (ws vs : List Who) → AreAfter rank k (ws ++ vs) → AreAfter rank k vs
after_rest rank k [] vs after = after
after_rest rank k (Waiter g ∷ ws) vs after = after_rest rank k ws vs after.1
after_rest rank k (Debt ∷ ws) vs after = after_rest rank k ws vs after

pub ranked_front : (rank : ℕ → ℕ) (ws vs : List Who) → AreRanked rank (ws ++ vs) → AreRanked rank ws
ranked_front rank [] vs ranked = tt
ranked_front rank (Waiter g ∷ ws) vs ranked = (after_front rank (rank g) ws vs ranked.0, ranked_front rank ws vs ranked.1)
ranked_front rank (Debt ∷ ws) vs ranked = ranked_front rank ws vs ranked

pub ranked_rest : (rank : ℕ → ℕ) (ws vs : List Who) → AreRanked rank (ws ++ vs) → AreRanked rank vs
ranked_rest rank [] vs ranked = ranked
ranked_rest rank (Waiter g ∷ ws) vs ranked = ranked_rest rank ws vs ranked.1
ranked_rest rank (Debt ∷ ws) vs ranked = ranked_rest rank ws vs ranked

-- who stands in the first part comes before who stands in the second
pub crosses : (rank : ℕ → ℕ) (ws vs : List Who) (g f : ℕ) → AreRanked rank (ws ++ vs) → among ws g ≡ true → among vs f ≡ true → rank g < rank f
crosses rank [] vs g f ranked a b = absurd (cc)
crosses rank (Waiter k ∷ ws) vs g f ranked a b = one_of k g ws (λ j. rank j < rank f)
    (after_member rank (rank k) vs f (after_rest rank (rank k) ws vs ranked.0) b) (λ t. crosses rank ws vs g f ranked.1 t b) a
crosses rank (Debt ∷ ws) vs g f ranked a b = crosses rank ws vs g f ranked a b

-- ---- changes of a queue
after_append : (rank : ℕ → ℕ) (k : ℕ) (ws : List Who) (f : ℕ) → AreAfter rank k ws → k < rank f → AreAfter rank k (ws ++ Waiter f ∷ [])
after_append rank k [] f after less = (less, tt)
after_append rank k (Waiter g ∷ ws) f after less = (after.0, after_append rank k ws f after.1 less)
after_append rank k (Debt ∷ ws) f after less = after_append rank k ws f after less

pub ranked_append : (rank : ℕ → ℕ) (ws : List Who) (f : ℕ) → ((g : ℕ) → among ws g ≡ true → rank g < rank f) → AreRanked rank ws
    → AreRanked rank (ws ++ Waiter f ∷ [])
ranked_append rank [] f less ranked = (tt, tt)
ranked_append rank (Waiter g ∷ ws) f less ranked = (
  after_append rank (rank g) ws f ranked.0 (less g (among_here g ws)),
  ranked_append rank ws f (λ k a. less k (among_later g k ws a)) ranked.1,
)
ranked_append rank (Debt ∷ ws) f less ranked = ranked_append rank ws f less ranked

after_filter : (rank : ℕ → ℕ) (k : ℕ) (p : Who × ℕ → Bool) (q : List (Who × ℕ)) → AreAfter rank k (everyone q)
    → AreAfter rank k (everyone (filter {X = Who × ℕ} p q))
after_filter rank k p [] after = tt
after_filter rank k p ((Waiter g, n) ∷ q) after = elim (p (Waiter g, n))
    as (λ b. AreAfter rank k (everyone (cond b ((Waiter g, n) ∷ filter {X = Who × ℕ} p q) (filter {X = Who × ℕ} p q)))) [
      | true ↦ (after.0, after_filter rank k p q after.1)
      | false ↦ after_filter rank k p q after.1
    ]
after_filter rank k p ((Debt, n) ∷ q) after = elim (p (Debt, n))
    as (λ b. AreAfter rank k (everyone (cond b ((Debt, n) ∷ filter {X = Who × ℕ} p q) (filter {X = Who × ℕ} p q)))) [
      | true ↦ after_filter rank k p q after
      | false ↦ after_filter rank k p q after
    ]

pub ranked_filter : (rank : ℕ → ℕ) (p : Who × ℕ → Bool) (q : List (Who × ℕ)) → AreRanked rank (everyone q)
    → AreRanked rank (everyone (filter {X = Who × ℕ} p q))
ranked_filter rank p [] ranked = tt
ranked_filter rank p ((Waiter g, n) ∷ q) ranked = elim (p (Waiter g, n))
    as (λ b. AreRanked rank (everyone (cond b ((Waiter g, n) ∷ filter {X = Who × ℕ} p q) (filter {X = Who × ℕ} p q)))) [
      | true ↦ (after_filter rank (rank g) p q ranked.0, ranked_filter rank p q ranked.1)
      | false ↦ ranked_filter rank p q ranked.1
    ]
ranked_filter rank p ((Debt, n) ∷ q) ranked = elim (p (Debt, n))
    as (λ b. AreRanked rank (everyone (cond b ((Debt, n) ∷ filter {X = Who × ℕ} p q) (filter {X = Who × ℕ} p q)))) [
      | true ↦ ranked_filter rank p q ranked
      | false ↦ ranked_filter rank p q ranked
    ]

pub ranked_debt : (rank : ℕ → ℕ) (q : List (Who × ℕ)) (n : ℕ) → AreRanked rank (everyone q) → AreRanked rank (everyone (with_debt q n))
ranked_debt rank q n ranked = elim (n == 0) as (λ b. AreRanked rank (everyone (cond b q ((Debt, n) ∷ q)))) [ true ↦ ranked | false ↦ ranked ]

-- ---- debts behind
nobody_here : (f : ℕ) (ws : List Who) → ((g : ℕ) → among (Waiter f ∷ ws) g ≡ false) → ⊥
nobody_here f ws none = let here = among_here f ws in let no = none f in absurd (cc)

after_nobody : (rank : ℕ → ℕ) (k : ℕ) (ws : List Who) → ((f : ℕ) → among ws f ≡ false) → AreAfter rank k ws
after_nobody rank k [] none = tt
after_nobody rank k (Waiter f ∷ ws) none = absurd (nobody_here f ws none)
after_nobody rank k (Debt ∷ ws) none = after_nobody rank k ws none

pub ranked_nobody : (rank : ℕ → ℕ) (ws : List Who) → ((f : ℕ) → among ws f ≡ false) → AreRanked rank ws
ranked_nobody rank [] none = tt
ranked_nobody rank (Waiter f ∷ ws) none = absurd (nobody_here f ws none)
ranked_nobody rank (Debt ∷ ws) none = ranked_nobody rank ws none

after_and_nobody : (rank : ℕ → ℕ) (k : ℕ) (vs ws : List Who) → AreAfter rank k vs → ((f : ℕ) → among ws f ≡ false) → AreAfter rank k (vs ++ ws)
after_and_nobody rank k [] ws after none = after_nobody rank k ws none
after_and_nobody rank k (Waiter f ∷ vs) ws after none = (after.0, after_and_nobody rank k vs ws after.1 none)
after_and_nobody rank k (Debt ∷ vs) ws after none = after_and_nobody rank k vs ws after none

pub ranked_and_nobody : (rank : ℕ → ℕ) (vs ws : List Who) → AreRanked rank vs → ((f : ℕ) → among ws f ≡ false) → AreRanked rank (vs ++ ws)
ranked_and_nobody rank [] ws ranked none = ranked_nobody rank ws none
ranked_and_nobody rank (Waiter f ∷ vs) ws ranked none = (after_and_nobody rank (rank f) vs ws ranked.0 none, ranked_and_nobody rank vs ws ranked.1 none)
ranked_and_nobody rank (Debt ∷ vs) ws ranked none = ranked_and_nobody rank vs ws ranked none

-- ---- ranks that agree
after_alike : (rank other : ℕ → ℕ) (k : ℕ) (ws : List Who) → ((f : ℕ) → among ws f ≡ true → other f ≡ rank f) → AreAfter rank k ws → AreAfter other k ws
after_alike rank other k [] same after = tt
after_alike rank other k (Waiter g ∷ ws) same after = (
  subst (λ j. k < j) (sym (same g (among_here g ws))) after.0,
  after_alike rank other k ws (λ f a. same f (among_later g f ws a)) after.1,
)
after_alike rank other k (Debt ∷ ws) same after = after_alike rank other k ws same after

pub ranked_alike : (rank other : ℕ → ℕ) (ws : List Who) → ((f : ℕ) → among ws f ≡ true → other f ≡ rank f) → AreRanked rank ws → AreRanked other ws
ranked_alike rank other [] same ranked = tt
ranked_alike rank other (Waiter g ∷ ws) same ranked = (
  subst (λ k. AreAfter other k ws) (sym (same g (among_here g ws))) (after_alike rank other (rank g) ws (λ f a. same f (among_later g f ws a)) ranked.0),
  ranked_alike rank other ws (λ f a. same f (among_later g f ws a)) ranked.1,
)
ranked_alike rank other (Debt ∷ ws) same ranked = ranked_alike rank other ws same ranked

-- ---- who counts in a queue is in it
pub counted : (q : List (Who × ℕ)) (f : ℕ) → 0 < count q f → among (everyone q) f ≡ true
counted [] f some = absurd (omega arith)
counted ((Waiter g, n) ∷ q) f some =
    let counts = sum_by-cons {X = Who × ℕ} (λ e. cond (names e.0 f) 1 0) (Waiter g, n) q in
    elim (g == f) as (λ b. (g == f) ≡ b → (b || among (everyone q) f) ≡ true) [
      | true ↦ λ e. refl
      | false ↦ λ e. counted q f (omega (arith, some, counts, on_false (g == f) 1 e))
    ] refl
counted ((Debt, n) ∷ q) f some = counted q f (omega (arith, some, sum_by-cons {X = Who × ℕ} (λ e. cond (names e.0 f) 1 0) (Debt, n) q))

pub uncounted : (q : List (Who × ℕ)) (f : ℕ) → among (everyone q) f ≡ true → 0 < count q f
uncounted [] f a = absurd (cc)
uncounted ((Waiter g, n) ∷ q) f a =
    let counts = sum_by-cons {X = Who × ℕ} (λ e. cond (names e.0 f) 1 0) (Waiter g, n) q in
    elim (g == f) as (λ b. (g == f) ≡ b → (b || among (everyone q) f) ≡ true → 0 < count ((Waiter g, n) ∷ q) f) [
      | true ↦ λ e t. omega (arith, counts, on_true (g == f) 1 e)
      | false ↦ λ e t. omega (arith, counts, uncounted q f t)
    ] refl a
uncounted ((Debt, n) ∷ q) f a = omega (arith, uncounted q f a, sum_by-cons {X = Who × ℕ} (λ e. cond (names e.0 f) 1 0) (Debt, n) q)
