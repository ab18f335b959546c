-- a core that gave a permit back, or let a future go, hands its waker on
use Rattle.std.proofs.Common.{◌≡◌, ℕ, ◌+◌, ◌-◌, ◌≤◌, ◌⊎◌, ◌++◌, inl, inr, List, [], ◌∷◌, nat_eq, refl, ap, sym, subst, ◌∙◌, arith, append-nil}
use Rattle.std.specs.Cmp.{nat_cmp_total}
use Rattle.std.specs.FinMap.{get, len, len-remove}
use Rattle.std.proofs.lemmas.Bool.{cases_lt}
use Rattle.mea_base.specs.Ready.{Waking}
use Rattle.mea_by_name.proofs.Own.{len-gone, len-some}
use Rattle.mea_share_core.specs.declared.share_acquire.ShareStage.{ShareStage}
use Rattle.mea_share_core.specs.declared.share_acquire.ShareStage.TheVariants.{New, Queued, Done}
use Rattle.mea_share_core.specs.Share.{Share, waiting_of, IsWaiting, IsAdmitted, given_up}
use Rattle.mea_share_core.specs.Groups.{Admits}
use Rattle.mea_share_core.specs.Fair.{Fair, IsSettled, share_of, waiters_of, PassesOn, GivesBack, Belongs, Cancels}
use Rattle.mea_share_model.proofs.Changes.{less-least}
use Rattle.mea_share.specs.Kept.{KeptAdmission}
use Rattle.mea_share.specs.Entries.{HandsOn}

-- nobody is woken and d wait less, or one is, who waits no more
abbrev pub Hands : Fair ℕ ℕ → Fair ℕ ℕ → ℕ → Type 0
Hands f f1 d = ((f1.wakes ≡ []) × (waiters_of f1 + d ≡ waiters_of f)) ⊎ ((w : ℕ) × (f1.wakes ≡ w ∷ []) × (waiters_of f1 + 1 ≡ waiters_of f))

admitted_fewer : (f f1 : Fair ℕ ℕ) (w : ℕ) → Admits nat_eq f.shares f1.shares w → waiters_of f1 + 1 ≡ waiters_of f
admitted_fewer f f1 w a =
    let s = share_of nat_eq f a.key in
    let gone = len-gone s.waiting a.number w a.waker in
    let some = len-some s.waiting a.number w a.waker in
    omega (arith, gone, some, a.sets.waiting)

passed_hands : (f f1 : Fair ℕ ℕ) → PassesOn nat_eq f f1 → f.wakes ≡ [] → Hands f f1 0
passed_hands f f1 passes quiet = elim (cases_lt 0 (waiters_of f)) as (λ _. Hands f f1 0) [
  | inl some ↦
      let passed = passes.passes some in
      inr (passed.0, ap (λ (g : Fair ℕ ℕ). g.wakes) passed.2 ∙ ap (λ ws. ws ++ passed.0 ∷ []) quiet, admitted_fewer f f1 passed.0 passed.1)
  | inr none ↦
      let is = passes.rests (omega (arith, none)) in
      inl (ap (λ (g : Fair ℕ ℕ). g.wakes) is ∙ quiet, (let same = ap (λ (g : Fair ℕ ℕ). waiters_of g) is in omega (arith, same)))
]

pub gives_hands : (f f1 : Fair ℕ ℕ) (k : ℕ) (s : Share ℕ) → GivesBack nat_eq f f1 k s → waiting_of s ≡ waiting_of (share_of nat_eq f k) → f.wakes ≡ [] → Hands f f1 0
gives_hands f f1 k s gives same quiet = at (passed_hands gives.between f1 gives.passes (gives.becomes.wakes ∙ quiet))
  where
    as_many : waiters_of gives.between ≡ waiters_of f
    as_many = omega (arith, gives.becomes.shares.waiting, same)

    at : Hands gives.between f1 0 → Hands f f1 0
    at (inl is) = inl (is.0, omega (arith, is.1, as_many))
    at (inr is) = inr (is.0, is.1, omega (arith, is.2, as_many))

pub cancels_hands : (f f1 : Fair ℕ ℕ) (k : ℕ) (stage : ShareStage) → Belongs nat_eq f k stage → Cancels nat_eq f k stage f1 → f.wakes ≡ [] → (d : ℕ) × Hands f f1 d
cancels_hands f f1 k New belongs is quiet = (0, inl (ap (λ (g : Fair ℕ ℕ). g.wakes) is ∙ quiet, (let same = ap (λ (g : Fair ℕ ℕ). waiters_of g) is in omega (arith, same))))
cancels_hands f f1 k Done belongs is quiet = (0, inl (ap (λ (g : Fair ℕ ℕ). g.wakes) is ∙ quiet, (let same = ap (λ (g : Fair ℕ ℕ). waiters_of g) is in omega (arith, same))))
cancels_hands f f1 k (Queued n) belongs is quiet = at belongs
  where
    at : IsWaiting (share_of nat_eq f k) n ⊎ IsAdmitted (share_of nat_eq f k) n → (d : ℕ) × Hands f f1 d
    at (inl waits) =
        let becomes = is.0 waits in
        let removes = len-remove nat_cmp_total (share_of nat_eq f k).waiting n in
        let few = less-least (get (share_of nat_eq f k).waiting n) (len (share_of nat_eq f k).waiting) in
        (waiters_of f - waiters_of f1, inl (becomes.wakes ∙ quiet, omega (arith, becomes.shares.waiting, removes, few)))
    at (inr was) = (0, gives_hands f f1 k (given_up (share_of nat_eq f k) n) (is.1 was) refl quiet)

-- and its waker, if any, is handed on
module _ (old : KeptAdmission) (f1 f2 : Fair ℕ ℕ) (settled : IsSettled f1) (before : Waking ℕ) where
  pub hands_one : (w d : ℕ) → Hands old.fair f1 d → f1 ≡ record f2 { wakes = w ∷ f2.wakes } → 1 ≤ before.registered
      → HandsOn old f1 (record old { fair = f2 }) before (record { wakers = before.wakers ++ w ∷ []; registered = before.registered - 1 })
  hands_one w d hands is some = at hands
    where
      wakes : f1.wakes ≡ w ∷ f2.wakes
      wakes = ap (λ (g : Fair ℕ ℕ). g.wakes) is

      at : Hands old.fair f1 d → HandsOn old f1 (record old { fair = f2 }) before (record { wakers = before.wakers ++ w ∷ []; registered = before.registered - 1 })
      at (inl quiet) = absurd (let none = sym wakes ∙ quiet.0 in cc)
      at (inr one) =
          let both : w ∷ f2.wakes ≡ one.0 ∷ [] = sym wakes ∙ one.1 in
          let first : w ≡ one.0 = cc in
          let rest : f2.wakes ≡ [] = cc in
          let is_left : f2 ≡ record f1 { wakes = [] } = (λ i. record f2 { wakes = rest i }) ∙ sym (ap (λ (g : Fair ℕ ℕ). record g { wakes = [] }) is) in
          record {
            rest = ap (λ (g : Fair ℕ ℕ). record old { fair = g }) is_left;
            woken = ap (λ v. before.wakers ++ v ∷ []) first ∙ sym (ap (λ ws. before.wakers ++ ws) one.1);
            counted = omega (arith, one.2, some);
            settled = subst (λ (g : Fair ℕ ℕ). IsSettled g) (sym is_left) settled;
          }

  pub hands_none : (d n : ℕ) → Hands old.fair f1 d → f1.wakes ≡ [] → f2 ≡ f1 → n + waiters_of f1 ≡ waiters_of old.fair → waiters_of old.fair ≤ before.registered
      → HandsOn old f1 (record old { fair = f2 }) before (record before { registered = before.registered - n })
  hands_none d n hands none is gone room = record {
    rest = ap (λ (g : Fair ℕ ℕ). record old { fair = g }) (is ∙ (λ i. record f1 { wakes = none i }));
    woken = sym (ap (λ ws. before.wakers ++ ws) none ∙ append-nil before.wakers);
    counted = omega (arith, gone, room);
    settled = subst (λ (g : Fair ℕ ℕ). IsSettled g) (sym is) settled;
  }

  pub hands_same : (d : ℕ) → Hands old.fair f1 d → f1.wakes ≡ [] → f2 ≡ f1 → 0 + waiters_of f1 ≡ waiters_of old.fair → HandsOn old f1 (record old { fair = f2 }) before before
  hands_same d hands none is gone = record {
    rest = ap (λ (g : Fair ℕ ℕ). record old { fair = g }) (is ∙ (λ i. record f1 { wakes = none i }));
    woken = sym (ap (λ ws. before.wakers ++ ws) none ∙ append-nil before.wakers);
    counted = omega (arith, gone);
    settled = subst (λ (g : Fair ℕ ℕ). IsSettled g) (sym is) settled;
  }

pub fewer : (f f1 : Fair ℕ ℕ) (d : ℕ) → Hands f f1 d → waiters_of f1 ≤ waiters_of f
fewer f f1 d (inl quiet) = let n = quiet.1 in omega (arith, n)
fewer f f1 d (inr one) = let n = one.2 in omega (arith, n)

pub one_less : (f f1 : Fair ℕ ℕ) (d : ℕ) → Hands f f1 d → (w : ℕ) (rest : List ℕ) → f1.wakes ≡ w ∷ rest → 1 ≤ waiters_of f
one_less f f1 d (inl quiet) w rest is = absurd (let none = sym is ∙ quiet.0 in cc)
one_less f f1 d (inr one) w rest is = let n = one.2 in omega (arith, n)

pub as_many : (f f1 : Fair ℕ ℕ) → Hands f f1 0 → f1.wakes ≡ [] → 0 + waiters_of f1 ≡ waiters_of f
as_many f f1 (inl quiet) none = let n = quiet.1 in omega (arith, n)
as_many f f1 (inr one) none = absurd (let some = sym none ∙ one.1 in cc)
