-- an end makes at most the wakers of the queue ready
use Rattle.std.proofs.Common.{◌≡◌, inl, inr, ℕ, ◌+◌, ◌-◌, ◌≤◌, ◌==◌, ◌++◌, true, false, cond, List, [], ◌∷◌, length, ap, ◌∙◌, arith, Some}
use Rattle.std.specs.FinMap.{remove}
use Rattle.mea_base.specs.Queue.{granted_in}
use Rattle.mea_sem_core.specs.declared.acquire.Acquire.{Acquire}
use Rattle.mea_sem_core.specs.declared.acquire.Acquire.TheVariants as acquires
use Rattle.mea_sem_core.specs.Core as cores
use Rattle.mea_sem_core.specs.Calls.{Belongs, Cancels, without_acquire}
use Rattle.mea_sem.specs.Entries.{WaitedFor}
use Rattle.mea_sem.specs.Kept.{wakers_in}
use Rattle.mea_sem.proofs.PlaysPours.{wakers_poured}

wakers_within : (q : List (cores.Waiter ℕ × ℕ)) (n : ℕ) → wakers_in (without_acquire q n) ≤ wakers_in q
wakers_within [] n = omega arith
wakers_within ((cores.Acquires m d w, l) ∷ q) n = elim (m == n)
    as (λ t. wakers_in (cond t (without_acquire q n) ((cores.Acquires m d w, l) ∷ without_acquire q n)) ≤ wakers_in q + 1)
    [ true ↦ omega (arith, wakers_within q n) | false ↦ omega (arith, wakers_within q n) ]
wakers_within ((cores.Owes, l) ∷ q) n = wakers_within q n

wakers_fewer : (q : List (cores.Waiter ℕ × ℕ)) (n d k : ℕ) → cores.waiting q n ≡ Some (d, k) → wakers_in (without_acquire q n) + 1 ≤ wakers_in q
wakers_fewer [] n d k h = absurd (cc)
wakers_fewer ((cores.Acquires m b w, l) ∷ q) n d k h = elim (m == n)
    as (λ t. cond t (Some (b, l)) (cores.waiting q n) ≡ Some (d, k)
    → wakers_in (cond t (without_acquire q n) ((cores.Acquires m b w, l) ∷ without_acquire q n)) + 1 ≤ wakers_in q + 1) [
      | true ↦ λ is. omega (arith, wakers_within q n)
      | false ↦ λ is. omega (arith, wakers_fewer q n d k is)
    ] h
wakers_fewer ((cores.Owes, l) ∷ q) n d k h = wakers_fewer q n d k h

-- the wakers that a core has ready, where it had none before n were poured
poured_wakes : (c c' : cores.Core ℕ) (n : ℕ) → c.wakes ≡ [] → c' ≡ cores.poured c n → length c'.wakes ≤ wakers_in c.queue
poured_wakes c c' n quiet is =
    let wakes : c'.wakes ≡ cores.wakers_of (granted_in c.queue n) =
    ap (λ (x : cores.Core ℕ). x.wakes) is ∙ ap (λ ws. ws ++ cores.wakers_of (granted_in c.queue n)) quiet in
    omega (arith, ap length wakes, wakers_poured c.queue n)

pub end_room : (c c' : cores.Core ℕ) (a : Acquire) (waited : ℕ) → c.wakes ≡ [] → Belongs c a → Cancels c a c' → WaitedFor c a waited
    → length c'.wakes + waited ≤ wakers_in c.queue
end_room c c' (acquires.New d) waited quiet belongs cancels none = omega (arith, ap (λ (x : cores.Core ℕ). length x.wakes) cancels, ap length quiet, none)
end_room c c' (acquires.Done d) waited quiet belongs cancels none = omega (arith, ap (λ (x : cores.Core ℕ). length x.wakes) cancels, ap length quiet, none)
end_room c c' (acquires.Refused d) waited quiet belongs cancels none =
    omega (arith, ap (λ (x : cores.Core ℕ). length x.wakes) cancels, ap length quiet, none)
end_room c c' (acquires.Queued d n) waited quiet (inr cut) cancels was =
    omega (arith, ap (λ (x : cores.Core ℕ). length x.wakes) (cancels.2 cut), ap length quiet, was.2 cut)
end_room c c' (acquires.Queued d n) waited quiet (inl belongs) cancels was = elim belongs [
  | inl granted ↦
      let none = was.0 granted in
      let room = poured_wakes (record c { live = c.live - d; granted = remove c.granted n }) c' d quiet (cancels.0 granted) in
      omega (arith, none, room)
  | inr waits ↦
      let one = was.1 waits.0 waits.1 in
      let room = poured_wakes (record c { live = c.live - (d - waits.0); queue = without_acquire c.queue n }) c' (d - waits.0) quiet
      (cancels.1 waits.0 waits.1) in
      omega (arith, one, room, wakers_fewer c.queue n d waits.0 waits.1)
]
