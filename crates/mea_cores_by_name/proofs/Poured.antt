-- permits that are poured, as the model sees them
use Rattle.std.proofs.Common.{◌≡◌, ℕ, ◌+◌, ◌-◌, ◌++◌, List, [], ◌∷◌, map, refl, ap, sym, ◌∙◌}
use Rattle.std.specs.List.{AllByRecursion}
use Rattle.mea_base.specs.Queue.{waiting_after, granted_in}
use Rattle.mea_base.proofs.Queues.{waiting_after-map, granted_in-map, granted_in_keeps}
use Rattle.mea_by_name.specs.declared.named_waker.NamedWaker.{NamedWaker}
use Rattle.mea_by_name.specs.ByName.{Names}
use Rattle.mea_by_name.specs.LackingQueue.{woken_by}
use Rattle.mea_sem_core.specs.declared.acquire.Acquire.{Acquire}
use Rattle.mea_sem_core.specs.Core.{Core, Waiter, Acquires, Owes, HasNoDebt, poured, wakers_of}
use Rattle.mea_cores_by_name.specs.Linked.{who_of, names_in, Linked}
use Rattle.mea_cores_by_name.proofs.Pours.{linked_poured}

abbrev Queue : Type 0
Queue = List (Waiter NamedWaker × ℕ)

abbrev IsAcquire : Waiter NamedWaker → Type 0
IsAcquire (Acquires n d k) = Unit {0}
IsAcquire Owes = ⊥

all_acquires : (q : Queue) → HasNoDebt q → AllByRecursion {X = Waiter NamedWaker × ℕ} (λ e. IsAcquire e.0) q
all_acquires [] none = tt
all_acquires ((Acquires n d k, l) ∷ q) none = (tt, all_acquires q none)
all_acquires ((Owes, l) ∷ q) none = absurd none

wakers-of : (ws : List (Waiter NamedWaker)) → AllByRecursion IsAcquire ws → map (λ (k : NamedWaker). k.waker) (wakers_of ws) ≡ map (λ (e : ℕ × ℕ). e.1) (map who_of ws)
wakers-of [] all = refl
wakers-of (Acquires n d k ∷ ws) all = ap (λ vs. k.waker ∷ vs) (wakers-of ws all.1)
wakers-of (Owes ∷ ws) all = absurd all.0

-- t are the permits b after n were poured
module _ (b t : Core NamedWaker) (n : ℕ) (quiet : b.wakes ≡ []) (is : t ≡ poured b n) (none : HasNoDebt b.queue) where
  pub queue_poured : names_in t.queue ≡ waiting_after (names_in b.queue) n
  queue_poured = ap (λ (s : Core NamedWaker). names_in s.queue) is ∙ sym (waiting_after-map who_of b.queue n)

  pub woken_poured : map (λ (k : NamedWaker). k.waker) t.wakes ≡ woken_by (names_in b.queue) n
  woken_poured = ap (λ (s : Core NamedWaker). map (λ (k : NamedWaker). k.waker) s.wakes) is ∙ ap (λ ws. map (λ (k : NamedWaker). k.waker) (ws ++ wakers_of (granted_in b.queue n))) quiet
      ∙ wakers-of (granted_in b.queue n) (granted_in_keeps IsAcquire b.queue n (all_acquires b.queue none)) ∙ ap (λ es. map (λ (e : ℕ × ℕ). e.1) es) (sym (granted_in-map who_of b.queue n))

  pub poured_linked : (acquires : Names Acquire) → Linked b.queue b.granted acquires → Linked t.queue t.granted acquires
  poured_linked acquires linked = rw is (linked_poured acquires b.queue b.granted n linked)
