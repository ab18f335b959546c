-- what is seen of the core of a broadcast channel, after each of its calls
use Rattle.std.proofs.Common.{◌≡◌, ℕ, zero, suc, ◌+◌, ◌-◌, ◌*◌, ◌^◌, ◌/◌, ◌<◌, ◌≤◌, ◌==◌, ◌++◌, Bool, true, false, [], length, map, max, nat_lt, nat_le, slice_get, Option, Some, None, if◌then◌else◌, refl, ap, sym, subst, ◌∙◌, arith}
use Rattle.std.specs.Int.{IsNextPowerOfTwo}
use native.Mathlib.Nat.{pow-suc, pow-le-pow_right}
use Rattle.std.proofs.lemmas.Bool.Decides.{nat_tests}
use Rattle.mea_base.specs.Totals.{total}
use Rattle.mea_base.proofs.Totals.{total-same}
use Rattle.mea_by_name.specs.declared.named_waker.NamedWaker.{NamedWaker}
use Rattle.mea_by_name.specs.ByName.{Names, seen}
use Rattle.mea_by_name.specs.NamedQueue.{wakers}
use Rattle.mea_by_name.proofs.Own.{total-seen}
use Rattle.mea_cores_by_name.specs.SetLinked.{set_names}
use Rattle.mea_cores_by_name.proofs.Sets.{length-set_names, wakers-names}
use Rattle.mea_broadcast_core.specs.Broadcast.{oldest, after_send, without_sender, woken}
use Rattle.mea_broadcast_core.specs.Receives as cores
use Rattle.mea_broadcast_core.specs.Receives.{Found, found, found_at}
use Rattle.mea_chan_model.specs.Broadcasts as model
use Rattle.mea_chan_model.specs.Broadcasts.{Stands, Behind, Holds, AtTail, stands, stands_at, less_sender, woken_by_end, power_from, ring_size}
use Rattle.mea_chan_broadcast.specs.declared.broadcast_entry.BroadcastEntry.{BroadcastEntry}
use Rattle.mea_chan_broadcast.specs.BroadcastCores.{NamedBroadcast, kept_by, handed_on}
use Rattle.mea_chan_broadcast.specs.BroadcastParts.{core_seen, broadcast_seen}

-- ---- the calls
module _ (b : NamedBroadcast) (n : ℕ) where
  pub seen_less : core_seen (handed_on (without_sender b)) n ≡ less_sender (core_seen b n)
  seen_less = at (b.senders == 1)
    where
      at : (t : Bool) → core_seen (handed_on (if t then woken (record b { senders = 0 }) else record b { senders = b.senders - 1 })) n
          ≡ (if t then record (core_seen b n) { senders = 0; waiting = [] } else record (core_seen b n) { senders = b.senders - 1 })
      at true = refl
      at false = refl

  pub woken_sent : (v : ℕ) → b.wakes ≡ [] → map (λ (k : NamedWaker). k.waker) (after_send b v).wakes ≡ wakers (set_names b.waiting)
  woken_sent v quiet = ap (λ ws. map (λ (k : NamedWaker). k.waker) (ws ++ b.waiting.wakers)) quiet ∙ sym (wakers-names b.waiting.wakers)

  pub woken_less : b.wakes ≡ [] → map (λ (k : NamedWaker). k.waker) (without_sender b).wakes ≡ woken_by_end (core_seen b n)
  woken_less quiet = at (b.senders == 1)
    where
      at : (t : Bool) → map (λ (k : NamedWaker). k.waker) (if t then woken (record b { senders = 0 }) else record b { senders = b.senders - 1 }).wakes ≡ (if t then wakers (set_names b.waiting) else [])
      at true = ap (λ ws. map (λ (k : NamedWaker). k.waker) (ws ++ b.waiting.wakers)) quiet ∙ sym (wakers-names b.waiting.wakers)
      at false = ap (map (λ (k : NamedWaker). k.waker)) quiet

  -- what stands at a cursor
  abbrev pub as_stands : Found ℕ → Stands
  as_stands (cores.Behind k) = Behind k
  as_stands (cores.Holds v) = Holds v
  as_stands cores.AtTail = AtTail

  pub stands_is : (p : ℕ) → stands (core_seen b n) p ≡ as_stands (found b p)
  stands_is p = at (nat_lt p (oldest b)) (slice_get b.kept (p - oldest b))
    where
      at : (t : Bool) (o : Option ℕ) → (if t then Behind (oldest b - p) else stands_at o) ≡ as_stands (if t then cores.Behind (oldest b - p) else found_at o)
      at true o = refl
      at false None = refl
      at false (Some v) = refl

-- ---- how many wakers are registered
abbrev pub kept_in : Names BroadcastEntry → ℕ
kept_in es = total (λ o (e : BroadcastEntry). kept_by e.core) es

pub registered_is : (es : Names BroadcastEntry) → total (λ o (c : model.Broadcast). length c.waiting) (seen broadcast_seen es) ≡ kept_in es
registered_is es = total-seen broadcast_seen (λ (c : model.Broadcast). length c.waiting) es
    ∙ total-same (λ o (e : BroadcastEntry). length (set_names e.core.waiting)) (λ o (e : BroadcastEntry). kept_by e.core) es (λ o e is. length-set_names e.core.waiting.wakers)

-- ---- the ring's size
doubled : (d k : ℕ) → d < k → (2 ^ (d + 1) ≡ 2 * 2 ^ d) × (2 ^ (d + 1) ≤ 2 ^ k)
doubled d k less = let e : d + 1 ≡ suc d = omega arith in (omega (arith, ap (λ (x : ℕ). 2 ^ x) e, pow-suc 2 d), pow-le-pow_right (omega arith) (omega (arith, less)))

from_power : (fuel j k n : ℕ) → k ≤ j + fuel → j ≤ k → n ≤ 2 ^ k → (2 ^ k) / 2 < n → power_from fuel (2 ^ j) n ≡ 2 ^ k
from_power zero j k n most least within tight = ap (λ m. 2 ^ m) (let same : j ≡ k = omega (arith, most, least) in same)
from_power (suc fuel) j k n most least within tight = at (nat_le n (2 ^ j)) refl (λ less. from_power fuel (j + 1) k n (omega (arith, most)) (omega (arith, less)) within tight)
  where
    not_less : n ≤ 2 ^ j → j < k → ⊥
    not_less few less = absurd (let next = doubled j k less in omega (arith, few, next.0, next.1, tight))

    same : n ≤ 2 ^ j → (b : Bool) → nat_lt j k ≡ b → j ≡ k
    same few true less = absurd (not_less few (grind (arith, nat_tests, less)))
    same few false not = grind (arith, nat_tests, not, least)

    less : (2 ^ j < n) → (b : Bool) → nat_lt j k ≡ b → j < k
    less many true is = grind (arith, nat_tests, is)
    less many false is = absurd (let alike : j ≡ k = grind (arith, nat_tests, is, least) in let powers = ap (λ m. 2 ^ m) alike in omega (arith, powers, many, within))

    at : (b : Bool) → nat_le n (2 ^ j) ≡ b → (j < k → power_from fuel (2 ^ (j + 1)) n ≡ 2 ^ k) → (if b then 2 ^ j else power_from fuel (2 * 2 ^ j) n) ≡ 2 ^ k
    at true few rest = ap (λ m. 2 ^ m) (same (grind (arith, nat_tests, few)) (nat_lt j k) refl)
    at false many rest =
        let more : 2 ^ j < n = grind (arith, nat_tests, many) in
        let below = less more (nat_lt j k) refl in
        subst (λ p. power_from fuel p n ≡ 2 ^ k) (doubled j k below).0 (rest below)

pub ring_is : (n p : ℕ) → 0 < n → n ≤ 9223372036854775808 → IsNextPowerOfTwo n p → ring_size n ≡ p
ring_is n p some few next = from_power 63 0 k n (at (nat_lt 63 k) refl) (omega arith) (omega (arith, next.1, is)) (tight next.2) ∙ sym is
  where
    k : ℕ
    k = next.0.0

    is : p ≡ 2 ^ next.0.0
    is = next.0.1

    tight : p / 2 < max 1 n → (2 ^ next.0.0) / 2 < n
    tight less = rw (← next.0.1) (omega (arith, less, some))

    at : (b : Bool) → nat_lt 63 next.0.0 ≡ b → next.0.0 ≤ 0 + 63
    at true big = absurd (let less : 63 < next.0.0 = grind (arith, nat_tests, big) in let bound = (doubled 63 next.0.0 less).1 in omega (arith, bound, next.0.1, next.2, few, some))
    at false small = grind (arith, nat_tests, small)
