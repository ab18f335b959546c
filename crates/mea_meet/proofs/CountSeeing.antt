-- what is seen of a point that counts, after each call of its core
use Rattle.std.proofs.Common.{◌≡◌, ℕ, ◌+◌, ◌-◌, ◌++◌, Bool, true, false, [], length, map, Option, if◌then◌else◌, refl, ap, sym, ◌∙◌, arith}
use Rattle.mea_base.specs.Totals.{total}
use Rattle.mea_base.proofs.Totals.{total-same}
use Rattle.mea_by_name.specs.declared.named_waker.NamedWaker.{NamedWaker}
use Rattle.mea_by_name.specs.ByName.{Names, seen}
use Rattle.mea_by_name.specs.NamedQueue.{wakers, registering}
use Rattle.mea_by_name.proofs.Own.{total-seen}
use Rattle.mea_sets.specs.declared.place.Place.{Place}
use Rattle.mea_sets.specs.WaitSet as sets
use Rattle.mea_sets.specs.Countdown as cores
use Rattle.mea_cores_by_name.specs.SetLinked.{set_names}
use Rattle.mea_cores_by_name.proofs.Sets.{length-set_names, wakers-names}
use Rattle.mea_meet_model.specs.Count.{decreased, woken_by, with_waker}
use Rattle.mea_meet_model.specs.Counts as model
use Rattle.mea_meet_model.specs.Counts.{Point, End, OfSignal, OfMembers, woken_by_end}
use Rattle.mea_meet.specs.CountCores.{NamedPoint, arrived, joined, parted, handed_on, count_at, with_count, kept_by}
use Rattle.mea_meet.specs.CountEntries.{KeptPoint}
use Rattle.mea_meet.specs.CountParts.{count_seen, core_seen, point_seen}

-- ---- a count
module _ (c : cores.Count NamedWaker) (n : ℕ) where
  seen_decreased : count_seen (cores.decreased c n) ≡ decreased (count_seen c) n
  seen_decreased = elim (cores.ends c n) as (λ b. count_seen (record { number = c.number - n; waiting = if b then sets.drained c.waiting else c.waiting }) ≡ record { number = c.number - n; waiting = if b then [] else set_names c.waiting }) [ true ↦ refl | false ↦ refl ]

  woken_decreased : map (λ (k : NamedWaker). k.waker) (cores.woken_by c n) ≡ woken_by (count_seen c) n
  woken_decreased = elim (cores.ends c n) as (λ b. map (λ (k : NamedWaker). k.waker) (if b then c.waiting.wakers else []) ≡ (if b then wakers (set_names c.waiting) else [])) [ true ↦ sym (wakers-names c.waiting.wakers) | false ↦ refl ]

  kept_decreased : length (cores.decreased c n).waiting.wakers + length (cores.woken_by c n) ≡ length c.waiting.wakers
  kept_decreased = elim (cores.ends c n) as (λ b. length (if b then sets.drained c.waiting else c.waiting).wakers + length (if b then c.waiting.wakers else []) ≡ length c.waiting.wakers) [ true ↦ omega arith | false ↦ omega arith ]

-- ---- a point
module _ (p : NamedPoint) where
  pub core_arrived : (n : ℕ) → core_seen (handed_on (arrived p n)) ≡ record (core_seen p) { signal = decreased (core_seen p).signal n }
  core_arrived n = λ j. record { signal = seen_decreased p.signal n j; members = count_seen p.receivers }

  pub core_joined : (b : Bool) → core_seen (joined p b) ≡ model.joined (core_seen p) b
  core_joined true = refl
  core_joined false = refl

  pub core_parted : (b : Bool) → core_seen (handed_on (parted p b)) ≡ model.parted (core_seen p) b
  core_parted true = λ j. record { signal = count_seen p.signal; members = seen_decreased p.receivers 1 j }
  core_parted false = refl

  pub kept_joined : (b : Bool) → kept_by (joined p b) ≡ kept_by p
  kept_joined true = refl
  kept_joined false = refl

  module _ (quiet : p.wakes ≡ []) where
    pub woken_arrived : (n : ℕ) → map (λ (k : NamedWaker). k.waker) (arrived p n).wakes ≡ woken_by (core_seen p).signal n
    woken_arrived n = ap (λ ws. map (λ (k : NamedWaker). k.waker) (ws ++ cores.woken_by p.signal n)) quiet ∙ woken_decreased p.signal n

    pub kept_arrived : (n : ℕ) → kept_by (handed_on (arrived p n)) + length (arrived p n).wakes ≡ kept_by p
    kept_arrived n =
        let all : length (arrived p n).wakes ≡ length (cores.woken_by p.signal n) = ap (λ ws. length (ws ++ cores.woken_by p.signal n)) quiet in
        let one = kept_decreased p.signal n in
        omega (arith, all, one)

    pub woken_parted : (b : Bool) → map (λ (k : NamedWaker). k.waker) (parted p b).wakes ≡ woken_by_end (core_seen p) b
    woken_parted true = ap (λ ws. map (λ (k : NamedWaker). k.waker) (ws ++ cores.woken_by p.receivers 1)) quiet ∙ woken_decreased p.receivers 1
    woken_parted false = ap (map (λ (k : NamedWaker). k.waker)) quiet

    pub kept_parted : (b : Bool) → kept_by (handed_on (parted p b)) + length (parted p b).wakes ≡ kept_by p
    kept_parted true =
        let all : length (parted p true).wakes ≡ length (cores.woken_by p.receivers 1) = ap (λ ws. length (ws ++ cores.woken_by p.receivers 1)) quiet in
        let one = kept_decreased p.receivers 1 in
        omega (arith, all, one)
    kept_parted false = let none : length p.wakes ≡ 0 = ap (λ ws. length ws) quiet in omega (arith, none)

  -- a waker is registered for one end
  pub core_registered : (d : End) (slot : Option Place) (k : NamedWaker) (f w : ℕ) → set_names (sets.with_waker (count_at d p).waiting slot k) ≡ registering (set_names (count_at d p).waiting) f w
      → core_seen (with_count d p (record (count_at d p) { waiting = sets.with_waker (count_at d p).waiting slot k })) ≡ model.with_count d (core_seen p) (with_waker (model.count_at d (core_seen p)) f w)
  core_registered OfSignal slot k f w names = λ j. record { signal = record { number = p.signal.number; waiting = names j }; members = count_seen p.receivers }
  core_registered OfMembers slot k f w names = λ j. record { signal = count_seen p.signal; members = record { number = p.receivers.number; waiting = names j } }

pub count_at_seen : (d : End) (p : NamedPoint) → model.count_at d (core_seen p) ≡ count_seen (count_at d p)
count_at_seen OfSignal p = refl
count_at_seen OfMembers p = refl

-- ---- how many wakers are registered
abbrev pub kept_in : Names KeptPoint → ℕ
kept_in ps = total (λ o (e : KeptPoint). kept_by e.point) ps

pub registered_is : (ps : Names KeptPoint) → total (λ o (r : Point). length r.signal.waiting + length r.members.waiting) (seen point_seen ps) ≡ kept_in ps
registered_is ps = total-seen point_seen (λ (r : Point). length r.signal.waiting + length r.members.waiting) ps
    ∙ total-same (λ o (e : KeptPoint). length (set_names e.point.signal.waiting) + length (set_names e.point.receivers.waiting)) (λ o (e : KeptPoint). kept_by e.point) ps
    (λ o e is. omega (arith, length-set_names e.point.signal.waiting.wakers, length-set_names e.point.receivers.waiting.wakers))
