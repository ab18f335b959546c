-- what a contract sees of a pool
use Rattle.std.specs.Prelude.{ℕ, ◌+◌, ◌==◌, ◌&&◌, ◌++◌, Bool, true, false, List, [], ◌∷◌, length, map, slice_set, if◌then◌else◌, refl}
use Rattle.std.specs.Coded.{Coded, code_by, coded×, coded_ℕ, coded_bool, coded_list}
use Rattle.std.specs.Ordering.{nat_cmp}
use Rattle.std.specs.FinMap as map
use Rattle.mea_lock_core.specs.Condvar.{notifying}
use Rattle.mea_pool_core.specs.Shelf.{lent_count, none_lent, with_slots}
use Rattle.mea_pool_core.specs.Places.{cutting}

-- the shelf: the idle resources, each with its slot, in the order in which they are lent; for each slot, whether it is lent;
-- the number and the waker of each lease that waits, in their order; the numbers that were granted a place and not polled
-- since, each with its one; those that a drain cut and that were not polled since; whether the pool is draining; the number
-- and the waker of each wait for its end, in their order; those of them that were told and not polled since; and the wakers
-- that are ready
pub record Pool (R W : Type 0) : Type 0 where
  pub shelf : List (ℕ × R)
  pub lent : List Bool
  pub waiting : List (ℕ × W)
  pub granted : map.FinMap nat_cmp ℕ
  pub cut : map.FinMap nat_cmp ℕ
  pub draining : Bool
  pub drains : List (ℕ × W)
  pub told : map.FinMap nat_cmp Bool
  pub wakes : List W

-- what lets a `Pool` be the value of a model
abbrev pub pool_code : {R W : Type 0} → Coded R → Coded W → Coded (Pool R W)
pool_code {R} {W} r w =
    code_by
    (List (ℕ × R) × (List Bool × (List (ℕ × W) × (map.FinMap nat_cmp ℕ × (map.FinMap nat_cmp ℕ × (Bool × (List (ℕ × W) × (map.FinMap nat_cmp Bool × List W))))))))
    (coded× (coded_list (coded× coded_ℕ r)) (coded× (coded_list coded_bool) (coded× (coded_list (coded× coded_ℕ w)) (coded× (map.code coded_ℕ coded_ℕ) (coded× (map.code coded_ℕ coded_ℕ)
    (coded× coded_bool (coded× (coded_list (coded× coded_ℕ w)) (coded× (map.code coded_ℕ coded_bool) (coded_list w)))))))))
    (λ p. (p.shelf, (p.lent, (p.waiting, (p.granted, (p.cut, (p.draining, (p.drains, (p.told, p.wakes)))))))))
    (λ p. record { shelf = p.0; lent = p.1.0; waiting = p.1.1.0; granted = p.1.1.1.0; cut = p.1.1.1.1.0; draining = p.1.1.1.1.1.0; drains = p.1.1.1.1.1.1.0; told = p.1.1.1.1.1.1.1.0; wakes = p.1.1.1.1.1.1.1.1 })
    (λ _. refl)

module _ {R W : Type 0} where
  -- all resources are on the shelf, each with its place in the list as its slot, and nobody waits
  abbrev pub fresh : List R → Pool R W
  fresh resources = record {
    shelf = with_slots resources;
    lent = none_lent (length resources);
    waiting = [];
    granted = map.empty;
    cut = map.empty;
    draining = false;
    drains = [];
    told = map.empty;
    wakes = [];
  }

  -- how many places are not free: those of the slots that are lent, and those of the waits that were granted
  abbrev pub taken : Pool R W → ℕ
  taken p = lent_count p.lent + map.len p.granted

  -- the pool is draining, and each of its places is free
  abbrev pub is_drained : Pool R W → Bool
  is_drained p = p.draining && (taken p == 0)

  -- once the pool is drained, who waits for that is told and woken, in their order
  abbrev pub settled : Pool R W → Pool R W
  settled p = if is_drained p then record p { drains = []; told = notifying p.told p.drains; wakes = p.wakes ++ map {A = ℕ × W} (λ e. e.1) p.drains } else p

  -- a place that becomes free goes to the first waiting lease, which is granted and woken
  abbrev pub passed_for : List (ℕ × W) → Pool R W → Pool R W
  passed_for [] p = p
  passed_for (first ∷ rest) p = record p { waiting = rest; granted = map.insert p.granted first.0 1; wakes = p.wakes ++ first.1 ∷ [] }

  -- a place that becomes free goes on, and where that drains the pool, who waits for its end is told
  abbrev pub passed_on : Pool R W → Pool R W
  passed_on p = settled (passed_for p.waiting p)

  -- a lease is put back: its resource goes to the end of the shelf, and its place to the first waiting lease
  abbrev pub with_lease : Pool R W → ℕ × R → Pool R W
  with_lease p lease = passed_on (record p { shelf = p.shelf ++ lease ∷ []; lent = slice_set p.lent lease.0 false })

  -- the waiting leases leave their list and are woken, in its order; nothing changes where the pool is draining already
  abbrev pub drained : Pool R W → Pool R W
  drained p =
      if p.draining then p
      else settled (record p { waiting = []; cut = cutting p.cut p.waiting; draining = true; wakes = p.wakes ++ map {A = ℕ × W} (λ e. e.1) p.waiting })
