-- the calls of a pool, from those of its shelf, its places and its gate
use Rattle.std.proofs.Common.{◌≡◌, ◌∙◌, ℕ, ◌+◌, ◌-◌, ◌≤◌, ◌==◌, ◌&&◌, ◌++◌, inl, inr, Bool, true, false, cond, List, [], ◌∷◌, Some, length, set, refl, ap, sym, arith, append-nil, append_assoc, length-set}
use Rattle.std.proofs.lemmas.Bool.{and_left, and_right, ne_eqb}
use Rattle.std.specs.Prelude.{map as map_list}
use Rattle.std.specs.FinMap as map
use Rattle.mea_lock_core.specs.Condvar.{without_wait}
use Rattle.mea_pool_core.specs.declared.lease_wait.LeaseWait.{LeaseWait}
use Rattle.mea_pool_core.specs.declared.lease_wait.LeaseWait.TheVariants.{New, Queued, Done, Refused}
use Rattle.mea_pool_core.specs.Shelf.{Shelf, lent_count}
use Rattle.mea_pool_core.specs.Places.{Places, taken_of, are_drained, place_for, with_place, CancelsPlace, closed_places, cutting}
use Rattle.mea_pool_core.specs.Gate.{Gate, gate_opened}
use Rattle.mea_pool_core.specs.Pool.{Pool, is_drained, settled, passed_for, passed_on, with_lease, drained}
use Rattle.mea_pool_core.specs.Calls.{Belongs, CancelsLease}
use Rattle.mea_pool_core.specs.Parts.{pool_of, ArePool}
use Rattle.mea_pool_core.proofs.Gates.{by_flag}
use Rattle.mea_pool_core.proofs.Lines.{some_counted}

module _ {W : Type 0} where
  pub not_drained : (s : Places W) → 1 ≤ taken_of s → are_drained s ≡ false
  not_drained s some = and_right s.closed (taken_of s == 0) (ne_eqb (taken_of s) 0 (λ none. absurd (omega arith)))

  pub not_closed : (s : Places W) → s.closed ≡ false → are_drained s ≡ false
  not_closed s opens = and_left s.closed (taken_of s == 0) opens

  place_size : (q : List (ℕ × W)) (s : Places W) → (place_for q s).size ≡ s.size
  place_size [] s = refl
  place_size (e ∷ q) s = refl

  place_held : (q : List (ℕ × W)) (s : Places W) → (place_for q s).held ≡ s.held
  place_held [] s = refl
  place_held (e ∷ q) s = refl

  abbrev Opens : Places W → Gate W → Gate W → Type 0
  Opens s g g' = are_drained s ≡ true → g.opened ≡ false → g' ≡ gate_opened g

module _ {R W : Type 0} where
  -- ---- whether all places are free

  pub drained_is : (x : Shelf R) (s : Places W) (g : Gate W) → s.held ≡ lent_count x.lent → are_drained s ≡ is_drained (pool_of x s g)
  drained_is x s g held = ap (λ (n : ℕ). s.closed && (n + map.len s.granted == 0)) held

  pub opened_is : (x : Shelf R) (s : Places W) (g : Gate W) → ArePool x s g → g.opened ≡ is_drained (pool_of x s g)
  opened_is x s g are = are.gate ∙ drained_is x s g are.held

  -- ---- the gate opens once all are free

  pub record Stands (x : Shelf R) (s : Places W) (g : Gate W) (p : Pool R W) : Type 0 where
    pub are : ArePool x s g
    pub is : pool_of x s g ≡ p

  pub settles : (x : Shelf R) (s : Places W) (g g' : Gate W) → s.size ≡ length x.lent → s.held ≡ lent_count x.lent → g.opened ≡ false → g.wakes ≡ []
      → (are_drained s ≡ true → g.opened ≡ false → g' ≡ gate_opened g) → (are_drained s ≡ g.opened → g' ≡ g) → Stands x s g' (settled (pool_of x s g))
  settles x s g g' size held shut early opens same = by_flag (are_drained s) yes no
    where
      yes : are_drained s ≡ true → Stands x s g' (settled (pool_of x s g))
      yes all =
          let opened : g' ≡ gate_opened g = opens all shut in
          let told : is_drained (pool_of x s g) ≡ true = sym (drained_is x s g held) ∙ all in
          record {
            are = record {
              size = size;
              held = held;
              gate = ap (λ (h : Gate W). h.opened) opened ∙ sym all;
              early = λ no. absurd (let both : true ≡ false = sym (ap (λ (h : Gate W). h.opened) opened) ∙ no in cc);
            };
            is = ap (λ (h : Gate W). pool_of x s h) opened
                ∙ ap (λ (ws : List W). record (pool_of x s (gate_opened g)) { wakes = ws }) (sym (append_assoc s.wakes g.wakes (map_list {A = ℕ × W} (λ e. e.1) g.waiting)))
                ∙ sym (ap (λ (b : Bool). cond b (all_told g) (pool_of x s g)) told);
          }
        where
          all_told : Gate W → Pool R W
          all_told g = record (pool_of x s (gate_opened g)) { wakes = (s.wakes ++ g.wakes) ++ map_list {A = ℕ × W} (λ e. e.1) g.waiting }

      no : are_drained s ≡ false → Stands x s g' (settled (pool_of x s g))
      no not_all =
          let stays : g' ≡ g = same (not_all ∙ sym shut) in
          let untold : is_drained (pool_of x s g) ≡ false = sym (drained_is x s g held) ∙ not_all in
          record {
            are = record {
              size = size;
              held = held;
              gate = ap (λ (h : Gate W). h.opened) stays ∙ shut ∙ sym not_all;
              early = λ _. ap (λ (h : Gate W). h.wakes) stays ∙ early;
            };
            is = ap (λ (h : Gate W). pool_of x s h) stays ∙ sym (ap (λ (b : Bool). cond b (all_told g) (pool_of x s g)) untold);
          }
        where
          all_told : Gate W → Pool R W
          all_told g = record (pool_of x s (gate_opened g)) { wakes = (s.wakes ++ g.wakes) ++ map_list {A = ℕ × W} (λ e. e.1) g.waiting }

  -- a gate that is told what it knows stays as it is
  stays : (x : Shelf R) (s s' : Places W) (g g' : Gate W) → ArePool x s g → s'.size ≡ s.size → s'.held ≡ s.held → s'.closed ≡ s.closed → s'.granted ≡ s.granted → (are_drained s' ≡ g.opened → g' ≡ g) → ArePool x s' g' × (g' ≡ g)
  stays x s s' g g' are size held closed granted same =
      let as_before : are_drained s' ≡ are_drained s = λ i. closed i && (held i + map.len (granted i) == 0) in
      let is : g' ≡ g = same (as_before ∙ sym are.gate) in (
        record {
          size = size ∙ are.size;
          held = held ∙ are.held;
          gate = ap (λ (h : Gate W). h.opened) is ∙ are.gate ∙ sym as_before;
          early = λ shut. ap (λ (h : Gate W). h.wakes) is ∙ are.early (sym (ap (λ (h : Gate W). h.opened) is) ∙ shut);
        },
        is,
      )

  -- ---- a place goes to the first that waits

  passes_for : (q : List (ℕ × W)) (x : Shelf R) (s : Places W) (g : Gate W) → g.wakes ≡ [] → pool_of x (place_for q s) g ≡ passed_for q (pool_of x s g)
  passes_for [] x s g early = refl
  passes_for (e ∷ q) x s g early =
      let wakes : (s.wakes ++ e.1 ∷ []) ++ g.wakes ≡ (s.wakes ++ g.wakes) ++ e.1 ∷ [] =
      ap (λ (ws : List W). (s.wakes ++ e.1 ∷ []) ++ ws) early ∙ append-nil (s.wakes ++ e.1 ∷ []) ∙ sym (ap (λ (ws : List W). ws ++ e.1 ∷ []) (ap (λ (ws : List W). s.wakes ++ ws) early ∙ append-nil s.wakes)) in
      λ i. record { shelf = x.idle; lent = x.lent; waiting = q; granted = map.insert s.granted e.0 1; cut = s.cut; draining = s.closed; drains = g.waiting; told = g.told; wakes = wakes i }

  -- a place that is free again, at places t of which so many are held
  pub passes : (x : Shelf R) (t s' : Places W) (g g' : Gate W) → s' ≡ with_place t → t.size ≡ length x.lent → t.held ≡ lent_count x.lent → g.opened ≡ false → g.wakes ≡ []
      → (are_drained s' ≡ true → g.opened ≡ false → g' ≡ gate_opened g) → (are_drained s' ≡ g.opened → g' ≡ g) → Stands x s' g' (passed_on (pool_of x t g))
  passes x t s' g g' is size held shut early opens same =
      let size_is : s'.size ≡ length x.lent = ap (λ (s : Places W). s.size) is ∙ place_size t.waiting t ∙ size in
      let held_is : s'.held ≡ lent_count x.lent = ap (λ (s : Places W). s.held) is ∙ place_held t.waiting t ∙ held in
      let there = settles x s' g g' size_is held_is shut early opens same in
      record { are = there.are; is = there.is ∙ ap (λ (p : Pool R W). settled p) (ap (λ (s : Places W). pool_of x s g) is ∙ passes_for t.waiting x t g early) }

  -- ---- leases that are put back

  pub back : (x x' : Shelf R) (s s' : Places W) (g g' : Gate W) (lease : ℕ × R) → ArePool x s g → x' ≡ record { idle = x.idle ++ lease ∷ []; lent = set x.lent lease.0 false } → lent_count x'.lent + 1 ≡ lent_count x.lent
      → s' ≡ with_place (record s { held = s.held - 1 }) → (are_drained s' ≡ true → g.opened ≡ false → g' ≡ gate_opened g) → (are_drained s' ≡ g.opened → g' ≡ g)
      → Stands x' s' g' (with_lease (pool_of x s g) lease)
  back x x' s s' g g' lease are shelf fewer places opens same =
      let held : s.held ≡ lent_count x.lent = are.held in
      let shut : g.opened ≡ false = are.gate ∙ not_drained s (omega arith) in
      let long : length x'.lent ≡ length x.lent = ap (λ (y : Shelf R). length y.lent) shelf ∙ length-set x.lent lease.0 false in
      let there = passes x' (record s { held = s.held - 1 }) s' g g' places (are.size ∙ sym long) (omega arith) shut (are.early shut) opens same in
      record { are = there.are; is = there.is ∙ ap (λ (y : Shelf R). passed_on (pool_of y s g)) shelf }

  -- ---- waits that are ended

  ends_granted : (x : Shelf R) (s s' : Places W) (g g' : Gate W) (n : ℕ) → ArePool x s g → map.get s.granted n ≡ Some 1 → s' ≡ with_place (record s { granted = map.remove s.granted n })
      → (are_drained s' ≡ true → g.opened ≡ false → g' ≡ gate_opened g) → (are_drained s' ≡ g.opened → g' ≡ g) → Stands x s' g' (passed_on (record (pool_of x s g) { granted = map.remove s.granted n }))
  ends_granted x s s' g g' n are there is opens same =
      let some : 1 ≤ map.len s.granted = some_counted s.granted n 1 there in
      let shut : g.opened ≡ false = are.gate ∙ not_drained s (omega arith) in
      passes x (record s { granted = map.remove s.granted n }) s' g g' is are.size are.held shut (are.early shut) opens same

  same_places : (x : Shelf R) (s s' t : Places W) (g g' : Gate W) → ArePool x s g → s' ≡ t → t.size ≡ s.size → t.held ≡ s.held → t.closed ≡ s.closed → t.granted ≡ s.granted → (are_drained s' ≡ g.opened → g' ≡ g)
      → Stands x s' g' (pool_of x t g)
  same_places x s s' t g g' are is size held closed granted same =
      let kept = stays x s s' g g' are (ap (λ (p : Places W). p.size) is ∙ size) (ap (λ (p : Places W). p.held) is ∙ held) (ap (λ (p : Places W). p.closed) is ∙ closed) (ap (λ (p : Places W). p.granted) is ∙ granted) same in
      record { are = kept.0; is = λ i. pool_of x (is i) (kept.1 i) }

  pub cancels : (x : Shelf R) (s s' : Places W) (g g' : Gate W) (a : LeaseWait) → ArePool x s g → CancelsPlace s a s' → Opens s' g g' → (are_drained s' ≡ g.opened → g' ≡ g) → CancelsLease (pool_of x s g) a (pool_of x s' g')
  cancels x s s' g g' New are h opens same = (same_places x s s' s g g' are h refl refl refl refl same).is
  cancels x s s' g g' (Queued n) are h opens same = (
    (λ there. (ends_granted x s s' g g' n are there (h.0 there) opens same).is),
    (λ some. (same_places x s s' (record s { waiting = without_wait s.waiting n }) g g' are (h.1 some) refl refl refl refl same).is),
    (λ there. (same_places x s s' (record s { cut = map.remove s.cut n }) g g' are (h.2 there) refl refl refl refl same).is),
  )
  cancels x s s' g g' Done are h opens same = (same_places x s s' s g g' are h refl refl refl refl same).is
  cancels x s s' g g' Refused are h opens same = (same_places x s s' s g g' are h refl refl refl refl same).is

  pub cancel_keeps : (x : Shelf R) (s s' : Places W) (g g' : Gate W) (a : LeaseWait) → ArePool x s g → CancelsPlace s a s' → Opens s' g g' → (are_drained s' ≡ g.opened → g' ≡ g) → Belongs (pool_of x s g) a → ArePool x s' g'
  cancel_keeps x s s' g g' New are h opens same fits = (same_places x s s' s g g' are h refl refl refl refl same).are
  cancel_keeps x s s' g g' (Queued n) are h opens same (inl (inl there)) = (ends_granted x s s' g g' n are there (h.0 there) opens same).are
  cancel_keeps x s s' g g' (Queued n) are h opens same (inl (inr some)) = (same_places x s s' (record s { waiting = without_wait s.waiting n }) g g' are (h.1 some) refl refl refl refl same).are
  cancel_keeps x s s' g g' (Queued n) are h opens same (inr there) = (same_places x s s' (record s { cut = map.remove s.cut n }) g g' are (h.2 there) refl refl refl refl same).are
  cancel_keeps x s s' g g' Done are h opens same fits = (same_places x s s' s g g' are h refl refl refl refl same).are
  cancel_keeps x s s' g g' Refused are h opens same fits = (same_places x s s' s g g' are h refl refl refl refl same).are

  -- ---- a drain

  pub drains : (x : Shelf R) (s s' : Places W) (g g' : Gate W) → ArePool x s g → s.closed ≡ false → s' ≡ closed_places s → Opens s' g g' → (are_drained s' ≡ g.opened → g' ≡ g) → Stands x s' g' (drained (pool_of x s g))
  drains x s s' g g' are opens_still is opens same =
      let shut : g.opened ≡ false = are.gate ∙ not_closed s opens_still in
      let early : g.wakes ≡ [] = are.early shut in
      let ws : List W = map_list {A = ℕ × W} (λ e. e.1) s.waiting in
      let wakes : (s.wakes ++ ws) ++ g.wakes ≡ (s.wakes ++ g.wakes) ++ ws =
      ap (λ (vs : List W). (s.wakes ++ ws) ++ vs) early ∙ append-nil (s.wakes ++ ws) ∙ sym (ap (λ (vs : List W). vs ++ ws) (ap (λ (vs : List W). s.wakes ++ vs) early ∙ append-nil s.wakes)) in
      let there = settles x s' g g' (ap (λ (p : Places W). p.size) is ∙ are.size) (ap (λ (p : Places W). p.held) is ∙ are.held) shut early opens same in
      record {
        are = there.are;
        is = there.is ∙ ap (λ (p : Pool R W). settled p) (ap (λ (p : Places W). pool_of x p g) is ∙ (λ i. record (pool_of x (closed_places s) g) { wakes = wakes i }))
            ∙ sym (ap (λ (b : Bool). cond b (pool_of x s g) (settled (record (pool_of x (closed_places s) g) { wakes = (s.wakes ++ g.wakes) ++ ws }))) opens_still);
      }

  -- a pool that is draining already
  pub drains_again : (p : Pool R W) → p.draining ≡ true → p ≡ drained p
  drains_again p draining = sym (ap (λ (b : Bool). cond b p (settled (record p { waiting = []; cut = cutting p.cut p.waiting; draining = true; wakes = p.wakes ++ map_list {A = ℕ × W} (λ e. e.1) p.waiting }))) draining)
