-- what the calls of a condition variable's core that notify do to what is kept of it
use Rattle.std.proofs.Common.{◌≡◌, ℕ, ◌-◌, ◌++◌, true, length, List, [], ◌∷◌, map, refl, ap, sym, ◌∙◌}
use Rattle.std.proofs.lemmas.List.{length-map}
use Rattle.mea_base.specs.Ready.{Waking}
use Rattle.mea_by_name.specs.declared.named_waker.NamedWaker.{NamedWaker}
use Rattle.mea_lock_core.specs.Condvar.{Condvar, first_notified, notified_one, notified_all}
use Rattle.mea_lock.specs.CondEntries.{wakers_in, NotifiesFirst}

-- the waker of the first was made ready
pub popped : (s s1 s2 : Condvar NamedWaker) (k : NamedWaker) (n : ℕ) (before after : Waking ℕ) → s.wakes ≡ [] → s1 ≡ notified_one s → s1 ≡ record s2 { wakes = k ∷ s2.wakes }
    → after ≡ record { wakers = before.wakers ++ k.waker ∷ []; registered = before.registered - 1 } → NotifiesFirst (record { condvar = s; waits = n }) k.name (record { condvar = s2; waits = n }) before after
popped s s1 s2 k n before after quiet told taken ready = at s.waiting refl
  where
    at : (q : List (ℕ × NamedWaker)) → s.waiting ≡ q → NotifiesFirst (record { condvar = s; waits = n }) k.name (record { condvar = s2; waits = n }) before after
    at [] is = absurd (
        let none : s1.wakes ≡ [] = ap (λ (s : Condvar NamedWaker). s.wakes) (told ∙ ap (λ q. first_notified true q s) is) ∙ quiet in
        let some : s1.wakes ≡ k ∷ s2.wakes = ap (λ (s : Condvar NamedWaker). s.wakes) taken in
        cc)
    at (e ∷ q) is =
        let now = told ∙ ap (λ q. first_notified true q s) is in
        let wakes : e.1 ∷ [] ≡ k ∷ s2.wakes = ap (λ ws. ws ++ e.1 ∷ []) (sym quiet) ∙ sym (ap (λ (s : Condvar NamedWaker). s.wakes) now) ∙ ap (λ (s : Condvar NamedWaker). s.wakes) taken in
        let mine : e.1 ≡ k = cc in
        let rest : s2.wakes ≡ [] = cc in
        record {
          number = e.0;
          waker = k.waker;
          others = q;
          first = is ∙ ap (λ k. (e.0, k) ∷ q) mine;
          entry = λ j. record {
            condvar = record {
              waiting = (sym (ap (λ (s : Condvar NamedWaker). s.waiting) taken) ∙ ap (λ (s : Condvar NamedWaker). s.waiting) now) j;
              notified = (sym (ap (λ (s : Condvar NamedWaker). s.notified) taken) ∙ ap (λ (s : Condvar NamedWaker). s.notified) now) j;
              wakes = rest j;
            };
            waits = n;
          };
          ready = ready;
        }

pub wakers-all : (q : List (ℕ × NamedWaker)) → map (λ (k : NamedWaker). k.waker) (map (λ (e : ℕ × NamedWaker). e.1) q) ≡ wakers_in q
wakers-all [] = refl
wakers-all (e ∷ q) = ap (λ ws. e.1.waker ∷ ws) (wakers-all q)

-- the wakers that the core has ready, where each that waits was notified
pub all_woken : (s s1 : Condvar NamedWaker) → s1 ≡ notified_all s → s.wakes ≡ [] → (map (λ (k : NamedWaker). k.waker) s1.wakes ≡ wakers_in s.waiting) × (length s1.wakes ≡ length s.waiting)
all_woken s s1 told quiet = (ap (λ (ws : List NamedWaker). map (λ (k : NamedWaker). k.waker) ws) wakes ∙ wakers-all s.waiting, ap (λ (ws : List NamedWaker). length ws) wakes ∙ length-map s.waiting (λ (e : ℕ × NamedWaker). e.1))
  where
    wakes : s1.wakes ≡ map {A = ℕ × NamedWaker} (λ e. e.1) s.waiting
    wakes = ap (λ (s : Condvar NamedWaker). s.wakes) told ∙ ap (λ (ws : List NamedWaker). ws ++ map {A = ℕ × NamedWaker} (λ e. e.1) s.waiting) quiet
